use native.Mathlib.Omega.{arith}
use Prim.Native.Nat.{◌-◌}
use Rattle.bins.specs.StepLaws.{passed_on}
use Rattle.hevc_places.specs.PlacesAgree.{number_at}
use Rattle.hevc_subblock.specs.PlacesLaws.{placing_begins, placing_ends, placing_inferred, placing_refused, placing_bit, placing_on, place_low}
use Rattle.hevc_subblock.proofs.places.significance.Goals as goal

pub loop-k-init : goal.loop-k-init
loop-k-init c =
    let a = c.args in
    let h = c.requires in
    placing_begins a.list a.bytes.now (number_at a.numbers) a.infer a.below a.met a.x a.contexts.now h.0 h.2 h.3

pub returns-then-inferred : goal.returns-then-inferred
returns-then-inferred c = λ lv. let a = c.args in placing_inferred a.list a.bytes.now (number_at a.numbers) a.infer a.below a.met a.x a.contexts.now c.loop-k.y c.loop-k.contexts c.loop-k.k c.loop-k.s c.loop-k.invariant (omega arith) c.inferred.result c.inferred.ensures c.if-inferred.true lv

pub number_at-number-requires : goal.number_at-number-requires
number_at-number-requires c = omega (arith, c.loop-k.invariant.room)

pub context_bin-requires : goal.context_bin-requires
context_bin-requires c =
    let h = c.requires in
    let i = c.loop-k.invariant in
    (i.reads, place_low _ _ _ c.number_at-number.ensures (h.4 (c.loop-k.k - 1) (omega (arith, i.low))), h.1)

pub returns-in_err-b : goal.returns-in_err-b
returns-in_err-b c =
    λ lv.
    let a = c.args in
    rw (passed_on c.from_residual.result _ c.from_residual.ensures.1)
    (placing_refused a.list a.bytes.now (number_at a.numbers) a.infer a.below a.met a.x a.contexts.now c.loop-k.y c.loop-k.contexts c.loop-k.k c.loop-k.s c.loop-k.invariant (omega arith) c.inferred.result c.inferred.ensures c.if-inferred.false c.number_at-number.result c.number_at-number.ensures c.context_bin.result c.context_bin.new.contexts c.context_bin.ensures _ c.in_err-b.was lv)

pub appended-s-requires : goal.appended-s-requires
appended-s-requires c =
    let i = c.loop-k.invariant in
    (i.packs, omega (arith, i.room), omega (arith, i.room), let a = c.args in placing_bit a.list a.bytes.now (number_at a.numbers) a.infer a.below a.met a.x a.contexts.now c.loop-k.y c.loop-k.contexts c.loop-k.k c.loop-k.s c.loop-k.invariant (omega arith) c.inferred.result c.inferred.ensures c.if-inferred.false c.number_at-number.result c.number_at-number.ensures c.context_bin.result c.context_bin.new.contexts c.context_bin.ensures _ _ c.in_ok-b.was)

pub loop-k-preserved : goal.loop-k-preserved
loop-k-preserved c =
    let a = c.args in
    placing_on a.list a.bytes.now (number_at a.numbers) a.infer a.below a.met a.x a.contexts.now c.loop-k.y c.loop-k.contexts c.loop-k.k c.loop-k.s c.loop-k.invariant (omega arith) c.inferred.result c.inferred.ensures c.if-inferred.false c.number_at-number.result c.number_at-number.ensures c.context_bin.result c.context_bin.new.contexts c.context_bin.ensures _ _ c.in_ok-b.was c.appended-s.result c.appended-s.ensures

pub returns : goal.returns
returns c = λ lv. let a = c.args in placing_ends a.list a.bytes.now (number_at a.numbers) a.infer a.below a.met a.x a.contexts.now c.loop-k.y c.loop-k.contexts c.loop-k.k c.loop-k.s c.loop-k.invariant (omega arith) lv
