use native.Mathlib.Omega.{arith}
use Rattle.bins.specs.StepLaws.{passed_on}
use Rattle.hevc_subblock.specs.GreaterLaws.{marking_begins, marking_ends, marking_refused, marking_bit, marking_fits, marking_on}
use Rattle.hevc_subblock.proofs.greater.greater1.Goals as goal

pub loop-j-init : goal.loop-j-init
loop-j-init c =
    let a = c.args in
    marking_begins a.list a.bytes.now a.base a.n a.x a.contexts.now c.requires.0

pub overflow_cast-number : goal.overflow_cast-number
overflow_cast-number c = omega (arith, c.loop-j.invariant.low)

pub overflow_add-number : goal.overflow_add-number
overflow_add-number c = omega (arith, c.loop-j.invariant.low, c.requires.2)

pub context_bin-requires : goal.context_bin-requires
context_bin-requires c =
    let h = c.requires in
    let i = c.loop-j.invariant in
    (i.reads, omega (arith, h.2, i.low), h.1)

pub returns-in_err-b : goal.returns-in_err-b
returns-in_err-b c =
    λ lv ks m.
    let a = c.args in
    rw (passed_on c.from_residual.result _ c.from_residual.ensures.1)
    (marking_refused a.list a.bytes.now a.base a.n a.x a.contexts.now c.loop-j.y c.loop-j.contexts c.loop-j.mask c.loop-j.carry c.loop-j.j c.loop-j.invariant (omega arith) c.requires.3 c.context_bin.result c.context_bin.new.contexts c.context_bin.ensures _ c.in_err-b.was lv ks m)

pub overflow_shl-mask : goal.overflow_shl-mask
overflow_shl-mask c = omega (arith, c.requires.3)

pub overflow_add-mask : goal.overflow_add-mask
overflow_add-mask c = omega (arith, let a = c.args in marking_fits a.list a.bytes.now a.base a.n a.x a.contexts.now c.loop-j.y c.loop-j.contexts c.loop-j.mask c.loop-j.carry c.loop-j.j c.loop-j.invariant (omega arith) c.requires.3 c.context_bin.result c.context_bin.new.contexts c.context_bin.ensures _ _ c.in_ok-b.was)

pub carry_next-carry-requires : goal.carry_next-carry-requires
carry_next-carry-requires c = (let a = c.args in marking_bit a.list a.bytes.now a.base a.n a.x a.contexts.now c.loop-j.y c.loop-j.contexts c.loop-j.mask c.loop-j.carry c.loop-j.j c.loop-j.invariant (omega arith) c.requires.3 c.context_bin.result c.context_bin.new.contexts c.context_bin.ensures _ _ c.in_ok-b.was, c.loop-j.invariant.low)

pub loop-j-preserved : goal.loop-j-preserved
loop-j-preserved c =
    let a = c.args in
    marking_on a.list a.bytes.now a.base a.n a.x a.contexts.now c.loop-j.y c.loop-j.contexts c.loop-j.mask c.loop-j.carry c.loop-j.j c.loop-j.invariant (omega arith) c.requires.3 c.context_bin.result c.context_bin.new.contexts c.context_bin.ensures _ _ c.in_ok-b.was c.carry_next-carry.result c.carry_next-carry.ensures

pub returns : goal.returns
returns c = λ lv ks m. let a = c.args in marking_ends a.list a.bytes.now a.base a.n a.x a.contexts.now c.loop-j.y c.loop-j.contexts c.loop-j.mask c.loop-j.carry c.loop-j.j c.loop-j.invariant (omega arith) lv ks m
