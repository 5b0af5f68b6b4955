use native.Mathlib.Omega.{arith}
use mathlib.Core.Path.{sym, ap, subst, ◌∙◌}
use lib.IntN.{pos, nat_abs}
use lib.Dec.{ltb}
use lib.ListN.{get_or}
use mir.Syntax.{w32}
use mir.Val.{SFits}
use mir.Facts.{to_z-of_z}
use Rattle.bins.specs.Engine.{bit_no}
use Prim.Native.Nat.{◌-◌}
use Rattle.hevc_places.specs.PlacesAgree.{number_at}
use Rattle.pen.specs.Sheet.{sheet}
use Rattle.hevc_block_pen.specs.PlacesPuts.{Putting, putting_begins, putting_inferred, putting_on, putting_ends, put_number}
use Rattle.hevc_block_pen.proofs.places.put_places.Goals as goal

pub loop-k-init : goal.loop-k-init
loop-k-init c =
    let a = c.args in
    putting_begins a.levels.now (number_at a.numbers) a.infer a.below a.met (sheet a.room.now a.pen)
    c.requires.0 c.requires.1

pub shape_of-room-then-inferred : goal.shape_of-room-then-inferred
shape_of-room-then-inferred c = c.loop-k.invariant.long

pub returns-then-inferred : goal.returns-then-inferred
returns-then-inferred c =
    let a = c.args in
    putting_inferred a.levels.now (number_at a.numbers) a.infer a.below a.met (sheet a.room.now a.pen)
    c.loop-k.k c.loop-k.s (sheet c.loop-k.room c.loop-k.y) c.loop-k.invariant c.loop-k-test.true c.inferred.result c.inferred.ensures
    c.if-inferred.true

pub put_bin-y-requires : goal.put_bin-y-requires
put_bin-y-requires c =
    let a = c.args in
    put_number c.number_at-number.result _ c.number_at-number.ensures (c.requires.2 (c.loop-k.k - 1) (omega (arith, c.loop-k.invariant.low)))

pub appended-s-requires : goal.appended-s-requires
appended-s-requires c = (
  c.loop-k.invariant.packs,
  omega (arith, c.loop-k.invariant.few, c.loop-k-test.true),
  omega (arith, c.loop-k.invariant.few, c.loop-k-test.true),
  c.is_level-b.ensures.1,
)

pub loop-k-preserved : goal.loop-k-preserved
loop-k-preserved c =
    let a = c.args in
    let f : SFits w32 (get_or a.levels.now (c.loop-k.k - 1) (pos 0)) = record { sfits = c.is_level-arg-1.given } in
    subst
    (Putting a.levels.now (number_at a.numbers) a.infer a.below a.met (sheet a.room.now a.pen) (c.loop-k.k - 1) c.appended-s.result)
    (sym c.put_bin-y.ensures)
    (putting_on a.levels.now (number_at a.numbers) a.infer a.below a.met (sheet a.room.now a.pen) c.loop-k.k
    c.loop-k.s (sheet c.loop-k.room c.loop-k.y) c.loop-k.invariant c.loop-k-test.true c.inferred.result c.inferred.ensures
    c.if-inferred.false c.number_at-number.result c.number_at-number.ensures c.is_level-b.result
    (c.is_level-b.ensures.0 ∙ ap (λ v. bit_no (ltb 0 (nat_abs v))) (to_z-of_z f)) c.appended-s.result c.appended-s.ensures
    c.is_level-b.ensures.1)

pub shape_of-room : goal.shape_of-room
shape_of-room c = c.loop-k.invariant.long

pub returns : goal.returns
returns c =
    let a = c.args in
    putting_ends a.levels.now (number_at a.numbers) a.infer a.below a.met (sheet a.room.now a.pen)
    c.loop-k.k c.loop-k.s (sheet c.loop-k.room c.loop-k.y) c.loop-k.invariant c.loop-k-test.false
