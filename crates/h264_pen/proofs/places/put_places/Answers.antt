use Rattle.h264_pen.specs.PlacePuts.{placing_begins, placing_on, placing_last, placing_ended}
use Rattle.h264_block.specs.Block.{level_at}
use Rattle.pen.specs.Sheet.{sheet}
use mir.Facts.{to_z-of_z}
use mir.Val.{SFits}
use mir.Syntax.{w32}
use lib.ListN.{get_or}
use lib.IntN.{pos, nat_abs}
use lib.Dec.{ltb}
use mathlib.Core.Path.{◌≡◌, ap, ◌∙◌}
use native.Mathlib.Omega.{arith}
use Rattle.h264_pen.proofs.places.put_places.Goals as goal

pub loop-k-init : goal.loop-k-init
loop-k-init c =
    let a = c.args in
    placing_begins a.levels.now a.last c.requires.1 (sheet a.room.now a.pen)

pub loop-k-preserved : goal.loop-k-preserved
loop-k-preserved c =
    let a = c.args in
    let l = a.levels.now in
    let f : SFits w32 (get_or l c.loop-k.k (pos 0)) = record { sfits = c.magnitude-arg-1.given } in
    let e : c.magnitude.result ≡ nat_abs (level_at l c.loop-k.k) = c.magnitude.ensures ∙ ap nat_abs (to_z-of_z f) in
    placing_on l a.last c.requires.1 (sheet a.room.now a.pen) c.loop-k.k (sheet c.loop-k.room c.loop-k.y) c.loop-k.invariant c.loop-k-test.true _ (sheet c.put_place-y.new.room c.put_place-y.result) (ap (ltb 0) e) c.room-1.given c.put_place-y.ensures

pub returns-then-last-lt15 : goal.returns-then-last-lt15
returns-then-last-lt15 c =
    let a = c.args in
    placing_last a.levels.now a.last c.requires.1 (sheet a.room.now a.pen) c.loop-k.k (sheet c.loop-k.room c.loop-k.y) c.loop-k.invariant (omega arith) c.if-last-lt15.true (sheet c.put_bin-z.new.room c.put_bin-z.result) (sheet c.put_bin.new.room c.put_bin.result) c.put_bin-z.ensures c.put_bin.ensures

pub returns : goal.returns
returns c =
    let a = c.args in
    placing_ended a.levels.now a.last c.requires.1 (sheet a.room.now a.pen) c.loop-k.k (sheet c.loop-k.room c.loop-k.y) c.loop-k.invariant (omega arith) c.if-last-lt15.false
