use Rattle.h264_pen.specs.LevelPuts.{leveling_begins, levels_ended, levels_skip, levels_big, levels_one}
use Rattle.h264_block.specs.Block.{level_at}
use Rattle.pen.specs.Sheet.{sheet}
use mir.Facts.{to_z-of_z}
use mir.Val.{SFits}
use mir.Syntax.{w32}
use lib.ListN.{get_or}
use lib.IntN.{pos, nat_abs}
use mathlib.Core.Path.{◌≡◌, sym, ap, ◌∙◌}
use Prim.Native.Nat.{◌-◌}
use native.Mathlib.Omega.{arith}
use Rattle.h264_pen.proofs.levels.put_levels.Goals as goal

pub loop-k-init : goal.loop-k-init
loop-k-init c =
    let a = c.args in
    leveling_begins a.levels.now (sheet a.room.now a.pen)

pub loop-k-preserved-then-m-gt1 : goal.loop-k-preserved-then-m-gt1
loop-k-preserved-then-m-gt1 c =
    let a = c.args in
    let l = a.levels.now in
    let f : SFits w32 (get_or l (c.loop-k.k - 1) (pos 0)) = record { sfits = c.magnitude-arg-1.given } in
    levels_big l (sheet a.room.now a.pen) c.loop-k.k c.loop-k.ones c.loop-k.bigs (sheet c.loop-k.room c.loop-k.y) c.loop-k.invariant c.loop-k-test.true _ (sym (to_z-of_z f)) (omega (arith, c.magnitude-m.ensures, c.if-m-gt0.true)) (sheet c.put_level-y.new.room c.put_level-y.result) c.room-1.given c.put_level-y.ensures (omega (arith, c.magnitude-m.ensures, c.if-m-gt1.true))

pub loop-k-preserved-else-m-gt1 : goal.loop-k-preserved-else-m-gt1
loop-k-preserved-else-m-gt1 c =
    let a = c.args in
    let l = a.levels.now in
    let f : SFits w32 (get_or l (c.loop-k.k - 1) (pos 0)) = record { sfits = c.magnitude-arg-1.given } in
    levels_one l (sheet a.room.now a.pen) c.loop-k.k c.loop-k.ones c.loop-k.bigs (sheet c.loop-k.room c.loop-k.y) c.loop-k.invariant c.loop-k-test.true _ (sym (to_z-of_z f)) (omega (arith, c.magnitude-m.ensures, c.if-m-gt0.true)) (sheet c.put_level-y.new.room c.put_level-y.result) c.room-1.given c.put_level-y.ensures (omega (arith, c.magnitude-m.ensures, c.if-m-gt1.false))

pub loop-k-preserved : goal.loop-k-preserved
loop-k-preserved c =
    let a = c.args in
    let l = a.levels.now in
    let f : SFits w32 (get_or l (c.loop-k.k - 1) (pos 0)) = record { sfits = c.magnitude-arg-1.given } in
    let e : c.magnitude-m.result ≡ nat_abs (level_at l (c.loop-k.k - 1)) = c.magnitude-m.ensures ∙ ap nat_abs (to_z-of_z f) in
    levels_skip l (sheet a.room.now a.pen) c.loop-k.k c.loop-k.ones c.loop-k.bigs (sheet c.loop-k.room c.loop-k.y) c.loop-k.invariant c.loop-k-test.true (omega (arith, e, c.if-m-gt0.false))

pub returns : goal.returns
returns c =
    let a = c.args in
    levels_ended a.levels.now (sheet a.room.now a.pen) c.loop-k.k c.loop-k.ones c.loop-k.bigs (sheet c.loop-k.room c.loop-k.y) c.loop-k.invariant c.loop-k-test.false
