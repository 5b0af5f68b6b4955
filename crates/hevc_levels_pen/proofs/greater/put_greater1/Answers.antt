use native.Mathlib.Omega.{arith}
use Prim.Native.Nat.{◌+◌}
use mathlib.Core.Path.{sym, subst}
use Rattle.hevc_places.specs.Packing.{unpacked}
use Rattle.hevc_places.specs.PackingLaws.{mask_with}
use Rattle.pen.specs.Sheet.{sheet}
use Rattle.hevc_levels_pen.specs.GreaterPuts.{Putting, bins_most_lem, putting_begins, putting_fits, putting_on, putting_ends}
use Rattle.hevc_levels_pen.proofs.greater.put_greater1.Goals as goal

pub loop-j-init : goal.loop-j-init
loop-j-init c = let a = c.args in putting_begins a.levels.now (unpacked a.s) a.base a.n (sheet a.room.now a.pen)

pub overflow_add-mask : goal.overflow_add-mask
overflow_add-mask c =
    let a = c.args in
    let most = c.requires.2 in
    let at = c.place_at.ensures.1 a.s.count (omega arith) in
    omega (
      arith,
      putting_fits a.levels.now (unpacked a.s) a.base a.n (sheet a.room.now a.pen) c.loop-j.mask c.loop-j.carry c.loop-j.j (sheet c.loop-j.room c.loop-j.y)
          c.loop-j.invariant (bins_most_lem a.n a.s most) (omega arith) c.place_at.result c.is_big-b.result at c.place_at.ensures.0 c.is_big-b.ensures.0,
    )

pub loop-j-preserved : goal.loop-j-preserved
loop-j-preserved c =
    let a = c.args in
    let most = c.requires.2 in
    let at = c.place_at.ensures.1 a.s.count (omega arith) in
    subst
    (Putting a.levels.now (unpacked a.s) a.base a.n (sheet a.room.now a.pen) (mask_with c.loop-j.mask c.loop-j.j c.is_big-b.result) c.carry_next-carry.result (c.loop-j.j + 1))
    (sym c.put_bin-y.ensures)
    (putting_on a.levels.now (unpacked a.s) a.base a.n (sheet a.room.now a.pen) c.loop-j.mask c.loop-j.carry c.loop-j.j (sheet c.loop-j.room c.loop-j.y) c.loop-j.invariant
    (bins_most_lem a.n a.s most) (omega arith) c.place_at.result c.is_big-b.result at c.place_at.ensures.0 c.is_big-b.ensures.0 c.carry_next-carry.result c.carry_next-carry.ensures)

pub shape_of-room : goal.shape_of-room
shape_of-room c = c.loop-j.invariant.long

pub returns : goal.returns
returns c =
    let a = c.args in
    putting_ends a.levels.now (unpacked a.s) a.base a.n (sheet a.room.now a.pen) c.loop-j.mask c.loop-j.carry c.loop-j.j (sheet c.loop-j.room c.loop-j.y) c.loop-j.invariant
    (bins_most_lem a.n a.s c.requires.2) (omega arith)
