use native.Mathlib.Omega.{arith}
use Rattle.hevc_wanted.specs.LastLaws.{number_few, corner_few, corner_site, corner_spot}
use Rattle.hevc_wanted.proofs.sub.corner_at.Goals as goal

-- `corner_at` meets its contract. Assumes nothing.
pub offset_bounds-outer-i : goal.offset_bounds-outer-i
offset_bounds-outer-i c =
    let a = c.args in
    let h = c.requires in
    omega (arith, number_few a.p a.outer.now h.0 h.1 a.i h.2)

pub bounds-outer-i : goal.bounds-outer-i
bounds-outer-i c =
    let a = c.args in
    let h = c.requires in
    omega (arith, number_few a.p a.outer.now h.0 h.1 a.i h.2)

pub overflow_cast-xs : goal.overflow_cast-xs
overflow_cast-xs c =
    let a = c.args in
    let h = c.requires in
    omega (arith, (corner_few a.p a.outer.now h.0 h.1 a.i h.2).0)

pub offset_bounds-outer-i-2 : goal.offset_bounds-outer-i-2
offset_bounds-outer-i-2 c =
    let a = c.args in
    let h = c.requires in
    omega (arith, number_few a.p a.outer.now h.0 h.1 a.i h.2)

pub bounds-outer-i-2 : goal.bounds-outer-i-2
bounds-outer-i-2 c =
    let a = c.args in
    let h = c.requires in
    omega (arith, number_few a.p a.outer.now h.0 h.1 a.i h.2)

pub overflow_cast-ys : goal.overflow_cast-ys
overflow_cast-ys c =
    let a = c.args in
    let h = c.requires in
    omega (arith, (corner_few a.p a.outer.now h.0 h.1 a.i h.2).1)

pub returns : goal.returns
returns c =
    let a = c.args in
    let h = c.requires in
    (corner_site a.p a.outer.now h.0 h.1 a.i h.2, corner_spot a.p a.outer.now h.0 h.1 a.i h.2)
