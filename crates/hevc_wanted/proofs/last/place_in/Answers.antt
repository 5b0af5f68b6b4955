use native.Mathlib.Omega.{arith}
use Rattle.hevc_wanted.specs.LastLaws.{place_few, place_inside, place_spot}
use Rattle.hevc_wanted.proofs.last.place_in.Goals as goal

-- `place_in` meets its contract. Assumes nothing.
pub overflow_mul-x : goal.overflow_mul-x
overflow_mul-x c =
    let a = c.args in
    let h = c.requires in
    let f = place_few a.p a.xs a.ys h.1 a.k h.2 a.order.now h.0 in
    omega (arith, f.2)

pub overflow_cast-x : goal.overflow_cast-x
overflow_cast-x c =
    let a = c.args in
    let h = c.requires in
    let f = place_few a.p a.xs a.ys h.1 a.k h.2 a.order.now h.0 in
    omega (arith, f.0)

pub overflow_add-x : goal.overflow_add-x
overflow_add-x c =
    let a = c.args in
    let h = c.requires in
    let f = place_few a.p a.xs a.ys h.1 a.k h.2 a.order.now h.0 in
    omega (arith, f.2)

pub overflow_mul-y : goal.overflow_mul-y
overflow_mul-y c =
    let a = c.args in
    let h = c.requires in
    let f = place_few a.p a.xs a.ys h.1 a.k h.2 a.order.now h.0 in
    omega (arith, f.3)

pub overflow_cast-y : goal.overflow_cast-y
overflow_cast-y c =
    let a = c.args in
    let h = c.requires in
    let f = place_few a.p a.xs a.ys h.1 a.k h.2 a.order.now h.0 in
    omega (arith, f.1)

pub overflow_add-y : goal.overflow_add-y
overflow_add-y c =
    let a = c.args in
    let h = c.requires in
    let f = place_few a.p a.xs a.ys h.1 a.k h.2 a.order.now h.0 in
    omega (arith, f.3)

pub returns : goal.returns
returns c =
    let a = c.args in
    let h = c.requires in (
      place_spot a.p a.xs a.ys h.1 a.k h.2 a.order.now h.0,
      place_inside a.p a.xs a.ys h.1 a.k h.2 a.order.now h.0,
    )
