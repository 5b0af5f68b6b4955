use mathlib.Core.Path.{refl}
use native.Mathlib.Omega.{arith}
use Rattle.hevc_rules.specs.SpotLaws.{inside, within, row_shift, cell_small, lies}
use Rattle.hevc_level_rules.proofs.levels.cell_of.Goals as goal

-- `cell_of` meets its contract. Assumes nothing.
pub overflow_mul-column : goal.overflow_mul-column
overflow_mul-column c =
    let a = c.args in
    let h = c.requires in
    let i = inside a.p a.xs a.ys h.1 a.k h.2 a.order.now h.0 in
    let u = within a.p a.xs a.ys h.1 a.k h.2 a.xs _ h.1.column i.less_x in
    omega (arith, u.1)

pub overflow_cast-column : goal.overflow_cast-column
overflow_cast-column c =
    let a = c.args in
    let h = c.requires in
    let i = inside a.p a.xs a.ys h.1 a.k h.2 a.order.now h.0 in
    omega (arith, i.less_x)

pub overflow_add-column : goal.overflow_add-column
overflow_add-column c =
    let a = c.args in
    let h = c.requires in
    let i = inside a.p a.xs a.ys h.1 a.k h.2 a.order.now h.0 in
    let u = within a.p a.xs a.ys h.1 a.k h.2 a.xs _ h.1.column i.less_x in
    omega (arith, u.1)

pub overflow_mul-row : goal.overflow_mul-row
overflow_mul-row c =
    let a = c.args in
    let h = c.requires in
    let i = inside a.p a.xs a.ys h.1 a.k h.2 a.order.now h.0 in
    let w = within a.p a.xs a.ys h.1 a.k h.2 a.ys _ h.1.row i.less_y in
    omega (arith, w.1)

pub overflow_cast-row : goal.overflow_cast-row
overflow_cast-row c =
    let a = c.args in
    let h = c.requires in
    let i = inside a.p a.xs a.ys h.1 a.k h.2 a.order.now h.0 in
    omega (arith, i.less_y)

pub overflow_add-row : goal.overflow_add-row
overflow_add-row c =
    let a = c.args in
    let h = c.requires in
    let i = inside a.p a.xs a.ys h.1 a.k h.2 a.order.now h.0 in
    let w = within a.p a.xs a.ys h.1 a.k h.2 a.ys _ h.1.row i.less_y in
    omega (arith, w.1)

pub overflow_add-result : goal.overflow_add-result
overflow_add-result c =
    let a = c.args in
    let h = c.requires in
    let i = inside a.p a.xs a.ys h.1 a.k h.2 a.order.now h.0 in
    let u = within a.p a.xs a.ys h.1 a.k h.2 a.xs _ h.1.column i.less_x in
    let w = within a.p a.xs a.ys h.1 a.k h.2 a.ys _ h.1.row i.less_y in
    let e = row_shift a.p a.xs a.ys h.1 a.k h.2 _ w.1 in
    let z = cell_small a.p a.xs a.ys h.1 a.k h.2 _ _ u.1 w.1 in
    omega (arith, e, z)

pub overflow_cast-result : goal.overflow_cast-result
overflow_cast-result c =
    let a = c.args in
    let h = c.requires in
    let i = inside a.p a.xs a.ys h.1 a.k h.2 a.order.now h.0 in
    let u = within a.p a.xs a.ys h.1 a.k h.2 a.xs _ h.1.column i.less_x in
    let w = within a.p a.xs a.ys h.1 a.k h.2 a.ys _ h.1.row i.less_y in
    let e = row_shift a.p a.xs a.ys h.1 a.k h.2 _ w.1 in
    let z = cell_small a.p a.xs a.ys h.1 a.k h.2 _ _ u.1 w.1 in
    omega (arith, e, z)

pub returns : goal.returns
returns c =
    let a = c.args in
    let h = c.requires in
    let i = inside a.p a.xs a.ys h.1 a.k h.2 a.order.now h.0 in
    lies a.p a.xs a.ys h.1 a.k h.2 _ _ _ i refl
