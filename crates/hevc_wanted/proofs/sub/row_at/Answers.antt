use native.Mathlib.Omega.{arith}
use mathlib.Core.Path.{sym, ap, subst}
use Rattle.hevc_residual.specs.Wanted.{area}
use Prim.Native.Nat.{◌+◌, ◌*◌, ◌≤◌}
use Rattle.hevc_wanted.specs.ShownLaws.{row_found}
use Rattle.hevc_wanted.proofs.sub.row_at.Goals as goal

-- `row_at` meets its contract. Assumes nothing.
pub overflow_mul-result : goal.overflow_mul-result
overflow_mul-result c = let a = c.args in omega (arith, (row_found a.p a.xs a.ys c.requires.0 a.j c.requires.1).0)

pub overflow_add-result : goal.overflow_add-result
overflow_add-result c = let a = c.args in omega (arith, (row_found a.p a.xs a.ys c.requires.0 a.j c.requires.1).0)

pub overflow_mul-result-2 : goal.overflow_mul-result-2
overflow_mul-result-2 c = let a = c.args in omega (arith, (row_found a.p a.xs a.ys c.requires.0 a.j c.requires.1).1)

pub overflow_add-result-2 : goal.overflow_add-result-2
overflow_add-result-2 c = let a = c.args in let r = row_found a.p a.xs a.ys c.requires.0 a.j c.requires.1 in omega (arith, r.2, r.3)

pub returns : goal.returns
returns c =
    let a = c.args in let r = row_found a.p a.xs a.ys c.requires.0 a.j c.requires.1 in let e = ap (λ n. n + 4 * a.xs) r.2
    in (e, subst (λ n. n + 4 ≤ area a.p) (sym e) r.4)
