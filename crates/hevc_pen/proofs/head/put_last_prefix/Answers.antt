use native.Mathlib.Omega.{arith}
use mathlib.Core.Path.{sym, subst}
use Prim.Native.Nat.{◌*◌, ◌-◌, ◌≤◌}
use Rattle.hevc_pen.specs.HeadLaws.{group_within, position_small, luma_put, chroma_put}
use Rattle.hevc_pen.proofs.head.put_last_prefix.Goals as goal

pub group_of-g-requires : goal.group_of-g-requires
group_of-g-requires c = let a = c.args in position_small a.log2 a.v c.requires.2 c.requires.3

pub put_prefix-requires : goal.put_prefix-requires
put_prefix-requires c =
    let a = c.args in
    let g = subst (λ z. z ≤ 2 * a.log2 - 1) (sym c.group_of-g.ensures)
    (group_within a.log2 a.v c.requires.1 c.requires.2 c.requires.3) in (
      omega (arith, c.requires.0, c.requires.2),
      g,
      omega (arith, c.requires.2),
      omega (arith, c.requires.2),
    )

pub returns-then-luma : goal.returns-then-luma
returns-then-luma c =
    let a = c.args in
    luma_put a.first a.luma a.log2 a.v c.group_of-g.result _ _ c.requires.1 c.requires.2 c.requires.3
    c.group_of-g.ensures c.if-luma.true c.put_prefix.ensures

pub put_prefix-requires-2 : goal.put_prefix-requires-2
put_prefix-requires-2 c =
    let a = c.args in
    let g = subst (λ z. z ≤ 2 * a.log2 - 1) (sym c.group_of-g.ensures)
    (group_within a.log2 a.v c.requires.1 c.requires.2 c.requires.3) in (
      omega (arith, c.requires.0, c.requires.2),
      g,
      omega (arith, c.requires.2),
      omega (arith, c.requires.2),
    )

pub returns : goal.returns
returns c =
    let a = c.args in
    chroma_put a.first a.luma a.log2 a.v c.group_of-g.result _ _ c.requires.1 c.requires.2 c.requires.3
    c.group_of-g.ensures c.if-luma.false c.put_prefix-2.ensures
