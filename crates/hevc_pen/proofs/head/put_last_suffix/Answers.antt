use mathlib.Core.Path.{sym, ap, subst, ◌∙◌}
use Prim.Native.Nat.{◌-◌, ◌^◌, ◌≤◌, ◌<◌}
use Rattle.hevc_residual.specs.Head.{least_of, suffix_bits}
use Rattle.hevc_pen.specs.RemainderLaws.{bits_as}
use Rattle.hevc_pen.specs.HeadLaws.{group_of, group_small, group_least, group_suffix, suffix_small}
use Rattle.hevc_pen.proofs.head.put_last_suffix.Goals as goal

pub least-requires : goal.least-requires
least-requires c =
    let a = c.args in
    subst (λ z. z ≤ 9) (sym c.group_of-g.ensures) (group_small a.v c.requires)

pub overflow_sub-v : goal.overflow_sub-v
overflow_sub-v c =
    let a = c.args in
    subst (λ z. z ≤ a.v) (sym (c.least.ensures ∙ ap least_of c.group_of-g.ensures)) (group_least a.v c.requires)

pub put_bits-requires : goal.put_bits-requires
put_bits-requires c =
    let a = c.args in
    let n = c.suffix_bits.ensures ∙ ap suffix_bits c.group_of-g.ensures in (
      subst (λ z. z ≤ 32) (sym n) (suffix_small a.v c.requires),
      subst (λ z. a.v - z < 2 ^ c.suffix_bits.result) (sym (c.least.ensures ∙ ap least_of c.group_of-g.ensures))
          (subst (λ z. a.v - least_of (group_of a.v) < 2 ^ z) (sym n) (group_suffix a.v c.requires)),
    )

pub returns : goal.returns
returns c =
    let a = c.args in
    bits_as (c.suffix_bits.ensures ∙ ap suffix_bits c.group_of-g.ensures)
    (ap (λ z. a.v - z) (c.least.ensures ∙ ap least_of c.group_of-g.ensures)) c.put_bits.ensures
