use native.Mathlib.Omega.{arith}
use mathlib.Core.Path.{refl, sym, ap, subst, ◌∙◌}
use Prim.Native.Nat.{◌+◌, ◌^◌, ◌<◌}
use Rattle.hevc_head_rules.specs.HeadRules.{chroma_few}
use Rattle.hevc_pen.specs.HeadLaws.{swapped_below, position_small, flag_as, prefix_as, suffix_as, head_written}
use Rattle.hevc_pen.proofs.head.put_head.Goals as goal

pub overflow_add-chroma : goal.overflow_add-chroma
overflow_add-chroma c =
    let a = c.args in
    omega (arith, chroma_few a.p.luma c.in_chroma-chroma.result c.in_chroma-chroma.ensures)

pub put_flag_if-a-requires : goal.put_flag_if-a-requires
put_flag_if-a-requires c =
    let a = c.args in
    omega (arith, chroma_few a.p.luma c.in_chroma-chroma.result c.in_chroma-chroma.ensures)

pub overflow_add-chroma-2 : goal.overflow_add-chroma-2
overflow_add-chroma-2 c =
    let a = c.args in
    omega (arith, chroma_few a.p.luma c.in_chroma-chroma.result c.in_chroma-chroma.ensures)

pub put_flag_if-b-requires : goal.put_flag_if-b-requires
put_flag_if-b-requires c =
    let a = c.args in
    omega (arith, chroma_few a.p.luma c.in_chroma-chroma.result c.in_chroma-chroma.ensures)

pub overflow_add-chroma-3 : goal.overflow_add-chroma-3
overflow_add-chroma-3 c =
    let a = c.args in
    omega (arith, chroma_few a.p.luma c.in_chroma-chroma.result c.in_chroma-chroma.ensures)

pub put_flag_if-c-requires : goal.put_flag_if-c-requires
put_flag_if-c-requires c =
    let a = c.args in
    omega (arith, chroma_few a.p.luma c.in_chroma-chroma.result c.in_chroma-chroma.ensures)

pub put_last_prefix-d-requires : goal.put_last_prefix-d-requires
put_last_prefix-d-requires c =
    let a = c.args in (
      omega arith,
      c.requires.0,
      c.requires.1,
      subst (λ z. z < 2 ^ a.p.log2) (sym c.first_of-x.ensures)
          (swapped_below a.p.scan a.h.x a.h.y (2 ^ a.p.log2) c.requires.2 c.requires.3),
    )

pub put_last_prefix-e-requires : goal.put_last_prefix-e-requires
put_last_prefix-e-requires c =
    let a = c.args in (
      omega arith,
      c.requires.0,
      c.requires.1,
      subst (λ z. z < 2 ^ a.p.log2) (sym c.first_of-y.ensures)
          (swapped_below a.p.scan a.h.y a.h.x (2 ^ a.p.log2) c.requires.3 c.requires.2),
    )

pub put_last_suffix-f-requires : goal.put_last_suffix-f-requires
put_last_suffix-f-requires c =
    let a = c.args in
    position_small a.p.log2 _ c.requires.1
    (subst (λ z. z < 2 ^ a.p.log2) (sym c.first_of-x.ensures) (swapped_below a.p.scan a.h.x a.h.y (2 ^ a.p.log2) c.requires.2 c.requires.3))

pub put_last_suffix-requires : goal.put_last_suffix-requires
put_last_suffix-requires c =
    let a = c.args in
    position_small a.p.log2 _ c.requires.1
    (subst (λ z. z < 2 ^ a.p.log2) (sym c.first_of-y.ensures)
    (swapped_below a.p.scan a.h.y a.h.x (2 ^ a.p.log2) c.requires.3 c.requires.2))

pub shape_of-room : goal.shape_of-room
shape_of-room c = c.room-7-1.given ∙ c.room-6-1.given ∙ c.room-5-1.given ∙ c.room-4-1.given ∙ c.room-3-1.given ∙ c.room-2-1.given ∙ c.room-1.given

pub returns : goal.returns
returns c =
    λ w ws wr wl. let a = c.args in let k = c.in_chroma-chroma.ensures in head_written a.p a.h.skip a.h.rdpcm a.h.x a.h.y
    c.requires.4 _ _ _ _ _ _ _ _
    (position_small a.p.log2 _ c.requires.1 (swapped_below a.p.scan a.h.x a.h.y (2 ^ a.p.log2) c.requires.2 c.requires.3))
    (position_small a.p.log2 _ c.requires.1 (swapped_below a.p.scan a.h.y a.h.x (2 ^ a.p.log2) c.requires.3 c.requires.2))
    (flag_as _ _ c.skip_coded.ensures (ap (λ z. 114 + z) k) refl c.put_flag_if-a.ensures)
    (flag_as _ _ c.rdpcm_coded.ensures (ap (λ z. 116 + z) k) c.is_explicit-explicit.ensures c.put_flag_if-b.ensures)
    (flag_as _ _ c.is_explicit-explicit.ensures (ap (λ z. 118 + z) k) c.is_vertical.ensures c.put_flag_if-c.ensures)
    (prefix_as 0 a.p.log2 a.p.luma _ _ c.first_of-x.ensures c.put_last_prefix-d.ensures)
    (prefix_as 18 a.p.log2 a.p.luma _ _ c.first_of-y.ensures c.put_last_prefix-e.ensures)
    (suffix_as _ _ c.first_of-x.ensures c.put_last_suffix-f.ensures)
    (suffix_as _ _ c.first_of-y.ensures c.put_last_suffix.ensures) w ws wr wl
