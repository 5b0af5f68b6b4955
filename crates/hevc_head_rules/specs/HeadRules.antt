-- What the small functions of the head cite. Assumes nothing.
use Rattle.std.specs.Prelude.{ℕ, ◌≤◌, ◌≡◌, Bool, true, false, eqb}
use Rattle.std.proofs.Common.{sym, ap, ◌∙◌, arith, eq-eqb, ne_eqb}
use Rattle.tables.specs.Table.{le_below}
use Rattle.hevc_residual.specs.declared.params.Rdpcm.{Rdpcm}
use Rattle.hevc_residual.specs.declared.params.Rdpcm.TheVariants as of_rdpcm
use Rattle.hevc_residual.specs.Layout.{in_chroma}
use Rattle.hevc_residual.specs.Head.{least_of, rdpcm_of}
use Rattle.hevc_head_rules.specs.HeadOf.{placed_at}

-- ---- the small functions
pub least_few : (g : ℕ) → g ≤ 9 → least_of g ≤ 24
unfolding least_of
least_few g h = le_below least_of (λ k. 24) 10 tt g (omega arith)

module _ (flag dir : ℕ) where
  pub rdpcm_vertical : flag ≡ 1 → dir ≡ 1 → of_rdpcm.Vertical ≡ rdpcm_of (eqb flag 1) (eqb dir 1)
  rdpcm_vertical p q = sym (ap (λ b. rdpcm_of b (eqb dir 1)) (eq-eqb flag 1 p) ∙ ap (rdpcm_of true) (eq-eqb dir 1 q))

  pub rdpcm_horizontal : flag ≡ 1 → (dir ≡ 1 → ⊥) → of_rdpcm.Horizontal ≡ rdpcm_of (eqb flag 1) (eqb dir 1)
  rdpcm_horizontal p q = sym (ap (λ b. rdpcm_of b (eqb dir 1)) (eq-eqb flag 1 p) ∙ ap (rdpcm_of true) (ne_eqb dir 1 q))

  pub rdpcm_none : (flag ≡ 1 → ⊥) → of_rdpcm.None ≡ rdpcm_of (eqb flag 1) (eqb dir 1)
  rdpcm_none p = sym (ap (λ b. rdpcm_of b (eqb dir 1)) (ne_eqb flag 1 p))

module _ (skip : Bool) (rdpcm : Rdpcm) (scan x y : ℕ) where
  pub placed_swapped : scan ≡ 2 → placed_at skip rdpcm true x y ≡ placed_at skip rdpcm (eqb scan 2) x y
  placed_swapped q = ap (λ b. placed_at skip rdpcm b x y) (sym (eq-eqb scan 2 q))

  pub placed_straight : (scan ≡ 2 → ⊥) → placed_at skip rdpcm false x y ≡ placed_at skip rdpcm (eqb scan 2) x y
  placed_straight q = ap (λ b. placed_at skip rdpcm b x y) (sym (ne_eqb scan 2 q))

pub chroma_few : (luma : Bool) (k : ℕ) → k ≡ in_chroma luma 1 → k ≤ 1
chroma_few true k q = omega arith
chroma_few false k q = omega arith
