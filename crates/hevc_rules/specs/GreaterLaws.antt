-- greater1Ctx behind a bin, and the tree of the greater1 bins by what is left of the places. Assumes nothing.
use Rattle.std.specs.Prelude.{ℕ, zero, suc, ◌+◌, ◌≤◌, ◌<◌, min, ◌≡◌, refl, Bool, true, false, ◌&&◌, List, [], ◌∷◌, ◌++◌, ℤ, ltb, eqb}
use Rattle.std.proofs.Common.{sym, ◌∙◌, arith, ne_eqb, lt-ltb, le-ltb}
use Rattle.std.proofs.Math.Path.{ap}
use Rattle.std.proofs.Math.Bool.{cond}
use Rattle.bins.specs.Syn.{done, bin, ◌>>=◌}
use Rattle.hevc_residual.specs.Wanted.{Wanted, S, is_big}
use Rattle.hevc_residual.specs.SubBlock.{Greater1, greater1_s, greater1_ctx_next}
use Rattle.hevc_places.specs.Packing.{unmask}

-- ---- greater1Ctx behind a bin
pub carry_zero : (b c : ℕ) → b ≡ 1 → 0 ≡ greater1_ctx_next (eqb b 1) c
unfolding greater1_ctx_next
carry_zero b c q = ap (λ z. greater1_ctx_next (eqb z 1) c) (sym q)

module _ (b c : ℕ) (h : b ≡ 1 → ⊥) where
  carry_by : (t u : Bool) → ltb 0 c ≡ t → ltb c 3 ≡ u → cond (t && u) (c + 1) c ≡ greater1_ctx_next (eqb b 1) c
  unfolding greater1_ctx_next
  carry_by t u p q =
      ap (λ z. cond (z && u) (c + 1) c) (sym p) ∙ ap (λ z. cond (ltb 0 c && z) (c + 1) c) (sym q) ∙ ap (λ z. greater1_ctx_next z c) (sym (ne_eqb b 1 h))

  pub carry_up : 0 < c → c < 3 → c + 1 ≡ greater1_ctx_next (eqb b 1) c
  carry_up l u = carry_by true true (lt-ltb 0 c l) (lt-ltb c 3 u)

  pub carry_none : c ≤ 0 → c ≡ greater1_ctx_next (eqb b 1) c
  carry_none l = carry_by false true (le-ltb 0 c l) (lt-ltb c 3 (omega arith))

  pub carry_most : 3 ≤ c → c ≡ greater1_ctx_next (eqb b 1) c
  carry_most u = carry_by true false (lt-ltb 0 c (omega arith)) (le-ltb c 3 u)

-- ---- the tree, by what is left of the places
pub greater_end : (lv : ℕ → Wanted → ℤ) (base n : ℕ) (g : Greater1) → greater1_s lv base n [] g ≡ done g
unfolding greater1_s
greater_end lv base zero g = refl
greater_end lv base (suc n) g = refl

pub greater_out : (lv : ℕ → Wanted → ℤ) (base : ℕ) (ks : List ℕ) (g : Greater1) → greater1_s lv base 0 ks g ≡ done g
unfolding greater1_s
greater_out lv base ks g = refl

abbrev pub on_from : (ℕ → Wanted → ℤ) → ℕ → ℕ → List ℕ → Greater1 → Bool → S Greater1
on_from lv base n ks g b = greater1_s lv base n ks (record { bins = g.bins ++ (b ∷ []); greater1_ctx = greater1_ctx_next b g.greater1_ctx })

pub greater_more : (lv : ℕ → Wanted → ℤ) (base n k : ℕ) (ks : List ℕ) (g : Greater1)
    → greater1_s lv base (suc n) (k ∷ ks) g ≡ (bin (base + min g.greater1_ctx 3) (λ t. is_big lv t k) done >>= on_from lv base n ks g)
unfolding greater1_s ◌>>=◌
greater_more lv base n k ks g = refl

-- ---- the loop, at bin j of n
abbrev pub marked : ℕ → ℕ → ℕ → Greater1
marked mask j carry = record { bins = unmask mask j; greater1_ctx = carry }
