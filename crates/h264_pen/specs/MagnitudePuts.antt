-- A magnitude as its code puts it. Assumes nothing.
use Rattle.std.specs.Prelude.{ℕ, suc, ◌+◌, ◌-◌, ◌^◌, ◌≤◌, ◌<◌, min, ◌≡◌, Bool, true, false, cond, List, ltb, leb, ℤ}
use Rattle.std.proofs.Math.Path.{refl, ap, subst}
use Rattle.std.proofs.Common.{sym, ◌∙◌, ltb-true, ltb-false, lt-ltb, le-leb}
use native.Mathlib.Omega.{arith}
use Rattle.std.proofs.lemmas.Bool.{lt-leb}
use Rattle.bins.specs.Syn.{done, ◌>>=◌}
use Rattle.bins.specs.Readers.{bits_s}
use Rattle.trees.specs.Shapes.{eg_base, first_then, count_s, golomb_s}
use Rattle.pen.specs.Sheet.{Sheet, Wrote, Counts}
use Rattle.pen.specs.SheetLaws.{wrote_then, wrote_call}
use Rattle.pen_shapes.specs.PlainLaws.{bits_p, ones_p, count_p, bits_any, ones_any, count_any, passed, taken, golomb_written}
use Rattle.exp_golomb.specs.PrefixLaws.{Prefixed, base_reached, rest_fits}
use Rattle.pen_shapes.specs.PrefixCounts.{prefix_counts}
use Rattle.h264_block.specs.Layout.{at_magnitude}
use Rattle.h264_block.specs.Block.{S, magnitude_s}

-- ---- the suffix: the prefix of v has n ones
module _ (v n : ℕ) (c : Prefixed 0 v 16 n) (h : v < 65535) where
  pub suffix_short : n < 16
  suffix_short = go (ltb n 16) refl
    where
      go : (d : Bool) → ltb n 16 ≡ d → n < 16
      go true q = ltb-true n 16 q
      go false q =
          let e : n ≡ 16 = let l = ltb-false n 16 q in omega (arith, c.upto) in
          let b : eg_base 0 16 ≤ v = subst (λ i. eg_base 0 i ≤ v) e (base_reached 0 v 16 n c) in
          absurd (omega arith)

  pub suffix_fits : v - eg_base 0 n < 2 ^ n
  suffix_fits =
      let z : n + 0 ≡ n = omega arith in
      subst (λ i. v - eg_base 0 n < 2 ^ i) z (rest_fits 0 v 16 n c suffix_short)

  pub suffix_put : (s s₁ s₂ : Sheet) → ((w : ℕ) → Wrote (ones_p 16 n) (done n) w s s₁) → (r : ℕ) → r ≡ v - eg_base 0 n → ((w : ℕ) → Wrote (bits_p n r) (done r) w s₁ s₂)
      → (want : List ℤ → ℕ) (w : List ℤ) → want w ≡ v → Wrote (golomb_s 16 0 want) (done v) w s s₂
  suffix_put s s₁ s₂ f r er g want w e =
      let z : n ≡ n + 0 = omega arith in
      golomb_written 16 0 v n s s₁ s₂ want w suffix_short e (base_reached 0 v 16 n c)
      (ones_any s s₁ n 16 f (λ g t. leb (eg_base 0 (suc g)) (want t)) w (prefix_counts 0 v 16 n c want w e))
      (λ x t q. subst (λ i. Wrote (bits_s i 0 x) (done (v - eg_base 0 n)) t s₁ s₂) z
      (subst (λ i. Wrote (bits_s n 0 x) (done i) t s₁ s₂) er (bits_any s₁ s₂ n r g x t (q ∙ sym er))))

-- ---- the whole, by the contexts that the code found
module _ (ones bigs first later : ℕ) (e₁ : first ≡ 30 + cond (ltb 0 bigs) 0 (min 4 (1 + ones))) (e₂ : later ≡ 30 + (5 + min 4 bigs))
    (v : ℕ) (want : List ℤ → ℕ) (w : List ℤ) (e : want w ≡ v) where
  upto : ℕ → List ℤ → Bool
  upto g w = leb (suc g) (want w)

  high : S ℕ
  high = golomb_s 16 0 (λ w. want w - 14) >>= λ x. done (14 + x)

  more : ℕ → S ℕ
  more q = elim (ltb q 14) [ true ↦ done q | false ↦ high ]

  is : magnitude_s ones bigs want ≡ (count_s (at_magnitude ones bigs) 14 0 upto >>= more)
  unfolding magnitude_s upto more high
  is = refl

  same : (n : ℕ) → count_p (first_then first later) 14 n ≡ count_p (at_magnitude ones bigs) 14 n
  unfolding at_magnitude
  same n = rw (e₁, e₂)

  -- n ones are put, and n are wanted
  counted : (n : ℕ) (s s₁ : Sheet) → Counts upto w n 14 → ((w : ℕ) → Wrote (count_p (first_then first later) 14 n) (done n) w s s₁)
      → Wrote (magnitude_s ones bigs want) (more n) w s s₁
  counted n s s₁ c f =
      let g : (w : ℕ) → Wrote (count_p (at_magnitude ones bigs) 14 n) (done n) w s s₁ = λ w. subst (λ t. Wrote t (done n) w s s₁) (same n) (f w) in
      subst (λ t. Wrote t (more n) w s s₁) (sym is)
      (wrote_then w (count_s (at_magnitude ones bigs) 14 0 upto) more n s s₁ (count_any s s₁ (at_magnitude ones bigs) n 14 g upto w c))

  pub magnitude_few : v < 14 → (s s₁ : Sheet) → ((w : ℕ) → Wrote (count_p (first_then first later) 14 v) (done v) w s s₁) → Wrote (magnitude_s ones bigs want) (done v) w s s₁
  unfolding more upto
  magnitude_few h s s₁ f =
      taken (ltb v 14) (done v) high (magnitude_s ones bigs want) w s s₁ (lt-ltb v 14 h)
      (counted v s s₁ (λ g l. rw e (le-leb (suc g) v l), λ l. rw e (lt-leb (suc v) v (omega arith))) f)

  pub magnitude_many : 14 ≤ v → (s s₁ s₂ : Sheet) → ((w : ℕ) → Wrote (count_p (first_then first later) 14 14) (done 14) w s s₁)
      → ((x : List ℤ → ℕ) (t : List ℤ) → x t ≡ v - 14 → Wrote (golomb_s 16 0 x) (done (v - 14)) t s₁ s₂) → Wrote (magnitude_s ones bigs want) (done v) w s s₂
  unfolding more upto high
  magnitude_many h s s₁ s₂ f g =
      let a : Wrote (magnitude_s ones bigs want) high w s s₁ =
      passed (ltb 14 14) (done 14) high (magnitude_s ones bigs want) w s s₁ refl
      (counted 14 s s₁ (λ g l. rw e (le-leb (suc g) v (omega arith)), λ l. absurd (omega arith)) f) in
      let x : want w - 14 ≡ v - 14 = ap (λ i. i - 14) e in
      let r = wrote_call w (magnitude_s ones bigs want) (golomb_s 16 0 (λ w. want w - 14)) (λ x. done (14 + x)) (v - 14) s s₁ s₂ a (g (λ w. want w - 14) w x) in
      let y : 14 + (v - 14) ≡ v = omega arith in
      subst (λ i. Wrote (magnitude_s ones bigs want) (done i) w s s₂) y r
