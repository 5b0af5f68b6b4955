-- The levels as their code puts them, and the whole block. Assumes nothing.
use Rattle.std.specs.Prelude.{ℕ, suc, ◌+◌, ◌-◌, ◌≤◌, ◌<◌, ◌≡◌, Bool, true, false, cond, List, [], ◌∷◌, ltb, ℤ, pos, length, set, replicate}
use Rattle.std.proofs.Math.Path.{refl, ap, subst}
use Rattle.std.proofs.Common.{sym, ◌∙◌, add-one, lt-ltb, le-ltb, leb-true, ltb-true}
use native.Mathlib.Omega.{arith}
use Rattle.std.proofs.Math.IntN.{nat_abs}
use Rattle.bins.specs.Tags.{tag, bypass_no}
use Rattle.bins.specs.Syn.{done, stop, bypass, ◌>>=◌}
use Rattle.trees.specs.Levels.{negative, signed, in_range, down_from}
use Rattle.trees.specs.LevelLaws.{signed_of}
use Rattle.trees.specs.Pick.{picked}
use Rattle.pen.specs.Sheet.{Sheet, entered, Wrote}
use Rattle.pen.specs.SheetLaws.{wrote_none, wrote_on, wrote_bypass, wrote_then}
use Rattle.h264_block.specs.Block.{S, level_at, is_sig, sig_places, places_s, magnitude_s, levels_s, block}

ranged_most : (neg : Bool) (m : ℕ) → in_range 15 neg m ≡ true → m ≤ 32768
ranged_most true m e = leb-true m 32768 e
ranged_most false m e = let h = ltb-true m 32768 e in omega arith

-- ---- one level z, whose magnitude is m
module _ (ones bigs : ℕ) (z : ℤ) (some : 0 < nat_abs z) (ranged : in_range 15 (negative z) (nat_abs z) ≡ true) where
  pub level_small : nat_abs z - 1 < 65549
  level_small = omega (arith, ranged_most (negative z) (nat_abs z) ranged)

  module _ (w : List ℤ) (k : ℕ) (ks : List ℕ) (l : List ℤ) (q : level_at w k ≡ z) where
    rest : ℕ → Bool → S (List ℤ)
    rest v neg = levels_s ks (cond (ltb 0 v) ones (suc ones)) (cond (ltb 0 v) (suc bigs) bigs) (set l k (signed neg (suc v)))

    signed_s : ℕ → Bool → S (List ℤ)
    signed_s v neg = elim (in_range 15 neg (suc v)) [ true ↦ rest v neg | false ↦ stop 8 ]

    sized_s : ℕ → S (List ℤ)
    sized_s v = bypass (λ w. negative (level_at w k)) (signed_s v)

    is : levels_s (k ∷ ks) ones bigs l ≡ (magnitude_s ones bigs (λ w. nat_abs (level_at w k) - 1) >>= sized_s)
    unfolding levels_s sized_s signed_s rest
    is = refl

    whole : suc (nat_abs z - 1) ≡ nat_abs z
    whole = omega (arith, some)

    went : signed_s (nat_abs z - 1) (negative z) ≡ levels_s ks (cond (ltb 0 (nat_abs z - 1)) ones (suc ones)) (cond (ltb 0 (nat_abs z - 1)) (suc bigs) bigs) (set l k z)
    unfolding signed_s rest
    went =
        let e : signed (negative z) (suc (nat_abs z - 1)) ≡ z = ap (signed (negative z)) whole ∙ signed_of z in
        picked (in_range 15 (negative z) (suc (nat_abs z - 1))) (rest (nat_abs z - 1) (negative z)) (stop 8) (ap (in_range 15 (negative z)) whole ∙ ranged)
        ∙ ap (λ y. levels_s ks (cond (ltb 0 (nat_abs z - 1)) ones (suc ones)) (cond (ltb 0 (nat_abs z - 1)) (suc bigs) bigs) (set l k y)) e

    pub level_put : (s s₁ s₂ : Sheet) → ((want : List ℤ → ℕ) (w : List ℤ) → want w ≡ nat_abs z - 1 → Wrote (magnitude_s ones bigs want) (done (nat_abs z - 1)) w s s₁)
        → s₂ ≡ entered (tag bypass_no (negative z)) s₁
        → Wrote (levels_s (k ∷ ks) ones bigs l) (levels_s ks (cond (ltb 0 (nat_abs z - 1)) ones (suc ones)) (cond (ltb 0 (nat_abs z - 1)) (suc bigs) bigs) (set l k z)) w s s₂
    unfolding sized_s
    level_put s s₁ s₂ f g =
        let v = nat_abs z - 1 in
        let n : negative (level_at w k) ≡ negative z = ap negative q in
        let a : Wrote (levels_s (k ∷ ks) ones bigs l) (sized_s v) w s s₁ =
        subst (λ t. Wrote t (sized_s v) w s s₁) (sym is)
        (wrote_then w (magnitude_s ones bigs (λ w. nat_abs (level_at w k) - 1)) sized_s v s s₁ (f (λ w. nat_abs (level_at w k) - 1) w (ap (λ y. nat_abs y - 1) q))) in
        let b : Wrote (sized_s v) (signed_s v (negative z)) w s₁ (entered (tag bypass_no (negative z)) s₁) =
        subst (λ d. Wrote (sized_s v) (signed_s v d) w s₁ (entered (tag bypass_no d) s₁)) n (wrote_bypass w (λ w. negative (level_at w k)) (signed_s v) s₁) in
        subst (λ t. Wrote (levels_s (k ∷ ks) ones bigs l) t w s s₂) went
        (wrote_on w (levels_s (k ∷ ks) ones bigs l) (sized_s v) (signed_s v (negative z)) s s₁ s₂ a (subst (Wrote (sized_s v) (signed_s v (negative z)) w s₁) (sym g) b))

    -- the same as the code has it, m being the magnitude and b the sign
    pub level_coded : (s s₁ s₂ : Sheet) (m : ℕ) (b : Bool) → m ≡ nat_abs z → b ≡ negative z
        → ((want : List ℤ → ℕ) (w : List ℤ) → want w ≡ m - 1 → Wrote (magnitude_s ones bigs want) (done (m - 1)) w s s₁)
        → s₂ ≡ entered (tag bypass_no b) s₁
        → Wrote (levels_s (k ∷ ks) ones bigs l) (levels_s ks (cond (ltb 0 (nat_abs z - 1)) ones (suc ones)) (cond (ltb 0 (nat_abs z - 1)) (suc bigs) bigs) (set l k z)) w s s₂
    level_coded s s₁ s₂ m b em eb f g =
        level_put s s₁ s₂
        (subst (λ v. (want : List ℤ → ℕ) (w : List ℤ) → want w ≡ v - 1 → Wrote (magnitude_s ones bigs want) (done (v - 1)) w s s₁) em f)
        (g ∙ ap (λ d. entered (tag bypass_no d) s₁) eb)

-- ---- all of them
abbrev zeros : List ℤ
zeros = replicate 16 (pos 0)

-- what was written for the levels of w has come to its end
abbrev pub LevelsPut : List ℤ → Sheet → Sheet → Type 0
LevelsPut w s s' = (l : List ℤ) × Wrote (levels_s (sig_places w) 0 0 (replicate 16 (pos 0))) (done l) w s s'

abbrev pub BlockPut : List ℤ → Sheet → Sheet → Type 0
BlockPut w s s' = (l : List ℤ) × Wrote block (done l) w s s'

module _ (w : List ℤ) (s : Sheet) where
  pub record Leveling (k ones bigs : ℕ) (s' : Sheet) : Type 0 where
    pub few : ones + bigs + k ≤ 16
    pub long : length s'.room ≡ length s.room
    pub so_far : List ℤ
    pub left : Wrote (levels_s (sig_places w) 0 0 (replicate 16 (pos 0))) (levels_s (down_from (is_sig w) k) ones bigs so_far) w s s'

  pub leveling_begins : Leveling 16 0 0 s
  leveling_begins = record { few = omega arith; long = refl; so_far = zeros; left = wrote_none w (levels_s (sig_places w) 0 0 zeros) s }

  down_no : (k : ℕ) → is_sig w k ≡ false → down_from (is_sig w) (suc k) ≡ down_from (is_sig w) k
  unfolding down_from
  down_no k q = rw q

  down_yes : (k : ℕ) → is_sig w k ≡ true → down_from (is_sig w) (suc k) ≡ k ∷ down_from (is_sig w) k
  unfolding down_from
  down_yes k q = rw q

  module _ (k ones bigs : ℕ) (s₁ : Sheet) (h : Leveling k ones bigs s₁) where
    pub levels_ended : k ≤ 0 → LevelsPut w s s₁
    unfolding levels_s down_from
    levels_ended q =
        let e : k ≡ 0 = omega arith in
        (h.so_far, subst (λ j. Wrote (levels_s (sig_places w) 0 0 (replicate 16 (pos 0))) (levels_s (down_from (is_sig w) j) ones bigs h.so_far) w s s₁) e h.left)

    module _ (some : 0 < k) where
      here : (ks : List ℕ) → down_from (is_sig w) (suc (k - 1)) ≡ ks → Wrote (levels_s (sig_places w) 0 0 (replicate 16 (pos 0))) (levels_s ks ones bigs h.so_far) w s s₁
      here ks q =
          let e : k ≡ suc (k - 1) = omega arith in
          subst (λ t. Wrote (levels_s (sig_places w) 0 0 (replicate 16 (pos 0))) (levels_s t ones bigs h.so_far) w s s₁) (ap (down_from (is_sig w)) e ∙ q) h.left

      pub levels_skip : nat_abs (level_at w (k - 1)) ≤ 0 → Leveling (k - 1) ones bigs s₁
      levels_skip z = record {
        few = omega (arith, h.few);
        long = h.long;
        so_far = h.so_far;
        left = here (down_from (is_sig w) (k - 1)) (down_no (k - 1) (le-ltb 0 (nat_abs (level_at w (k - 1))) z));
      }

      -- f is what putting the level z at place k - 1 says
      module _ (z : ℤ) (ez : level_at w (k - 1) ≡ z) (not_None : 0 < nat_abs z) (s₂ : Sheet) (long : length s₂.room ≡ length s₁.room)
          (f : (w : List ℤ) (k : ℕ) (ks : List ℕ) (l : List ℤ) → level_at w k ≡ z
          → Wrote (levels_s (k ∷ ks) ones bigs l) (levels_s ks (cond (ltb 0 (nat_abs z - 1)) ones (suc ones)) (cond (ltb 0 (nat_abs z - 1)) (suc bigs) bigs) (set l k z)) w s₁ s₂) where
        more : Wrote (levels_s (sig_places w) 0 0 (replicate 16 (pos 0)))
            (levels_s (down_from (is_sig w) (k - 1)) (cond (ltb 0 (nat_abs z - 1)) ones (suc ones)) (cond (ltb 0 (nat_abs z - 1)) (suc bigs) bigs) (set h.so_far (k - 1) z)) w s s₂
        more =
            let y : is_sig w (k - 1) ≡ true = ap (λ i. ltb 0 (nat_abs i)) ez ∙ lt-ltb 0 (nat_abs z) not_None in
            let ks = down_from (is_sig w) (k - 1) in
            wrote_on w (levels_s (sig_places w) 0 0 (replicate 16 (pos 0))) (levels_s ((k - 1) ∷ ks) ones bigs h.so_far)
            (levels_s ks (cond (ltb 0 (nat_abs z - 1)) ones (suc ones)) (cond (ltb 0 (nat_abs z - 1)) (suc bigs) bigs) (set h.so_far (k - 1) z)) s s₁ s₂
            (here ((k - 1) ∷ ks) (down_yes (k - 1) y)) (f w (k - 1) ks h.so_far ez)

        by : (d : Bool) → ltb 0 (nat_abs z - 1) ≡ d
            → Wrote (levels_s (sig_places w) 0 0 (replicate 16 (pos 0))) (levels_s (down_from (is_sig w) (k - 1)) (cond d ones (suc ones)) (cond d (suc bigs) bigs) (set h.so_far (k - 1) z)) w s s₂
        by d q =
            subst (λ d. Wrote (levels_s (sig_places w) 0 0 (replicate 16 (pos 0))) (levels_s (down_from (is_sig w) (k - 1)) (cond d ones (suc ones)) (cond d (suc bigs) bigs) (set h.so_far (k - 1) z)) w s s₂) q more

        pub levels_big : 1 < nat_abs z → Leveling (k - 1) ones (bigs + 1) s₂
        levels_big u = record {
          few = omega (arith, h.few);
          long = long ∙ h.long;
          so_far = set h.so_far (k - 1) z;
          left = subst (λ n. Wrote (levels_s (sig_places w) 0 0 (replicate 16 (pos 0))) (levels_s (down_from (is_sig w) (k - 1)) ones n (set h.so_far (k - 1) z)) w s s₂) (sym (add-one bigs))
              (by true (lt-ltb 0 (nat_abs z - 1) (omega arith)));
        }

        pub levels_one : nat_abs z ≤ 1 → Leveling (k - 1) (ones + 1) bigs s₂
        levels_one u = record {
          few = omega (arith, h.few);
          long = long ∙ h.long;
          so_far = set h.so_far (k - 1) z;
          left = subst (λ n. Wrote (levels_s (sig_places w) 0 0 (replicate 16 (pos 0))) (levels_s (down_from (is_sig w) (k - 1)) n bigs (set h.so_far (k - 1) z)) w s s₂) (sym (add-one ones))
              (by false (le-ltb 0 (nat_abs z - 1) (omega arith)));
        }

-- ---- places, then levels
pub block_put : (w : List ℤ) (s s₁ s₂ : Sheet) → Wrote (places_s 15 0 []) (done (sig_places w)) w s s₁ → LevelsPut w s₁ s₂ → BlockPut w s s₂
unfolding block
block_put w s s₁ s₂ f g =
    let next : List ℕ → S (List ℤ) = λ ks. levels_s ks 0 0 (replicate 16 (pos 0)) in
    (g.0, wrote_on w (places_s 15 0 [] >>= next) (next (sig_places w)) (done g.0) s s₁ s₂ (wrote_then w (places_s 15 0 []) next (sig_places w) s s₁ f) g.1)
