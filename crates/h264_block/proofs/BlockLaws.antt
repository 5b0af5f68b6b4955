-- The whole block, exact; and write_refusal gives 0 exactly for what can be written. Assumes nothing.
use Rattle.std.specs.Prelude.{ℕ, zero, suc, ◌^◌, ◌≤◌, ◌<◌, ◌≡◌, refl, Bool, cond, ltb, ℤ, pos, nat_abs, replicate}
use Rattle.std.proofs.Common.{sym, ap, ◌∙◌, arith, ext_get_or}
use Rattle.std.proofs.Math.Path.{subst}
use Rattle.std.proofs.Math.Bool.{true, false}
use mathlib.Core.List.{List, [], ◌∷◌}
use Rattle.std.proofs.Math.ListN.{length, get_or, length-replicate, get_or-replicate}
use borrow.Author.Tests.{ltb-true, lt-ltb}
use Rattle.trees.specs.Levels.{negative, in_range, down_from, all_zero, too_far}
use Rattle.trees.specs.TreeLaws.{Writes, writes_done, writes_bind, writes_as, Exact, exact_done, exact_bind, exact_as}
use Rattle.trees.specs.GoesLaws.{Goes, goes_of}
use Rattle.trees.specs.ReaderLaws.{clash}
use Rattle.trees.specs.ListLaws.{All, all_map, Falling, down_falling, falling_below, down_all, down_at, falling_is, not_zero}
use Rattle.trees.specs.LevelLaws.{Kept, Apart, zero_ranged, zero_false, false_zero, far_false, false_far}
use Rattle.h264_block.specs.Block.{level_at, is_sig, sig_places, first_of, places_s, levels_s, block}
use Rattle.h264_block.specs.Refusal.{write_refusal}
use Rattle.h264_block.specs.Writable.{Writable}
use Rattle.h264_block.specs.PlaceLaws.{Last, places_writes, Met, places_exact}
use Rattle.h264_block.proofs.LevelLaws.{Fine, Got, levels_writes, levels_exact}

not_true : (d : Bool) → (d ≡ true → ⊥) → d ≡ false
not_true true h = absurd (h refl)
not_true false h = refl

module _ (w : List ℤ) where
  -- the last place with a level, where there is one
  last_of : (k : ℕ) → k < 16 → is_sig w k ≡ true → (m : ℕ) × Last w m
  last_of k h s = go (sig_places w) refl
    where
      go : (l : List ℕ) → sig_places w ≡ l → (m : ℕ) × Last w m
      go [] e = absurd (down_at (λ j. ⊥) (is_sig w) 16 (subst (All (λ j. ⊥)) (sym e) tt) k h s)
      go (m ∷ x) e =
          let f : Falling 16 (m ∷ x) = subst (Falling 16) e (down_falling (is_sig w) 16) in
          let a : All (λ j. is_sig w j ≡ true) (m ∷ x) = subst (All (λ j. is_sig w j ≡ true)) e (down_all (is_sig w) 16) in
          let below : All (λ j. j ≤ m) (m ∷ x) = (omega arith, all_map x (λ j r. omega arith) (falling_below m x f.1)) in (
            m,
            record {
              inside = f.0;
              holds = a.0;
              above = λ j lo hi. not_true (is_sig w j) (λ q.
                  let r = down_at (λ j. j ≤ m) (is_sig w) 16 (subst (All (λ j. j ≤ m)) (sym e) below) j hi q in omega arith);
            },
          )

  apart : (i : ℕ) → is_sig w i ≡ false → Apart i (sig_places w)
  apart i e = all_map (sig_places w) (λ k s q. clash e (ap (is_sig w) q ∙ s)) (down_all (is_sig w) 16)

  -- levels that agree at the significant places, and are zero elsewhere, are those wanted
  agree : (m : List ℤ) → length w ≡ 16 → Got w m (sig_places w) → Kept (replicate 16 (pos 0)) m (sig_places w) → m ≡ w
  agree m long g r = ext_get_or (pos 0) m w (r.long ∙ length-replicate 16 (pos 0) ∙ sym long) (λ i h. go i (omega (arith, r.long, length-replicate 16 (pos 0))) (is_sig w i) refl)
    where
      go : (i : ℕ) → i < 16 → (d : Bool) → is_sig w i ≡ d → get_or m i (pos 0) ≡ get_or w i (pos 0)
      go i h true e = down_at (λ k. get_or m k (pos 0) ≡ level_at w k) (is_sig w) 16 g i h e
      go i h false e = r.same i (apart i e) ∙ get_or-replicate 16 i (pos 0) (pos 0) h ∙ sym (not_zero (level_at w i) e)

  pub block_writes : Writable w → Writes block w (λ l. l ≡ w)
  unfolding block down_from
  block_writes h =
      let s = h.some in
      let m = last_of s.0 s.1 s.2 in
      writes_bind (places_writes w m.0 m.1 15 0 [] (omega arith) (omega arith) refl) (λ ks e.
      writes_as (levels_writes w ks 16 0 0 (replicate 16 (pos 0)) (rw e (down_falling (is_sig w) 16)) (omega (arith, length-replicate 16 (pos 0)))
      (rw e (all-fine (sig_places w) (down_falling (is_sig w) 16) (down_all (is_sig w) 16))))
      (λ l r. agree l h.long (rw e at r.0) (rw e at r.1)))
    where
      all-fine : (ks : List ℕ) → Falling 16 ks → All (λ k. is_sig w k ≡ true) ks → All (Fine w) ks
      all-fine ks f a = both ks (falling_below 16 ks f) a
        where
          both : (ks : List ℕ) → All (λ k. k < 16) ks → All (λ k. is_sig w k ≡ true) ks → All (Fine w) ks
          both [] b a = tt
          both (k ∷ ks) b a = (record { some = ltb-true 0 (nat_abs (level_at w k)) a.0; ranged = h.ranged k b.0 }, both ks b.1 a.1)

  pub block_goes : Writable w → Goes block w
  block_goes h = goes_of (block_writes h)

  -- what is read has 16 levels; where they are w, w can be written
  pub block_exact : Exact block w (λ l. (length l ≡ 16) × (l ≡ w → Writable w)) (λ l. l ≡ w)
  unfolding block
  block_exact = exact_bind (places_exact w 15 0 [] (omega arith) tt) (λ ks h.
      exact_as (levels_exact w ks 16 0 0 (replicate 16 (pos 0)) h.falls (omega (arith, length-replicate 16 (pos 0)))) (λ l r.
      let long : length l ≡ 16 = r.0.long ∙ length-replicate 16 (pos 0) in
      let got : l ≡ w → Got w l ks = λ q. got_same l q ks in
      let is : l ≡ w → ks ≡ sig_places w = λ q.
      falling_is (is_sig w) 16 ks h.falls (all_map ks (λ k f. lt-ltb 0 (nat_abs (level_at w k)) f.some) (r.1 (got q)))
      (λ k lt s a. clash (zero-sig k (sym (ap (λ (z : List ℤ). get_or z k (pos 0)) q) ∙ r.0.same k a ∙ get_or-replicate 16 k (pos 0) (pos 0) lt)) s) in
      (((long, λ q. writable l ks (ap length (sym q) ∙ long) h.some h.falls (is q) (r.1 (got q))), is), got)))
    where
      writable : (l : List ℤ) (ks : List ℕ) → length w ≡ 16 → (m : ℕ) × (x : List ℕ) × (ks ≡ m ∷ x) → Falling 16 ks → ks ≡ sig_places w → All (Fine w) ks → Writable w
      writable l ks long s f e a =
          let f₁ : Falling 16 (s.0 ∷ s.1) = subst (Falling 16) s.2 f in
          let a₁ : All (Fine w) (s.0 ∷ s.1) = subst (All (Fine w)) s.2 a in
          let a₂ : All (Fine w) (sig_places w) = subst (All (Fine w)) e a in
          record {
            long = long;
            some = (s.0, f₁.0, lt-ltb 0 (nat_abs (level_at w s.0)) a₁.0.some);
            ranged = λ k h. ranged a₂ k h (is_sig w k) refl;
          }
        where
          ranged : All (Fine w) (sig_places w) → (k : ℕ) → k < 16 → (d : Bool) → is_sig w k ≡ d → in_range 15 (negative (level_at w k)) (nat_abs (level_at w k)) ≡ true
          ranged a k h true e = (down_at (Fine w) (is_sig w) 16 a k h e).ranged
          ranged a k h false e = zero_ranged 15 (level_at w k) e

      got_same : (l : List ℤ) → l ≡ w → (ks : List ℕ) → Got w l ks
      got_same l q [] = tt
      got_same l q (k ∷ ks) = (ap (λ (z : List ℤ). get_or z k (pos 0)) q, got_same l q ks)

      zero-sig : (k : ℕ) → level_at w k ≡ pos 0 → is_sig w k ≡ false
      zero-sig k e = ap (λ z. ltb 0 (nat_abs z)) e

-- ---- both
abbrev refusal_by : Bool → Bool → ℕ
refusal_by a c = cond a 9 (cond c 8 0)

two : (a c : Bool) → refusal_by a c ≡ 0 → (a ≡ false) × (c ≡ false)
two true c e = absurd (omega arith)
two false true e = absurd (omega arith)
two false false e = (refl, refl)

two_back : (a c : Bool) → a ≡ false → c ≡ false → refusal_by a c ≡ 0
two_back a c p q = rw (p, q)

two_most : (a c : Bool) → refusal_by a c ≤ 9
two_most true c = omega arith
two_most false true = omega arith
two_most false false = omega arith

module _ (w : List ℤ) where
  pub refusal_below : write_refusal w ≤ 9
  unfolding write_refusal
  refusal_below = two_most (all_zero w) (too_far 15 w)

  pub refusal_none : length w ≡ 16 → write_refusal w ≡ 0 → Writable w
  unfolding write_refusal
  refusal_none long e =
      let f = two (all_zero w) (too_far 15 w) e in
      let z = zero_false w f.0 in
      record { long = long; some = (z.0, omega (arith, z.1), z.2); ranged = λ k h. far_false 15 w f.1 k (omega arith) }

  pub none_refusal : Writable w → write_refusal w ≡ 0
  unfolding write_refusal
  none_refusal h =
      let s = h.some in
      two_back (all_zero w) (too_far 15 w) (false_zero w s.0 (omega (arith, s.1, h.long)) s.2) (false_far 15 w (λ c l. h.ranged c (omega (arith, h.long))))
