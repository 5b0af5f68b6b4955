-- A list with its first places changed, place by place. Assumes nothing.
use Prim.Native.Nat.{ℕ, zero, suc, ◌+◌, ◌≤◌, ◌<◌}
use Rattle.std.specs.Prelude.{◌≡◌, Bool, ltb, length}
use Rattle.std.proofs.Math.Path.{refl, ap, ap₂, subst}
use Rattle.std.proofs.Common.{sym, ◌∙◌, arith, add-one, get_or-set_same, ext_get_or}
use Rattle.std.proofs.Math.Bool.{true, false}
use mathlib.Core.List.{List, [], ◌∷◌}
use Rattle.std.proofs.Math.Dec.{eqb}
use Rattle.std.proofs.Math.ListN.{get_or, set, length-set}
use Rattle.std.proofs.Math.Seq.{get_or-set_other}
use borrow.Author.Tests.{eqb-true, eqb-false, ltb-true, ltb-false}
use Rattle.counting.specs.Count.{updated}

module _ {A : Type 0} (d : A) where
  -- behind a list there is d
  pub get_d_past : (l : List A) (k : ℕ) → length l ≤ k → get_or l k d ≡ d
  get_d_past [] k h = refl
  get_d_past (x ∷ l) zero h = absurd (omega arith)
  get_d_past (x ∷ l) (suc k) h = get_d_past l k (omega arith)

  pub updated_none : (f : ℕ → A → A) (l : List A) → l ≡ updated d 0 f l
  unfolding updated
  updated_none f l = refl

  pub updated_length : (n : ℕ) (f : ℕ → A → A) (l : List A) → length (updated d n f l) ≡ length l
  unfolding updated
  updated_length zero f l = refl
  updated_length (suc n) f l = length-set (updated d n f l) n (f n (get_or l n d)) ∙ updated_length n f l

  pub updated_out : (n : ℕ) (f : ℕ → A → A) (l : List A) (k : ℕ) → n ≤ k → get_or (updated d n f l) k d ≡ get_or l k d
  unfolding updated
  updated_out zero f l k h = refl
  updated_out (suc n) f l k h =
      get_or-set_other (updated d n f l) n k (f n (get_or l n d)) d (omega arith) ∙ updated_out n f l k (omega arith)

  pub updated_in : (n : ℕ) (f : ℕ → A → A) (l : List A) (k : ℕ) → k < n → k < length l
      → get_or (updated d n f l) k d ≡ f k (get_or l k d)
  unfolding updated
  updated_in zero f l k h e = absurd (omega arith)
  updated_in (suc n) f l k h e = go (eqb k n) refl (λ h. updated_in n f l k h e)
    where
      go : (b : Bool) → eqb k n ≡ b → (k < n → get_or (updated d n f l) k d ≡ f k (get_or l k d))
          → get_or (set (updated d n f l) n (f n (get_or l n d))) k d ≡ f k (get_or l k d)
      go true q r =
          subst (λ (m : ℕ). get_or (set (updated d n f l) n (f n (get_or l n d))) m d ≡ f m (get_or l m d)) (sym (eqb-true k n q))
          (get_or-set_same (updated d n f l) n (f n (get_or l n d)) d (omega (arith, updated_length n f l, eqb-true k n q)))
      go false q r =
          get_or-set_other (updated d n f l) n k (f n (get_or l n d)) d (eqb-false k n q) ∙ r (omega (arith, eqb-false k n q))

  -- as a loop changes it
  pub updated_step : (n : ℕ) (f : ℕ → A → A) (l : List A)
      → set (updated d n f l) n (f n (get_or (updated d n f l) n d)) ≡ updated d (n + 1) f l
  unfolding updated
  updated_step n f l =
      ap (λ (x : A). set (updated d n f l) n (f n x)) (updated_out n f l n (omega arith))
      ∙ ap (λ (m : ℕ). updated d m f l) (sym (add-one n))

  pub updated_ext : (n : ℕ) (f g : ℕ → A → A) (l : List A) → ((k : ℕ) → k < n → f k (get_or l k d) ≡ g k (get_or l k d))
      → updated d n f l ≡ updated d n g l
  unfolding updated
  updated_ext zero f g l h = refl
  updated_ext (suc n) f g l h =
      ap₂ (λ (m : List A) (x : A). set m n x) (updated_ext n f g l (λ k u. h k (omega arith))) (h n (omega arith))

  pub updated_twice : (n : ℕ) (f g : ℕ → A → A) (l : List A) → n ≤ length l
      → updated d n f (updated d n g l) ≡ updated d n (λ k x. f k (g k x)) l
  updated_twice n f g l h =
      ext_get_or d (updated d n f (updated d n g l)) (updated d n (λ k x. f k (g k x)) l)
      (updated_length n f (updated d n g l) ∙ updated_length n g l ∙ sym (updated_length n (λ k x. f k (g k x)) l)) (λ i u. go i (ltb i n) refl)
    where
      go : (i : ℕ) (b : Bool) → ltb i n ≡ b
          → get_or (updated d n f (updated d n g l)) i d ≡ get_or (updated d n (λ k x. f k (g k x)) l) i d
      go i true q =
          let u = ltb-true i n q in
          updated_in n f (updated d n g l) i u (omega (arith, updated_length n g l))
          ∙ ap (λ (x : A). f i x) (updated_in n g l i u (omega arith))
          ∙ sym (updated_in n (λ k x. f k (g k x)) l i u (omega arith))
      go i false q =
          let u = ltb-false i n q in
          updated_out n f (updated d n g l) i u ∙ updated_out n g l i u ∙ sym (updated_out n (λ k x. f k (g k x)) l i u)
