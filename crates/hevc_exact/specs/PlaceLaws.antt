-- Significant places and greater1 bins, exact. Assumes nothing.
use Prim.Native.Nat.{ℕ, zero, suc, ◌≤◌, min}
use Rattle.std.specs.Prelude.{◌≡◌, Bool, ◌&&◌, eqb, ℤ, length}
use Rattle.std.proofs.Math.Path.{refl, sym, ap, subst}
use Rattle.std.proofs.Common.{ap₂, ◌∙◌}
use Rattle.std.proofs.Math.Bool.{true, false, cond}
use mathlib.Core.List.{List, [], ◌∷◌, ◌++◌, append_assoc, append-nil, append_cancel_left}
use native.Mathlib.Omega.{arith}
use borrow.Author.Tests.{eqb-true, eqb-false}
use Rattle.hevc_residual.specs.Wanted.{Wanted, is_sig, is_big, down_from, none}
use Rattle.hevc_residual.specs.SubBlock.{Greater1, places_s, greater1_ctx_next, greater1_s}
use Rattle.trees.specs.TreeLaws.{Writes, writes_done, writes_bin, writes_as, Exact, exact_done, exact_bin, exact_as}
use Rattle.trees.specs.ReaderLaws.{clash, writes_if, exact_if}
use Rattle.trees.specs.ListLaws.{Falling, falling_cond, down_falling}

pub snoc : {A : Type 0} (l : List A) (a : A) (x : List A) → (l ++ (a ∷ [])) ++ x ≡ l ++ (a ∷ x)
snoc l a x = append_assoc l (a ∷ []) x

pub and_true : (a b : Bool) → (a && b) ≡ true → (a ≡ true) × (b ≡ true)
and_true true b e = (refl, e)
and_true false b e = clash refl e

-- ---- places
same_top : (c d : Bool) (k : ℕ) (x y : List ℕ) → Falling k x → Falling k y → cond c (k ∷ x) x ≡ cond d (k ∷ y) y → (d ≡ c) × (x ≡ y)
same_top true true k x y f g q = (refl, cc)
same_top true false k x y f g q = let h : Falling k (k ∷ x) = subst (Falling k) (sym q) g in absurd (omega (arith, h.0))
same_top false true k x y f g q = let h : Falling k (k ∷ y) = subst (Falling k) q f in absurd (omega (arith, h.0))
same_top false false k x y f g q = (refl, q)

-- what places_s adds to ks
cond_snoc : (d : Bool) (ks : List ℕ) (k : ℕ) (x : List ℕ) → cond d (ks ++ (k ∷ [])) ks ++ x ≡ ks ++ cond d (k ∷ x) x
cond_snoc true ks k x = snoc ks k x
cond_snoc false ks k x = refl

none_snoc : (ks : List ℕ) (k : ℕ) → none (ks ++ (k ∷ [])) ≡ false
unfolding none
none_snoc [] k = refl
none_snoc (j ∷ ks) k = refl

pub none_nil : (ks : List ℕ) → none ks ≡ true → ks ≡ []
unfolding none
none_nil [] e = refl
none_nil (k ∷ ks) e = clash refl e

-- where the lowest place is inferred it is the only one
inferred : (s : ℕ → Bool) → none (down_from s 1) ≡ false → down_from s 1 ≡ 0 ∷ []
unfolding down_from none
inferred s h = go (s 0) h
  where
    go : (d : Bool) → none (cond d (0 ∷ []) []) ≡ false → ◌≡◌ {A = List ℕ} (cond d (0 ∷ []) []) (0 ∷ [])
    go true h = refl
    go false h = clash h refl

-- where it is not inferred at k and no place is met, there are more below
goes_on : (infer d : Bool) (k : ℕ) (ks : List ℕ) → (eqb k 0 && (infer && none ks)) ≡ false
    → infer ≡ true → none (cond d (ks ++ (k ∷ [])) ks) ≡ true → 1 ≤ k
goes_on infer true k ks q i e = clash (none_snoc ks k) e
goes_on infer false k ks q i e = go (eqb k 0) refl
  where
    go : (c : Bool) → eqb k 0 ≡ c → 1 ≤ k
    go true u = let w : (true && (true && true)) ≡ false = rw (u, i, e) at q in clash w refl
    go false u = omega (arith, eqb-false k 0 u)

module _ (lv : ℕ → Wanted → ℤ) (ctx : ℕ → ℕ) (infer : Bool) (b : Wanted) where
  -- where a place is inferred there is one
  pub places_writes : (n : ℕ) (ks : List ℕ) → (infer ≡ true → none (ks ++ down_from (is_sig lv b) n) ≡ false)
      → Writes (places_s lv ctx infer n ks) b (λ l. l ≡ ks ++ down_from (is_sig lv b) n)
  unfolding places_s down_from
  places_writes zero ks h = writes_done (sym (append-nil ks))
  places_writes (suc k) ks h = writes_if (eqb k 0 && (infer && none ks))
      (λ q.
      let t = and_true (eqb k 0) (infer && none ks) q in
      let u = and_true infer (none ks) t.1 in
      let z = eqb-true k 0 t.0 in
      let e = none_nil ks u.1 in
      let m : none ([] ++ down_from (is_sig lv b) (suc k)) ≡ false = subst (λ (l : List ℕ). none (l ++ down_from (is_sig lv b) (suc k)) ≡ false) e (h u.0) in
      let n : none ([] ++ down_from (is_sig lv b) 1) ≡ false = subst (λ (j : ℕ). none ([] ++ down_from (is_sig lv b) (suc j)) ≡ false) z m in
      writes_done (rw (e, z) (sym (inferred (is_sig lv b) n))))
      (λ q. writes_bin (writes_as (places_writes k (cond (is_sig lv b k) (ks ++ (k ∷ [])) ks) (λ i. rw cond_snoc (h i)))
      (λ l e. e ∙ cond_snoc (is_sig lv b k) ks k (down_from (is_sig lv b) k))))

  -- what was added falls from n; where a place is inferred there is one
  pub places_exact : (n : ℕ) (ks : List ℕ) → (infer ≡ true → none ks ≡ true → 1 ≤ n)
      → Exact (places_s lv ctx infer n ks) b (λ l. (x : List ℕ) × (l ≡ ks ++ x) × Falling n x × (infer ≡ true → none l ≡ false)) (λ l. l ≡ ks ++ down_from (is_sig lv b) n)
  unfolding places_s down_from none
  places_exact zero ks h = exact_done ([], sym (append-nil ks), tt, λ i. go (none ks) refl i)
    where
      go : (d : Bool) → none ks ≡ d → infer ≡ true → none ks ≡ false
      go true e i = absurd (omega (arith, h i e))
      go false e i = e
  places_exact (suc k) ks h = exact_if (eqb k 0 && (infer && none ks))
      (λ q.
      let t = and_true (eqb k 0) (infer && none ks) q in
      let e = none_nil ks (and_true infer (none ks) t.1).1 in
      exact_done (0 ∷ [], rw e, (omega arith, tt), λ i. refl))
      (λ q. exact_bin (λ d. exact_as (places_exact k (cond d (ks ++ (k ∷ [])) ks) (goes_on infer d k ks q)) (λ l g.
      let e : l ≡ ks ++ cond d (k ∷ g.0) g.0 = g.1 ∙ cond_snoc d ks k g.0 in
      let same : l ≡ ks ++ down_from (is_sig lv b) (suc k) → (is_sig lv b k ≡ d) × (g.0 ≡ down_from (is_sig lv b) k) = λ u.
      same_top d (is_sig lv b k) k g.0 (down_from (is_sig lv b) k) g.2 (down_falling (is_sig lv b) k) (append_cancel_left ks _ _ (sym e ∙ u)) in
      (((cond d (k ∷ g.0) g.0, e, falling_cond d k g.0 g.2, g.3), λ u. (same u).0), λ u. g.1 ∙ ap (λ z. cond d (ks ++ (k ∷ [])) ks ++ z) (same u).1))))

-- ---- greater1
-- what s says of the first n of the places
unfoldable pub said_of : (ℕ → Bool) → ℕ → List ℕ → List Bool
said_of s zero ks = []
said_of s (suc n) [] = []
said_of s (suc n) (k ∷ ks) = s k ∷ said_of s n ks

-- each of the bins is what s says of its place
abbrev pub Said : (ℕ → Bool) → List Bool → List ℕ → Type 0
Said s [] ks = Unit {0}
Said s (g ∷ gs) [] = ⊥
Said s (g ∷ gs) (k ∷ ks) = (g ≡ s k) × Said s gs ks

pub said_of_lem : (s : ℕ → Bool) (n : ℕ) (ks : List ℕ) → Said s (said_of s n ks) ks
unfolding said_of
said_of_lem s zero ks = tt
said_of_lem s (suc n) [] = tt
said_of_lem s (suc n) (k ∷ ks) = (refl, said_of_lem s n ks)

pub said_is : (s : ℕ → Bool) (n : ℕ) (gs : List Bool) (ks : List ℕ) → Said s gs ks → length gs ≡ min n (length ks) → gs ≡ said_of s n ks
unfolding said_of
said_is s zero [] ks h e = refl
said_is s zero (g ∷ gs) ks h e = absurd (omega arith)
said_is s (suc n) [] [] h e = refl
said_is s (suc n) [] (k ∷ ks) h e = absurd (omega arith)
said_is s (suc n) (g ∷ gs) [] h e = absurd h
said_is s (suc n) (g ∷ gs) (k ∷ ks) h e = ap₂ ◌∷◌ h.0 (said_is s n gs ks h.1 (omega arith))

module _ (lv : ℕ → Wanted → ℤ) (base : ℕ) (b : Wanted) where
  pub greater1_writes : (n : ℕ) (ks : List ℕ) (o : Greater1) → Writes (greater1_s lv base n ks o) b (λ r. r.bins ≡ o.bins ++ said_of (is_big lv b) n ks)
  unfolding greater1_s said_of
  greater1_writes zero ks o = writes_done (sym (append-nil o.bins))
  greater1_writes (suc n) [] o = writes_done (sym (append-nil o.bins))
  greater1_writes (suc n) (k ∷ ks) o =
      writes_bin (writes_as (greater1_writes n ks (record { bins = o.bins ++ (is_big lv b k ∷ []); greater1_ctx = greater1_ctx_next (is_big lv b k) o.greater1_ctx }))
      (λ r e. e ∙ snoc o.bins (is_big lv b k) (said_of (is_big lv b) n ks)))

  pub greater1_exact : (n : ℕ) (ks : List ℕ) (o : Greater1)
      → Exact (greater1_s lv base n ks o) b (λ r. (x : List Bool) × (r.bins ≡ o.bins ++ x) × (length x ≡ min n (length ks)))
      (λ r. r.bins ≡ o.bins ++ said_of (is_big lv b) n ks)
  unfolding greater1_s said_of
  greater1_exact zero ks o = exact_done ([], sym (append-nil o.bins), omega arith)
  greater1_exact (suc n) [] o = exact_done ([], sym (append-nil o.bins), omega arith)
  greater1_exact (suc n) (k ∷ ks) o =
      exact_bin (λ d. exact_as (greater1_exact n ks (record { bins = o.bins ++ (d ∷ []); greater1_ctx = greater1_ctx_next d o.greater1_ctx })) (λ r g.
      let e : r.bins ≡ o.bins ++ (d ∷ g.0) = g.1 ∙ snoc o.bins d g.0 in
      let same : r.bins ≡ o.bins ++ (is_big lv b k ∷ said_of (is_big lv b) n ks) → d ∷ g.0 ≡ is_big lv b k ∷ said_of (is_big lv b) n ks = λ u.
      append_cancel_left o.bins _ _ (sym e ∙ u) in (
        ((d ∷ g.0, e, omega (arith, g.2)), λ u. let q = same u in cc),
        λ u. let q = same u in let t : g.0 ≡ said_of (is_big lv b) n ks = cc in g.1 ∙ ap (λ z. (o.bins ++ (d ∷ [])) ++ z) t,
      )))
