-- What the judgement on trees says of a run, from any source, from the engine and from a list, and of what is written. Assumes nothing.
use Rattle.std.specs.Prelude.{ℕ, suc, ◌+◌, ◌*◌, ◌≡◌, refl, Bool, true, false, cond, List, [], ◌∷◌, length, ltb}
use Rattle.std.proofs.Common.{subst}
use native.Mathlib.Omega.{arith}
use Rattle.bins.specs.Tags.{tag, bypass_no, align_tag, is_entry}
use Rattle.bins.specs.Engine.{range_aligned}
use Rattle.bins.specs.Syn.{Syn, done, stop, bin, bypass, align, Took, took, refused, Source, Out, onward, run, pick_bin, bin_of, list_bin, list_align, by_list, Reading, engine_bin, engine_bypass, engine_align, by_engine, Written, also, write}
use Rattle.trees.specs.Every.{Bounds, Every, Each}

-- ---- why a reading is refused by r, where m bins were read: the tree stopped; or the source, by F's numbers at a bin, or by G's at an alignment
pub data Why (K : Bounds) (F G : ℕ → Type 0) (r m : ℕ) : Type 0 where
  stopped : K.stops r m → Why K F G r m
  missed : F r → Why K F G r m
  unaligned : K.aligns m → G r → Why K F G r m

-- I holds of a source's state by the bins taken, F and G of its own refusals
abbrev pub Step : {S : Type 0} → (S → ℕ → Type 0) → (ℕ → Type 0) → ℕ → Took S → Type 0
Step I F n (took b s) = I s (suc n)
Step I F n (refused r) = F r

pub record Steps {S : Type 0} (src : Source S) (I : S → ℕ → Type 0) (F G : ℕ → Type 0) : Type 0 where
  pub at_bin : (c : ℕ) (s : S) (n : ℕ) → I s n → Step I F n (src.on_bin c s)
  pub at_bypass : (s : S) (n : ℕ) → I s n → Step I F n (src.on_bypass s)
  pub at_align : (s : S) (n : ℕ) → I s n → Step I G n (src.on_align s)

abbrev pub Comes : {S A : Type 0} → Bounds → (A → ℕ → Type 0) → (S → ℕ → Type 0) → (ℕ → Type 0) → (ℕ → Type 0) → Out S A → Type 0
Comes K P I F G (Out.ok a s) = (m : ℕ) × I s m × P a m
Comes K P I F G (Out.no r s) = (m : ℕ) × I s m × Why K F G r m

module _ {S A : Type 0} (K : Bounds) (P : A → ℕ → Type 0) (I : S → ℕ → Type 0) (F G : ℕ → Type 0) where
  onward_comes : (X : ℕ → Type 0) (t : Took S) (s : S) (n : ℕ) (k : Bool → S → Out S A) → I s n → ((r : ℕ) → X r → Why K F G r n) → Step I X n t
      → ((b : Bool) (s' : S) → I s' (suc n) → Comes K P I F G (k b s')) → Comes K P I F G (onward t s k)
  unfolding onward
  onward_comes X (took b s') s n k i w p h = h b s' p
  onward_comes X (refused r) s n k i w p h = (n, i, w r p)

  pub run_comes : {B : Type 0} (src : Source S) → Steps src I F G → (t : Syn B A) (n : ℕ) (s : S) → Every K P n t → I s n → Comes K P I F G (run src t s)
  unfolding run
  run_comes src z (done a) n s h i = (n, i, h)
  run_comes src z (stop r) n s h i = (n, i, Why.stopped h)
  run_comes src z (bin c w k) n s h i =
      onward_comes F (src.on_bin c s) s n (λ b s'. run src (k b) s') i (λ r f. Why.missed f) (z.at_bin c s n i) (λ b s' j. run_comes src z (k b) (suc n) s' (h.1 b) j)
  run_comes src z (bypass w k) n s h i =
      onward_comes F (src.on_bypass s) s n (λ b s'. run src (k b) s') i (λ r f. Why.missed f) (z.at_bypass s n i) (λ b s' j. run_comes src z (k b) (suc n) s' (h b) j)
  run_comes src z (align t) n s h i =
      onward_comes G (src.on_align s) s n (λ b s'. run src t s') i (λ r g. Why.unaligned h.0 g) (z.at_align s n i) (λ b s' j. run_comes src z t (suc n) s' h.1 j)

-- ---- from any source
abbrev Some : {S : Type 0} → S → ℕ → Type 0
Some s n = Unit {0}

any_step : {S : Type 0} (t : Took S) (n : ℕ) → Step Some (λ r. Unit {0}) n t
any_step (took b s) n = tt
any_step (refused r) n = tt

pub each_run : {S B A : Type 0} (src : Source S) {K : Bounds} {P : A → ℕ → Type 0} {n : ℕ} {t : Syn B A} → Each K P n t
    → (s : S) (a : A) (s' : S) → run src t s ≡ Out.ok a s' → (m : ℕ) × P a m
each_run src {K} {P} {n} {t} h s a s' q =
    let any : ℕ → Type 0 = λ r. Unit {0} in
    let z = subst (Comes K P Some any any) q (run_comes K P Some any any src steps t n s h.holds tt) in
    (z.0, z.2)
  where
    steps : Steps src Some (λ r. Unit {0}) (λ r. Unit {0})
    steps = record { at_bin = λ c s n i. any_step (src.on_bin c s) n; at_bypass = λ s n i. any_step (src.on_bypass s) n; at_align = λ s n i. any_step (src.on_align s) n }

-- ---- from a payload: no bin is missed, and 7 is an alignment's number alone
abbrev pub ByEngine : Bounds → ℕ → ℕ → Type 0
ByEngine K r m = Why K (λ r. ⊥) (λ r. r ≡ 7) r m

engine_steps : (l : List ℕ) → Steps (by_engine l) Some (λ r. ⊥) (λ r. r ≡ 7)
unfolding by_engine engine_bin engine_bypass engine_align
engine_steps l = record { at_bin = λ c s n i. tt; at_bypass = λ s n i. tt; at_align = λ s n i. go (ltb s.engine.offset 256) (record { engine = range_aligned s.engine; contexts = s.contexts }) n }
  where
    go : (d : Bool) (s : Reading) (n : ℕ) → Step Some (λ r. r ≡ 7) n (cond d (took false s) (refused 7))
    go true s n = tt
    go false s n = refl

pub each_refused : {B A : Type 0} (l : List ℕ) {K : Bounds} {P : A → ℕ → Type 0} {n : ℕ} {t : Syn B A} → Each K P n t
    → (s : Reading) (r : ℕ) (s' : Reading) → run (by_engine l) t s ≡ Out.no r s' → (m : ℕ) × ByEngine K r m
each_refused l {K} {P} {n} {t} h s r s' q =
    let z = subst (Comes K P Some (λ r. ⊥) (λ r. r ≡ 7)) q (run_comes K P Some (λ r. ⊥) (λ r. r ≡ 7) (by_engine l) (engine_steps l) t n s h.holds tt) in
    (z.0, z.2)

-- ---- from a list: its own number is 13, and the bins are the entries that were taken, two bytes each
abbrev pub ByList : Bounds → ℕ → ℕ → Type 0
ByList K r m = Why K (λ r. r ≡ 13) (λ r. r ≡ 13) r m

-- so many bytes with n bins before them
abbrev Left : ℕ → List ℕ → ℕ → Type 0
Left total l n = length l + 2 * n ≡ total

pick_step : (total : ℕ) (u v : Bool) (x y : ℕ) (l : List ℕ) (n : ℕ) → Left total (x ∷ y ∷ l) n → Step (Left total) (λ r. r ≡ 13) n (pick_bin u v (refused 13) (λ b. took b l))
unfolding pick_bin
pick_step total true v x y l n i = omega arith
pick_step total false true x y l n i = omega arith
pick_step total false false x y l n i = refl

bin_step : (total c : ℕ) (l : List ℕ) (n : ℕ) → Left total l n → Step (Left total) (λ r. r ≡ 13) n (list_bin c l)
unfolding list_bin bin_of
bin_step total c [] n i = refl
bin_step total c (x ∷ []) n i = refl
bin_step total c (x ∷ y ∷ l) n i = pick_step total (is_entry x y (tag c false)) (is_entry x y (tag c true)) x y l n i

align_step : (total : ℕ) (l : List ℕ) (n : ℕ) → Left total l n → Step (Left total) (λ r. r ≡ 13) n (list_align l)
unfolding list_align
align_step total [] n i = refl
align_step total (x ∷ []) n i = refl
align_step total (x ∷ y ∷ l) n i = go (is_entry x y align_tag)
  where
    go : (d : Bool) → Step (Left total) (λ r. r ≡ 13) n (cond d (took false l) (refused 13))
    go true = omega arith
    go false = refl

list_steps : (total : ℕ) → Steps by_list (Left total) (λ r. r ≡ 13) (λ r. r ≡ 13)
unfolding by_list
list_steps total = record { at_bin = λ c s n i. bin_step total c s n i; at_bypass = λ s n i. bin_step total bypass_no s n i; at_align = λ s n i. align_step total s n i }

module _ {B A : Type 0} {K : Bounds} {P : A → ℕ → Type 0} {n : ℕ} {t : Syn B A} (h : Each K P n t) (l : List ℕ) where
  list_comes : Comes K P (Left (length l + 2 * n)) (λ r. r ≡ 13) (λ r. r ≡ 13) (run by_list t l)
  list_comes = run_comes K P (Left (length l + 2 * n)) (λ r. r ≡ 13) (λ r. r ≡ 13) by_list (list_steps (length l + 2 * n)) t n l h.holds refl

  pub each_list : (a : A) (l' : List ℕ) → run by_list t l ≡ Out.ok a l' → (m : ℕ) × (length l' + 2 * m ≡ length l + 2 * n) × P a m
  each_list a l' q = subst (Comes K P (Left (length l + 2 * n)) (λ r. r ≡ 13) (λ r. r ≡ 13)) q list_comes

  pub each_list_refused : (r : ℕ) (l' : List ℕ) → run by_list t l ≡ Out.no r l' → (m : ℕ) × (length l' + 2 * m ≡ length l + 2 * n) × ByList K r m
  each_list_refused r l' q = subst (Comes K P (Left (length l + 2 * n)) (λ r. r ≡ 13) (λ r. r ≡ 13)) q list_comes

-- ---- what is written
abbrev Wrote : {A : Type 0} → Bounds → (A → ℕ → Type 0) → ℕ → Written A → Type 0
Wrote K P n (Written.ok a l) = (m : ℕ) × (length l + 2 * n ≡ 2 * m) × P a m
Wrote K P n (Written.no r) = (m : ℕ) × K.stops r m

module _ {A : Type 0} (K : Bounds) (P : A → ℕ → Type 0) where
  also_wrote : (e n : ℕ) (o : Written A) → Wrote K P (suc n) o → Wrote K P n (also e o)
  unfolding also
  also_wrote e n (Written.ok a l) h = (h.0, omega (arith, h.1), h.2)
  also_wrote e n (Written.no r) h = h

  write_comes : {B : Type 0} (t : Syn B A) (n : ℕ) (b : B) → Every K P n t → Wrote K P n (write t b)
  unfolding write
  write_comes (done a) n b h = (n, omega arith, h)
  write_comes (stop r) n b h = (n, h)
  write_comes (bin c w k) n b h = also_wrote (tag c (w b)) n (write (k (w b)) b) (write_comes (k (w b)) (suc n) b (h.1 (w b)))
  write_comes (bypass w k) n b h = also_wrote (tag bypass_no (w b)) n (write (k (w b)) b) (write_comes (k (w b)) (suc n) b (h (w b)))
  write_comes (align t) n b h = also_wrote align_tag n (write t b) (write_comes t (suc n) b h.1)

module _ {B A : Type 0} {K : Bounds} {P : A → ℕ → Type 0} {n : ℕ} {t : Syn B A} (h : Each K P n t) (b : B) where
  pub each_written : (a : A) (l : List ℕ) → write t b ≡ Written.ok a l → (m : ℕ) × (length l + 2 * n ≡ 2 * m) × P a m
  each_written a l q = subst (Wrote K P n) q (write_comes K P t n b h.holds)

  pub each_unwritten : (r : ℕ) → write t b ≡ Written.no r → (m : ℕ) × K.stops r m
  each_unwritten r q = subst (Wrote K P n) q (write_comes K P t n b h.holds)
