-- The one way that a writer takes through a tree for what is wanted, b: Way b P n t says of each answer there, with the bins written by then, that P holds,
-- n bins having been written before. What holds on every way (Each) holds on this one. Assumes nothing.
use Rattle.std.specs.Prelude.{ℕ, zero, suc, ◌+◌, ◌*◌, ◌≤◌, ◌<◌, ◌≡◌, refl, Bool, true, false, List, length, eqb}
use Rattle.std.proofs.Common.{subst, eqb-true}
use native.Mathlib.Omega.{arith}
use Rattle.std.proofs.lemmas.Bool.{eqb-false}
use Rattle.bins.specs.Tags.{tag, bypass_no, align_tag}
use Rattle.bins.specs.Syn.{Syn, done, stop, bin, bypass, align, ◌>>=◌, Written, also, write}
use Rattle.bins.specs.Readers.{ones_s}
use Rattle.trees.specs.Every.{Bounds, Every, Each}

abbrev pub Along : {B A : Type 0} → B → (A → ℕ → Type 0) → ℕ → Syn B A → Type 0
Along b P n (done a) = P a n
Along b P n (stop r) = Unit {0}
Along b P n (bin c w k) = Along b P (suc n) (k (w b))
Along b P n (bypass w k) = Along b P (suc n) (k (w b))
Along b P n (align t) = Along b P (suc n) t

along_bind : {B A C : Type 0} (b : B) (P : A → ℕ → Type 0) (Q : C → ℕ → Type 0) (n : ℕ) (t : Syn B A) (f : A → Syn B C) → Along b P n t
    → ((a : A) (m : ℕ) → P a m → Along b Q m (f a)) → Along b Q n (t >>= f)
unfolding ◌>>=◌
along_bind b P Q n (done a) f h g = g a n h
along_bind b P Q n (stop r) f h g = tt
along_bind b P Q n (bin c w k) f h g = along_bind b P Q (suc n) (k (w b)) f h g
along_bind b P Q n (bypass w k) f h g = along_bind b P Q (suc n) (k (w b)) f h g
along_bind b P Q n (align t) f h g = along_bind b P Q (suc n) t f h g

along_as : {B A : Type 0} (b : B) (P Q : A → ℕ → Type 0) (n : ℕ) (t : Syn B A) → Along b P n t → ((a : A) (m : ℕ) → P a m → Q a m) → Along b Q n t
along_as b P Q n (done a) h f = f a n h
along_as b P Q n (stop r) h f = tt
along_as b P Q n (bin c w k) h f = along_as b P Q (suc n) (k (w b)) h f
along_as b P Q n (bypass w k) h f = along_as b P Q (suc n) (k (w b)) h f
along_as b P Q n (align t) h f = along_as b P Q (suc n) t h f

along_both : {B A : Type 0} (b : B) (P Q : A → ℕ → Type 0) (n : ℕ) (t : Syn B A) → Along b P n t → Along b Q n t → Along b (λ a m. P a m × Q a m) n t
along_both b P Q n (done a) h k = (h, k)
along_both b P Q n (stop r) h k = tt
along_both b P Q n (bin c w f) h k = along_both b P Q (suc n) (f (w b)) h k
along_both b P Q n (bypass w f) h k = along_both b P Q (suc n) (f (w b)) h k
along_both b P Q n (align t) h k = along_both b P Q (suc n) t h k

every_along : {B A : Type 0} (K : Bounds) (b : B) (P : A → ℕ → Type 0) (n : ℕ) (t : Syn B A) → Every K P n t → Along b P n t
every_along K b P n (done a) h = h
every_along K b P n (stop r) h = tt
every_along K b P n (bin c w k) h = every_along K b P (suc n) (k (w b)) (h.1 (w b))
every_along K b P n (bypass w k) h = every_along K b P (suc n) (k (w b)) (h (w b))
every_along K b P n (align t) h = every_along K b P (suc n) t h.1

-- ---- the rules, one for each shape
pub record Way {B A : Type 0} (b : B) (P : A → ℕ → Type 0) (n : ℕ) (t : Syn B A) : Type 0 where
  pub holds : Along b P n t

module _ {B A : Type 0} {b : B} {P : A → ℕ → Type 0} {n : ℕ} where
  pub way_done : {a : A} → P a n → Way b P n (done a)
  way_done h = record { holds = h }

  pub way_stop : {r : ℕ} → Way b P n (stop r)
  way_stop = record { holds = tt }

  pub way_bin : {c : ℕ} {w : B → Bool} {k : Bool → Syn B A} → Way b P (suc n) (k (w b)) → Way b P n (bin c w k)
  way_bin h = record { holds = h.holds }

  pub way_bypass : {w : B → Bool} {k : Bool → Syn B A} → Way b P (suc n) (k (w b)) → Way b P n (bypass w k)
  way_bypass h = record { holds = h.holds }

  pub way_bind : {C : Type 0} {U : C → ℕ → Type 0} {t : Syn B C} {f : C → Syn B A} → Way b U n t → ((a : C) (m : ℕ) → U a m → Way b P m (f a)) → Way b P n (t >>= f)
  way_bind {U = U} {t = t} {f = f} h g = record { holds = along_bind b U P n t f h.holds (λ a m u. (g a m u).holds) }

  pub way_if : (d : Bool) {x y : Syn B A} → (d ≡ true → Way b P n x) → (d ≡ false → Way b P n y) → Way b P n (elim d [ true ↦ x | false ↦ y ])
  way_if true f g = f refl
  way_if false f g = g refl

  pub way_aligned : (d : Bool) {t : Syn B A} → ((m : ℕ) → m ≤ n + 1 → Way b P m t) → Way b P n (elim d [ true ↦ align t | false ↦ t ])
  way_aligned true g = record { holds = (g (suc n) (omega arith)).holds }
  way_aligned false g = g n (omega arith)

  pub way_as : {U : A → ℕ → Type 0} {t : Syn B A} → Way b U n t → ((a : A) (m : ℕ) → U a m → P a m) → Way b P n t
  way_as {U = U} {t = t} h f = record { holds = along_as b U P n t h.holds f }

  pub way_both : {U : A → ℕ → Type 0} {t : Syn B A} → Way b P n t → Way b U n t → Way b (λ a m. P a m × U a m) n t
  way_both {U = U} {t = t} h k = record { holds = along_both b P U n t h.holds k.holds }

  pub each_way : {K : Bounds} {t : Syn B A} → Each K P n t → Way b P n t
  each_way {K = K} {t = t} h = record { holds = every_along K b P n t h.holds }

-- ---- ones: x of them counted on from g, and behind the last the zero if there is one
pub record Ones {B : Type 0} (b : B) (i g n : ℕ) (w : ℕ → B → Bool) (x m : ℕ) : Type 0 where
  pub from : g ≤ x
  pub upto : x ≤ g + i
  pub bins : m + g ≤ n + x + 1
  pub most : m ≤ n + i
  pub last : (j : ℕ) → g ≤ j → suc j ≡ x → w j b ≡ true

pub ones_way : {B : Type 0} (b : B) {n : ℕ} (i g : ℕ) (w : ℕ → B → Bool) → Way b (Ones b i g n w) n (ones_s i g w)
unfolding ones_s
ones_way b zero g w = way_done (record { from = omega arith; upto = omega arith; bins = omega arith; most = omega arith; last = λ j h e. absurd (omega arith) })
ones_way b {n} (suc i) g w = way_bypass (go (w g b) refl (λ q. ones_way b i (suc g) w))
  where
    last_one : (x : ℕ) → w g b ≡ true → ((j : ℕ) → suc g ≤ j → suc j ≡ x → w j b ≡ true) → (j : ℕ) → g ≤ j → suc j ≡ x → w j b ≡ true
    last_one x q f j h e = pick (eqb j g) refl
      where
        pick : (d : Bool) → eqb j g ≡ d → w j b ≡ true
        pick true z = subst (λ y. w y b ≡ true) (omega (arith, eqb-true j g z)) q
        pick false z = f j (omega (arith, eqb-false j g z)) e

    go : (d : Bool) → w g b ≡ d → (d ≡ true → Way b (Ones b i (suc g) (suc n) w) (suc n) (ones_s i (suc g) w))
        → Way b (Ones b (suc i) g n w) (suc n) (elim d [ true ↦ ones_s i (suc g) w | false ↦ done g ])
    go true q more =
        way_as (more refl) (λ x m u. record {
          from = omega (arith, u.from);
          upto = omega (arith, u.upto);
          bins = omega (arith, u.bins);
          most = omega (arith, u.most);
          last = last_one x q u.last;
        })
    go false q more = way_done (record { from = omega arith; upto = omega arith; bins = omega arith; most = omega arith; last = λ j h e. absurd (omega arith) })

-- ---- what is written
abbrev Wrote : {A : Type 0} → (A → ℕ → Type 0) → ℕ → Written A → Type 0
Wrote P n (Written.ok a l) = (m : ℕ) × (length l + 2 * n ≡ 2 * m) × P a m
Wrote P n (Written.no r) = Unit {0}

module _ {A : Type 0} (P : A → ℕ → Type 0) where
  also_wrote : (e n : ℕ) (o : Written A) → Wrote P (suc n) o → Wrote P n (also e o)
  unfolding also
  also_wrote e n (Written.ok a l) h = (h.0, omega (arith, h.1), h.2)
  also_wrote e n (Written.no r) h = tt

  write_along : {B : Type 0} (t : Syn B A) (n : ℕ) (b : B) → Along b P n t → Wrote P n (write t b)
  unfolding write
  write_along (done a) n b h = (n, omega arith, h)
  write_along (stop r) n b h = tt
  write_along (bin c w k) n b h = also_wrote (tag c (w b)) n (write (k (w b)) b) (write_along (k (w b)) (suc n) b h)
  write_along (bypass w k) n b h = also_wrote (tag bypass_no (w b)) n (write (k (w b)) b) (write_along (k (w b)) (suc n) b h)
  write_along (align t) n b h = also_wrote align_tag n (write t b) (write_along t (suc n) b h)

pub way_written : {B A : Type 0} {b : B} {P : A → ℕ → Type 0} {n : ℕ} {t : Syn B A} → Way b P n t → (a : A) (l : List ℕ) → write t b ≡ Written.ok a l
    → (m : ℕ) × (length l + 2 * n ≡ 2 * m) × P a m
way_written {b = b} {P = P} {n = n} {t = t} h a l q = subst (Wrote P n) q (write_along P t n b h.holds)
