-- One judgement on trees. Each K P n t says of tree t, before which n bins were read, what holds on every way through it: of each answer, with the bins
-- read by then, P; and by the bounds K of each number that it stops by, of each alignment and of each context's number. It follows the shape of the tree
-- and looks at no source; Reached carries it to the runs of each source. Whoever does not ask about a part has it for nothing: P and K need not look at
-- the bins, and Free asks nothing. Assumes nothing.
use Prim.Native.Nat.{ℕ, zero, suc, ◌+◌, ◌*◌, ◌/◌, ◌^◌, ◌≤◌, ◌<◌}
use Rattle.std.specs.Prelude.{◌≡◌, refl, Bool}
use Rattle.std.proofs.Math.Bool.{true, false}
use native.Mathlib.Omega.{arith}
use Rattle.std.proofs.Math.Nat.{pow-suc}
use Rattle.bins.specs.Engine.{bit_no}
use Rattle.bins.specs.Syn.{Syn, done, stop, bin, bypass, align, ◌>>=◌}
use Rattle.bins.specs.Readers.{flag_if, bits_s, ones_s, prefix_s}

-- what is asked beside the answers
pub record Bounds : Type 1 where
  pub stops : ℕ → ℕ → Type 0  -- of a number that is stopped by, and the bins read by then
  pub aligns : ℕ → Type 0  -- of the bins read by an alignment of the range
  pub contexts : ℕ → Type 0  -- of a context's number

-- nothing is asked
abbrev pub Free : Bounds
Free = record { stops = λ r n. Unit {0}; aligns = λ n. Unit {0}; contexts = λ c. Unit {0} }

abbrev pub Any : {A : Type 0} → A → ℕ → Type 0
Any a n = Unit {0}

-- an alignment counts as a bin, as it is an entry of a list
abbrev pub Every : {B A : Type 0} → Bounds → (A → ℕ → Type 0) → ℕ → Syn B A → Type 0
Every K P n (done a) = P a n
Every K P n (stop r) = K.stops r n
Every K P n (bin c w k) = K.contexts c × ((b : Bool) → Every K P (suc n) (k b))
Every K P n (bypass w k) = (b : Bool) → Every K P (suc n) (k b)
Every K P n (align t) = K.aligns n × Every K P (suc n) t

every_bind : {B A C : Type 0} (K : Bounds) (P : A → ℕ → Type 0) (Q : C → ℕ → Type 0) (n : ℕ) (t : Syn B A) (f : A → Syn B C) → Every K P n t
    → ((a : A) (m : ℕ) → P a m → Every K Q m (f a)) → Every K Q n (t >>= f)
unfolding ◌>>=◌
every_bind K P Q n (done a) f h g = g a n h
every_bind K P Q n (stop r) f h g = h
every_bind K P Q n (bin c w k) f h g = (h.0, λ b. every_bind K P Q (suc n) (k b) f (h.1 b) g)
every_bind K P Q n (bypass w k) f h g = λ b. every_bind K P Q (suc n) (k b) f (h b) g
every_bind K P Q n (align t) f h g = (h.0, every_bind K P Q (suc n) t f h.1 g)

-- bounds that ask less
pub record Wider (K L : Bounds) : Type 0 where
  pub stops : (r n : ℕ) → K.stops r n → L.stops r n
  pub aligns : (n : ℕ) → K.aligns n → L.aligns n
  pub contexts : (c : ℕ) → K.contexts c → L.contexts c

every_as : {B A : Type 0} (K L : Bounds) → Wider K L → (P Q : A → ℕ → Type 0) (n : ℕ) (t : Syn B A) → Every K P n t → ((a : A) (m : ℕ) → P a m → Q a m) → Every L Q n t
every_as K L v P Q n (done a) h f = f a n h
every_as K L v P Q n (stop r) h f = v.stops r n h
every_as K L v P Q n (bin c w k) h f = (v.contexts c h.0, λ b. every_as K L v P Q (suc n) (k b) (h.1 b) f)
every_as K L v P Q n (bypass w k) h f = λ b. every_as K L v P Q (suc n) (k b) (h b) f
every_as K L v P Q n (align t) h f = (v.aligns n h.0, every_as K L v P Q (suc n) t h.1 f)

-- ---- the rules, one for each shape
pub record Each {B A : Type 0} (K : Bounds) (P : A → ℕ → Type 0) (n : ℕ) (t : Syn B A) : Type 0 where
  pub holds : Every K P n t

module _ {B A : Type 0} {K : Bounds} {P : A → ℕ → Type 0} {n : ℕ} where
  pub each_done : {a : A} → P a n → Each {B = B} K P n (done a)
  each_done h = record { holds = h }

  pub each_stop : {r : ℕ} → K.stops r n → Each {B = B} K P n (stop r)
  each_stop h = record { holds = h }

  pub each_bin : {c : ℕ} {w : B → Bool} {k : Bool → Syn B A} → K.contexts c → ((b : Bool) → Each K P (suc n) (k b)) → Each K P n (bin c w k)
  each_bin z h = record { holds = (z, λ b. (h b).holds) }

  pub each_bypass : {w : B → Bool} {k : Bool → Syn B A} → ((b : Bool) → Each K P (suc n) (k b)) → Each K P n (bypass w k)
  each_bypass h = record { holds = λ b. (h b).holds }

  pub each_align : {t : Syn B A} → K.aligns n → Each K P (suc n) t → Each K P n (align t)
  each_align z h = record { holds = (z, h.holds) }

  pub each_bind : {C : Type 0} {U : C → ℕ → Type 0} {t : Syn B C} {f : C → Syn B A} → Each K U n t → ((a : C) (m : ℕ) → U a m → Each K P m (f a)) → Each K P n (t >>= f)
  each_bind {U = U} {t = t} {f = f} h g = record { holds = every_bind K U P n t f h.holds (λ a m u. (g a m u).holds) }

  pub each_if : (d : Bool) {x y : Syn B A} → (d ≡ true → Each K P n x) → (d ≡ false → Each K P n y) → Each {B = B} K P n (elim d [ true ↦ x | false ↦ y ])
  each_if true f g = f refl
  each_if false f g = g refl

  -- the range is aligned first, or not
  pub each_aligned : (d : Bool) {t : Syn B A} → (d ≡ true → K.aligns n) → ((m : ℕ) → n ≤ m → m ≤ n + 1 → Each K P m t) → Each {B = B} K P n (elim d [ true ↦ align t | false ↦ t ])
  each_aligned true f g = each_align (f refl) (g (suc n) (omega arith) (omega arith))
  each_aligned false f g = g n (omega arith) (omega arith)

  pub each_as : {U : A → ℕ → Type 0} {t : Syn B A} → Each K U n t → ((a : A) (m : ℕ) → U a m → P a m) → Each K P n t
  each_as {U = U} {t = t} h f =
      record { holds = every_as K K (record { stops = λ r n z. z; aligns = λ n z. z; contexts = λ c z. z }) U P n t h.holds f }

  pub each_wider : {J : Bounds} {t : Syn B A} → Wider J K → Each J P n t → Each K P n t
  each_wider {J = J} {t = t} v h = record { holds = every_as J K v P P n t h.holds (λ a m u. u) }

-- ---- small trees
-- what is counted from g on, at most i times
pub record Counted (g i n x m : ℕ) : Type 0 where
  pub from : g ≤ x
  pub upto : x ≤ g + i
  pub bins : m ≤ n + i

module _ {B : Type 0} {K : Bounds} where
  -- a flag that is not coded is false
  pub flag_each : {n : ℕ} (d : Bool) (c : ℕ) (w : B → Bool) → K.contexts c → Each {B = B} K (λ b m. (d ≡ false → b ≡ false) × (m ≤ n + 1)) n (flag_if d c w)
  flag_each true c w h = each_bin h (λ b. each_done (λ q. other q, omega arith))
    where
      other : {X : Type 0} → true ≡ false → X
      other q = let z : ◌≡◌ {A = ℕ} 0 1 = cc in absurd (omega arith)
  flag_each false c w h = each_done (λ q. refl, omega arith)

  pub bits_each : {n : ℕ} (i v : ℕ) (w : B → ℕ) → Each {B = B} K (λ x m. (x < (v + 1) * 2 ^ i) × (m ≡ n + i)) n (bits_s i v w)
  unfolding bits_s
  bits_each zero v w = each_done (omega arith, omega arith)
  bits_each (suc i) v w = each_bypass (λ b. each_as (bits_each i (v * 2 + bit_no b) w) (λ x m u. (less b x u.0, omega (arith, u.1))))
    where
      less : (b : Bool) (x : ℕ) → x < (v * 2 + bit_no b + 1) * 2 ^ i → x < (v + 1) * 2 ^ suc i
      less true x h = rw pow-suc (omega arith)
      less false x h = rw pow-suc (omega arith)

  pub ones_each : {n : ℕ} (i g : ℕ) (w : ℕ → B → Bool) → Each {B = B} K (Counted g i n) n (ones_s i g w)
  unfolding ones_s
  ones_each zero g w = each_done (record { from = omega arith; upto = omega arith; bins = omega arith })
  ones_each (suc i) g w =
      each_bypass (λ b. each_if b
      (λ q. each_as (ones_each i (suc g) w) (λ x m u. record { from = omega (arith, u.from); upto = omega (arith, u.upto); bins = omega (arith, u.bins) }))
      (λ q. each_done (record { from = omega arith; upto = omega arith; bins = omega arith })))

  pub prefix_each : {n : ℕ} (base sh i g : ℕ) (w : ℕ → B → Bool) → ((j : ℕ) → g ≤ j → j < g + i → K.contexts (base + j / 2 ^ sh)) → Each {B = B} K (Counted g i n) n (prefix_s base sh i g w)
  unfolding prefix_s
  prefix_each base sh zero g w h = each_done (record { from = omega arith; upto = omega arith; bins = omega arith })
  prefix_each base sh (suc i) g w h =
      each_bin (h g (omega arith) (omega arith)) (λ b. each_if b
      (λ q. each_as (prefix_each base sh i (suc g) w (λ j k l. h j (omega arith) (omega arith)))
      (λ x m u. record { from = omega (arith, u.from); upto = omega (arith, u.upto); bins = omega (arith, u.bins) }))
      (λ q. each_done (record { from = omega arith; upto = omega arith; bins = omega arith })))
