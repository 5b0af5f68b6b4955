-- The small trees, exact: what each can be read as, and that writing what is wanted comes to it. Assumes nothing.
use Prim.Native.Nat.{ℕ, zero, suc, ◌+◌, ◌*◌, ◌/◌, ◌%◌, ◌^◌, ◌≤◌, ◌<◌}
use Rattle.std.specs.Prelude.{◌≡◌, refl, Bool, ◌||◌, List, [], ◌∷◌, leb, eqb}
use Rattle.std.proofs.Common.{sym, ◌∙◌, mul_comm, mod-lt, mod-eq_of_lt}
use Rattle.std.proofs.Math.Path.{ap}
use Rattle.std.proofs.Math.Bool.{true, false}
use native.Mathlib.Omega.{arith}
use Rattle.std.proofs.Math.Nat.{pow-suc}
use Rattle.std.proofs.Math.Pow.{pow_pos}
use Rattle.std.proofs.Math.Arith.{mod-mul}
use borrow.Author.Tests.{leb-true, leb-false, le-leb, lt-leb}
use Rattle.bins.specs.Engine.{bit_no}
use Rattle.bins.specs.Tags.{tag, bypass_no, entry}
use Rattle.bins.specs.Syn.{Syn, done, Written, also, write}
use Rattle.bins.specs.Readers.{odd, flag_if, bits_s, ones_s, prefix_s}
use Rattle.trees.specs.TreeLaws.{Writes, writes_done, writes_bin, writes_bypass, Exact, exact_done, exact_bin, exact_bypass, exact_as}

pub clash : {A : Type 0} {d : Bool} → d ≡ false → d ≡ true → A
clash p q = let z : ◌≡◌ {A = ℕ} 0 1 = let t : true ≡ false = cc in cc in absurd (omega arith)

pub both_off : (a b : Bool) → a ≡ false → b ≡ false → (a || b) ≡ false
both_off a b p q = rw (p, q)

pub or_false : (a b : Bool) → (a || b) ≡ false → (a ≡ false) × (b ≡ false)
or_false true b e = clash e refl
or_false false b e = (refl, e)

-- ---- a choice between two trees
module _ {B A : Type 0} {b : B} {x y : Syn B A} where
  pub writes_if : {Q : A → Type 0} (d : Bool) → (d ≡ true → Writes x b Q) → (d ≡ false → Writes y b Q)
      → Writes (elim d [ true ↦ x | false ↦ y ]) b Q
  writes_if true f g = f refl
  writes_if false f g = g refl

  pub exact_if : {G Q : A → Type 0} (d : Bool) → (d ≡ true → Exact x b G Q) → (d ≡ false → Exact y b G Q)
      → Exact (elim d [ true ↦ x | false ↦ y ]) b G Q
  exact_if true f g = f refl
  exact_if false f g = g refl

-- ---- a flag where it is coded
module _ {B : Type 0} (n : ℕ) (w : B → Bool) (b : B) where
  pub flag_writes : (c : Bool) → (w b ≡ true → c ≡ true) → Writes (flag_if c n w) b (λ a. a ≡ w b)
  flag_writes true h = writes_bin (writes_done refl)
  flag_writes false h = go (w b) h
    where
      go : (d : Bool) → (d ≡ true → false ≡ true) → Writes (done false) b (λ a. a ≡ d)
      go false h = writes_done refl
      go true h = writes_done (h refl)

  pub flag_exact : (c : Bool) → Exact (flag_if c n w) b (λ a. a ≡ true → c ≡ true) (λ a. a ≡ w b)
  flag_exact true = exact_bin (λ d. exact_done ((λ e. refl), λ e. sym e))
  flag_exact false = exact_done (λ e. e)

  -- the same where what is wanted says something only if the flag is coded
  pub flag_writes_if : (c : Bool) → Writes (flag_if c n w) b (λ a. (a ≡ true → c ≡ true) × (c ≡ true → a ≡ w b))
  flag_writes_if true = writes_bin (writes_done ((λ e. refl), λ e. refl))
  flag_writes_if false = writes_done ((λ e. e), λ e. clash refl e)

  pub flag_exact_if : (c : Bool) → Exact (flag_if c n w) b (λ a. a ≡ true → c ≡ true) (λ a. c ≡ true → a ≡ w b)
  flag_exact_if true = exact_bin (λ d. exact_done ((λ e. refl), λ e. sym (e refl)))
  flag_exact_if false = exact_done (λ e. e)

-- ---- a number in n bypass bins
pub bit_is : (k : ℕ) → k < 2 → bit_no (eqb k 1) ≡ k
bit_is zero h = refl
bit_is (suc zero) h = refl
bit_is (suc (suc k)) h = absurd (omega arith)

high_bit : (x n : ℕ) → bit_no (odd (x / 2 ^ n)) * 2 ^ n + x % 2 ^ n ≡ x % 2 ^ suc n
high_bit x n =
    let b : bit_no (odd (x / 2 ^ n)) ≡ x / 2 ^ n % 2 = bit_is (x / 2 ^ n % 2) (mod-lt (x / 2 ^ n) (omega arith)) in
    let s : 2 ^ suc n ≡ 2 * 2 ^ n = pow-suc 2 n ∙ mul_comm (2 ^ n) 2 in
    rw (b, s) (sym (mod-mul x {m = 2} (omega arith) (pow_pos n)))

-- bins written for w, read as a number behind v
bits_written : {B : Type 0} (n v : ℕ) (w : B → ℕ) (t : B) → (l : List ℕ) × (write (bits_s n v w) t ≡ Written.ok (v * 2 ^ n + w t % 2 ^ n) l)
unfolding write bits_s
bits_written zero v w t = ([], ap (λ z. Written.ok z []) (omega arith))
bits_written (suc n) v w t =
    let d = odd (w t / 2 ^ n) in
    let s = bits_written n (v * 2 + bit_no d) w t in
    let q : (v * 2 + bit_no d) * 2 ^ n + w t % 2 ^ n ≡ v * 2 ^ suc n + w t % 2 ^ suc n =
    omega (arith, high_bit (w t) n, ap (λ z. v * z) (pow-suc 2 n)) in
    (entry (tag bypass_no d) s.0, ap (also (tag bypass_no d)) s.1 ∙ ap (λ z. Written.ok z (entry (tag bypass_no d) s.0)) q)

pub same_bit : (c d : Bool) (p x y : ℕ) → x < p → y < p → bit_no c * p + x ≡ bit_no d * p + y → (c ≡ d) × (x ≡ y)
same_bit true true p x y h k e = (refl, omega arith)
same_bit true false p x y h k e = absurd (omega arith)
same_bit false true p x y h k e = absurd (omega arith)
same_bit false false p x y h k e = (refl, omega arith)

pub bit_fits : (d : Bool) (p x : ℕ) → x < p → bit_no d * p + x < p * 2
bit_fits true p x h = omega arith
bit_fits false p x h = omega arith

module _ {B : Type 0} (w : B → ℕ) (b : B) where
  pub bits_writes : (n : ℕ) → w b < 2 ^ n → Writes (bits_s n 0 w) b (λ a. a ≡ w b)
  bits_writes n h =
      let s = bits_written n 0 w b in
      record { answer = 0 * 2 ^ n + w b % 2 ^ n; bins = s.0; wrote = s.1; holds = omega (arith, mod-eq_of_lt h) }

  -- behind v
  bits_from_lem : (n v : ℕ) → Exact (bits_s n v w) b (λ a. (x : ℕ) × (x < 2 ^ n) × (a ≡ v * 2 ^ n + x)) (λ a. a ≡ v * 2 ^ n + w b % 2 ^ n)
  unfolding bits_s
  bits_from_lem zero v = exact_done (0, pow_pos 0, omega arith)
  bits_from_lem (suc n) v = exact_bypass (λ d. exact_as (bits_from_lem n (v * 2 + bit_no d)) (λ a g.
      let x = g.0 in
      let p : 2 ^ suc n ≡ 2 ^ n * 2 = pow-suc 2 n in
      let vp : v * 2 ^ suc n ≡ v * (2 ^ n * 2) = ap (λ z. v * z) p in
      let e : a ≡ v * 2 ^ suc n + (bit_no d * 2 ^ n + x) = omega (arith, g.2, vp) in
      let same : a ≡ v * 2 ^ suc n + w b % 2 ^ suc n → (odd (w b / 2 ^ n) ≡ d) × (w b % 2 ^ n ≡ x) = λ q.
      same_bit (odd (w b / 2 ^ n)) d (2 ^ n) (w b % 2 ^ n) x (mod-lt (w b) (pow_pos n)) g.1 (omega (arith, high_bit (w b) n)) in
      (((bit_no d * 2 ^ n + x, rw p (bit_fits d (2 ^ n) x g.1), e), λ q. (same q).0), λ q. omega (arith, g.2, (same q).1))))

  pub bits_exact : (n : ℕ) → Exact (bits_s n 0 w) b (λ a. a < 2 ^ n) (λ a. a ≡ w b)
  bits_exact n = exact_as (bits_from_lem n 0) (λ a g. (
    omega (arith, g.1, g.2),
    λ q. let h : w b < 2 ^ n = omega (arith, g.1, g.2) in omega (arith, mod-eq_of_lt h),
  ))

-- ---- ones, each wanted while a rising bound is reached: the count a with f a ≤ v < f (a + 1), or the greatest
abbrev pub Rising : (ℕ → ℕ) → ℕ → Type 0
Rising f top = (i j : ℕ) → i ≤ j → j ≤ top → f i ≤ f j

pub record Group (f : ℕ → ℕ) (top v a : ℕ) : Type 0 where
  pub upto : a ≤ top
  pub under : f a ≤ v
  pub over : a < top → v < f (suc a)

module _ {B : Type 0} (f : ℕ → ℕ) (top : ℕ) (v : B → ℕ) (b : B) where
  ones_writes_from : (n g : ℕ) → g + n ≡ top → f g ≤ v b → Writes (ones_s n g (λ g t. leb (f (suc g)) (v t))) b (Group f top (v b))
  unfolding ones_s
  ones_writes_from zero g e h = writes_done (record { upto = omega arith; under = h; over = λ k. absurd (omega arith) })
  ones_writes_from (suc n) g e h = writes_bypass (writes_if (leb (f (suc g)) (v b))
      (λ q. ones_writes_from n (suc g) (omega arith) (leb-true (f (suc g)) (v b) q))
      (λ q. writes_done (record { upto = omega arith; under = h; over = λ k. leb-false (f (suc g)) (v b) q })))

  prefix_writes_from : (base sh n g : ℕ) → g + n ≡ top → f g ≤ v b
      → Writes (prefix_s base sh n g (λ g t. leb (f (suc g)) (v t))) b (Group f top (v b))
  unfolding prefix_s
  prefix_writes_from base sh zero g e h = writes_done (record { upto = omega arith; under = h; over = λ k. absurd (omega arith) })
  prefix_writes_from base sh (suc n) g e h = writes_bin (writes_if (leb (f (suc g)) (v b))
      (λ q. prefix_writes_from base sh n (suc g) (omega arith) (leb-true (f (suc g)) (v b) q))
      (λ q. writes_done (record { upto = omega arith; under = h; over = λ k. leb-false (f (suc g)) (v b) q })))

  pub ones_writes : f 0 ≤ v b → Writes (ones_s top 0 (λ g t. leb (f (suc g)) (v t))) b (Group f top (v b))
  ones_writes h = ones_writes_from top 0 (omega arith) h

  pub prefix_writes : (base sh : ℕ) → f 0 ≤ v b → Writes (prefix_s base sh top 0 (λ g t. leb (f (suc g)) (v t))) b (Group f top (v b))
  prefix_writes base sh h = prefix_writes_from base sh top 0 (omega arith) h

  module _ (up : Rising f top) where
    ones_exact_from : (n g : ℕ) → g + n ≡ top
        → Exact (ones_s n g (λ g t. leb (f (suc g)) (v t))) b (λ a. (g ≤ a) × (a ≤ top)) (Group f top (v b))
    unfolding ones_s
    ones_exact_from zero g e = exact_done (omega arith, omega arith)
    ones_exact_from (suc n) g e = exact_bypass (λ d. elim d as (λ x. Exact (elim x [ true ↦ ones_s n (suc g) (λ g t. leb (f (suc g)) (v t)) | false ↦ done g ]) b (λ a. ((g ≤ a) × (a ≤ top)) × (Group f top (v b) a → leb (f (suc g)) (v b) ≡ x)) (Group f top (v b))) [
      | true ↦ exact_as (ones_exact_from n (suc g) (omega arith)) (λ a h.
          (((omega arith, h.1), λ q. le-leb (f (suc g)) (v b) (omega (arith, up (suc g) a h.0 h.1, q.under))), λ q. q))
      | false ↦ exact_done ((omega arith, omega arith), λ q. lt-leb (f (suc g)) (v b) (q.over (omega arith)))
    ])

    prefix_exact_from : (base sh n g : ℕ) → g + n ≡ top
        → Exact (prefix_s base sh n g (λ g t. leb (f (suc g)) (v t))) b (λ a. (g ≤ a) × (a ≤ top)) (Group f top (v b))
    unfolding prefix_s
    prefix_exact_from base sh zero g e = exact_done (omega arith, omega arith)
    prefix_exact_from base sh (suc n) g e = exact_bin (λ d. elim d as (λ x. Exact (elim x [ true ↦ prefix_s base sh n (suc g) (λ g t. leb (f (suc g)) (v t)) | false ↦ done g ]) b (λ a. ((g ≤ a) × (a ≤ top)) × (Group f top (v b) a → leb (f (suc g)) (v b) ≡ x)) (Group f top (v b))) [
      | true ↦ exact_as (prefix_exact_from base sh n (suc g) (omega arith)) (λ a h.
          (((omega arith, h.1), λ q. le-leb (f (suc g)) (v b) (omega (arith, up (suc g) a h.0 h.1, q.under))), λ q. q))
      | false ↦ exact_done ((omega arith, omega arith), λ q. lt-leb (f (suc g)) (v b) (q.over (omega arith)))
    ])

    pub ones_exact : Exact (ones_s top 0 (λ g t. leb (f (suc g)) (v t))) b (λ a. a ≤ top) (Group f top (v b))
    ones_exact = exact_as (ones_exact_from top 0 (omega arith)) (λ a h. (h.1, λ q. q))

    pub prefix_exact : (base sh : ℕ) → Exact (prefix_s base sh top 0 (λ g t. leb (f (suc g)) (v t))) b (λ a. a ≤ top) (Group f top (v b))
    prefix_exact base sh = exact_as (prefix_exact_from base sh top 0 (omega arith)) (λ a h. (h.1, λ q. q))
