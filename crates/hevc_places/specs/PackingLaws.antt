-- Packed places and masks: one more element behind the others, the first taken off, each by its number, the last, how many bins are 1.
-- Assumes nothing.
use Rattle.std.specs.Prelude.{ℕ, zero, suc, ◌+◌, ◌*◌, ◌/◌, ◌%◌, ◌^◌, ◌≤◌, ◌<◌, ◌≡◌, refl, Bool, true, false, cond, [], ◌∷◌, ◌++◌, length, get_or, drop, eqb}
use Rattle.std.proofs.Common.{sym, ap, subst, ◌∙◌, arith, pow-suc, mul_comm, mul_assoc, mod-lt, mul-le-mul_right, ne_eqb, shl_exact, pow_mono, pow-add}
use Rattle.std.proofs.Math.Nat.{pow-zero, div-div-eq-div-mul}
use Rattle.std.specs.Int.Count.{ones, ones_step}
use Rattle.std.proofs.Math.Pow.{shr_mod}
use Rattle.bins.specs.Engine.{bit_no}
use Rattle.bins.specs.Readers.{odd}
use Rattle.hevc_residual.specs.Wanted.{last_of, none}
use Rattle.hevc_residual.specs.SubBlock.{count_of}
use Rattle.hevc_places.specs.declared.places.Places.{Places}
use Rattle.hevc_places.specs.Packing.{Packs, unpack, unmask}

-- ---- a bin as a number
pub bit_back : (b : Bool) → eqb (bit_no b) 1 ≡ b
bit_back true = refl
bit_back false = refl

pub bit_most : (v : ℕ) (b : Bool) → v ≡ bit_no b → v ≤ 1
bit_most v true q = omega arith
bit_most v false q = omega arith

-- ---- powers
pub sixteen_pow : (n : ℕ) → 16 ^ n ≡ 2 ^ (4 * n)
sixteen_pow zero = refl
sixteen_pow (suc n) =
    let q : 4 * suc n ≡ 4 * n + 4 = omega arith in
    pow-suc 16 n ∙ ap (λ z. z * 16) (sixteen_pow n) ∙ sym (pow-add 2 (4 * n) 4) ∙ sym (ap (λ z. 2 ^ z) q)

times_pow : (b k n : ℕ) → k * b ^ suc n ≡ b * (k * b ^ n)
times_pow b k n = ap (λ z. k * z) (pow-suc b n) ∙ sym (mul_assoc k (b ^ n) b) ∙ mul_comm (k * b ^ n) b

div_pow : (b v n : ℕ) → v / b / b ^ n ≡ v / b ^ suc n
div_pow b v n = div-div-eq-div-mul v b (b ^ n) ∙ ap (λ z. v / z) (mul_comm b (b ^ n) ∙ sym (pow-suc b n))

-- ---- the first taken off
pub unpack_front : (v n : ℕ) → unpack v (suc n) ≡ v % 16 ∷ unpack (v / 16) n
unfolding unpack
unpack_front v n = refl

pub unmask_front : (m n : ℕ) → unmask m (suc n) ≡ odd m ∷ unmask (m / 2) n
unfolding unmask
unmask_front m n = refl

pub unpack_small : (v n : ℕ) → v < 16 ^ suc n → v / 16 < 16 ^ n
unpack_small v n h = omega (arith, pow-suc 16 n)

pub unmask_small : (m n : ℕ) → m < 2 ^ suc n → m / 2 < 2 ^ n
unmask_small m n h = omega (arith, pow-suc 2 n)

-- ---- how many
pub unpack_length : (n v : ℕ) → length (unpack v n) ≡ n
unfolding unpack
unpack_length zero v = refl
unpack_length (suc n) v = ap suc (unpack_length n (v / 16))

pub unmask_length : (n m : ℕ) → length (unmask m n) ≡ n
unfolding unmask
unmask_length zero m = refl
unmask_length (suc n) m = ap suc (unmask_length n (m / 2))

pub unpack_none : (n v : ℕ) → none (unpack v n) ≡ eqb n 0
unfolding unpack none
unpack_none zero v = refl
unpack_none (suc n) v = sym (ne_eqb (suc n) 0 (λ q. omega arith))

-- ---- one more behind the others
pub unpack_more : (n v k : ℕ) → v < 16 ^ n → k < 16 → unpack (v + k * 16 ^ n) (suc n) ≡ unpack v n ++ (k ∷ [])
unfolding unpack
unpack_more zero v k h j =
    let q : (v + k * 16 ^ 0) % 16 ≡ k = omega (arith, pow-zero 16) in
    ap (λ z. z ∷ []) q
unpack_more (suc n) v k h j =
    let t = times_pow 16 k n in
    let q : (v + k * 16 ^ suc n) % 16 ≡ v % 16 = omega arith in
    let d : (v + k * 16 ^ suc n) / 16 ≡ v / 16 + k * 16 ^ n = omega arith in
    ap (λ z. z ∷ unpack ((v + k * 16 ^ suc n) / 16) (suc n)) q
    ∙ ap (λ z. v % 16 ∷ z) (ap (λ z. unpack z (suc n)) d ∙ unpack_more n (v / 16) k (unpack_small v n h) j)

odd_bit : (b : Bool) (m : ℕ) → m % 2 ≡ bit_no b → odd m ≡ b
odd_bit true m q = ap (λ z. eqb z 1) q
odd_bit false m q = ap (λ z. eqb z 1) q

pub unmask_more : (n m : ℕ) (b : Bool) → m < 2 ^ n → unmask (m + bit_no b * 2 ^ n) (suc n) ≡ unmask m n ++ (b ∷ [])
unfolding unmask
unmask_more zero m b h =
    let q : (m + bit_no b * 2 ^ 0) % 2 ≡ bit_no b = omega (arith, pow-zero 2, bit_most (bit_no b) b refl) in
    ap (λ z. z ∷ []) (odd_bit b (m + bit_no b * 2 ^ 0) q)
unmask_more (suc n) m b h =
    let t = times_pow 2 (bit_no b) n in
    let q : (m + bit_no b * 2 ^ suc n) % 2 ≡ m % 2 = omega arith in
    let d : (m + bit_no b * 2 ^ suc n) / 2 ≡ m / 2 + bit_no b * 2 ^ n = omega arith in
    ap (λ z. eqb z 1 ∷ unmask ((m + bit_no b * 2 ^ suc n) / 2) (suc n)) q
    ∙ ap (λ z. odd m ∷ z) (ap (λ z. unmask z (suc n)) d ∙ unmask_more n (m / 2) b (unmask_small m n h))

-- ---- each by its number
pub unpack_at : (n v i : ℕ) → i < n → get_or (unpack v n) i 0 ≡ v / 16 ^ i % 16
unfolding unpack
unpack_at zero v i h = absurd (omega arith)
unpack_at (suc n) v zero h = let q : v ≡ v / 16 ^ 0 = omega (arith, pow-zero 16) in ap (λ z. z % 16) q
unpack_at (suc n) v (suc i) h = unpack_at n (v / 16) i (omega arith) ∙ ap (λ z. z % 16) (div_pow 16 v i)

pub unpack_below : (n v i : ℕ) → get_or (unpack v n) i 0 < 16
unfolding unpack
unpack_below zero v i = omega arith
unpack_below (suc n) v zero = mod-lt v (omega arith)
unpack_below (suc n) v (suc i) = unpack_below n (v / 16) i

pub unpack_drop : (j n v : ℕ) → drop j (unpack v (j + n)) ≡ unpack (v / 16 ^ j) n
unfolding unpack
unpack_drop zero n v =
    let q : v ≡ v / 16 ^ 0 = omega (arith, pow-zero 16) in
    let m : 0 + n ≡ n = omega arith in
    ap (λ z. unpack v z) m ∙ ap (λ z. unpack z n) q
unpack_drop (suc j) n v =
    let m : suc j + n ≡ suc (j + n) = omega arith in
    ap (λ z. drop (suc j) (unpack v z)) m ∙ unpack_drop j n (v / 16) ∙ ap (λ z. unpack z n) (div_pow 16 v j)

-- the last of n + 1
pub unpack_last : (n v : ℕ) → last_of (unpack (v / 16) n) (v % 16) ≡ v / 16 ^ n % 16
unfolding unpack last_of
unpack_last zero v = let q : v ≡ v / 16 ^ 0 = omega (arith, pow-zero 16) in ap (λ z. z % 16) q
unpack_last (suc n) v = unpack_last n (v / 16) ∙ ap (λ z. z % 16) (div_pow 16 v n)

pub unpack_last_shift : (n v : ℕ) → v < 16 ^ suc n → last_of (unpack (v / 16) n) (v % 16) ≡ v / 2 ^ (4 * n)
unpack_last_shift n v h =
    let p : 16 ^ suc n ≡ 2 ^ (4 + 4 * n) = pow-suc 16 n ∙ mul_comm (16 ^ n) 16 ∙ ap (λ z. 16 * z) (sixteen_pow n) ∙ sym (pow-add 2 4 (4 * n)) in
    let i : v < 2 ^ (4 + 4 * n) = subst (λ z. v < z) p h in
    unpack_last n v ∙ ap (λ z. v / z % 16) (sixteen_pow n) ∙ shr_mod 4 (4 * n) i

-- ---- how many bins are 1
bit_odd : (r : ℕ) → r < 2 → bit_no (eqb r 1) ≡ r
bit_odd zero h = refl
bit_odd (suc zero) h = refl
bit_odd (suc (suc r)) h = absurd (omega arith)

no_ones : 0 ≡ ones 0
unfolding ones
no_ones = refl

pub unmask_count : (n m : ℕ) → m < 2 ^ n → count_of (unmask m n) ≡ ones m
unfolding unmask count_of
unmask_count zero m h = let q : 0 ≡ m = omega (arith, pow-zero 2) in no_ones ∙ ap ones q
unmask_count (suc n) m h =
    ap (λ z. z + count_of (unmask (m / 2) n)) (bit_odd (m % 2) (mod-lt m (omega arith)))
    ∙ ap (λ z. m % 2 + z) (unmask_count n (m / 2) (unmask_small m n h)) ∙ sym (ones_step m)

-- ---- as the code appends
pub bit_cases : (b : ℕ) → b ≤ 1 → (P : ℕ → Type 0) → P 0 → P 1 → P b
bit_cases zero h P p q = p
bit_cases (suc zero) h P p q = q
bit_cases (suc (suc b)) h P p q = absurd (omega arith)

-- place k, if b is 1, behind the n in v
abbrev pub list_with : ℕ → ℕ → ℕ → ℕ → ℕ
list_with v n k b = v + (k * b) * 2 ^ (4 * n) % 18446744073709551616

module _ (v n k b : ℕ) (small : v < 16 ^ n) (few : n ≤ 15) (low : k ≤ 15) (bit : b ≤ 1) where
  pub times_bit : k * b ≤ 15
  times_bit = bit_cases b bit (λ z. k * z ≤ 15) (omega arith) (omega arith)

  list_with_lem : list_with v n k b ≡ v + (k * b) * 16 ^ n
  list_with_lem =
      let h : k * b < 2 ^ 4 = omega (arith, times_bit) in
      ap (λ z. v + z) (shl_exact 4 (4 * n) 64 h (omega arith) ∙ ap (λ z. (k * b) * z) (sym (sixteen_pow n)))

  pub with_small : list_with v n k b < 16 ^ (n + b)
  with_small = subst (λ z. z < 16 ^ (n + b)) (sym list_with_lem) (bit_cases b bit (λ z. v + (k * z) * 16 ^ n < 16 ^ (n + z)) zero-case one-case)
    where
      zero-case : v + (k * 0) * 16 ^ n < 16 ^ (n + 0)
      zero-case = let q : n + 0 ≡ n = omega arith in subst (λ z. v + (k * 0) * 16 ^ n < 16 ^ z) (sym q) (omega arith)

      one-case : v + (k * 1) * 16 ^ n < 16 ^ (n + 1)
      one-case =
          let q : n + 1 ≡ suc n = omega arith in
          subst (λ z. v + (k * 1) * 16 ^ n < 16 ^ z) (sym q) (omega (arith, pow-suc 16 n, mul-le-mul_right (16 ^ n) low))

  pub with_fits : list_with v n k b < 18446744073709551616
  with_fits =
      let i : 4 * (n + b) ≤ 64 = omega arith in
      let p : 2 ^ (4 * (n + b)) ≤ 2 ^ 64 = pow_mono i in
      omega (arith, with_small, sixteen_pow (n + b))

  pub with_is : unpack (list_with v n k b) (n + b) ≡ cond (eqb b 1) (unpack v n ++ (k ∷ [])) (unpack v n)
  with_is =
      ap (λ z. unpack z (n + b)) list_with_lem
      ∙ bit_cases b bit (λ z. unpack (v + (k * z) * 16 ^ n) (n + z) ≡ cond (eqb z 1) (unpack v n ++ (k ∷ [])) (unpack v n)) zero-case one-case
    where
      zero-case : unpack (v + (k * 0) * 16 ^ n) (n + 0) ≡ unpack v n
      zero-case =
          let q : n + 0 ≡ n = omega arith in
          let r : v + (k * 0) * 16 ^ n ≡ v = omega arith in
          ap (λ z. unpack (v + (k * 0) * 16 ^ n) z) q ∙ ap (λ z. unpack z n) r

      one-case : unpack (v + (k * 1) * 16 ^ n) (n + 1) ≡ unpack v n ++ (k ∷ [])
      one-case =
          let q : n + 1 ≡ suc n = omega arith in
          let r : k * 1 ≡ k = omega arith in
          ap (λ z. unpack (v + (k * 1) * 16 ^ n) z) q ∙ ap (λ z. unpack (v + z * 16 ^ n) (suc n)) r ∙ unpack_more n v k small (omega arith)

pub appended_packs : (s : Places) (k b : ℕ) (few : s.count + b ≤ 16) (fits : Packs s) → s.count ≤ 15 → k ≤ 15 → b ≤ 1
    → Packs (record { packed = list_with s.packed s.count k b; count = s.count + b })
appended_packs s k b few fits n low bit = record { small = with_small s.packed s.count k b fits.small n low bit; few = few }

-- ---- as the code marks: bin b at place j, for j below 8
abbrev pub mask_with : ℕ → ℕ → ℕ → ℕ
mask_with m j b = m + b * 2 ^ j % 4294967296

module _ (m j : ℕ) (b : Bool) (small : m < 2 ^ j) (few : j ≤ 7) where
  mask_with_lem : mask_with m j (bit_no b) ≡ m + bit_no b * 2 ^ j
  mask_with_lem =
      let h : bit_no b < 2 ^ 1 = omega (arith, bit_most (bit_no b) b refl) in
      ap (λ z. m + z) (shl_exact 1 j 32 h (omega arith))

  pub mask_small : mask_with m j (bit_no b) < 2 ^ suc j
  mask_small = omega (arith, mask_with_lem, pow-suc 2 j, mul-le-mul_right (2 ^ j) (bit_most (bit_no b) b refl))

  pub mask_fits : mask_with m j (bit_no b) < 4294967296
  mask_fits =
      let i : suc j ≤ 32 = omega arith in
      let p : 2 ^ suc j ≤ 2 ^ 32 = pow_mono i in
      omega (arith, mask_small)

  pub mask_is : unmask (mask_with m j (bit_no b)) (suc j) ≡ unmask m j ++ (b ∷ [])
  mask_is = ap (λ z. unmask z (suc j)) mask_with_lem ∙ unmask_more j m b small
