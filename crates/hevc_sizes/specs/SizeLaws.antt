-- Sizes by log2, one after the other and as the code's shifts make them. Assumes nothing.
use Rattle.std.specs.Prelude.{ℕ, zero, suc, ◌-◌, ◌*◌, ◌%◌, ◌^◌, ◌≤◌, ◌≡◌, refl}
use Rattle.std.proofs.Common.{sym, ap, arith}

-- ---- how many sub-blocks
pub grid_two : (n : ℕ) → n ≡ 2 → (1 ≡ 4 ^ (n - 2)) × (1 ≤ 64)
grid_two n q = (ap (λ k. 4 ^ (k - 2)) (sym q), omega arith)

pub grid_three : (n : ℕ) → n ≡ 3 → (4 ≡ 4 ^ (n - 2)) × (4 ≤ 64)
grid_three n q = (ap (λ k. 4 ^ (k - 2)) (sym q), omega arith)

pub grid_four : (n : ℕ) → n ≡ 4 → (16 ≡ 4 ^ (n - 2)) × (16 ≤ 64)
grid_four n q = (ap (λ k. 4 ^ (k - 2)) (sym q), omega arith)

pub grid_five : (n : ℕ) → (2 ≤ n) × (n ≤ 5) → (n ≡ 2 → ⊥) → (n ≡ 3 → ⊥) → (n ≡ 4 → ⊥) → (64 ≡ 4 ^ (n - 2)) × (64 ≤ 64)
grid_five n h a b c = let q : 5 ≡ n = omega arith in (ap (λ k. 4 ^ (k - 2)) q, omega arith)

-- ---- how many sub-blocks stand in a row
pub width_two : (n : ℕ) → n ≡ 2 → 1 ≡ 2 ^ (n - 2)
width_two n q = ap (λ k. 2 ^ (k - 2)) (sym q)

pub width_three : (n : ℕ) → n ≡ 3 → 2 ≡ 2 ^ (n - 2)
width_three n q = ap (λ k. 2 ^ (k - 2)) (sym q)

pub width_four : (n : ℕ) → n ≡ 4 → 4 ≡ 2 ^ (n - 2)
width_four n q = ap (λ k. 2 ^ (k - 2)) (sym q)

pub width_five : (n : ℕ) → (2 ≤ n) × (n ≤ 5) → (n ≡ 2 → ⊥) → (n ≡ 3 → ⊥) → (n ≡ 4 → ⊥) → 8 ≡ 2 ^ (n - 2)
width_five n h a b c = let q : 5 ≡ n = omega arith in ap (λ k. 2 ^ (k - 2)) q

-- ---- n·n of an accepted size
pub area_two : (n : ℕ) → n ≡ 2 → 16 ≡ 4 ^ n
area_two n q = ap (λ k. 4 ^ k) (sym q)

pub area_three : (n : ℕ) → n ≡ 3 → 64 ≡ 4 ^ n
area_three n q = ap (λ k. 4 ^ k) (sym q)

pub area_four : (n : ℕ) → n ≡ 4 → 256 ≡ 4 ^ n
area_four n q = ap (λ k. 4 ^ k) (sym q)

pub area_five : (n : ℕ) → (2 ≤ n) × (n ≤ 5) → (n ≡ 2 → ⊥) → (n ≡ 3 → ⊥) → (n ≡ 4 → ⊥) → 1024 ≡ 4 ^ n
area_five n h a b c = let q : 5 ≡ n = omega arith in ap (λ k. 4 ^ k) q

-- ---- as shifts
-- the four sizes
by_size : (P : ℕ → Type 0) → P 2 → P 3 → P 4 → P 5 → (n : ℕ) → (2 ≤ n) × (n ≤ 5) → P n
by_size P a b c d zero h = absurd (omega arith)
by_size P a b c d (suc zero) h = absurd (omega arith)
by_size P a b c d (suc (suc zero)) h = a
by_size P a b c d (suc (suc (suc zero))) h = b
by_size P a b c d (suc (suc (suc (suc zero)))) h = c
by_size P a b c d (suc (suc (suc (suc (suc zero))))) h = d
by_size P a b c d (suc (suc (suc (suc (suc (suc n)))))) h = absurd (omega arith)

-- how many sub-blocks stand in a row
pub width_shl : (n : ℕ) → (2 ≤ n) × (n ≤ 5) → (1 * 2 ^ (n - 2)) % 4294967296 ≡ 2 ^ (n - 2)
width_shl = by_size (λ n. (1 * 2 ^ (n - 2)) % 4294967296 ≡ 2 ^ (n - 2)) refl refl refl refl

-- how many sub-blocks
pub grid_shl : (n : ℕ) → (2 ≤ n) × (n ≤ 5) → ((1 * 2 ^ (2 * (n - 2))) % 18446744073709551616 ≡ 4 ^ (n - 2)) × ((1 * 2 ^ (2 * (n - 2))) % 18446744073709551616 ≤ 64)
grid_shl =
    by_size (λ n. ((1 * 2 ^ (2 * (n - 2))) % 18446744073709551616 ≡ 4 ^ (n - 2)) × ((1 * 2 ^ (2 * (n - 2))) % 18446744073709551616 ≤ 64))
    (refl, omega arith) (refl, omega arith) (refl, omega arith) (refl, omega arith)

-- n·n of an accepted size
pub area_shl : (n : ℕ) → (2 ≤ n) × (n ≤ 5) → (1 * 2 ^ (2 * n)) % 18446744073709551616 ≡ 4 ^ n
area_shl = by_size (λ n. (1 * 2 ^ (2 * n)) % 18446744073709551616 ≡ 4 ^ n) refl refl refl refl
