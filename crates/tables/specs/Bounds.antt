-- What the tables' numbers lie between. Assumes nothing.
use Rattle.std.specs.Prelude.{ℕ, ◌+◌, ◌-◌, ◌*◌, ◌/◌, ◌%◌, ◌≤◌, ◌<◌, ◌≡◌, refl, true, false, [], get_or}
use Rattle.std.proofs.Common.{arith, eq-eqb, ne_eqb}
use Rattle.tables.specs.Tables.{range_tab_lps, trans_idx_mps, trans_idx_lps, lps_at, lps_of, on_mps, on_lps}
use Rattle.tables.specs.Table.{le_below}

-- ---- rangeLPS is 2 to 240
lps_no : ℕ → ℕ
lps_no k = lps_at (k / 4) (k % 4)

lps_least : (k : ℕ) → k < 256 → 2 ≤ lps_no k
unfolding lps_no lps_at range_tab_lps
lps_least k h = le_below (λ i. 2) lps_no 256 tt k h

lps_most : (k : ℕ) → k < 256 → lps_no k ≤ 240
unfolding lps_no lps_at range_tab_lps
lps_most k h = le_below lps_no (λ i. 240) 256 tt k h

pub lps_at_lem : (state class : ℕ) → state < 64 → class < 4 → (2 ≤ lps_at state class) × (lps_at state class ≤ 240)
unfolding lps_no
lps_at_lem state class h k =
    let a : (state * 4 + class) / 4 ≡ state = omega arith in
    let b : (state * 4 + class) % 4 ≡ class = omega arith in
    (rw (a, b) at (lps_least (state * 4 + class) (omega arith)), rw (a, b) at (lps_most (state * 4 + class) (omega arith)))

pub lps_bounds : (ctx r : ℕ) → (2 ≤ lps_of ctx r) × (lps_of ctx r ≤ 240)
unfolding lps_of
lps_bounds ctx r = lps_at_lem (ctx % 64) (r / 64 % 4) (omega arith) (omega arith)

-- ---- a state is at most 63, and a packed context stays packed
mps_state : ℕ → ℕ
mps_state k = get_or trans_idx_mps k 0

lps_state : ℕ → ℕ
lps_state k = get_or trans_idx_lps k 0

pub mps_state_lem : (k : ℕ) → k < 64 → get_or trans_idx_mps k 0 ≤ 63
unfolding mps_state trans_idx_mps
mps_state_lem k h = le_below mps_state (λ i. 63) 64 tt k h

pub lps_state_lem : (k : ℕ) → k < 64 → get_or trans_idx_lps k 0 ≤ 63
unfolding lps_state trans_idx_lps
lps_state_lem k h = le_below lps_state (λ i. 63) 64 tt k h

pub mps_small : (ctx : ℕ) → ctx < 128 → on_mps ctx ≤ 127
unfolding on_mps
mps_small ctx h = omega (arith, mps_state_lem (ctx % 64) (omega arith))

pub lps_small : (ctx : ℕ) → ctx < 128 → on_lps ctx ≤ 127
unfolding on_lps trans_idx_lps
lps_small ctx h = le_below on_lps (λ i. 127) 128 tt ctx h

-- the packed context behind the other bin, by whether the state is 0
pub lps_flips : (ctx : ℕ) → ctx % 64 ≡ 0 → get_or trans_idx_lps (ctx % 64) 0 + (1 - ctx / 64) * 64 ≡ on_lps ctx
unfolding on_lps
lps_flips ctx h = rw (eq-eqb (ctx % 64) 0 h)

pub lps_stays : (ctx : ℕ) → (ctx % 64 ≡ 0 → ⊥) → get_or trans_idx_lps (ctx % 64) 0 + ctx / 64 * 64 ≡ on_lps ctx
unfolding on_lps
lps_stays ctx h = rw (ne_eqb (ctx % 64) 0 h)
