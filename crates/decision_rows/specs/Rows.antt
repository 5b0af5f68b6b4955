-- A row of the decision table as one number, and that an entry is taken out of it. Assumes nothing.
use Rattle.std.specs.Prelude.{ℕ, zero, suc, ◌+◌, ◌*◌, ◌/◌, ◌%◌, ◌^◌, ◌≤◌, ◌<◌, ◌≡◌, get_or}
use Rattle.std.proofs.Common.{◌∙◌, ap, sym, arith}
use Rattle.tables.specs.Tables.{lps_at, on_mps, on_lps, range_tab_lps, trans_idx_mps, trans_idx_lps}
use Rattle.tables.specs.Table.{eq_below, le_below}
use Rattle.tables.specs.Decisions.{decisions}

-- rangeLPS for the four classes of a range, a byte each, and behind them the packed contexts behind the two bins
unfoldable pub row_of : ℕ → ℕ
row_of ctx =
    lps_at (ctx % 64) 0 + 256 * lps_at (ctx % 64) 1 + 65536 * lps_at (ctx % 64) 2 + 16777216 * lps_at (ctx % 64) 3
    + 4294967296 * (on_mps ctx + 256 * on_lps ctx)

-- what is taken out of it for a class
abbrev pub taken : ℕ → ℕ → ℕ
taken row class = row / 2 ^ (8 * class) % 256 + row / 4294967296 * 256

entry : ℕ → ℕ
entry k = get_or decisions k 0

picked : ℕ → ℕ
picked k = taken (row_of (k / 4)) (k % 4)

by_rows : (k : ℕ) → k < 512 → picked k ≡ entry k
unfolding entry picked decisions row_of lps_at on_mps on_lps range_tab_lps trans_idx_mps trans_idx_lps
by_rows k h = eq_below picked entry 512 tt k h

pub row_entry : (ctx class : ℕ) → ctx < 128 → class < 4 → taken (row_of ctx) class ≡ get_or decisions (ctx * 4 + class) 0
unfolding entry picked
row_entry ctx class h k =
    let a : (ctx * 4 + class) / 4 ≡ ctx = omega arith in
    let b : (ctx * 4 + class) % 4 ≡ class = omega arith in
    rw (a, b) at (by_rows (ctx * 4 + class) (omega arith))

-- 48 bits
pub row_small : (ctx : ℕ) → ctx < 128 → row_of ctx ≤ 281474976710655
unfolding row_of lps_at on_mps on_lps range_tab_lps trans_idx_mps trans_idx_lps
row_small ctx h = le_below row_of (λ k. 281474976710655) 128 tt ctx h

-- an arm of the match
pub at_row : (ctx k v : ℕ) → ctx ≡ k → v ≡ row_of k → v ≡ row_of ctx
at_row ctx k v h q = q ∙ ap row_of (sym h)

-- none of the first n numbers, as the last arm is told
abbrev pub NoneBelow : ℕ → ℕ → Type 0
NoneBelow zero x = Unit
NoneBelow (suc n) x = NoneBelow n x × (x ≡ n → ⊥)

pub none_below : (n x : ℕ) → NoneBelow n x → n ≤ x
none_below zero x h = omega arith
none_below (suc n) x h =
    let a = none_below n x h.0 in
    let b = h.1 in
    omega arith
