-- An entry of the decision table by the rule, from its three parts. Assumes nothing.
use Rattle.std.specs.Prelude.{ℕ, ◌+◌, ◌*◌, ◌/◌, ◌%◌, ◌<◌, ◌≡◌}
use Rattle.std.proofs.Common.{arith}
use Rattle.tables.specs.Tables.{lps_at, lps_of, on_mps, on_lps, entry_of}

pub entry_parts : (ctx class lps mps other : ℕ) → class < 4 → lps ≡ lps_at (ctx % 64) class → mps ≡ on_mps ctx → other ≡ on_lps ctx
    → lps + 256 * mps + 65536 * other ≡ entry_of ctx class
unfolding entry_of lps_of
entry_parts ctx class lps mps other h p q r =
    let c : 64 * class / 64 % 4 ≡ class = omega arith in rw c (omega arith)
