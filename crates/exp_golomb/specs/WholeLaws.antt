-- What a prefix and a suffix stand for, by the code's shifts. Assumes nothing.
use Rattle.std.specs.Prelude.{ℕ, ◌+◌, ◌-◌, ◌*◌, ◌%◌, ◌^◌, ◌≤◌, ◌<◌, ◌≡◌}
use Rattle.std.proofs.Common.{◌∙◌, arith, pow_mono, pow_pos, shl_exact, shl_lt}
use Rattle.trees.specs.Shapes.{eg_base}

shl_64 : (a j k : ℕ) → a < 2 ^ j → j + k ≤ 64 → (a * 2 ^ k) % 18446744073709551616 ≡ a * 2 ^ k
shl_64 a j k h s = shl_exact j k 64 h s

module _ (n k : ℕ) (hn : n ≤ 31) (hk : k ≤ 22) where
  ones_shl : (1 * 2 ^ n) % 18446744073709551616 ≡ 2 ^ n
  ones_shl = let s : 1 * 2 ^ n ≡ 2 ^ n = omega arith in shl_64 1 1 n (omega arith) (omega arith) ∙ s

  pub ones_some : 1 ≤ (1 * 2 ^ n) % 18446744073709551616
  ones_some = rw ones_shl (pow_pos n)

  ones_under : 2 ^ n - 1 < 2 ^ 31
  ones_under = let p : 2 ^ n ≤ 2 ^ 31 = pow_mono hn in omega (arith, pow_pos n)

  pub whole_shl : (((1 * 2 ^ n) % 18446744073709551616 - 1) * 2 ^ k) % 18446744073709551616 ≡ eg_base k n
  whole_shl = rw ones_shl (shl_64 (2 ^ n - 1) 31 k ones_under (omega arith))

  pub whole_small : eg_base k n < 9007199254740992
  whole_small =
      let a : (2 ^ n - 1) * 2 ^ k < 2 ^ (31 + k) = shl_lt 31 k ones_under in
      let b : 2 ^ (31 + k) ≤ 2 ^ 53 = pow_mono {i = 31 + k} {j = 53} (omega arith) in
      omega arith
