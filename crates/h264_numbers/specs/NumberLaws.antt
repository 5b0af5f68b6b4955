-- The contexts' numbers of a magnitude's bins, as their code gives them. Assumes nothing.
use Rattle.std.specs.Prelude.{ℕ, ◌+◌, ◌≤◌, ◌<◌, min, ◌≡◌, Bool, true, false, cond, ltb}
use Rattle.std.proofs.Common.{arith, lt-ltb, le-ltb}

pub first_big : (ones bigs : ℕ) → 0 < bigs → ◌≡◌ {A = ℕ} 30 (30 + cond (ltb 0 bigs) 0 (min 4 (1 + ones)))
first_big ones bigs h = rw (lt-ltb 0 bigs h)

pub first_few : (ones bigs : ℕ) → bigs ≤ 0 → ones < 3 → 31 + ones ≡ 30 + cond (ltb 0 bigs) 0 (min 4 (1 + ones))
first_few ones bigs h k = rw (le-ltb 0 bigs h) (omega arith)

pub first_many : (ones bigs : ℕ) → bigs ≤ 0 → 3 ≤ ones → ◌≡◌ {A = ℕ} 34 (30 + cond (ltb 0 bigs) 0 (min 4 (1 + ones)))
first_many ones bigs h k = rw (le-ltb 0 bigs h) (omega arith)

pub first_below : (ones bigs : ℕ) → 30 + cond (ltb 0 bigs) 0 (min 4 (1 + ones)) < 40
first_below ones bigs = go (ltb 0 bigs)
  where
    go : (d : Bool) → 30 + cond d 0 (min 4 (1 + ones)) < 40
    go true = omega arith
    go false = omega arith
