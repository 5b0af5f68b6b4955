-- What is said of levels that no picture can hold: the first that is out of range, the first sub-block whose hidden sign disagrees, and the first single
-- change that the writer takes.
use Rattle.std.specs.Prelude.{ℕ, ◌+◌, ◌-◌, ◌*◌, ◌/◌, ◌%◌, ◌^◌, ◌≤◌, ◌<◌, ◌≡◌, Bool, true, false, not, ◌&&◌, cond, List, eqb, ltb, ℤ, pos, nat_abs, get_or, set, take}
use Rattle.cabac.specs.Numbers.{◌or_else◌}
use Rattle.trees.specs.Levels.{negative, signed, in_range}
use Rattle.hevc_residual.specs.declared.params.Params.{Params}
use Rattle.hevc_residual.specs.declared.params.Rdpcm.TheVariants as of_rdpcm
use Rattle.hevc_residual.specs.Scan.{Spot, spot}
use Rattle.hevc_residual.specs.Wanted.{Wanted, area, outer_of, inner_of}
use Rattle.hevc_residual.specs.Remainder.{log2_transform_range}
use Rattle.hevc_residual.specs.Numbers.{parameter_refusal}
use Rattle.hevc_residual.specs.Refusal.{write_refusal}
use Rattle.hevc_write_refusal.specs.RefusalAgree.{disagrees_in}

-- r is the first below n of which f holds, or n where there is none
pub record First (f : ℕ → Bool) (n r : ℕ) : Type 0 where
  pub within : r ≤ n
  pub before : (j : ℕ) → j < r → f j ≡ false
  pub at : r < n → f r ≡ true

-- levels as the writer is handed them: neither skip nor RDPCM
abbrev pub drawn : List ℤ → Wanted
drawn l = record { skip = false; rdpcm = of_rdpcm.None; levels = l }

-- the writer's number for the first n·n of the levels: 4, 9, 8, 11, or 0 where it takes them
unfoldable pub refusal_of : Params → List ℤ → ℕ
refusal_of p levels = parameter_refusal p levels or_else write_refusal p (drawn (take (area p) levels))

-- ---- places
abbrev pub is_beyond : ℕ → ℤ → Bool
is_beyond t v = not (in_range t (negative v) (nat_abs v))

-- the level at place i, row by row, is out of range
abbrev pub is_far_by : ℕ → List ℤ → ℕ → Bool
is_far_by t levels i = is_beyond t (get_or levels i (pos 0))

abbrev pub is_far : Params → List ℤ → ℕ → Bool
is_far p levels = is_far_by (log2_transform_range p) levels

-- the hidden sign of sub-block s disagrees
abbrev pub is_off_at : Params → List ℤ → Spot → Bool
is_off_at p levels s = disagrees_in p (drawn (take (area p) levels)) s

-- the same of sub-block i of the scan, of n·n levels
abbrev pub is_off_in : Params → List ℤ → ℕ → Bool
is_off_in p l i = disagrees_in p (drawn l) (get_or (outer_of p) i (spot 0 0))

-- ---- changes: stroke 0 makes a magnitude one more, stroke 1 one less, stroke 2 turns a sign
abbrev pub sign_behind : ℕ → Bool → Bool
sign_behind k s = cond (eqb k 2) (not s) s

abbrev pub magnitude_behind : ℕ → ℕ → ℕ
magnitude_behind k m = cond (eqb k 0) (m + 1) (cond (eqb k 1) (m - 1) m)

abbrev pub stroke_of : ℕ → ℤ → ℤ
stroke_of k v = signed (sign_behind k (negative v)) (magnitude_behind k (nat_abs v))

-- the writer takes these levels
abbrev pub accepts : Params → List ℤ → Bool
accepts p levels = eqb (write_refusal p (drawn (take (area p) levels))) 0

-- change c is stroke c % 3 of the level at place c / 3
abbrev pub changed : List ℤ → ℕ → List ℤ
changed levels c = set levels (c / 3) (stroke_of (c % 3) (get_or levels (c / 3) (pos 0)))

-- a level that is not 0, and so near that one stroke can bring it into the widest range, of 22 bits
abbrev pub movable : ℤ → Bool
movable v = ltb 0 (nat_abs v) && ltb (nat_abs v) 4194304

-- the writer takes the levels behind change c
unfoldable pub is_taken : Params → List ℤ → ℕ → Bool
is_taken p levels c = movable (get_or levels (c / 3) (pos 0)) && accepts p (changed levels c)
