-- What the answers of the loop over levels say.
use Rattle.std.specs.Prelude.{ℕ, ◌+◌, ◌≡◌, Bool, List, ℤ, Result, Ok, Err}
use Rattle.bins.specs.declared.state.Interval.{Interval}
use Rattle.bins.specs.declared.state.Refusal.{Refusal}
use Rattle.bins.specs.Syn.{Out}
use Rattle.bins.specs.Sources.{cursor, Readable}
use Rattle.bins.specs.Laws.{RefusedBy}
use Rattle.hevc_residual.specs.declared.params.Params.{Params}
use Rattle.hevc_residual.specs.Wanted.{Wanted}
use Rattle.hevc_residual.specs.Scan.{Spot}
use Rattle.hevc_elements.specs.Agree.{from}
use Rattle.hevc_rules.specs.declared.levels.Going.{Going}
use Rattle.hevc_levels.specs.declared.levels.Leveled.{Leveled}
use Rattle.hevc_rules.specs.LevelsAgree.{Fine, going_s}

-- one level read: what is left behind it gives what was left before it
abbrev pub SaysOne : Params → Spot → Bool → List ℕ → Bool → ℕ → Going → Interval → List ℤ → Result Leveled Refusal → List ℤ → Type 0
SaysOne p s list l greater2 signs g x levels (Ok v) levels' =
    Fine p v.going × (v.going.count + 1 ≡ g.count) × Readable list l v.next
    × ((lv : ℕ → Wanted → ℤ) (cs : List ℕ) → from list l (going_s p s lv greater2 signs g levels) x cs ≡ from list l (going_s p s lv greater2 signs v.going levels') v.next cs)
SaysOne p s list l greater2 signs g x levels (Err n) levels' =
    (lv : ℕ → Wanted → ℤ) (cs : List ℕ) → RefusedBy n (from list l (going_s p s lv greater2 signs g levels) x cs)

-- all of them
abbrev pub SaysAll : Params → Spot → Bool → List ℕ → Bool → ℕ → Going → Interval → List ℤ → Result Leveled Refusal → List ℤ → Type 0
SaysAll p s list l greater2 signs g x levels (Ok v) levels' =
    Fine p v.going × Readable list l v.next
    × ((lv : ℕ → Wanted → ℤ) (cs : List ℕ)
    → from list l (going_s p s lv greater2 signs g levels) x cs ≡ Out.ok (record { levels = levels'; column = v.going.column; stat = v.going.stat }) (cursor v.next cs))
SaysAll p s list l greater2 signs g x levels (Err n) levels' =
    (lv : ℕ → Wanted → ℤ) (cs : List ℕ) → RefusedBy n (from list l (going_s p s lv greater2 signs g levels) x cs)
