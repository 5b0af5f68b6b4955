-- What the answer of a sub-block's levels says.
use Rattle.std.specs.Prelude.{ℕ, ◌≡◌, Bool, true, false, List, ℤ, Result, Ok, Err}
use Rattle.bins.specs.declared.state.Interval.{Interval}
use Rattle.bins.specs.declared.state.Refusal.{Refusal}
use Rattle.bins.specs.Syn.{Out}
use Rattle.bins.specs.Sources.{cursor, step_of, align_from, Step, got}
use Rattle.bins.specs.Laws.{RefusedBy}
use Rattle.hevc_residual.specs.declared.params.Params.{Params}
use Rattle.hevc_residual.specs.Wanted.{Wanted}
use Rattle.hevc_residual.specs.Scan.{Spot}
use Rattle.hevc_head_rules.specs.declared.head.Head.{Head}
use Rattle.hevc_elements.specs.Agree.{from}
use Rattle.hevc_places.specs.declared.places.Places.{Places}
use Rattle.hevc_rules.specs.declared.coeffs.Carry.{Carry}
use Rattle.hevc_subblock.specs.declared.coeffs.Carried.{Carried}
use Rattle.hevc_rules.specs.CoeffsAgree.{Carries, acc_of, coeffs_of}

-- the range aligned where that is due
abbrev pub aligned_if : Bool → Bool → List ℕ → Interval → Step
aligned_if true list l x = step_of x (align_from list l x)
aligned_if false list l x = got 0 x

abbrev pub SaysCoeffs : Params → Head → Spot → Bool → List ℕ → ℕ → Places → Carry → Interval → List ℕ → List ℤ → List ℕ → Result Carried Refusal → List ℕ → List ℤ → List ℕ → Type 0
SaysCoeffs p h at list l ctxSet s c x cs levels stats (Ok v) cs' levels' stats' =
    Carries v.carry
    × ((lv : ℕ → Wanted → ℤ) (coded : List Bool)
    → from list l (coeffs_of p h at lv ctxSet s (acc_of c coded levels stats)) x cs ≡ Out.ok (acc_of v.carry coded levels' stats') (cursor v.next cs'))
SaysCoeffs p h at list l ctxSet s c x cs levels stats (Err n) cs' levels' stats' =
    (lv : ℕ → Wanted → ℤ) (coded : List Bool) → RefusedBy n (from list l (coeffs_of p h at lv ctxSet s (acc_of c coded levels stats)) x cs)
