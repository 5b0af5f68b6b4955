-- What the two answers of advice say, in their own words.
use Rattle.std.specs.Prelude.{ℕ, ◌-◌, ◌*◌, ◌/◌, ◌%◌, ◌^◌, ◌<◌, ◌≡◌, true, false, List, ℤ, pos, get_or, set, take, Some, None, Option}
use Rattle.hevc_residual.specs.declared.params.Params.{Params}
use Rattle.hevc_residual.specs.Scan.{spot}
use Rattle.hevc_residual.specs.Wanted.{area, outer_of}
use Rattle.hevc_residual.specs.Numbers.{parameter_refusal}
use Rattle.press_advice.specs.declared.advice.Place.{Place}
use Rattle.press_advice.specs.declared.advice.Place.TheVariants as ofPlace
use Rattle.press_advice.specs.declared.advice.Change.{Change}
use Rattle.press_strokes.specs.Advice.{First, refusal_of, is_far, is_off_at, is_off_in, stroke_of, is_taken}

-- the first level out of range
pub record FarAt (p : Params) (levels : List ℤ) (i : ℕ) : Type 0 where
  pub number : refusal_of p levels ≡ 8
  pub within : i < area p
  pub is : is_far p levels i ≡ true
  pub first : (j : ℕ) → j < i → is_far p levels j ≡ false

-- the first sub-block, by the scan, whose hidden sign disagrees
pub record OffAt (p : Params) (levels : List ℤ) (x y : ℕ) : Type 0 where
  pub number : refusal_of p levels ≡ 11
  pub is : is_off_at p levels (spot x y) ≡ true
  pub turn : ℕ
  pub place : get_or (outer_of p) turn (spot 0 0) ≡ spot x y
  pub first : (j : ℕ) → j < turn → is_off_in p (take (area p) levels) j ≡ false

abbrev pub PlaceHolds : Params → List ℤ → Place → Type 0
PlaceHolds p levels (ofPlace.Nowhere n) = n ≡ refusal_of p levels
PlaceHolds p levels (ofPlace.Far i) = FarAt p levels i
PlaceHolds p levels (ofPlace.Off x y) = OffAt p levels x y

-- with v at place i the writer takes the levels; no change before this one does that
pub record Suggested (p : Params) (levels : List ℤ) (i : ℕ) (v : ℤ) : Type 0 where
  pub taken : refusal_of p (set levels i v) ≡ 0
  pub change : ℕ
  pub place : i ≡ change / 3
  pub stroke : v ≡ stroke_of (change % 3) (get_or levels (change / 3) (pos 0))
  pub first : (j : ℕ) → j < change → is_taken p levels j ≡ false

-- nothing where the parameters are refused by 4, or the writer takes no change
abbrev pub ChangeHolds : Params → List ℤ → Option Change → Type 0
ChangeHolds p levels (Some c) = Suggested p levels c.place c.level
ChangeHolds p levels None = 0 ≡ parameter_refusal p levels → (j : ℕ) → j < 3 * area p → is_taken p levels j ≡ false
