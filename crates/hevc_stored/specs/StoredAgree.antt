-- What is told of the levels stored so far.
use Rattle.std.specs.Prelude.{ℕ, ◌/◌, max, ◌≡◌, Bool, true, ◌&&◌, List, ℤ}
use Rattle.hevc_residual.specs.declared.params.Params.{Params}
use Rattle.hevc_residual.specs.Extent.{side, row_extent_of}
use Rattle.hevc_residual.specs.Residual.{greatest_of}
use Rattle.hevc_stored.specs.declared.stored.Stored.{Stored}

-- behind a level of magnitude m, stored at a place that was free or was not
abbrev pub stored_of : Stored → Bool → ℕ → ℕ → Stored
stored_of k free m at = record { greatest = max k.greatest m; far = max k.far at; clean = k.clean && free }

-- the greatest magnitude, while no place was written that held a level; the row extent, whatever stood there
pub record Keeps (p : Params) (k : Stored) (levels : List ℤ) : Type 0 where
  pub greatest : k.clean ≡ true → k.greatest ≡ greatest_of levels
  pub row : k.far / side p ≡ row_extent_of p levels
