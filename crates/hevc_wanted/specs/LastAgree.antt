-- What the answer of the last place says.
use Rattle.std.specs.Prelude.{◌^◌, ◌<◌}
use Rattle.hevc_residual.specs.declared.params.Params.{Params}
use Rattle.hevc_wanted.specs.declared.last.Place.{Place}

-- a place of the block
pub record Inside (p : Params) (r : Place) : Type 0 where
  pub column : r.x < 2 ^ p.log2
  pub row : r.y < 2 ^ p.log2
