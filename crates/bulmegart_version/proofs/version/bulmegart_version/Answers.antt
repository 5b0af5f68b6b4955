use mathlib.Core.Path.{refl}
use Rattle.bulmegart_version.proofs.version.bulmegart_version.Goals as goal

-- `bulmegart_version` meets its contract. Assumes nothing.
pub returns : goal.returns
returns c = refl
