use Rattle.hevc_sizes.specs.SizeLaws.{grid_shl}
use Rattle.hevc_sizes.proofs.sizes.grid.Goals as goal

-- `grid` meets its contract. Assumes nothing.
pub returns : goal.returns
returns c = grid_shl c.args.log2 c.requires
