use Rattle.hevc_sizes.specs.SizeLaws.{width_shl}
use Rattle.hevc_sizes.proofs.sizes.width_of.Goals as goal

-- `width_of` meets its contract. Assumes nothing.
pub returns : goal.returns
returns c = width_shl c.args.log2 c.requires
