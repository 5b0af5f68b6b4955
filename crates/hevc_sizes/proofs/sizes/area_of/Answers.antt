use Rattle.hevc_sizes.specs.SizeLaws.{area_shl}
use Rattle.hevc_sizes.proofs.sizes.area_of.Goals as goal

-- `area_of` meets its contract. Assumes nothing.
pub returns : goal.returns
returns c = area_shl c.args.log2 c.requires
