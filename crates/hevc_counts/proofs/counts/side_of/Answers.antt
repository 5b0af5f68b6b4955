use Rattle.hevc_summary.specs.CodeLaws.{side_shl}
use Rattle.hevc_counts.proofs.counts.side_of.Goals as goal

pub returns : goal.returns
returns c = side_shl c.args.log2 c.requires.0 c.requires.1
