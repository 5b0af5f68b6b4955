use Rattle.hevc_scale_syntax.specs.CodeLaws.{shifted_is}
use Rattle.hevc_scale_syntax.proofs.syntax.power.Goals as goal

pub returns : goal.returns
returns c = shifted_is c.args.v c.requires.0 c.requires.1
