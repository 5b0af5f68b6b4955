use Rattle.morning_add.specs.CodeLaws.{begins}
use Rattle.morning_add.proofs.begin.begin_size.Goals as goal

pub returns : goal.returns
returns c = begins _ c.args.log2 _ c.requires.0 c.requires.1 c.begin-a.ensures
