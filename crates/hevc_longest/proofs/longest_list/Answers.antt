use Rattle.std.proofs.Common.{arith}
use Rattle.hevc_longest.proofs.LongestLaws.{longest_five}
use Rattle.hevc_longest.proofs.longest_list.Goals as goal

pub returns-in_default : goal.returns-in_default
returns-in_default c = longest_five c.args.log2 c.requires.1 (omega arith) (omega arith) (omega arith) c.requires.0
