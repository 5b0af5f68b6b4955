use native.Mathlib.Omega.{arith}
use Rattle.hevc_write_refusal.specs.RefusalLaws.{lowest_is}
use Rattle.hevc_write_refusal.proofs.refusal.lowest.Goals as goal

pub returns : goal.returns
returns c = (lowest_is c.args.s, omega arith)
