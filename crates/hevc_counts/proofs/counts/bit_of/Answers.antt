use Rattle.hevc_summary.specs.CodeLaws.{bit_none, bit_some}
use Rattle.hevc_counts.proofs.counts.bit_of.Goals as goal

pub returns-then-count-eq0 : goal.returns-then-count-eq0
returns-then-count-eq0 c = bit_none c.args.s c.args.count c.if-count-eq0.true

pub returns-else-count-eq0 : goal.returns-else-count-eq0
returns-else-count-eq0 c = bit_some c.args.s c.args.count c.requires c.if-count-eq0.false
