use Rattle.cabac.specs.EntryLaws.{pack_high, pack_low}
use Rattle.cabac_init.proofs.contexts.pack.Goals as goal

pub returns-then-p-ge64 : goal.returns-then-p-ge64
returns-then-p-ge64 c = pack_high c.args.p c.if-p-ge64.true

pub returns-else-p-ge64 : goal.returns-else-p-ge64
returns-else-p-ge64 c = pack_low c.args.p c.if-p-ge64.false
