use Rattle.cabac.specs.NumberLaws.{payload_short, payload_long, payload_fine}
use Rattle.cabac_checks.proofs.checks.payload_refusal.Goals as goal

-- `payload_refusal` meets its contract. Assumes nothing.
pub returns-then-bytes-lt2 : goal.returns-then-bytes-lt2
returns-then-bytes-lt2 c = payload_short c.args.bytes.now c.if-bytes-lt2.true

pub returns-then-bytes-gt16777216 : goal.returns-then-bytes-gt16777216
returns-then-bytes-gt16777216 c = payload_long c.args.bytes.now c.if-bytes-lt2.false c.if-bytes-gt16777216.true

pub returns : goal.returns
returns c = payload_fine c.args.bytes.now c.if-bytes-lt2.false c.if-bytes-gt16777216.false
