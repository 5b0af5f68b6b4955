use Rattle.hevc_tray.proofs.ChecksCode.{flags_fine, flags_bad}
use Rattle.hevc_tray_reader.proofs.rows.flags_refusal.Goals as goal

pub returns-then-above_refusal-eq0 : goal.returns-then-above_refusal-eq0
returns-then-above_refusal-eq0 c = flags_fine c.args.row c.above_refusal.result c.above_refusal.ensures c.if-above_refusal-eq0.true

pub returns-else-above_refusal-eq0 : goal.returns-else-above_refusal-eq0
returns-else-above_refusal-eq0 c = flags_bad c.args.row c.above_refusal.result c.above_refusal.ensures c.if-above_refusal-eq0.false
