use mathlib.Core.Path.{refl}
use native.Mathlib.Omega.{arith}
use Rattle.hevc_tray.proofs.ChecksCode.{rows_on, rows_bad, rows_end}
use Rattle.hevc_tray_reader.proofs.rows.rows_refusal.Goals as goal

pub loop-record-init : goal.loop-record-init
loop-record-init c = refl

pub returns-then-flags_refusal-ne0 : goal.returns-then-flags_refusal-ne0
returns-then-flags_refusal-ne0 c = rows_bad c.args.records.now c.loop-record.record-index (omega arith) c.flags_refusal.result c.flags_refusal.ensures c.if-flags_refusal-ne0.true c.loop-record.invariant

pub loop-record-preserved : goal.loop-record-preserved
loop-record-preserved c = (rows_on c.args.records.now c.loop-record.record-index (omega arith) c.flags_refusal.result c.flags_refusal.ensures c.if-flags_refusal-ne0.false c.loop-record.invariant)

pub returns : goal.returns
returns c = rows_end c.args.records.now c.loop-record.record-index (omega arith) c.loop-record.invariant
