use mathlib.Core.Path.{◌≡◌}
use lib.ListN.{drop}
use Rattle.hevc_tray.specs.Rows.{rows_refusal}
use Rattle.hevc_tray_reader.proofs.rows.rows_refusal.Given as goal

-- `rows_refusal` meets its contract: the records passed have flags of 0 and 1. Assumes nothing.
abbrev pub invariant-loop-record : goal.invariant-loop-record
invariant-loop-record l = rows_refusal (drop l.record-index l.records) ≡ rows_refusal l.records
