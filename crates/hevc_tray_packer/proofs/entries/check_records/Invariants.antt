use Rattle.hevc_packer.specs.Tray.{records_refusal}
use Rattle.hevc_tray.specs.Rows.{records_of}
use lib.ListN.{drop}
use mathlib.Core.Path.{◌≡◌}
use Rattle.hevc_tray_packer.proofs.entries.check_records.Given as goal

abbrev pub invariant-loop-record : goal.invariant-loop-record
invariant-loop-record l = (records_refusal (records_of (drop l.record-index l.records)) ≡ records_refusal (records_of l.records))
