use Prim.Native.Nat.{◌≤◌}
use mathlib.Core.Path.{◌≡◌}
use lib.ListN.{length, drop}
use Rattle.hevc_tray.specs.Rows.{records_of}
use Rattle.hevc_tray.specs.Tray.{records_refusal}
use Rattle.hevc_tray_reader.proofs.entries.check_records.Given as goal

-- `check_records` meets its contract: the records passed are within limits, and their parts in the buffer. Assumes nothing.
abbrev pub invariant-loop-record : goal.invariant-loop-record
invariant-loop-record l = (l.at ≤ length l.levels) × (records_refusal (records_of (drop l.record-index l.records)) (drop l.at l.levels) ≡ records_refusal (records_of l.records) l.levels)
