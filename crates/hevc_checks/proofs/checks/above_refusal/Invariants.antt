use mathlib.Core.Path.{◌≡◌}
use lib.ListN.{drop}
use Rattle.hevc_checks.specs.ChecksAgree.{above_refusal}
use Rattle.hevc_checks.specs.ChecksLaws.{so_far}
use Rattle.hevc_checks.proofs.checks.above_refusal.Given as goal

-- `above_refusal` meets its contract: whether one of the bytes passed is above. Assumes nothing.
abbrev pub invariant-loop-byte : goal.invariant-loop-byte
invariant-loop-byte l = so_far l.most l.bytes l.above (drop l.byte-index l.bytes) ≡ above_refusal l.most l.bytes
