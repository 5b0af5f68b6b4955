use Rattle.hevc_tray_packer.specs.ListCode.{Going}
use Rattle.hevc_tray_packer.proofs.lists.read_lists.Given as goal

abbrev pub invariant-loop-i : goal.invariant-loop-i
invariant-loop-i l = Going l.records l.stats l.list l.i l.at l.st
