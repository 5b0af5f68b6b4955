use Rattle.hevc_tray.proofs.TrayCode.{Walking}
use Rattle.hevc_tray_reader.proofs.entries.read_blocks.Given as goal

-- `read_blocks` meets its contract: behind i blocks, what is left to do gives what the whole does. Assumes nothing.
abbrev pub invariant-loop-i : goal.invariant-loop-i
invariant-loop-i l = Walking l.bytes l.initial.state l.initial.contexts l.initial.stats l.records l.initial.levels l.initial.found l.i l.at l.state l.contexts l.stats l.levels l.found
