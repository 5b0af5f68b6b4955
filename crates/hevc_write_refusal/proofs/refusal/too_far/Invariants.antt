use Rattle.hevc_write_refusal.specs.RefusalLaws.{Reaches}
use Rattle.hevc_write_refusal.proofs.refusal.too_far.Given as goal

-- `too_far` meets its contract. Assumes nothing.
abbrev pub invariant-loop-level : goal.invariant-loop-level
invariant-loop-level l = Reaches l.t l.block l.level-index l.most
