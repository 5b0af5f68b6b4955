use Rattle.hevc_write_refusal.specs.RefusalLaws.{Agreeing}
use Rattle.hevc_write_refusal.proofs.refusal.any_disagrees.Given as goal

-- `any_disagrees` meets its contract. Assumes nothing.
abbrev pub invariant-loop-i : goal.invariant-loop-i
invariant-loop-i l = Agreeing l.p l.h l.block l.i
