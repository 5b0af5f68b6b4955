use native.Mathlib.Omega.{arith}
use Rattle.frame.specs.VerdictLaws.{flags_luma, flags_hiding, flags_none}
use Rattle.frame.proofs.fields.flags_refusal.Goals as goal

pub returns-then-bytes-gt1 : goal.returns-then-bytes-gt1
returns-then-bytes-gt1 c = flags_luma c.args.bytes.now (omega arith)

pub returns-then-bytes-gt1-2 : goal.returns-then-bytes-gt1-2
returns-then-bytes-gt1-2 c = let a = c.args in flags_hiding a.bytes.now (omega arith) (omega arith)

pub returns : goal.returns
returns c = let a = c.args in flags_none a.bytes.now (omega arith) (omega arith)
