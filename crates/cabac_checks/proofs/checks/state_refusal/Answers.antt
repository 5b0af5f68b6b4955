use native.Mathlib.Omega.{arith}
use Rattle.cabac.specs.NumberLaws.{state_beyond, state_uncounted, state_ended, state_low, state_high, state_over, state_fine}
use Rattle.cabac_checks.proofs.checks.state_refusal.Goals as goal

pub returns-then-end-at : goal.returns-then-end-at
returns-then-end-at c = let a = c.args in state_beyond a.bytes.now a.e (omega arith)

pub returns-then-e-gt65535 : goal.returns-then-e-gt65535
returns-then-e-gt65535 c = let a = c.args in state_uncounted a.bytes.now a.e (omega arith) (omega arith)

pub returns-then-e : goal.returns-then-e
returns-then-e c = let a = c.args in state_ended a.bytes.now a.e (omega arith) (omega arith) c.if-e.true

pub returns-then-e-lt256 : goal.returns-then-e-lt256
returns-then-e-lt256 c = let a = c.args in state_low a.bytes.now a.e (omega arith) (omega arith) c.if-e.false (omega arith)

pub returns-then-e-gt510 : goal.returns-then-e-gt510
returns-then-e-gt510 c = let a = c.args in state_high a.bytes.now a.e (omega arith) (omega arith) c.if-e.false (omega arith) (omega arith)

pub returns-then-e-2 : goal.returns-then-e-2
returns-then-e-2 c = let a = c.args in state_over a.bytes.now a.e (omega arith) (omega arith) c.if-e.false (omega arith) (omega arith) (omega arith)

pub returns : goal.returns
returns c = let a = c.args in state_fine a.bytes.now a.e (omega arith) (omega arith) c.if-e.false (omega arith) (omega arith) (omega arith)
