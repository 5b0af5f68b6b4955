use Prim.Native.Nat.{◌+◌}
use native.Mathlib.Omega.{arith}
use Rattle.hevc_scans.specs.SigLaws.{near_none, near_right, near_below, near_both, falls_zero, falls_mid, falls_end}
use Rattle.hevc_significance.proofs.significance.near.Goals as goal

pub returns-in-0-2 : goal.returns-in-0-2
returns-in-0-2 c = let a = c.args in near_none a.neighbours a.x a.y 2 c.in-0.is (falls_zero 3 (a.x + a.y) c.in-0-2.is)

pub returns-in-1-to-2 : goal.returns-in-1-to-2
returns-in-1-to-2 c = let a = c.args in near_none a.neighbours a.x a.y 1 c.in-0.is (falls_mid 3 (a.x + a.y) (omega arith) (omega arith))

pub returns-in_default-2 : goal.returns-in_default-2
returns-in_default-2 c = let a = c.args in near_none a.neighbours a.x a.y 0 c.in-0.is (falls_end 3 (a.x + a.y) (omega arith) (omega arith))

pub returns-in-0-y : goal.returns-in-0-y
returns-in-0-y c = let a = c.args in near_right a.neighbours a.x a.y 2 c.in-1.is (falls_zero 2 a.y c.in-0-y.is)

pub returns-in-1-y : goal.returns-in-1-y
returns-in-1-y c = let a = c.args in near_right a.neighbours a.x a.y 1 c.in-1.is (falls_mid 2 a.y (λ e. omega arith) (omega arith))

pub returns-in_default-y : goal.returns-in_default-y
returns-in_default-y c = let a = c.args in near_right a.neighbours a.x a.y 0 c.in-1.is (falls_end 2 a.y (omega arith) (omega arith))

pub returns-in-0-x : goal.returns-in-0-x
returns-in-0-x c = let a = c.args in near_below a.neighbours a.x a.y 2 c.in-2.is (falls_zero 2 a.x c.in-0-x.is)

pub returns-in-1-x : goal.returns-in-1-x
returns-in-1-x c = let a = c.args in near_below a.neighbours a.x a.y 1 c.in-2.is (falls_mid 2 a.x (λ e. omega arith) (omega arith))

pub returns-in_default-x : goal.returns-in_default-x
returns-in_default-x c = let a = c.args in near_below a.neighbours a.x a.y 0 c.in-2.is (falls_end 2 a.x (omega arith) (omega arith))

pub returns-in_default : goal.returns-in_default
returns-in_default c = let a = c.args in near_both a.neighbours a.x a.y c.requires.0 (omega arith) (omega arith) (omega arith)
