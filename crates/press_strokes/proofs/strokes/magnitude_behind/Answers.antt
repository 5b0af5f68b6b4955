use native.Mathlib.Omega.{arith}
use Rattle.press_strokes.specs.StrokeLaws.{one_more, one_less, none_more}
use Rattle.press_strokes.proofs.strokes.magnitude_behind.Goals as goal

pub returns-then-k-eq0 : goal.returns-then-k-eq0
returns-then-k-eq0 c = let a = c.args in (one_more a.k a.m c.if-k-eq0.true, omega (arith, c.requires))

pub returns-then-k-eq1 : goal.returns-then-k-eq1
returns-then-k-eq1 c = let a = c.args in (one_less a.k a.m c.if-k-eq0.false c.if-k-eq1.true, omega (arith, c.requires))

pub returns : goal.returns
returns c = let a = c.args in (none_more a.k a.m c.if-k-eq0.false c.if-k-eq1.false, omega (arith, c.requires))
