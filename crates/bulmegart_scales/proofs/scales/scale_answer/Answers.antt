use mathlib.Core.Path.{refl}
use borrow.Author.Rules.{rules}
use Rattle.bulmegart_scales.proofs.scales.scale_answer.Goals as goal

pub returns-in-Ok : goal.returns-in-Ok
returns-in-Ok c = rw (c.in-Ok.is, c.into.ensures) (search rules)

pub returns-in-Err : goal.returns-in-Err
returns-in-Err c = rw c.in-Err.is refl
