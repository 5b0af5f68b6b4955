use mathlib.Core.Path.{refl}
use Rattle.bulmegart_blocks.proofs.blocks.block_answer.Goals as goal

pub returns-in-Ok : goal.returns-in-Ok
returns-in-Ok c = rw (c.in-Ok.is, c.into-in-Ok.ensures, c.into.ensures) refl

pub returns-in-Err : goal.returns-in-Err
returns-in-Err c = rw (c.in-Err.is, c.no_found.ensures) refl
