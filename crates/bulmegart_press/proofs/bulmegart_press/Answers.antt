use Rattle.bulmegart_press.proofs.bulmegart_press.Goals as goal

pub returns : goal.returns
returns c = record { answer = c.press.result; told = c.into.ensures; is = c.press.ensures.0; leaves = c.press.ensures.1 }
