use Rattle.hevc_places.proofs.places.first_number.Goals as goal

-- `first_number` meets its contract. Assumes nothing.
pub returns-then-outside : goal.returns-then-outside
returns-then-outside c = rw c.if-outside.true

pub returns-else-outside : goal.returns-else-outside
returns-else-outside c = rw c.if-outside.false
