use Rattle.hevc_places.proofs.places.least_number.Goals as goal

-- `least_number` meets its contract. Assumes nothing.
pub returns-then-luma : goal.returns-then-luma
returns-then-luma c = rw c.if-luma.true

pub returns-else-luma : goal.returns-else-luma
returns-else-luma c = rw c.if-luma.false
