use Rattle.hevc_places.proofs.places.skip_number.Goals as goal

-- `skip_number` meets its contract. Assumes nothing.
pub returns-then-luma : goal.returns-then-luma
returns-then-luma c = rw c.if-luma.true

pub returns-else-luma : goal.returns-else-luma
returns-else-luma c = rw c.if-luma.false
