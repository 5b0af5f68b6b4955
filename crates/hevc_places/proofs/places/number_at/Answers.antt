use Rattle.hevc_places.specs.PlacesLaws.{first_held, four_shifted}
use Rattle.hevc_places.proofs.places.number_at.Goals as goal

pub returns-then-k-eq0 : goal.returns-then-k-eq0
returns-then-k-eq0 c = let a = c.args in first_held a.s a.k c.if-k-eq0.true

pub returns : goal.returns
returns c = let a = c.args in four_shifted a.s a.k c.if-k-eq0.false
