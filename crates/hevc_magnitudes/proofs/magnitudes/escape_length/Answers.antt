use Rattle.hevc_magnitudes.specs.MagnitudeLaws.{length_most, length_less}
use Rattle.hevc_magnitudes.proofs.magnitudes.escape_length.Goals as goal

pub returns-then-n-t : goal.returns-then-n-t
returns-then-n-t c = let a = c.args in length_most a.t a.k a.n c.if-n-t.true

pub returns-else-n-t : goal.returns-else-n-t
returns-else-n-t c = let a = c.args in length_less a.t a.k a.n c.if-n-t.false
