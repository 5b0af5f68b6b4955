use Rattle.hevc_rules.specs.CoeffsLaws.{rice_of}
use Rattle.hevc_coeff_rules.proofs.coeffs.rice_start.Goals as goal

pub returns-then-p : goal.returns-then-p
returns-then-p c = rice_of _ _ c.if-p.true
