use Rattle.hevc_rules.specs.CoeffsLaws.{wide_is}
use Rattle.hevc_coeff_rules.proofs.coeffs.is_wide.Goals as goal

pub returns : goal.returns
returns c = wide_is c.args.s
