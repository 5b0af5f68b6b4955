use borrow.Author.Rules.{rules}
use Rattle.hevc_residual.specs.SubBlock.{sign_hidden}
use Rattle.hevc_coeff_rules.proofs.coeffs.hidden.Goals as goal

pub returns : goal.returns
unfolding sign_hidden
returns c = search rules
