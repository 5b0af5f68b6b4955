use native.Mathlib.Omega.{arith}
use Rattle.hevc_rules.specs.CoeffsLaws.{chroma_most}
use Rattle.hevc_coeff_rules.proofs.coeffs.greater2_number.Goals as goal

pub overflow_add-result-2 : goal.overflow_add-result-2
overflow_add-result-2 c = omega (arith, chroma_most c.args.luma 4 c.in_chroma.result c.in_chroma.ensures)
