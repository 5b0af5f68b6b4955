use native.Mathlib.Omega.{arith}
use Rattle.hevc_scans.specs.NumberLaws.{eight, wide_is, product_small, number_diagonal, number_row, number_column}
use Rattle.hevc_scans.proofs.numbers.number_in.Goals as goal

pub on_diagonal-requires : goal.on_diagonal-requires
on_diagonal-requires c = let a = c.args in let h = c.requires in rw (wide_is a.log2w h.0) (eight a.log2w h.0, h.2, h.3)

pub overflow_mul-result : goal.overflow_mul-result
overflow_mul-result c = let a = c.args in let h = c.requires in omega (arith, product_small a.log2w a.y _ h.0 h.3 (wide_is a.log2w h.0))

pub overflow_add-result : goal.overflow_add-result
overflow_add-result c = let a = c.args in let h = c.requires in omega (arith, product_small a.log2w a.y _ h.0 h.3 (wide_is a.log2w h.0), eight a.log2w h.0)

pub overflow_mul-result-in_default : goal.overflow_mul-result-in_default
overflow_mul-result-in_default c = let a = c.args in let h = c.requires in omega (arith, product_small a.log2w a.x _ h.0 h.2 (wide_is a.log2w h.0))

pub overflow_add-result-in_default : goal.overflow_add-result-in_default
overflow_add-result-in_default c = let a = c.args in let h = c.requires in omega (arith, product_small a.log2w a.x _ h.0 h.2 (wide_is a.log2w h.0), eight a.log2w h.0)

pub returns-in-0 : goal.returns-in-0
returns-in-0 c = let a = c.args in let h = c.requires in number_diagonal a.log2w a.scan a.x a.y _ h.0 h.1 h.2 h.3 (wide_is a.log2w h.0) c.on_diagonal.result c.in-0.is c.on_diagonal.ensures

pub returns-in-1 : goal.returns-in-1
returns-in-1 c = let a = c.args in let h = c.requires in number_row a.log2w a.scan a.x a.y _ h.0 h.1 h.2 h.3 (wide_is a.log2w h.0) c.in-1.is

pub returns-in_default : goal.returns-in_default
returns-in_default c = let a = c.args in let h = c.requires in number_column a.log2w a.scan a.x a.y _ h.0 h.1 h.2 h.3 (wide_is a.log2w h.0) (omega arith) (omega arith)
