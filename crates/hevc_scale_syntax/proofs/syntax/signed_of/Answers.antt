use Rattle.hevc_scale_syntax.specs.CodeLaws.{plus_fits, minus_few, minus_value, plus_value}
use Rattle.hevc_scale_syntax.proofs.syntax.signed_of.Goals as goal

pub overflow_cast-result : goal.overflow_cast-result
overflow_cast-result c = plus_fits c.args.v c.requires.1 c.power-m.result c.power-m.ensures

pub overflow_sub-result : goal.overflow_sub-result
overflow_sub-result c = minus_few c.args.v c.requires.1 c.power-m.result c.power-m.ensures

pub returns-then-sign-eq1 : goal.returns-then-sign-eq1
returns-then-sign-eq1 c = minus_value c.args.v c.requires.1 c.power-m.result c.power-m.ensures c.args.sign c.if-sign-eq1.true

pub overflow_cast-result-2 : goal.overflow_cast-result-2
overflow_cast-result-2 c = plus_fits c.args.v c.requires.1 c.power-m.result c.power-m.ensures

pub returns : goal.returns
returns c = plus_value c.args.v c.requires.1 c.power-m.result c.power-m.ensures c.args.sign c.if-sign-eq1.false
