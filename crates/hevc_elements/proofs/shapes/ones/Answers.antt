use Rattle.hevc_elements.specs.ShapeLaws.{ones_says}
use Rattle.hevc_elements.proofs.shapes.ones.Goals as goal

pub returns : goal.returns
returns c = λ w contexts. let a = c.args in ones_says a.list a.bytes.now a.x contexts c.ones.result contexts w a.most (c.ones.ensures contexts)
