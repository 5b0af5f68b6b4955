use Rattle.hevc_elements.specs.ShapeLaws.{flag_any}
use Rattle.hevc_elements.proofs.shapes.context_bin.Goals as goal

pub returns : goal.returns
returns c = λ w. let a = c.args in flag_any a.list a.bytes.now a.number a.x a.contexts.now c.context_bin.result c.context_bin.new.contexts c.context_bin.ensures w
