use Rattle.hevc_elements.specs.ShapeLaws.{flag_none, flag_some}
use Rattle.hevc_elements.proofs.shapes.flag_if.Goals as goal

pub returns-then-coded : goal.returns-then-coded
returns-then-coded c = λ w. let a = c.args in flag_some a.list a.bytes.now a.number a.x a.contexts.now a.coded w c.context_bin.result c.context_bin.new.contexts c.if-coded.true (c.context_bin.ensures w)

pub returns : goal.returns
returns c = λ w. let a = c.args in flag_none a.list a.bytes.now a.number a.x a.contexts.now a.coded w c.if-coded.false
