use Rattle.hevc_head.specs.HeadLaws.{luma_says, chroma_says}
use Rattle.hevc_head.proofs.head.last_prefix.Goals as goal

pub returns-then-luma : goal.returns-then-luma
returns-then-luma c = let a = c.args in luma_says a.list a.bytes.now a.x a.contexts.now c.prefix.result c.prefix.new.contexts a.first a.luma a.log2 c.if-luma.true c.prefix.ensures

pub returns : goal.returns
returns c = let a = c.args in chroma_says a.list a.bytes.now a.x a.contexts.now c.prefix-2.result c.prefix-2.new.contexts a.first a.luma a.log2 c.if-luma.false c.prefix-2.ensures
