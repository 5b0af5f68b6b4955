use Rattle.hevc_sub_blocks.specs.SmallLaws.{flag_or_yes, flag_or_no}
use Rattle.hevc_sub_blocks.proofs.subs.coded_flag.Goals as goal

pub returns-then-middle : goal.returns-then-middle
returns-then-middle c = λ w. let a = c.args in flag_or_yes a.list a.bytes.now a.number a.x a.contexts.now a.middle w c.context_bin.result c.context_bin.new.contexts c.if-middle.true (c.context_bin.ensures w)

pub returns : goal.returns
returns c = λ w. let a = c.args in flag_or_no a.list a.bytes.now a.number a.x a.contexts.now a.middle w c.if-middle.false
