use Rattle.pen.specs.Sheet.{sheet}
use Rattle.hevc_scale_writer.specs.WriteLaws.{none_put, sign_put}
use Rattle.hevc_scale_writer.proofs.write.put_scale.Goals as goal

pub returns-then-v-eq0 : goal.returns-then-v-eq0
returns-then-v-eq0 c = let a = c.args in λ z w e q. none_put a.component a.v (sheet a.room.now a.pen) (sheet c.put_prefix-behind.new.room c.put_prefix-behind.result) c.requires.1 c.put_prefix-behind.ensures z w e c.if-v-eq0.true

pub returns : goal.returns
returns c = let a = c.args in λ z w e q. sign_put a.component a.v (sheet a.room.now a.pen) (sheet c.put_prefix-behind.new.room c.put_prefix-behind.result) c.requires.1 c.put_prefix-behind.ensures z w e c.if-v-eq0.false a.sign q (sheet c.put_bin.new.room c.put_bin.result) c.put_bin.ensures
