use mir.Facts.{to_z-of_z}
use lib.IntN.{negsuc}
use lib.Signed.{lt_z}
use mathlib.Core.Path.{sym, ap, ◌∙◌}
use Rattle.h264_contexts.specs.PairLaws.{out_below, in_code}
use Rattle.h264_contexts.proofs.contexts.is_within.Goals as goal

pub returns-then-v-ltminus128 : goal.returns-then-v-ltminus128
returns-then-v-ltminus128 c = let a = c.args in out_below a.v (ap (λ y. lt_z y (negsuc 127)) (sym (to_z-of_z c.ranges.v)) ∙ c.if-v-ltminus128.true)

pub returns : goal.returns
returns c = let a = c.args in in_code a.v c.ranges.v c.if-v-ltminus128.false
