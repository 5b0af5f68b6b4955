use Rattle.h264_writer.specs.RefusalPuts.{far_below, far_above}
use mir.Facts.{to_z-of_z}
use lib.Signed.{lt_z}
use lib.IntN.{pos, negsuc}
use mathlib.Core.Path.{sym, ap, ◌∙◌}
use Rattle.h264_writer.proofs.refusal.is_far.Goals as goal

-- `is_far` meets its contract. Assumes nothing.
pub returns-then-v-ltminus32768 : goal.returns-then-v-ltminus32768
returns-then-v-ltminus32768 c = far_below c.args.v (ap (λ y. lt_z y (negsuc 32767)) (sym (to_z-of_z c.ranges.v)) ∙ c.if-v-ltminus32768.true)

pub returns : goal.returns
returns c = let f = to_z-of_z c.ranges.v in ap (λ y. lt_z (pos 32767) y) f ∙ far_above c.args.v (ap (λ y. lt_z y (negsuc 32767)) (sym f) ∙ c.if-v-ltminus32768.false)
