use Rattle.hevc_write_refusal.specs.RefusalLaws.{asked_handed}
use Rattle.press_strokes.specs.Advice.{drawn}
use mathlib.Core.Path.{refl}
use mathlib.Core.Bool.{false}
use Rattle.hevc_residual.specs.declared.params.Rdpcm.TheVariants as of_rdpcm
use Rattle.press_strokes.proofs.search.off_at.Goals as goal

pub returns : goal.returns
returns c = let a = c.args in c.disagrees_at.ensures (drawn a.levels.now) (asked_handed a.p false of_rdpcm.None a.levels.now _ refl refl)
