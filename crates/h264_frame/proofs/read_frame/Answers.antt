use mathlib.Core.Path.{refl, sym, ◌∙◌}
use Rattle.h264_frame.specs.FrameLaws.{formed_front, no_frame}
use Rattle.h264_frame.proofs.read_frame.Goals as goal

pub read_formed-requires : goal.read_formed-requires
read_formed-requires c =
    let q = sym c.if-is_formed.true ∙ c.is_formed.ensures in
    (q, formed_front _ q, refl)

pub returns-then-is_formed : goal.returns-then-is_formed
returns-then-is_formed c = c.read_formed.ensures

pub returns : goal.returns
returns c = no_frame _ (sym c.if-is_formed.false ∙ c.is_formed.ensures)
