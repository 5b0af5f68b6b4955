use mir.Facts.{to_z-of_z}
use mir.Syntax.{w8, w32}
use mir.Val.{SFits}
use mathlib.Core.Path.{◌∙◌}
use native.Mathlib.Omega.{arith}
use Rattle.h264_frame.specs.FrameLaws.{byte_is}
use Rattle.h264_frame.proofs.signed.Goals as goal

pub returns : goal.returns
returns c =
    let few : SFits w8 c.cast_signed.result = record { sfits = c.cast_signed.type_inv } in
    let wide : SFits w32 c.from.result = record { sfits = c.from.type_inv } in
    to_z-of_z wide ∙ c.from.ensures ∙ to_z-of_z few ∙ c.cast_signed.ensures ∙ byte_is c.args.b (omega arith)
