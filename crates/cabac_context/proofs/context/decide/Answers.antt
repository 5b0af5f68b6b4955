use Rattle.cabac_context.specs.LentLaws.{bin_stored, refusal_kept}
use Rattle.cabac_context.proofs.context.decide.Goals as goal

pub returns-in-Ok : goal.returns-in-Ok
returns-in-Ok c =
    let a = c.args in
    bin_stored a.bytes.now a.e a.packed c.decode_bin.result c.decode_bin.ensures _ c.in-Ok.is

pub returns-in-Err : goal.returns-in-Err
returns-in-Err c =
    let a = c.args in
    refusal_kept a.bytes.now a.e a.packed c.decode_bin.result c.decode_bin.ensures _ c.in-Err.is
