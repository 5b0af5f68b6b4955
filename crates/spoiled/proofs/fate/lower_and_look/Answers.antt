use native.Mathlib.Omega.{arith}
use Rattle.spoiled.specs.CodeLaws.{lowered_front, front_length, fate_is}
use Rattle.spoiled.proofs.fate.lower_and_look.Goals as goal

pub slice_bounds-refusal-end-2 : goal.slice_bounds-refusal-end-2
slice_bounds-refusal-end-2 c =
    let a = c.args in front_length a.line.now _ a.held (omega arith) c.lower_line-turned.ensures.0

pub returns : goal.returns
returns c =
    let a = c.args in let m = lowered_front a.line.now _ a.held (omega arith) c.lower_line-turned.ensures.0 in (fate_is _ _ a.finished _ m c.refusal-number.ensures, c.lower_line-turned.ensures.1, m)
