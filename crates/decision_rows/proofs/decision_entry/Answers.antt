use native.Mathlib.Omega.{arith}
use Prim.Native.Nat.{◌/◌, ◌%◌}
use mathlib.Core.Path.{ap, ◌∙◌}
use Rattle.decision_rows.specs.Rows.{taken, row_entry, row_small}
use Rattle.decision_rows.proofs.decision_entry.Goals as goal

pub overflow_cast-result-2 : goal.overflow_cast-result-2
overflow_cast-result-2 c = omega (arith, c.row_of-row.ensures, row_small c.args.ctx c.requires)

pub returns : goal.returns
returns c =
    let a = c.args in
    ap (λ row. taken row (a.range / 64 % 4)) c.row_of-row.ensures ∙ row_entry a.ctx (a.range / 64 % 4) c.requires (omega arith)
