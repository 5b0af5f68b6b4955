use mathlib.Core.Path.{◌≡◌}
use lib.ListN.{drop}
use Rattle.text_fields.specs.Spelled.{decimal_from, decimal_of}
use Rattle.text_fields.proofs.fields.decimal.Given as goal

-- `decimal` meets its contract. Assumes nothing.
abbrev pub invariant-loop-b : goal.invariant-loop-b
invariant-loop-b l = decimal_from l.v (drop l.b-index l.s) ≡ decimal_of l.s
