-- A decision on a lent context: what is answered, and what the context then holds.
use Rattle.std.specs.Prelude.{ℕ, List, Bool, Result, Ok, Err}
use Rattle.bins.specs.declared.state.Engine.{Engine}
use Rattle.bins.specs.Engine.{Decided}
use Rattle.cabac.specs.Numbers.{Answer, accepted, refused}
use Rattle.cabac.specs.Entries.{decision}
use Rattle.cabac_context.specs.declared.context.ReadBit.{ReadBit}

pub record BitAt : Type 0 where
  pub bit : Bool
  pub next : Engine

pub record Lent : Type 0 where
  pub answer : Answer BitAt
  pub packed : ℕ

-- the code's answer, with the byte that the context holds behind the call
abbrev pub lent_says : Result ReadBit ℕ → ℕ → Lent
lent_says (Ok r) packed = record { answer = accepted (record { bit = r.bin; next = r.state }); packed = packed }
lent_says (Err n) packed = record { answer = refused n; packed = packed }

-- the decision's own byte; document 01: "After any refusal state and contexts are those handed in."
abbrev pub lent_of : Answer Decided → ℕ → Lent
lent_of (accepted d) packed = record { answer = accepted (record { bit = d.bit; next = d.next }); packed = d.ctx }
lent_of (refused n) packed = record { answer = refused n; packed = packed }

-- a decision on a context that holds the byte: 1, 2, 3, 6
unfoldable pub on_lent : List ℕ → Engine → ℕ → Lent
on_lent l e packed = lent_of (decision l e packed) packed
