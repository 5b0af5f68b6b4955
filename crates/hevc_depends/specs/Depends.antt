-- What a block's answer depends on (request (xii)): nothing behind the bits that it drew, and nothing before the position that it started at.
-- DependsLaws proves it.
use Rattle.std.specs.Prelude.{ℕ, ◌≤◌, ◌≡◌, List, ℤ}
use Rattle.bins.specs.declared.state.Engine.{Engine}
use Rattle.bins.specs.Bits.{ends}
use Rattle.bins.specs.Engine.{place}
use Rattle.cabac.specs.Numbers.{payload_refusal}
use Rattle.depends.specs.Near.{Alike}
use Rattle.hevc_residual.specs.declared.params.Params.{Params}
use Rattle.hevc_residual.specs.Entries.{read_payload}
use Rattle.hevc_depends.specs.Reached.{reached, drew_past}

module _ (e : Engine) (contexts stats : List ℕ) (p : Params) (block : List ℤ) where
  -- what is asked of two payloads that both pass 1 and 2, the position handed in lying in the first: the run on the first drew no bit past its end; the second
  -- has every bit before the position reached; and from the position handed in to there it has the first's bits
  pub record Asked (l m : List ℕ) : Type 0 where
    pub first : 0 ≡ payload_refusal l
    pub second : 0 ≡ payload_refusal m
    pub inside : place e ≤ ends l
    pub drew : drew_past l e contexts stats p block ≡ 0
    pub has : place (reached l e contexts stats p block) ≤ ends m
    pub same : Alike l m (place e) (place (reached l e contexts stats p block))

  -- what is shown: one answer, block, contexts, statistics and state behind them with its position and total, whatever the number; and the second run reaches
  -- the same state, by 7 and 8 too, drawing no bit past its end either
  pub record Shown (l m : List ℕ) : Type 0 where
    pub answers : read_payload l e contexts stats p block ≡ read_payload m e contexts stats p block
    pub reaches : reached l e contexts stats p block ≡ reached m e contexts stats p block
    pub drew : drew_past m e contexts stats p block ≡ 0
