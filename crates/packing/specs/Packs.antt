-- What it is to read back what a list was packed to, and how many entries a list may have: PacksLaws proves the first of every syntax.
use Rattle.std.specs.Prelude.{ℕ, ◌+◌, ◌/◌, ◌≡◌, List, length}
use Rattle.bins.specs.declared.state.Engine.{Engine}
use Rattle.bins.specs.Engine.{place, started, Drawn, terminated}
use Rattle.bins.specs.Syn.{Syn, Out, run, by_engine}
use Rattle.cabac.specs.Numbers.{accepted, payload_refusal, state_refusal, ended_refusal}
use Rattle.cabac.specs.Entries.{start, terminate}

-- so many entries make no payload that is too long (2)
abbrev pub entries_most : ℕ
entries_most = 19173959

-- the reader of P, started with contexts cs, reads t as a, and then terminate is 1
pub record ReadsBack {B A : Type 0} (P : List ℕ) (t : Syn B A) (cs : List ℕ) (a : A) (cs' : List ℕ) : Type 0 where
  pub state : Engine
  pub starts : start P ≡ accepted (started P)
  pub admitted : 0 ≡ payload_refusal P
  pub possible : 0 ≡ state_refusal P (started P)
  pub running : 0 ≡ ended_refusal (started P)
  pub reads : run (by_engine P) t (record { engine = started P; contexts = cs }) ≡ Out.ok a (record { engine = state; contexts = cs' })
  pub clean : state.past ≡ 0
  pub ends : terminate P state ≡ accepted (terminated P state)
  pub one : (terminated P state).value ≡ 1
  pub still : (terminated P state).next.past ≡ 0
  pub long : length P ≡ (place (terminated P state).next + 7) / 8

-- the reader has not run past the end; then terminate is accepted and 1, and still not past it; the length is the position after it, rounded up to whole bytes
pub record Closes (P : List ℕ) (next : Engine) : Type 0 where
  pub clean : next.past ≡ 0
  pub last : Drawn
  pub ends : terminate P next ≡ accepted last
  pub one : last.value ≡ 1
  pub still : last.next.past ≡ 0
  pub long : length P ≡ (place last.next + 7) / 8
