-- What an answer of the code says of a tree that is read from a bin list or a payload: every syntax's words, at HEVC's wants.
use Rattle.std.specs.Prelude.{ℕ, Bool, List}
use Rattle.bins.specs.declared.state.Interval.{Interval}
use Rattle.bins.specs.Syn.{Out, run}
use Rattle.bins.specs.Sources.{Cursor, cursor, by_code}
use Rattle.hevc_residual.specs.Wanted.{S}
pub use Rattle.trees.specs.Agree.{Reads, Says, SaysFlag, says_ok, says_no, flag_ok, flag_no_lem, readable_on, reads_on}

-- a tree read from the code's source
abbrev pub from : {A : Type 0} → Bool → List ℕ → S A → Interval → List ℕ → Out Cursor A
from s l t x cs = run (by_code s l) t (cursor x cs)
