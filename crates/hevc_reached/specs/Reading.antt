-- What `reached` answers: the definitions of hevc_depends, side by side.
use Rattle.std.specs.Prelude.{ℕ, List, ℤ, Result, Ok, Err}
use Rattle.bins.specs.declared.state.Engine.{Engine}
use Rattle.bins.specs.declared.state.Interval.{Interval}
use Rattle.bins.specs.declared.state.Refusal.{Refusal}
use Rattle.hevc_residual.specs.declared.params.Params.{Params}
use Rattle.hevc_block.specs.declared.block.Blocked.{Blocked}
use Rattle.hevc_depends.specs.Reached as depends
use Rattle.hevc_reached.specs.declared.entries.ReachedAt.{ReachedAt}

-- the state reached and the bits past the end that the call drew
unfoldable pub reached_all : List ℕ → Engine → List ℕ → List ℕ → Params → List ℤ → ReachedAt
reached_all l e contexts stats p block =
    record { state = depends.reached l e contexts stats p block; past = depends.drew_past l e contexts stats p block }

-- the interval at which the code's reading ended
abbrev pub end_of : Result Blocked Refusal → Interval
end_of (Ok b) = b.next
end_of (Err n) = n.at
