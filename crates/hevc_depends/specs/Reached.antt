-- Where the reading of a block ended, and how many bits past the end of its payload it drew: for an accepted block, for 7 and 8, and, where a check refused
-- it, the state that was handed in.
use Rattle.std.specs.Prelude.{ℕ, zero, suc, List, ℤ}
use Rattle.bins.specs.declared.state.Engine.{Engine}
use Rattle.bins.specs.Syn.{run, by_engine}
use Rattle.bins.specs.EngineRuns.{state_of}
use Rattle.bins.specs.Raised.{unmarked}
use Rattle.hevc_residual.specs.declared.params.Params.{Params}
use Rattle.hevc_residual.specs.Residual.{residual}
use Rattle.hevc_residual.specs.Answers.{payload_checks}

-- behind the checks, which gave the number n
unfoldable pub reached_by : ℕ → List ℕ → Engine → List ℕ → List ℕ → Params → Engine
reached_by zero l e contexts stats p = (state_of (run (by_engine l) (residual p stats) (record { engine = e; contexts = contexts }))).engine
reached_by (suc n) l e contexts stats p = e

-- the state reached: behind the block, or where the refusal arose
unfoldable pub reached : List ℕ → Engine → List ℕ → List ℕ → Params → List ℤ → Engine
reached l e contexts stats p block = reached_by (payload_checks l e contexts stats p block) l e contexts stats p

-- the bits past the end that this call drew, up to 65,535: the total that it would reach had none been handed in
unfoldable pub drew_past : List ℕ → Engine → List ℕ → List ℕ → Params → List ℤ → ℕ
drew_past l e contexts stats p block = (reached_by (payload_checks l e contexts stats p block) l (unmarked e) contexts stats p).past
