-- What the engine's functions answer in C's form. After a refusal the state, and the context, are those handed in.
use Rattle.std.specs.Prelude.{ℕ, zero, suc, ◌-◌, List, [], cond, length, eqb, Result, Ok, Err}
use Rattle.bins.specs.declared.state.Engine.{Engine}
use Rattle.bins.specs.Engine.{Decided, Drawn, bit_no}
use Rattle.cabac.specs.Numbers.{Answer, accepted, refused, ◌or_else◌, payload_refusal, state_refusal}
use Rattle.cabac.specs.Entries.{rest_of}
use Rattle.bulmegart.specs.declared.records.EngineState.{EngineState}
use Rattle.bulmegart_engine.specs.declared.engine.StateAnswer.{StateAnswer}
use Rattle.bulmegart_engine.specs.declared.engine.DecisionAnswer.{DecisionAnswer}
use Rattle.bulmegart_engine.specs.declared.engine.BinsAnswer.{BinsAnswer}
use Rattle.bulmegart_engine.specs.declared.engine.RestAnswer.{RestAnswer}
use Rattle.bulmegart.specs.Records.{state_flags, engine_of, state_of}

abbrev pub state_no : Result Engine ℕ → ℕ
state_no (Ok e) = 0
state_no (Err n) = n

-- ---- an answer as C has it, the state s handed in
abbrev pub state_given : EngineState → Answer Engine → StateAnswer
state_given s (accepted e) = record { number = 0; state = state_of e }
state_given s (refused n) = record { number = n; state = s }

abbrev pub decision_given : ℕ → EngineState → Answer Decided → DecisionAnswer
decision_given context s (accepted d) = record { number = 0; bin = bit_no d.bit; context = d.ctx; state = state_of d.next }
decision_given context s (refused n) = record { number = n; bin = 0; context = context; state = s }

abbrev pub bins_given : EngineState → Answer Drawn → BinsAnswer
bins_given s (accepted d) = record { number = 0; value = d.value; state = state_of d.next }
bins_given s (refused n) = record { number = n; value = 0; state = s }

-- ---- the rest of the payload: 1, 2, 4, 3; nothing, at the end, where it is refused
unfoldable pub rest_number : List ℕ → EngineState → ℕ
rest_number l s = payload_refusal l or_else state_flags s or_else state_refusal l (engine_of s)

unfoldable pub rest_bytes : List ℕ → EngineState → List ℕ
rest_bytes l s = cond (eqb (rest_number l s) 0) (rest_of l (engine_of s)) []

abbrev pub rest_given : List ℕ → EngineState → RestAnswer
rest_given l s =
    let rest = rest_bytes l s in
    record { number = rest_number l s; first = length l - length rest; length = length rest }
