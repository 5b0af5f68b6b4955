-- A state and parameters as C has them: a flag is a byte, and one above 1 is 4, where 4 stands in document 01's order.
use Rattle.std.specs.Prelude.{ℕ, zero, suc, Bool, cond, ltb, List}
use Rattle.bins.specs.declared.state.Engine.{Engine}
use Rattle.bins.specs.Engine.{bit_no}
use Rattle.cabac.specs.Numbers.{Answer, refused, ◌or_else◌, payload_refusal}
use Rattle.hevc_residual.specs.declared.params.Params.{Params}
use Rattle.hevc_residual.specs.declared.params.Rdpcm.{Rdpcm}
use Rattle.hevc_residual.specs.declared.params.Rdpcm.TheVariants as rdpcm
use Rattle.bulmegart.specs.declared.records.EngineState.{EngineState}
use Rattle.bulmegart.specs.declared.records.BlockParams.{BlockParams}

-- 4: a flag above 1
unfoldable pub flag_refusal : ℕ → ℕ
flag_refusal b = cond (ltb 1 b) 4 0

unfoldable pub state_flags : EngineState → ℕ
state_flags s = flag_refusal s.ended

unfoldable pub params_flags : BlockParams → ℕ
params_flags p =
    flag_refusal p.luma
    or_else flag_refusal p.hiding
    or_else flag_refusal p.skip_allowed
    or_else flag_refusal p.lossless
    or_else flag_refusal p.persistent
    or_else flag_refusal p.skip_context
    or_else flag_refusal p.explicit_rdpcm
    or_else flag_refusal p.implicit_rdpcm
    or_else flag_refusal p.inter
    or_else flag_refusal p.aligning
    or_else flag_refusal p.extended

-- ---- the state and the parameters that are meant
abbrev pub is_set : ℕ → Bool
is_set b = ltb 0 b

abbrev pub engine_of : EngineState → Engine
engine_of s =
    record {
      range = s.range;
      offset = s.offset;
      position = record { 0 = s.position };
      ended = is_set s.ended;
      past = s.past;
    }

abbrev pub state_of : Engine → EngineState
state_of e =
    record { range = e.range; offset = e.offset; position = e.position.0; ended = bit_no e.ended; past = e.past }

-- where there is no state to hand back
abbrev pub no_state : EngineState
no_state = record { range = 0; offset = 0; position = 0; ended = 0; past = 0 }

abbrev pub params_of : BlockParams → Params
params_of p =
    record {
      log2 = p.log2;
      luma = is_set p.luma;
      scan = p.scan;
      depth = p.depth;
      hiding = is_set p.hiding;
      skip_allowed = is_set p.skip_allowed;
      lossless = is_set p.lossless;
      persistent = is_set p.persistent;
      skip_context = is_set p.skip_context;
      explicit_rdpcm = is_set p.explicit_rdpcm;
      implicit_rdpcm = is_set p.implicit_rdpcm;
      inter = is_set p.inter;
      aligning = is_set p.aligning;
      extended = is_set p.extended;
    }

-- RDPCM: none, direction 0, direction 1
abbrev pub rdpcm_no : Rdpcm → ℕ
rdpcm_no rdpcm.None = 0
rdpcm_no rdpcm.Horizontal = 1
rdpcm_no rdpcm.Vertical = 2

-- ---- the flags' 4 stands behind 1 and 2, before whatever the entry point itself answers
unfoldable pub behind : {A : Type 0} → ℕ → Answer A → Answer A
behind zero a = a
behind (suc n) a = refused (suc n)

abbrev pub behind_state : {A : Type 0} → List ℕ → EngineState → Answer A → Answer A
behind_state l s a = behind (payload_refusal l or_else state_flags s) a
