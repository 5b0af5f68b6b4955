-- What the readers into a kept block answer and leave behind in C's form.
use Rattle.std.specs.Prelude.{ℕ, zero, suc, List, ℤ}
use Rattle.cabac.specs.Numbers.{refused, ◌or_else◌, payload_refusal}
use Rattle.bulmegart.specs.declared.records.EngineState.{EngineState}
use Rattle.bulmegart.specs.declared.records.BlockParams.{BlockParams}
use Rattle.bulmegart_blocks.specs.declared.blocks.BlockAnswer.{BlockAnswer}
use Rattle.bulmegart_blocks.specs.declared.blocks.ListAnswer.{ListAnswer}
use Rattle.bulmegart.specs.Records.{state_flags, params_flags, engine_of, params_of}
use Rattle.bulmegart_blocks.specs.Blocks.{block_given, list_given}
use Rattle.hevc_summary.specs.declared.kept.Form.{Form}
use Rattle.hevc_summary.specs.Summary.{Kept}
use Rattle.hevc_summary.specs.Entries.{KeptRead, read_kept, KeptList, list_kept}
use Rattle.hevc_summary.specs.Agree.{kept_of}
use Rattle.bulmegart_summary.specs.declared.readers.KeptBlockAnswer.{KeptBlockAnswer}
use Rattle.bulmegart_summary.specs.declared.readers.KeptListAnswer.{KeptListAnswer}

-- ---- the payload reader: 1, 2, 4 of the flags, then as it is told of a kept block
pub record BlockLeft : Type 0 where
  pub answer : BlockAnswer
  pub contexts : List ℕ
  pub stats : List ℕ
  pub kept : Kept

abbrev pub block_left : KeptBlockAnswer → List ℕ → List ℕ → List ℤ → List ℕ → List ℕ → BlockLeft
block_left r contexts stats levels counts sums =
    record { answer = r.block; contexts = contexts; stats = stats; kept = kept_of levels counts sums r.whole }

abbrev pub block_seen : EngineState → KeptRead → BlockLeft
block_seen s r = record { answer = block_given s r.answer; contexts = r.contexts; stats = r.stats; kept = r.kept }

unfoldable pub read_block_by : ℕ → Form → List ℕ → EngineState → List ℕ → List ℕ → BlockParams → Kept → BlockLeft
read_block_by zero f l s contexts stats p k = block_seen s (read_kept f l (engine_of s) contexts stats (params_of p) k)
read_block_by (suc n) f l s contexts stats p k =
    record { answer = block_given s (refused (suc n)); contexts = contexts; stats = stats; kept = k }

unfoldable pub read_block : Form → List ℕ → EngineState → List ℕ → List ℕ → BlockParams → Kept → BlockLeft
read_block f l s contexts stats p k =
    read_block_by (payload_refusal l or_else state_flags s or_else params_flags p) f l s contexts stats p k

-- ---- the bin reader: 4 of the flags, then as it is told of a kept block
pub record ListLeft : Type 0 where
  pub answer : ListAnswer
  pub stats : List ℕ
  pub kept : Kept

abbrev pub list_left : KeptListAnswer → List ℕ → List ℤ → List ℕ → List ℕ → ListLeft
list_left r stats levels counts sums = record { answer = r.list; stats = stats; kept = kept_of levels counts sums r.whole }

abbrev pub list_seen : KeptList → ListLeft
list_seen r = record { answer = list_given r.answer; stats = r.stats; kept = r.kept }

unfoldable pub read_list_by : ℕ → Form → List ℕ → List ℕ → BlockParams → Kept → ListLeft
read_list_by zero f bins stats p k = list_seen (list_kept f bins stats (params_of p) k)
read_list_by (suc n) f bins stats p k = record { answer = list_given (refused (suc n)); stats = stats; kept = k }

unfoldable pub read_list : Form → List ℕ → List ℕ → BlockParams → Kept → ListLeft
read_list f bins stats p k = read_list_by (params_flags p) f bins stats p k
