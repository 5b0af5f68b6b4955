-- What the block readers answer and leave behind in C's form.
use Rattle.std.specs.Prelude.{ℕ, zero, suc, List, Bool, ℤ, Result, Ok, Err}
use Rattle.bins.specs.Engine.{bit_no}
use Rattle.cabac.specs.Numbers.{Answer, accepted, refused, ◌or_else◌, payload_refusal}
use Rattle.hevc_residual.specs.Entries.{Found, FoundAt, PayloadRead, BinsRead, read_payload, read_bins}
use Rattle.hevc_residual.specs.declared.answers.ReadBlock.{ReadBlock}
use Rattle.hevc_residual.specs.declared.answers.Found as code
use Rattle.hevc_residual.specs.Answers.{found_seen}
use Rattle.bulmegart.specs.declared.records.EngineState.{EngineState}
use Rattle.bulmegart.specs.declared.records.BlockParams.{BlockParams}
use Rattle.bulmegart_blocks.specs.declared.blocks.BlockFound.{BlockFound}
use Rattle.bulmegart_blocks.specs.declared.blocks.BlockAnswer.{BlockAnswer}
use Rattle.bulmegart_blocks.specs.declared.blocks.ListAnswer.{ListAnswer}
use Rattle.bulmegart.specs.Records.{state_flags, params_flags, engine_of, state_of, params_of, rdpcm_no}

-- ---- what the readers' answers say
abbrev pub read_says : Result ReadBlock ℕ → Answer FoundAt
read_says (Ok b) = accepted (record { found = found_seen b.found; next = b.state })
read_says (Err n) = refused n

abbrev pub list_says : Result code.Found ℕ → Answer Found
list_says (Ok f) = accepted (found_seen f)
list_says (Err n) = refused n

-- ---- an answer as C has it: zeros beside the number of a refusal, and the state s handed in
abbrev pub found_given : Found → BlockFound
found_given f =
    record {
      skip = bit_no f.skip;
      rdpcm = rdpcm_no f.rdpcm;
      column = f.column;
      row = f.row;
      greatest = f.greatest;
    }

abbrev pub no_found : BlockFound
no_found = record { skip = 0; rdpcm = 0; column = 0; row = 0; greatest = 0 }

abbrev pub block_given : EngineState → Answer FoundAt → BlockAnswer
block_given s (accepted f) = record { number = 0; found = found_given f.found; state = state_of f.next }
block_given s (refused n) = record { number = n; found = no_found; state = s }

abbrev pub list_given : Answer Found → ListAnswer
list_given (accepted f) = record { number = 0; found = found_given f }
list_given (refused n) = record { number = n; found = no_found }

-- ---- the payload reader: 1, 2, 4 of the flags, then as document 01 has it
pub record BlockLeft : Type 0 where
  pub answer : BlockAnswer
  pub contexts : List ℕ
  pub stats : List ℕ
  pub block : List ℤ

abbrev pub block_left : BlockAnswer → List ℕ → List ℕ → List ℤ → BlockLeft
block_left answer contexts stats block = record { answer = answer; contexts = contexts; stats = stats; block = block }

abbrev pub block_seen : EngineState → PayloadRead → BlockLeft
block_seen s r = block_left (block_given s r.answer) r.contexts r.stats r.block

unfoldable pub read_block_by : ℕ → List ℕ → EngineState → List ℕ → List ℕ → BlockParams → List ℤ → BlockLeft
read_block_by zero l s contexts stats p block = block_seen s (read_payload l (engine_of s) contexts stats (params_of p) block)
read_block_by (suc n) l s contexts stats p block = block_left (block_given s (refused (suc n))) contexts stats block

unfoldable pub read_block : List ℕ → EngineState → List ℕ → List ℕ → BlockParams → List ℤ → BlockLeft
read_block l s contexts stats p block =
    read_block_by (payload_refusal l or_else state_flags s or_else params_flags p) l s contexts stats p block

-- ---- the bin reader: 4 of the flags, then as document 01 has it
pub record ListLeft : Type 0 where
  pub answer : ListAnswer
  pub stats : List ℕ
  pub block : List ℤ

abbrev pub list_left : ListAnswer → List ℕ → List ℤ → ListLeft
list_left answer stats block = record { answer = answer; stats = stats; block = block }

abbrev pub list_seen : BinsRead → ListLeft
list_seen r = list_left (list_given r.answer) r.stats r.block

unfoldable pub read_list_by : ℕ → List ℕ → List ℕ → BlockParams → List ℤ → ListLeft
read_list_by zero bins stats p block = list_seen (read_bins bins stats (params_of p) block)
read_list_by (suc n) bins stats p block = list_left (list_given (refused (suc n))) stats block

unfoldable pub read_list : List ℕ → List ℕ → BlockParams → List ℤ → ListLeft
read_list bins stats p block = read_list_by (params_flags p) bins stats p block
