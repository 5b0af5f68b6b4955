-- What the plain functions answer and leave behind in C's form.
use Rattle.std.specs.Prelude.{ℕ, zero, suc, List, ℤ}
use Rattle.bins.specs.Engine.{bit_no}
use Rattle.cabac.specs.Numbers.{Answer, accepted, refused, ◌or_else◌, payload_refusal}
use Rattle.hevc_residual.specs.declared.params.Params.{Params}
use Rattle.hevc_plain.specs.Plain.{read_plain, read_plain_bins, write_plain, plain_record}
use Rattle.bulmegart.specs.declared.records.EngineState.{EngineState}
use Rattle.bulmegart.specs.declared.records.BlockParams.{BlockParams}
use Rattle.bulmegart.specs.Records.{flag_refusal, state_flags, params_flags, engine_of, params_of, is_set}
use Rattle.bulmegart.specs.Records.{behind}
use Rattle.bulmegart_blocks.specs.Blocks.{BlockLeft, block_left, block_seen, block_given, ListLeft, list_left, list_seen, list_given}
use Rattle.bulmegart_blocks.specs.Lists.{WriteLeft, write_left, write_seen, write_given, choice_refusal, choice_of}
use Rattle.bulmegart_plain.specs.declared.plain.ParamsAnswer.{ParamsAnswer}

-- ---- the payload reader: 1, 2, 4 of the flags, then 1, 2, 4, 24, 3, 6, 8
unfoldable pub read_plain_block_by : ℕ → List ℕ → EngineState → List ℕ → List ℕ → BlockParams → List ℤ → BlockLeft
read_plain_block_by zero l s contexts stats p block = block_seen s (read_plain l (engine_of s) contexts stats (params_of p) block)
read_plain_block_by (suc n) l s contexts stats p block = block_left (block_given s (refused (suc n))) contexts stats block

unfoldable pub read_plain_block : List ℕ → EngineState → List ℕ → List ℕ → BlockParams → List ℤ → BlockLeft
read_plain_block l s contexts stats p block =
    read_plain_block_by (payload_refusal l or_else state_flags s or_else params_flags p) l s contexts stats p block

-- ---- the bin reader: 4 of the flags, then 4, 24, 8 or 13
unfoldable pub read_plain_list_by : ℕ → List ℕ → List ℕ → BlockParams → List ℤ → ListLeft
read_plain_list_by zero bins stats p block = list_seen (read_plain_bins bins stats (params_of p) block)
read_plain_list_by (suc n) bins stats p block = list_left (list_given (refused (suc n))) stats block

unfoldable pub read_plain_list : List ℕ → List ℕ → BlockParams → List ℤ → ListLeft
read_plain_list bins stats p block = read_plain_list_by (params_flags p) bins stats p block

-- ---- the writer: 4 of the flags and of the choice, then 4, 24, 9, 10, 8, 11, 12
unfoldable pub write_plain_block_by : ℕ → BlockParams → List ℕ → List ℤ → ℕ → ℕ → List ℕ → WriteLeft
write_plain_block_by zero p stats block skip choice room = write_seen (write_plain (params_of p) stats block (is_set skip) (choice_of choice) room)
write_plain_block_by (suc n) p stats block skip choice room = write_left (write_given (refused (suc n))) stats room

unfoldable pub write_plain_block : BlockParams → List ℕ → List ℤ → ℕ → ℕ → List ℕ → WriteLeft
write_plain_block p stats block skip choice room =
    write_plain_block_by (params_flags p or_else flag_refusal skip or_else choice_refusal choice) p stats block skip choice room

-- ---- a plain record: 4 of the flags, then 4, 24
abbrev pub params_given : Params → BlockParams
params_given p =
    record {
      log2 = p.log2;
      scan = p.scan;
      depth = p.depth;
      luma = bit_no p.luma;
      hiding = bit_no p.hiding;
      skip_allowed = bit_no p.skip_allowed;
      lossless = bit_no p.lossless;
      persistent = bit_no p.persistent;
      skip_context = bit_no p.skip_context;
      explicit_rdpcm = bit_no p.explicit_rdpcm;
      implicit_rdpcm = bit_no p.implicit_rdpcm;
      inter = bit_no p.inter;
      aligning = bit_no p.aligning;
      extended = bit_no p.extended;
    }

abbrev pub no_params : BlockParams
no_params =
    record {
      log2 = 0;
      scan = 0;
      depth = 0;
      luma = 0;
      hiding = 0;
      skip_allowed = 0;
      lossless = 0;
      persistent = 0;
      skip_context = 0;
      explicit_rdpcm = 0;
      implicit_rdpcm = 0;
      inter = 0;
      aligning = 0;
      extended = 0;
    }

abbrev pub record_given : Answer Params → ParamsAnswer
record_given (accepted p) = record { number = 0; params = params_given p }
record_given (refused n) = record { number = n; params = no_params }

unfoldable pub record_flags : ℕ → ℕ → ℕ → ℕ → ℕ → ℕ
record_flags luma hiding skipAllowed lossless inter =
    flag_refusal luma or_else flag_refusal hiding or_else flag_refusal skipAllowed or_else flag_refusal lossless or_else flag_refusal inter

unfoldable pub plain_params : ℕ → ℕ → ℕ → ℕ → ℕ → ℕ → ℕ → ParamsAnswer
plain_params log2 scan luma hiding skipAllowed lossless inter =
    record_given (behind (record_flags luma hiding skipAllowed lossless inter)
    (plain_record log2 (is_set luma) scan (is_set hiding) (is_set skipAllowed) (is_set lossless) (is_set inter)))
