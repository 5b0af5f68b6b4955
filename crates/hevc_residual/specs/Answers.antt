-- What the answers of the entry points say, with document 01's numbers, and the checks before a block is read, in its order.
use Rattle.std.specs.Prelude.{ℕ, List, ℤ, Result, Ok, Err}
use Rattle.bins.specs.declared.state.Engine.{Engine}
use Rattle.cabac.specs.Numbers.{Answer, accepted, refused, ◌or_else◌, payload_refusal, state_refusal, ended_refusal}
use Rattle.hevc_residual.specs.declared.params.Params.{Params}
use Rattle.hevc_residual.specs.declared.answers.Found.{Found}
use Rattle.hevc_residual.specs.declared.answers.ReadBlock.{ReadBlock}
use Rattle.hevc_residual.specs.Numbers.{parameter_refusal, contexts_refusal, statistics_refusal}
use Rattle.hevc_residual.specs.Entries as entries
use Rattle.hevc_residual.specs.Entries.{PayloadRead, BinsRead, BinsWritten}

-- ---- a block that is read
abbrev pub found_seen : Found → entries.Found
found_seen f = record { skip = f.skip; rdpcm = f.rdpcm; column = f.column; row = f.row; greatest = f.greatest }

abbrev pub payload_read : Result ReadBlock ℕ → List ℕ → List ℕ → List ℤ → PayloadRead
payload_read (Ok b) contexts stats block =
    record { answer = accepted (record { found = found_seen b.found; next = b.state }); contexts = contexts; stats = stats; block = block }
payload_read (Err n) contexts stats block = record { answer = refused n; contexts = contexts; stats = stats; block = block }

abbrev pub bins_read : Result Found ℕ → List ℕ → List ℤ → BinsRead
bins_read (Ok f) stats block = record { answer = accepted (found_seen f); stats = stats; block = block }
bins_read (Err n) stats block = record { answer = refused n; stats = stats; block = block }

-- ---- the checks before it
abbrev pub payload_checks : List ℕ → Engine → List ℕ → List ℕ → Params → List ℤ → ℕ
payload_checks l e contexts stats p block =
    payload_refusal l
    or_else parameter_refusal p block
    or_else state_refusal l e
    or_else contexts_refusal contexts
    or_else statistics_refusal stats
    or_else ended_refusal e

-- ---- a list that is written
abbrev pub written_says : Result ℕ ℕ → Answer ℕ
written_says (Ok n) = accepted n
written_says (Err n) = refused n

abbrev pub bins_written : Result ℕ ℕ → List ℕ → List ℕ → BinsWritten
bins_written r stats room = record { answer = written_says r; stats = stats; room = room }
