-- What the answers of the entry points say, as one record with what they leave behind.
use Rattle.std.specs.Prelude.{ℕ, List, ℤ, Result, Ok, Err}
use Rattle.bins.specs.declared.state.Engine.{Engine}
use Rattle.cabac.specs.Numbers.{Answer, accepted, refused, ◌or_else◌, payload_refusal, state_refusal, ended_refusal}
use Rattle.hevc_residual.specs.Numbers.{contexts_refusal}
use Rattle.hevc_residual.specs.Answers.{written_says}
use Rattle.hevc_scale.specs.declared.entries.FoundScale.{FoundScale}
use Rattle.hevc_cross.specs.Entries.{component_refusal, ScaleAt, PayloadRead, BinsWritten}

abbrev pub Read : Type 0
Read = Result FoundScale ℕ

abbrev pub found : ℤ → Engine → Read
found z e = Ok (record { scale = z; next = e })

abbrev pub ReadList : Type 0
ReadList = Result ℤ ℕ

abbrev pub read_says : Read → Answer ScaleAt
read_says (Ok f) = accepted (record { scale = f.scale; next = f.next })
read_says (Err n) = refused n

abbrev pub payload_read : Read → List ℕ → PayloadRead
payload_read r contexts = record { answer = read_says r; contexts = contexts }

abbrev pub bins_read : ReadList → Answer ℤ
bins_read (Ok z) = accepted z
bins_read (Err n) = refused n

abbrev pub bins_written : Result ℕ ℕ → List ℕ → BinsWritten
bins_written r room = record { answer = written_says r; room = room }

-- the checks, in document 01's order
abbrev pub payload_checks : List ℕ → Engine → List ℕ → ℕ → ℕ
payload_checks l e contexts c =
    payload_refusal l or_else component_refusal c or_else state_refusal l e or_else contexts_refusal contexts or_else ended_refusal e
