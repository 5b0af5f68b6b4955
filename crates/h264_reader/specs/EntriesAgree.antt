-- What the answers of the two entry points say, as one record with what they leave behind.
use Rattle.std.specs.Prelude.{ℕ, List, ℤ, Result, Ok, Err}
use Rattle.bins.specs.declared.state.Engine.{Engine}
use Rattle.cabac.specs.Numbers.{Answer, accepted, refused, ◌or_else◌, payload_refusal, state_refusal, ended_refusal}
use Rattle.trees.specs.Lent.{contexts_refusal}
use Rattle.h264_block.specs.Entries.{FoundAt, PayloadRead, BinsRead, block_refusal}
use Rattle.h264_reader.specs.declared.entries.Found.{Found}

abbrev pub Read : Type 0
Read = Result Found ℕ

abbrev pub found : ℕ → Engine → Read
found g e = Ok (record { greatest = g; next = e })

abbrev pub ReadList : Type 0
ReadList = Result ℕ ℕ

abbrev pub read_says : Read → Answer FoundAt
read_says (Ok f) = accepted (record { greatest = f.greatest; next = f.next })
read_says (Err n) = refused n

abbrev pub payload_read : Read → List ℕ → List ℤ → PayloadRead
payload_read r contexts block = record { answer = read_says r; contexts = contexts; block = block }

abbrev pub list_says : ReadList → Answer ℕ
list_says (Ok g) = accepted g
list_says (Err n) = refused n

abbrev pub bins_read : ReadList → List ℤ → BinsRead
bins_read r block = record { answer = list_says r; block = block }

-- the checks, in document 01's order
abbrev pub payload_checks : List ℕ → Engine → List ℕ → List ℤ → ℕ
payload_checks l e contexts block = payload_refusal l or_else block_refusal block or_else state_refusal l e or_else contexts_refusal contexts or_else ended_refusal e
