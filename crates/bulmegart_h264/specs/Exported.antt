-- What the functions of H.264's block answer and leave behind in C's form.
use Prim.Native.Nat.{ℕ, zero, suc}
use Rattle.std.specs.Prelude.{◌≡◌, List, ℤ}
use Rattle.std.proofs.Common.{◌∙◌, arith}
use Rattle.std.proofs.Math.Path.{ap}
use Rattle.bins.specs.declared.state.Engine.{Engine}
use Rattle.cabac.specs.Numbers.{Answer, accepted, refused, ◌or_else◌, payload_refusal}
use Rattle.h264_block.specs.Entries.{FoundAt, PayloadRead, read_payload, BinsRead, read_bins, BinsWritten, write_bins}
use Rattle.h264_reader.specs.EntriesAgree.{Read, ReadList, read_says, list_says, payload_read, bins_read}
use Rattle.h264_writer.specs.EntriesPuts.{Listed, written_says, bins_written}
use Rattle.bulmegart.specs.declared.records.EngineState.{EngineState}
use Rattle.bulmegart_blocks.specs.declared.lists.WriteAnswer.{WriteAnswer}
use Rattle.bulmegart.specs.Records.{state_flags, engine_of, state_of}
use Rattle.bulmegart_blocks.specs.Lists.{write_given}
use Rattle.bulmegart_h264.specs.declared.H264BlockAnswer.{H264BlockAnswer}
use Rattle.bulmegart_h264.specs.declared.H264ListAnswer.{H264ListAnswer}

-- ---- an answer as C has it: greatest 0 beside the number of a refusal, and the state s handed in
abbrev pub block_given : EngineState → Answer FoundAt → H264BlockAnswer
block_given s (accepted f) = record { number = 0; greatest = f.greatest; state = state_of f.next }
block_given s (refused n) = record { number = n; greatest = 0; state = s }

abbrev pub list_given : Answer ℕ → H264ListAnswer
list_given (accepted g) = record { number = 0; greatest = g }
list_given (refused n) = record { number = n; greatest = 0 }

-- ---- the payload reader: 1, 2, 4 of the state's flag, then 1, 2, 4, 3, 6, 8
pub record BlockLeft : Type 0 where
  pub answer : H264BlockAnswer
  pub contexts : List ℕ
  pub levels : List ℤ

abbrev pub block_left : H264BlockAnswer → List ℕ → List ℤ → BlockLeft
block_left answer contexts levels = record { answer = answer; contexts = contexts; levels = levels }

abbrev pub block_seen : EngineState → PayloadRead → BlockLeft
block_seen s r = block_left (block_given s r.answer) r.contexts r.block

unfoldable pub read_block_by : ℕ → List ℕ → EngineState → List ℕ → List ℤ → BlockLeft
read_block_by zero l s contexts lent = block_seen s (read_payload l (engine_of s) contexts lent)
read_block_by (suc n) l s contexts lent = block_left (block_given s (refused (suc n))) contexts lent

unfoldable pub read_block : List ℕ → EngineState → List ℕ → List ℤ → BlockLeft
read_block l s contexts lent = read_block_by (payload_refusal l or_else state_flags s) l s contexts lent

-- ---- the bin reader: 4, then 8 or 13
pub record ListLeft : Type 0 where
  pub answer : H264ListAnswer
  pub levels : List ℤ

abbrev pub list_left : H264ListAnswer → List ℤ → ListLeft
list_left answer levels = record { answer = answer; levels = levels }

abbrev pub list_seen : BinsRead → ListLeft
list_seen r = list_left (list_given r.answer) r.block

abbrev pub read_list : List ℕ → List ℤ → ListLeft
read_list bins lent = list_seen (read_bins bins lent)

-- ---- the writer: 4, 9, 8, 12
pub record ListWritten : Type 0 where
  pub answer : WriteAnswer
  pub room : List ℕ

abbrev pub list_written : WriteAnswer → List ℕ → ListWritten
list_written answer room = record { answer = answer; room = room }

abbrev pub write_list : List ℤ → List ℕ → ListWritten
write_list lent room = let w = write_bins lent room in list_written (write_given w.answer) w.room

-- ---- as the code has it
module _ (l : List ℕ) (s : EngineState) (cs : List ℕ) (lent : List ℤ) (n : ℕ) (a : H264BlockAnswer) where
  by_no : (k : ℕ) → n ≡ k → (n ≡ 0 → ⊥) → a ≡ block_given s (refused n) → block_left a cs lent ≡ read_block_by k l s cs lent
  unfolding read_block_by
  by_no zero q h e = absurd (h q)
  by_no (suc k) q h e = ap (λ x. block_left x cs lent) (e ∙ ap (λ m. block_given s (refused m)) q)

  pub block_no : n ≡ (payload_refusal l or_else state_flags s) → (n ≡ 0 → ⊥) → a ≡ block_given s (refused n) → block_left a cs lent ≡ read_block l s cs lent
  unfolding read_block
  block_no q h e = by_no (payload_refusal l or_else state_flags s) q h e

  by_yes : (k : ℕ) (r : Read) (e : Engine) (cs' : List ℕ) (lent' : List ℤ) → n ≡ k → n ≡ 0 → e ≡ engine_of s → payload_read r cs' lent' ≡ read_payload l e cs lent
      → a ≡ block_given s (read_says r) → block_left a cs' lent' ≡ read_block_by k l s cs lent
  unfolding read_block_by
  by_yes zero r e cs' lent' q z h t g =
      ap (λ x. block_left x cs' lent') g ∙ ap (block_seen s) t ∙ ap (λ (x : Engine). block_seen s (read_payload l x cs lent)) h
  by_yes (suc k) r e cs' lent' q z h t g = absurd (omega arith)

  pub block_yes : (r : Read) (e : Engine) (cs' : List ℕ) (lent' : List ℤ) → n ≡ (payload_refusal l or_else state_flags s) → n ≡ 0 → e ≡ engine_of s
      → payload_read r cs' lent' ≡ read_payload l e cs lent → a ≡ block_given s (read_says r) → block_left a cs' lent' ≡ read_block l s cs lent
  unfolding read_block
  block_yes = by_yes (payload_refusal l or_else state_flags s)

pub list_read : (l : List ℕ) (lent : List ℤ) (r : ReadList) (lent' : List ℤ) (a : H264ListAnswer) → bins_read r lent' ≡ read_bins l lent → a ≡ list_given (list_says r)
    → list_left a lent' ≡ read_list l lent
list_read l lent r lent' a promise e = ap (λ x. list_left x lent') e ∙ ap list_seen promise

pub list_written_lem : (lent : List ℤ) (room : List ℕ) (r : Listed) (room' : List ℕ) (a : WriteAnswer) → bins_written r room' ≡ write_bins lent room → a ≡ write_given (written_says r)
    → list_written a room' ≡ write_list lent room
list_written_lem lent room r room' a promise e = ap (λ x. list_written x room') e ∙ ap (λ (w : BinsWritten). list_written (write_given w.answer) w.room) promise
