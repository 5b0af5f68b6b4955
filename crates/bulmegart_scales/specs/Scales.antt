-- What the scale's functions answer and leave behind in C's form.
use Prim.Native.Nat.{ℕ, zero, suc}
use Rattle.std.specs.Prelude.{◌≡◌, List, ℤ, pos, Result}
use Rattle.std.proofs.Common.{sym, ◌∙◌, arith}
use Rattle.std.proofs.Math.Path.{ap}
use Rattle.bins.specs.declared.state.Engine.{Engine}
use Rattle.cabac.specs.Numbers.{Answer, accepted, refused, ◌or_else◌, payload_refusal}
use Rattle.hevc_cross.specs.Entries.{ScaleAt, PayloadRead, read_payload, read_bins, BinsWritten, write_bins}
use Rattle.hevc_residual.specs.Answers.{written_says}
use Rattle.hevc_scale.specs.EntriesAgree.{Read, read_says, payload_read, bins_written}
use Rattle.bulmegart.specs.declared.records.EngineState.{EngineState}
use Rattle.bulmegart_blocks.specs.declared.lists.WriteAnswer.{WriteAnswer}
use Rattle.bulmegart_scales.specs.declared.scales.ScaleAnswer.{ScaleAnswer}
use Rattle.bulmegart_scales.specs.declared.scales.ScaleListAnswer.{ScaleListAnswer}
use Rattle.bulmegart.specs.Records.{state_flags, engine_of, state_of}
use Rattle.bulmegart_blocks.specs.Lists.{write_given}

-- ---- an answer as C has it: scale 0 beside the number of a refusal, and the state s handed in
abbrev pub scale_given : EngineState → Answer ScaleAt → ScaleAnswer
scale_given s (accepted f) = record { number = 0; scale = f.scale; state = state_of f.next }
scale_given s (refused n) = record { number = n; scale = pos 0; state = s }

abbrev pub scale_list_given : Answer ℤ → ScaleListAnswer
scale_list_given (accepted z) = record { number = 0; scale = z }
scale_list_given (refused n) = record { number = n; scale = pos 0 }

-- ---- the payload reader: 1, 2, 4 of the state's flag, then 1, 2, 4, 3, 6
pub record ScaleLeft : Type 0 where
  pub answer : ScaleAnswer
  pub contexts : List ℕ

abbrev pub scale_left : ScaleAnswer → List ℕ → ScaleLeft
scale_left answer contexts = record { answer = answer; contexts = contexts }

abbrev pub scale_seen : EngineState → PayloadRead → ScaleLeft
scale_seen s r = scale_left (scale_given s r.answer) r.contexts

unfoldable pub read_scale_by : ℕ → List ℕ → EngineState → List ℕ → ℕ → ScaleLeft
read_scale_by zero l s contexts c = scale_seen s (read_payload l (engine_of s) contexts c)
read_scale_by (suc n) l s contexts c = scale_left (scale_given s (refused (suc n))) contexts

unfoldable pub read_scale : List ℕ → EngineState → List ℕ → ℕ → ScaleLeft
read_scale l s contexts c = read_scale_by (payload_refusal l or_else state_flags s) l s contexts c

-- ---- the bin reader: 4, 13
abbrev pub read_scale_list : List ℕ → ℕ → ScaleListAnswer
read_scale_list bins c = scale_list_given (read_bins bins c)

-- ---- the writer: 4, 12
pub record ScaleWritten : Type 0 where
  pub answer : WriteAnswer
  pub room : List ℕ

abbrev pub scale_written : WriteAnswer → List ℕ → ScaleWritten
scale_written answer room = record { answer = answer; room = room }

abbrev pub write_scale : ℕ → ℤ → List ℕ → ScaleWritten
write_scale c z room = let w = write_bins c z room in scale_written (write_given w.answer) w.room

-- ---- as the code has it
module _ (l : List ℕ) (s : EngineState) (cs : List ℕ) (c n : ℕ) (a : ScaleAnswer) where
  by_no : (k : ℕ) → n ≡ k → (n ≡ 0 → ⊥) → a ≡ scale_given s (refused n) → scale_left a cs ≡ read_scale_by k l s cs c
  unfolding read_scale_by
  by_no zero q h e = absurd (h q)
  by_no (suc k) q h e = ap (λ x. scale_left x cs) (e ∙ ap (λ m. scale_given s (refused m)) q)

  pub scale_no : n ≡ (payload_refusal l or_else state_flags s) → (n ≡ 0 → ⊥) → a ≡ scale_given s (refused n) → scale_left a cs ≡ read_scale l s cs c
  unfolding read_scale
  scale_no q h e = by_no (payload_refusal l or_else state_flags s) q h e

  by_yes : (k : ℕ) (r : Read) (e : Engine) (cs' : List ℕ) → n ≡ k → n ≡ 0 → e ≡ engine_of s → payload_read r cs' ≡ read_payload l e cs c
      → a ≡ scale_given s (read_says r) → scale_left a cs' ≡ read_scale_by k l s cs c
  unfolding read_scale_by
  by_yes zero r e cs' q z h t g =
      ap (λ x. scale_left x cs') g ∙ ap (scale_seen s) t ∙ ap (λ (x : Engine). scale_seen s (read_payload l x cs c)) h
  by_yes (suc k) r e cs' q z h t g = absurd (omega arith)

  pub scale_yes : (r : Read) (e : Engine) (cs' : List ℕ) → n ≡ (payload_refusal l or_else state_flags s) → n ≡ 0 → e ≡ engine_of s
      → payload_read r cs' ≡ read_payload l e cs c → a ≡ scale_given s (read_says r) → scale_left a cs' ≡ read_scale l s cs c
  unfolding read_scale
  scale_yes = by_yes (payload_refusal l or_else state_flags s)

-- y is the scale as it was handed on
pub scale_written_lem : (c : ℕ) (z y : ℤ) (room : List ℕ) (r : Result ℕ ℕ) (room' : List ℕ) (a : WriteAnswer)
    → y ≡ z → bins_written r room' ≡ write_bins c y room → a ≡ write_given (written_says r) → scale_written a room' ≡ write_scale c z room
scale_written_lem c z y room r room' a same promise e =
    ap (λ x. scale_written x room') e
    ∙ ap (λ (w : BinsWritten). scale_written (write_given w.answer) w.room) (promise ∙ ap (λ (i : ℤ). write_bins c i room) same)
