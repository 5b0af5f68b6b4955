-- A frame of the book from a drawing: the six bytes of its header, its initial values and its levels. The writer makes the levels bins, the packer makes
-- the bins a payload, and the frame is laid out as document 02, (viii), has it.
use Rattle.std.specs.Prelude.{ℕ, zero, suc, ◌/◌, ◌%◌, Bool, false, cond, ◌&&◌, List, [], ◌∷◌, ◌++◌, leb, eqb, length, take, replicate, ℤ}
use Rattle.bins.specs.Tags.{context_count}
use Rattle.cabac.specs.Numbers.{Answer, accepted, refused}
use Rattle.cabac.specs.Contexts.{initial_all}
use Rattle.hevc_residual.specs.declared.params.Rdpcm.TheVariants as of_rdpcm
use Rattle.hevc_residual.specs.Entries.{BinsWritten, write_bins}
use Rattle.packing.specs.Entries.{BinsPacked}
use Rattle.hevc_packer.specs.Entries.{pack_bins}
use Rattle.frame.specs.Frame.{quantiser_of, params_of, flags_refusal}

-- the header's six bytes, the payload's length in two, high first, the initial values, the payload
unfoldable pub frame_of : List ℕ → List ℕ → List ℕ → List ℕ
frame_of head values payload = head ++ ((length payload / 256 ∷ length payload % 256 ∷ []) ++ (values ++ payload))

-- 4: a room under 4,234 bytes, a header that is not six bytes long, not 130 values, a luma or hiding byte above 1
unfoldable pub handed_refusal : ℕ → List ℕ → List ℕ → ℕ
unfolding flags_refusal
handed_refusal room head values = cond (leb 4234 room && (eqb (length head) 6 && eqb (length values) context_count)) (flags_refusal head) 4

abbrev pub no_statistics : List ℕ
no_statistics = replicate 4 0

-- ---- a payload that is longer than 4,096 bytes would make a line that is too long: 22
unfoldable pub framed : List ℕ → List ℕ → Answer ℕ → List ℕ → Answer (List ℕ)
unfolding frame_of
framed head values (accepted n) room = accepted (frame_of head values (take n room))
framed head values (refused n) room = refused (cond (eqb n 12) 22 n)

abbrev pub contexts_of : List ℕ → List ℕ → List ℕ
contexts_of head values = initial_all (quantiser_of head) values

abbrev pub packed_for : List ℕ → List ℕ → List ℕ → BinsPacked
packed_for head values bins = pack_bins (contexts_of head values) no_statistics (params_of head) bins (replicate 4096 0)

-- ---- the writer's numbers: 4, 9, 8, 11
unfoldable pub listed : List ℕ → List ℕ → Answer ℕ → List ℕ → Answer (List ℕ)
unfolding framed
listed head values (accepted n) room = framed head values (packed_for head values (take n room)).answer (packed_for head values (take n room)).room
listed head values (refused n) room = refused n

-- a room for the longest list of a block
abbrev pub written_for : List ℕ → List ℤ → BinsWritten
written_for head levels = write_bins (params_of head) no_statistics levels false of_rdpcm.None (replicate 71088 0)

unfoldable pub pressed_by : ℕ → List ℕ → List ℕ → List ℤ → Answer (List ℕ)
unfolding listed
pressed_by zero head values levels = listed head values (written_for head levels).answer (written_for head levels).room
pressed_by (suc n) head values levels = refused (suc n)

-- THE frame, or the number
unfoldable pub pressed : ℕ → List ℕ → List ℕ → List ℤ → Answer (List ℕ)
unfolding handed_refusal pressed_by
pressed room head values levels = pressed_by (handed_refusal room head values) head values levels
