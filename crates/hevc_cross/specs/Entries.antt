-- What each entry point of the cross-component scale answers and leaves behind, for everything that it can be handed.
-- Refusals come in document 01's order; after one, contexts are those handed in.
use Rattle.std.specs.Prelude.{ℕ, zero, suc, List, [], ◌∷◌, ◌++◌, cond, length, drop, ltb, ℤ}
use Rattle.bins.specs.declared.state.Engine.{Engine}
use Rattle.bins.specs.Syn.{Out, Reading, Written, run, by_engine, by_list, write}
use Rattle.cabac.specs.Numbers.{Answer, accepted, refused, ◌or_else◌, payload_refusal, state_refusal, ended_refusal}
use Rattle.hevc_residual.specs.Numbers.{contexts_refusal, room_refusal}
use Rattle.hevc_cross.specs.Scale.{is_scale, scale}

-- 4: a chroma component above 1
unfoldable pub component_refusal : ℕ → ℕ
component_refusal c = cond (ltb 1 c) 4 0

-- 4: none of the nine scales
unfoldable pub scale_refusal : ℤ → ℕ
scale_refusal z = cond (is_scale z) 0 4

-- ---- the payload reader: 1, 2, 4, 3, 6
pub record ScaleAt : Type 0 where
  pub scale : ℤ
  pub next : Engine

pub record PayloadRead : Type 0 where
  pub answer : Answer ScaleAt
  pub contexts : List ℕ

unfoldable pub read_by_engine : List ℕ → Out Reading ℤ → PayloadRead
read_by_engine contexts (Out.ok z r) = record { answer = accepted (record { scale = z; next = r.engine }); contexts = r.contexts }
read_by_engine contexts (Out.no n r) = record { answer = refused n; contexts = contexts }

-- behind the checks, which gave the number n
unfoldable pub read_payload_by : ℕ → List ℕ → Engine → List ℕ → ℕ → PayloadRead
read_payload_by zero l e contexts c = read_by_engine contexts (run (by_engine l) (scale c) (record { engine = e; contexts = contexts }))
read_payload_by (suc n) l e contexts c = record { answer = refused (suc n); contexts = contexts }

unfoldable pub read_payload : List ℕ → Engine → List ℕ → ℕ → PayloadRead
read_payload l e contexts c =
    read_payload_by
    (payload_refusal l or_else component_refusal c or_else state_refusal l e or_else contexts_refusal contexts or_else ended_refusal e)
    l e contexts c

-- ---- the bin reader: 4, 13
-- bins left over are 13
unfoldable pub read_from_list : Out (List ℕ) ℤ → Answer ℤ
read_from_list (Out.ok z []) = accepted z
read_from_list (Out.ok z (x ∷ l)) = refused 13
read_from_list (Out.no n l) = refused n

unfoldable pub read_bins_by : ℕ → List ℕ → ℕ → Answer ℤ
read_bins_by zero bins c = read_from_list (run by_list (scale c) bins)
read_bins_by (suc n) bins c = refused (suc n)

unfoldable pub read_bins : List ℕ → ℕ → Answer ℤ
read_bins bins c = read_bins_by (component_refusal c) bins c

-- ---- the bin writer: 4, 12; accepted with the length of the list, which stands at the front of the room
pub record BinsWritten : Type 0 where
  pub answer : Answer ℕ
  pub room : List ℕ

abbrev pub not_written : ℕ → List ℕ → BinsWritten
not_written n room = record { answer = refused n; room = room }

unfoldable pub write_list_by : ℕ → List ℕ → List ℕ → BinsWritten
write_list_by zero l room = record { answer = accepted (length l); room = l ++ drop (length l) room }
write_list_by (suc n) l room = not_written (suc n) room

-- none that the checks let through comes to a refusal
unfoldable pub write_list : List ℕ → Written ℤ → BinsWritten
write_list room (Written.ok a l) = write_list_by (room_refusal l room) l room
write_list room (Written.no n) = not_written n room

unfoldable pub write_bins_by : ℕ → ℕ → ℤ → List ℕ → BinsWritten
write_bins_by zero c z room = write_list room (write (scale c) z)
write_bins_by (suc n) c z room = not_written (suc n) room

unfoldable pub write_bins : ℕ → ℤ → List ℕ → BinsWritten
write_bins c z room = write_bins_by (component_refusal c or_else scale_refusal z) c z room
