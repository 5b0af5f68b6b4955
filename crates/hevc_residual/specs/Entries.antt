-- What each entry point of the residual answers and leaves behind, for everything that it can be handed.
-- Refusals come in document 01's order; after one, contexts and statistics are those handed in.
use Rattle.std.specs.Prelude.{ℕ, zero, suc, List, [], ◌∷◌, ◌++◌, Bool, length, take, drop, replicate, ℤ, pos}
use Rattle.bins.specs.declared.state.Engine.{Engine}
use Rattle.bins.specs.Syn.{Out, Reading, Written, run, by_engine, by_list, write}
use Rattle.cabac.specs.Numbers.{Answer, accepted, refused, ◌or_else◌, payload_refusal, state_refusal, ended_refusal}
use Rattle.hevc_residual.specs.declared.params.Params.{Params}
use Rattle.hevc_residual.specs.declared.params.Rdpcm.{Rdpcm}
use Rattle.hevc_residual.specs.Wanted.{Wanted, area}
use Rattle.hevc_residual.specs.Residual.{Block, residual}
use Rattle.hevc_residual.specs.Refusal.{write_refusal}
use Rattle.hevc_residual.specs.Numbers.{parameter_refusal, contexts_refusal, statistics_refusal, room_refusal}

-- ---- document 01's result of a block, beside its levels
pub record Found : Type 0 where
  pub skip : Bool
  pub rdpcm : Rdpcm
  pub column : ℕ  -- column extent
  pub row : ℕ  -- row extent
  pub greatest : ℕ  -- greatest magnitude

abbrev pub found_of : Block → Found
found_of b = record { skip = b.skip; rdpcm = b.rdpcm; column = b.column; row = b.row; greatest = b.greatest }

-- ---- a lent block with its first n·n places read, or cleared; places past them are never changed
abbrev pub block_with : Params → List ℤ → List ℤ → List ℤ
block_with p levels block = levels ++ drop (area p) block

abbrev pub cleared : Params → List ℤ → List ℤ
cleared p block = block_with p (replicate (area p) (pos 0)) block

-- ---- the payload reader: 1, 2, 4, 3, 6, then 7 or 8 in the order of reading
pub record FoundAt : Type 0 where
  pub found : Found
  pub next : Engine

pub record PayloadRead : Type 0 where
  pub answer : Answer FoundAt
  pub contexts : List ℕ
  pub stats : List ℕ
  pub block : List ℤ

-- what a reading by the engine comes to; a refused one has cleared the block
unfoldable pub read_by_engine : Params → List ℕ → List ℕ → List ℤ → Out Reading Block → PayloadRead
read_by_engine p contexts stats block (Out.ok b r) =
    record {
      answer = accepted (record { found = found_of b; next = r.engine });
      contexts = r.contexts;
      stats = b.stats;
      block = block_with p b.levels block;
    }
read_by_engine p contexts stats block (Out.no n r) =
    record { answer = refused n; contexts = contexts; stats = stats; block = cleared p block }

-- behind the checks, which gave the number n
unfoldable pub read_payload_by : ℕ → List ℕ → Engine → List ℕ → List ℕ → Params → List ℤ → PayloadRead
read_payload_by zero l e contexts stats p block =
    read_by_engine p contexts stats block (run (by_engine l) (residual p stats) (record { engine = e; contexts = contexts }))
read_payload_by (suc n) l e contexts stats p block =
    record { answer = refused (suc n); contexts = contexts; stats = stats; block = block }

unfoldable pub read_payload : List ℕ → Engine → List ℕ → List ℕ → Params → List ℤ → PayloadRead
read_payload l e contexts stats p block =
    read_payload_by
    (payload_refusal l
    or_else parameter_refusal p block
    or_else state_refusal l e
    or_else contexts_refusal contexts
    or_else statistics_refusal stats
    or_else ended_refusal e)
    l e contexts stats p block

-- ---- the bin reader: 4, 3, then 8 or 13 in the order of reading
pub record BinsRead : Type 0 where
  pub answer : Answer Found
  pub stats : List ℕ
  pub block : List ℤ

-- bins left over are 13
unfoldable pub read_from_list : Params → List ℕ → List ℤ → Out (List ℕ) Block → BinsRead
read_from_list p stats block (Out.ok b []) =
    record { answer = accepted (found_of b); stats = b.stats; block = block_with p b.levels block }
read_from_list p stats block (Out.ok b (x ∷ l)) =
    record { answer = refused 13; stats = stats; block = cleared p block }
read_from_list p stats block (Out.no n l) = record { answer = refused n; stats = stats; block = cleared p block }

unfoldable pub read_bins_by : ℕ → List ℕ → List ℕ → Params → List ℤ → BinsRead
read_bins_by zero bins stats p block = read_from_list p stats block (run by_list (residual p stats) bins)
read_bins_by (suc n) bins stats p block = record { answer = refused (suc n); stats = stats; block = block }

unfoldable pub read_bins : List ℕ → List ℕ → Params → List ℤ → BinsRead
read_bins bins stats p block = read_bins_by (parameter_refusal p block or_else statistics_refusal stats) bins stats p block

-- ---- the bin writer: 4, 3, 9, 10, 8, 11, 12; accepted with the length of the list, which stands at the front of the room
pub record BinsWritten : Type 0 where
  pub answer : Answer ℕ
  pub stats : List ℕ
  pub room : List ℕ

-- what of a block is written: its first n·n places, and no further
abbrev pub wanted_from : Params → List ℤ → Bool → Rdpcm → Wanted
wanted_from p block skip rdpcm = record { skip = skip; rdpcm = rdpcm; levels = take (area p) block }

abbrev pub not_written : ℕ → List ℕ → List ℕ → BinsWritten
not_written n stats room = record { answer = refused n; stats = stats; room = room }

-- the list l, with the statistics behind it, where the room's check gave the number n
unfoldable pub write_list_by : ℕ → List ℕ → List ℕ → List ℕ → List ℕ → BinsWritten
write_list_by zero l after stats room = record { answer = accepted (length l); stats = after; room = l ++ drop (length l) room }
write_list_by (suc n) l after stats room = not_written (suc n) stats room

-- what the writing of a block comes to; none that the checks let through comes to a refusal
unfoldable pub write_list : List ℕ → List ℕ → Written Block → BinsWritten
write_list stats room (Written.ok b l) = write_list_by (room_refusal l room) l b.stats stats room
write_list stats room (Written.no n) = not_written n stats room

unfoldable pub write_bins_by : ℕ → Params → List ℕ → Wanted → List ℕ → BinsWritten
write_bins_by zero p stats w room = write_list stats room (write (residual p stats) w)
write_bins_by (suc n) p stats w room = not_written (suc n) stats room

unfoldable pub write_bins : Params → List ℕ → List ℤ → Bool → Rdpcm → List ℕ → BinsWritten
write_bins p stats block skip rdpcm room =
    let w = wanted_from p block skip rdpcm in
    write_bins_by (parameter_refusal p block or_else statistics_refusal stats or_else write_refusal p w) p stats w room
