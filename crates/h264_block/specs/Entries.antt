-- What each entry point of H.264's block answers and leaves behind, for everything that it can be handed. Refusals come in document 01's order; after
-- one, contexts are those handed in.
use Rattle.std.specs.Prelude.{ℕ, zero, suc, List, [], ◌∷◌, ◌++◌, cond, length, take, drop, replicate, ltb, ℤ, pos}
use Rattle.bins.specs.declared.state.Engine.{Engine}
use Rattle.bins.specs.Syn.{Out, Reading, Written, run, by_engine, by_list, write}
use Rattle.cabac.specs.Numbers.{Answer, accepted, refused, ◌or_else◌, payload_refusal, state_refusal, ended_refusal}
use Rattle.trees.specs.Levels.{greatest_of}
use Rattle.trees.specs.Lent.{contexts_refusal, room_refusal}
use Rattle.h264_block.specs.Block.{block}
use Rattle.h264_block.specs.Refusal.{write_refusal}

-- 4: a block under 16 places
unfoldable pub block_refusal : List ℤ → ℕ
block_refusal lent = cond (ltb (length lent) 16) 4 0

-- ---- a lent block with its first 16 places read, or cleared; places past them are never changed
abbrev pub block_with : List ℤ → List ℤ → List ℤ
block_with levels lent = levels ++ drop 16 lent

abbrev pub cleared : List ℤ → List ℤ
cleared lent = block_with (replicate 16 (pos 0)) lent

-- ---- the payload reader: 1, 2, 4, 3, 6, then 8 in the order of reading. Accepted with the greatest magnitude, beside the levels, and the state behind them
pub record FoundAt : Type 0 where
  pub greatest : ℕ
  pub next : Engine

pub record PayloadRead : Type 0 where
  pub answer : Answer FoundAt
  pub contexts : List ℕ
  pub block : List ℤ

unfoldable pub read_by_engine : List ℕ → List ℤ → Out Reading (List ℤ) → PayloadRead
read_by_engine contexts lent (Out.ok l r) =
    record {
      answer = accepted (record { greatest = greatest_of l; next = r.engine });
      contexts = r.contexts;
      block = block_with l lent;
    }
read_by_engine contexts lent (Out.no n r) = record { answer = refused n; contexts = contexts; block = cleared lent }

-- behind the checks, which gave the number n
unfoldable pub read_payload_by : ℕ → List ℕ → Engine → List ℕ → List ℤ → PayloadRead
read_payload_by zero l e contexts lent =
    read_by_engine contexts lent (run (by_engine l) block (record { engine = e; contexts = contexts }))
read_payload_by (suc n) l e contexts lent = record { answer = refused (suc n); contexts = contexts; block = lent }

unfoldable pub read_payload : List ℕ → Engine → List ℕ → List ℤ → PayloadRead
read_payload l e contexts lent =
    read_payload_by
    (payload_refusal l or_else block_refusal lent or_else state_refusal l e or_else contexts_refusal contexts or_else ended_refusal e)
    l e contexts lent

-- ---- the bin reader: 4, then 8 or 13 in the order of reading
pub record BinsRead : Type 0 where
  pub answer : Answer ℕ  -- the greatest magnitude
  pub block : List ℤ

-- bins left over are 13
unfoldable pub read_from_list : List ℤ → Out (List ℕ) (List ℤ) → BinsRead
read_from_list lent (Out.ok l []) = record { answer = accepted (greatest_of l); block = block_with l lent }
read_from_list lent (Out.ok l (x ∷ r)) = record { answer = refused 13; block = cleared lent }
read_from_list lent (Out.no n r) = record { answer = refused n; block = cleared lent }

unfoldable pub read_bins_by : ℕ → List ℕ → List ℤ → BinsRead
read_bins_by zero bins lent = read_from_list lent (run by_list block bins)
read_bins_by (suc n) bins lent = record { answer = refused (suc n); block = lent }

unfoldable pub read_bins : List ℕ → List ℤ → BinsRead
read_bins bins lent = read_bins_by (block_refusal lent) bins lent

-- ---- the bin writer: 4, 9, 8, 12; accepted with the length of the list, which stands at the front of the room
pub record BinsWritten : Type 0 where
  pub answer : Answer ℕ
  pub room : List ℕ

-- what of a block is written: its first 16 places, and no further
abbrev pub wanted_from : List ℤ → List ℤ
wanted_from lent = take 16 lent

abbrev pub not_written : ℕ → List ℕ → BinsWritten
not_written n room = record { answer = refused n; room = room }

unfoldable pub write_list_by : ℕ → List ℕ → List ℕ → BinsWritten
write_list_by zero l room = record { answer = accepted (length l); room = l ++ drop (length l) room }
write_list_by (suc n) l room = not_written (suc n) room

-- what the writing of a block comes to; none that the checks let through comes to a refusal
unfoldable pub write_list : List ℕ → Written (List ℤ) → BinsWritten
write_list room (Written.ok a l) = write_list_by (room_refusal l room) l room
write_list room (Written.no n) = not_written n room

unfoldable pub write_bins_by : ℕ → List ℤ → List ℕ → BinsWritten
write_bins_by zero w room = write_list room (write block w)
write_bins_by (suc n) w room = not_written (suc n) room

unfoldable pub write_bins : List ℤ → List ℕ → BinsWritten
write_bins lent room = write_bins_by (block_refusal lent or_else write_refusal (wanted_from lent)) (wanted_from lent) room
