-- What the entry point that packs a tray answers and leaves in the room, for everything that it can be handed: records as rows, the lists of their blocks one
-- after the other in one slice. A flag above 1 is 4; behind it `pack_tray` (hevc_packer/specs/Tray) of the records that the rows mean: 4, 3, 13, 12.
-- Beside the answer the count of lists that were read: the one behind them is what 13 is about. It is 0 after 4 and 3.
use Rattle.std.specs.Prelude.{ℕ, zero, suc, Bool, true, false, List, [], ◌∷◌}
use Rattle.bins.specs.Syn.{Out, run, by_list}
use Rattle.cabac.specs.Numbers.{◌or_else◌}
use Rattle.hevc_residual.specs.declared.params.Params.{Params}
use Rattle.hevc_residual.specs.Residual.{Block, residual}
use Rattle.hevc_tray.specs.Rows.{records_of, rows_refusal}
use Rattle.packing.specs.Entries.{BinsPacked, not_packed}
use Rattle.hevc_packer.specs.Tray.{tray_checks, pack_tray}

-- ---- the lists in turn: how many are read, and whether nothing is left behind them
pub record Lists : Type 0 where
  pub done : ℕ
  pub whole : Bool

unfoldable pub is_end : List ℕ → Bool
is_end [] = true
is_end (x ∷ l) = false

-- the next list, and those behind it
unfoldable pub on_list : (List ℕ → List ℕ → Lists) → Out (List ℕ) Block → Lists
on_list next (Out.ok b rest) = let l = next b.stats rest in record { done = suc l.done; whole = l.whole }
on_list next (Out.no n rest) = record { done = 0; whole = false }

unfoldable pub lists : List Params → List ℕ → List ℕ → Lists
unfolding on_list is_end
lists [] stats bins = record { done = 0; whole = is_end bins }
lists (p ∷ ps) stats bins = on_list (lists ps) (run by_list (residual p stats) bins)

-- ---- the entry point
abbrev pub row_checks : List ℕ → List ℕ → List (List ℕ) → ℕ
row_checks contexts stats rows = rows_refusal rows or_else tray_checks contexts stats (records_of rows)

pub record TrayPacked : Type 0 where
  pub done : ℕ
  pub packed : BinsPacked

-- behind the number that the rows' form gives
unfoldable pub packed_by : ℕ → List ℕ → List ℕ → List Params → List ℕ → List ℕ → BinsPacked
packed_by zero contexts stats ps bins room = pack_tray contexts stats ps bins room
packed_by (suc n) contexts stats ps bins room = not_packed (suc n) room

-- behind the checks, which gave the number n
unfoldable pub done_by : ℕ → List Params → List ℕ → List ℕ → ℕ
unfolding lists
done_by zero ps stats bins = (lists ps stats bins).done
done_by (suc n) ps stats bins = 0

unfoldable pub pack_rows : List ℕ → List ℕ → List (List ℕ) → List ℕ → List ℕ → TrayPacked
unfolding packed_by done_by
pack_rows contexts stats rows bins room =
    record {
      done = done_by (row_checks contexts stats rows) (records_of rows) stats bins;
      packed = packed_by (rows_refusal rows) contexts stats (records_of rows) bins room;
    }
