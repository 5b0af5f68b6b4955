-- A tray of blocks (document 02, request (iv)): the block reader's own definition, one block after the other.
-- State, contexts and statistics go from block to block; the level buffer is cut into consecutive n·n parts.
use Rattle.std.specs.Prelude.{ℕ, zero, suc, ◌+◌, List, [], ◌∷◌, ◌++◌, cond, length, take, drop, ℤ, ltb}
use Rattle.bins.specs.declared.state.Engine.{Engine}
use Rattle.cabac.specs.Numbers.{Answer, accepted, refused, ◌or_else◌, payload_refusal, state_refusal, ended_refusal}
use Rattle.hevc_residual.specs.declared.params.Params.{Params}
use Rattle.hevc_residual.specs.Wanted.{area}
use Rattle.hevc_residual.specs.Numbers.{parameter_refusal, contexts_refusal, statistics_refusal}
use Rattle.hevc_residual.specs.Entries.{Found, FoundAt, PayloadRead, read_payload}
use Rattle.hevc_tray.specs.Rows.{records_of, rows_refusal, found_rows}

-- ---- block after block
-- number 0: it stopped nowhere. State, contexts and statistics are as the last block done left them
pub record Tray : Type 0 where
  pub done : ℕ
  pub number : ℕ
  pub engine : Engine
  pub contexts : List ℕ
  pub stats : List ℕ
  pub found : List Found  -- of the blocks done
  pub front : List ℤ  -- their parts
  pub left : List ℤ  -- what stands behind these: after a refusal the refused part first

-- a block done, with its part and what was found of it, and then what came behind it
abbrev pub behind : List ℤ → Found → Tray → Tray
behind block f t =
    record {
      done = suc t.done;
      number = t.number;
      engine = t.engine;
      contexts = t.contexts;
      stats = t.stats;
      found = f ∷ t.found;
      front = block ++ t.front;
      left = t.left;
    }

-- r is what the reader gave of the next block, e the state before it
unfoldable pub on_block : Engine → PayloadRead → List ℤ → (Engine → Tray) → Answer FoundAt → Tray
on_block e r rest next (accepted f) = behind r.block f.found (next f.next)
on_block e r rest next (refused n) =
    record { done = 0; number = n; engine = e; contexts = r.contexts; stats = r.stats; found = []; front = []; left = r.block ++ rest }

unfoldable pub tray : List ℕ → Engine → List ℕ → List ℕ → List Params → List ℤ → Tray
unfolding on_block
tray l e contexts stats [] levels =
    record { done = 0; number = 0; engine = e; contexts = contexts; stats = stats; found = []; front = []; left = levels }
tray l e contexts stats (p ∷ ps) levels =
    let r = read_payload l e contexts stats p (take (area p) levels) in
    let rest = drop (area p) levels in
    on_block e r rest (λ f. tray l f r.contexts r.stats ps rest) r.answer

-- ---- what is looked at before anything is read: 1, 2, 4, 3, 6
-- 4: more than 256 records; a record out of its limits, or with too few places left for its part; too few rows for what is found
unfoldable pub count_refusal : ℕ → ℕ
count_refusal n = cond (ltb 256 n) 4 0

unfoldable pub records_refusal : List Params → List ℤ → ℕ
records_refusal [] levels = 0
records_refusal (p ∷ ps) levels = parameter_refusal p levels or_else records_refusal ps (drop (area p) levels)

unfoldable pub rooms_refusal : ℕ → ℕ → ℕ
rooms_refusal rooms n = cond (ltb rooms n) 4 0

-- flags is the number that the form of the records gives
abbrev pub tray_checks : List ℕ → Engine → List ℕ → List ℕ → ℕ → List Params → List ℤ → ℕ → ℕ
tray_checks l e contexts stats flags ps levels rooms =
    payload_refusal l
    or_else count_refusal (length ps)
    or_else flags
    or_else records_refusal ps levels
    or_else rooms_refusal rooms (length ps)
    or_else state_refusal l e
    or_else contexts_refusal contexts
    or_else statistics_refusal stats
    or_else ended_refusal e

-- ---- the entry point: how many blocks were done, the refusal that stopped it or 0, and what is left behind
pub record TrayRead : Type 0 where
  pub done : ℕ
  pub number : ℕ
  pub engine : Engine
  pub contexts : List ℕ
  pub stats : List ℕ
  pub levels : List ℤ
  pub found : List (List ℕ)

-- rows past the blocks done are untouched
abbrev pub laid : Tray → List (List ℕ) → TrayRead
laid t found =
    record {
      done = t.done;
      number = t.number;
      engine = t.engine;
      contexts = t.contexts;
      stats = t.stats;
      levels = t.front ++ t.left;
      found = found_rows t.found ++ drop (length t.found) found;
    }

-- nothing read, everything as it was handed in
abbrev pub untouched : ℕ → Engine → List ℕ → List ℕ → List ℤ → List (List ℕ) → TrayRead
untouched n e contexts stats levels found =
    record { done = 0; number = n; engine = e; contexts = contexts; stats = stats; levels = levels; found = found }

-- behind the checks, which gave the number n
unfoldable pub read_tray_by : ℕ → List ℕ → Engine → List ℕ → List ℕ → List Params → List ℤ → List (List ℕ) → TrayRead
read_tray_by zero l e contexts stats ps levels found = laid (tray l e contexts stats ps levels) found
read_tray_by (suc n) l e contexts stats ps levels found = untouched (suc n) e contexts stats levels found

-- no records at all, whatever else is handed in: accepted with 0 done
unfoldable pub read_tray : ℕ → List ℕ → Engine → List ℕ → List ℕ → List Params → List ℤ → List (List ℕ) → TrayRead
read_tray flags l e contexts stats [] levels found = untouched 0 e contexts stats levels found
read_tray flags l e contexts stats (p ∷ ps) levels found =
    read_tray_by (tray_checks l e contexts stats flags (p ∷ ps) levels (length found)) l e contexts stats (p ∷ ps) levels found

-- records as rows of numbers
unfoldable pub read_rows : List ℕ → Engine → List ℕ → List ℕ → List (List ℕ) → List ℤ → List (List ℕ) → TrayRead
read_rows l e contexts stats rows levels found = read_tray (rows_refusal rows) l e contexts stats (records_of rows) levels found
