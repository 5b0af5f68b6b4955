-- What an answer of the code says of the trees of H.264's block, read from a bin list or a payload.
use Rattle.std.specs.Prelude.{ℕ, zero, suc, ◌≤◌, ◌<◌, ◌≡◌, Bool, false, cond, List, [], ◌∷◌, ltb, ℤ, get_or, set, Ok, Err}
use Rattle.bins.specs.declared.state.Interval.{Interval}
use Rattle.bins.specs.Syn.{Out}
use Rattle.bins.specs.Sources.{Step, Cursor, cursor}
use Rattle.bins.specs.Laws.{RefusedBy}
use Rattle.trees.specs.Levels.{signed, down_from, greatest_of}
use Rattle.trees.specs.Agree.{Reads, from}
use Rattle.h264_block.specs.Block.{places_s, levels_s, block}
use Rattle.h264_block.specs.Entries.{block_with, cleared}

-- ---- the flags of place k: what is left to run behind them
abbrev pub place_on : ℕ → Bool → List ℕ → ℕ → ℕ → List ℕ → Interval → List ℕ → Out Cursor (List ℕ)
place_on zero s l n k ks y ds = from s l (places_s n (suc k) ks) y ds
place_on (suc zero) s l n k ks y ds = from s l (places_s n (suc k) (k ∷ ks)) y ds
place_on (suc (suc v)) s l n k ks y ds = Out.ok (k ∷ ks) (cursor y ds)

abbrev pub SaysPlace : Step → Bool → List ℕ → ℕ → Interval → List ℕ → List ℕ → Type 0
SaysPlace (Ok t) s l k x cs ds =
    Reads s l t.next ds × (t.value ≤ 2) × ((n : ℕ) (ks : List ℕ) → from s l (places_s (suc n) k ks) x cs ≡ place_on t.value s l n k ks t.next ds)
SaysPlace (Err r) s l k x cs ds = (n : ℕ) (ks : List ℕ) → RefusedBy r (from s l (places_s (suc n) k ks) x cs)

-- ---- all of them, as marks
abbrev pub marked : List Bool → ℕ → Bool
marked marks j = get_or marks j false

abbrev pub SaysPlaces : Step → Bool → List ℕ → Interval → List ℕ → List ℕ → List Bool → Type 0
SaysPlaces (Ok t) s l x cs ds marks = from s l (places_s 15 0 []) x cs ≡ Out.ok (down_from (marked marks) 16) (cursor t.next ds)
SaysPlaces (Err r) s l x cs ds marks = RefusedBy r (from s l (places_s 15 0 []) x cs)

-- ---- one level, of magnitude v + 1, stored at place k
abbrev pub SaysLevel : Step → Bool → List ℕ → ℕ → ℕ → ℕ → Interval → List ℕ → List ℕ → List ℤ → List ℤ → Type 0
SaysLevel (Ok t) s l ones bigs k x cs ds lv lv' =
    Reads s l t.next ds × ((ks : List ℕ) → from s l (levels_s (k ∷ ks) ones bigs lv) x cs
    ≡ from s l (levels_s ks (cond (ltb 0 t.value) ones (suc ones)) (cond (ltb 0 t.value) (suc bigs) bigs) lv') t.next ds)
SaysLevel (Err r) s l ones bigs k x cs ds lv lv' = (ks : List ℕ) → RefusedBy r (from s l (levels_s (k ∷ ks) ones bigs lv) x cs)

-- ---- all of them
abbrev pub SaysLevels : Step → Bool → List ℕ → List Bool → Interval → List ℕ → List ℕ → List ℤ → List ℤ → Type 0
SaysLevels (Ok t) s l marks x cs ds lv lv' = from s l (levels_s (down_from (marked marks) 16) 0 0 lv) x cs ≡ Out.ok lv' (cursor t.next ds)
SaysLevels (Err r) s l marks x cs ds lv lv' = RefusedBy r (from s l (levels_s (down_from (marked marks) 16) 0 0 lv) x cs)

-- ---- the whole block
abbrev pub SaysBlock : Step → Bool → List ℕ → Interval → List ℕ → List ℕ → List ℤ → Type 0
SaysBlock (Ok t) s l x cs ds lv = from s l block x cs ≡ Out.ok lv (cursor t.next ds)
SaysBlock (Err r) s l x cs ds lv = RefusedBy r (from s l block x cs)

-- read into the front of a lent one, with the greatest magnitude; a refused reading leaves contexts, and zero places
abbrev pub SaysInto : Step → Bool → List ℕ → Interval → List ℕ → List ℕ → List ℤ → List ℤ → Type 0
SaysInto (Ok t) s l x cs ds lent lent' = (lv : List ℤ) × (lent' ≡ block_with lv lent) × (t.value ≡ greatest_of lv) × (from s l block x cs ≡ Out.ok lv (cursor t.next ds))
SaysInto (Err r) s l x cs ds lent lent' = RefusedBy r (from s l block x cs) × (ds ≡ cs) × (lent' ≡ cleared lent)
