-- A tray packed is read back by (iv)'s reader in one call: started on the payload with the same contexts and statistics, it does every block, and gives what the
-- lists hold, block for block; then terminate is 1. Assumes nothing.
use Rattle.std.specs.Prelude.{ℕ, zero, suc, ◌≤◌, ◌≡◌, length, take, drop, ℤ}
use Rattle.std.proofs.Math.Path.{refl, ap, ap₂}
use Rattle.std.proofs.Common.{sym, subst, ◌∙◌, arith, drop_of_length-le, length-take-le}
use mathlib.Core.List.{List, [], ◌∷◌, ◌++◌, append_assoc, append-nil}
use Rattle.bins.specs.declared.state.Engine.{Engine}
use Rattle.bins.specs.Engine.{started}
use Rattle.cabac.specs.Numbers.{accepted, refused}
use Rattle.cabac.specs.NumberLaws.{or_else_zero, or_else_rest}
use Rattle.cabac.specs.Entries.{start}
use Rattle.hevc_residual.specs.declared.params.Params.{Params}
use Rattle.hevc_residual.specs.Wanted.{area}
use Rattle.hevc_residual.specs.Residual.{Block}
use Rattle.hevc_residual.specs.LimitLaws.{parameter_passed}
use Rattle.hevc_residual.specs.Numbers.{parameter_refusal}
use Rattle.hevc_residual.specs.Entries.{Found, FoundAt, PayloadRead, found_of, block_with, read_payload_by, read_payload}
use Rattle.hevc_residual.specs.Answers.{payload_checks}
use Rattle.hevc_tray.specs.Rows.{params_of, records_of, rows_refusal, found_rows}
use Rattle.hevc_tray.specs.Tray as reader
use Rattle.hevc_tray.specs.Tray.{Tray, TrayRead, on_block, tray, read_tray_by, read_tray, read_rows}
use Rattle.hevc_tray.specs.AbleLaws.{Able, checks_able}
use Rattle.hevc_tray.proofs.ChecksCode.{count_fine, rooms_fine}
use Rattle.packing.specs.Pack.{packed_from}
use Rattle.packing.specs.Packs.{Closes}
use Rattle.hevc_packer.specs.TrayLaws.{InTurn, Lists, TrayAgain}

-- ---- what the reader leaves behind: the levels of the blocks in consecutive parts, what is found of each, the statistics behind the last
unfoldable pub levels_of : List Params → List Block → List ℤ → List ℤ
levels_of [] bs levels = levels
levels_of (p ∷ ps) [] levels = levels
levels_of (p ∷ ps) (b ∷ bs) levels = b.levels ++ levels_of ps bs (drop (area p) levels)

unfoldable pub found_in : List Block → List Found
found_in [] = []
found_in (b ∷ bs) = found_of b ∷ found_in bs

unfoldable pub stats_behind : List ℕ → List Block → List ℕ
stats_behind stats [] = stats
stats_behind stats (b ∷ bs) = stats_behind b.stats bs

abbrev pub all_read : List (List ℕ) → Engine → List ℕ → List ℕ → List Block → List ℤ → List (List ℕ) → TrayRead
all_read rows next contexts stats bs levels found =
    record {
      done = length rows;
      number = 0;
      engine = next;
      contexts = contexts;
      stats = stats_behind stats bs;
      levels = levels_of (records_of rows) bs levels;
      found = found_rows (found_in bs) ++ drop (length rows) found;
    }

-- P is the payload; levels and found any that a reader is handed with room for the tray
pub record TrayRows (P contexts stats : List ℕ) (rows : List (List ℕ)) (bins : List ℕ) : Type 0 where
  pub blocks : List Block
  pub next : Engine
  pub starts : start P ≡ accepted (started P)
  pub lists : Lists stats (records_of rows) bins blocks
  pub reads : (levels : List ℤ) (found : List (List ℕ)) → 0 ≡ reader.records_refusal (records_of rows) levels → length rows ≤ length found
      → read_rows P (started P) contexts stats rows levels found ≡ all_read rows next (packed_from contexts bins).contexts stats blocks levels found
  pub closes : Closes P next

-- ---- block after block
pub record Told (ps : List Params) (bs : List Block) (f : Engine) (ds st : List ℕ) (lent : List ℤ) (t : Tray) : Type 0 where
  pub done : t.done ≡ length ps
  pub number : t.number ≡ 0
  pub engine : t.engine ≡ f
  pub contexts : t.contexts ≡ ds
  pub stats : t.stats ≡ stats_behind st bs
  pub found : t.found ≡ found_in bs
  pub counted : length t.found ≡ length ps
  pub levels : t.front ++ t.left ≡ levels_of ps bs lent

part_whole : (p : Params) (levels more : List ℤ) → area p ≤ length more → block_with p levels (take (area p) more) ≡ levels
part_whole p levels more h =
    let d : drop (area p) (take (area p) more) ≡ [] = drop_of_length-le (take (area p) more) {i = area p} (omega (arith, length-take-le (area p) more h)) in
    ap (λ (l : List ℤ). levels ++ l) d ∙ append-nil levels

first_record : (p : Params) (ps : List Params) (levels : List ℤ) → 0 ≡ reader.records_refusal (p ∷ ps) levels
    → (0 ≡ parameter_refusal p levels) × (0 ≡ reader.records_refusal ps (drop (area p) levels))
unfolding reader.records_refusal
first_record p ps levels q = or_else_zero (parameter_refusal p levels) (reader.records_refusal ps (drop (area p) levels)) q

told_none : (P : List ℕ) (e : Engine) (cs stats : List ℕ) (f : Engine) (ds : List ℕ) (levels : List ℤ) → e ≡ f → cs ≡ ds → Told [] [] f ds stats levels (tray P e cs stats [] levels)
unfolding tray stats_behind found_in levels_of
told_none P e cs stats f ds levels q w = record { done = refl; number = refl; engine = q; contexts = w; stats = refl; found = refl; counted = refl; levels = refl }

told_more : (p : Params) (ps : List Params) (b : Block) (bs : List Block) (f : Engine) (ds st : List ℕ) (lent : List ℤ) (u : Tray) → area p ≤ length lent
    → Told ps bs f ds b.stats (drop (area p) lent) u → Told (p ∷ ps) (b ∷ bs) f ds st lent (reader.behind (block_with p b.levels (take (area p) lent)) (found_of b) u)
unfolding stats_behind found_in levels_of
told_more p ps b bs f ds st lent u room w =
    record {
      done = ap suc w.done;
      number = w.number;
      engine = w.engine;
      contexts = w.contexts;
      stats = w.stats;
      found = ap (λ (l : List Found). found_of b ∷ l) w.found;
      counted = ap suc w.counted;
      levels = append_assoc (block_with p b.levels (take (area p) lent)) u.front u.left ∙ ap₂ (λ (x y : List ℤ). x ++ y) (part_whole p b.levels lent room) w.levels;
    }

tray_next : (P : List ℕ) (e : Engine) (cs stats : List ℕ) (p : Params) (ps : List Params) (levels : List ℤ) (b : Block) (next : Engine) (mid : List ℕ)
    → read_payload P e cs stats p (take (area p) levels)
    ≡ record { answer = accepted (record { found = found_of b; next = next }); contexts = mid; stats = b.stats; block = block_with p b.levels (take (area p) levels) }
    → tray P e cs stats (p ∷ ps) levels ≡ reader.behind (block_with p b.levels (take (area p) levels)) (found_of b) (tray P next mid b.stats ps (drop (area p) levels))
unfolding tray on_block
tray_next P e cs stats p ps levels b next mid r =
    ap (λ (x : PayloadRead). on_block e x (drop (area p) levels) (λ f. tray P f x.contexts x.stats ps (drop (area p) levels)) x.answer) r

module _ (P : List ℕ) where
  in_one : (ps : List Params) (e : Engine) (cs stats : List ℕ) (bs : List Block) (f : Engine) (ds : List ℕ) (levels : List ℤ) → 0 ≡ reader.records_refusal ps levels
      → InTurn P e cs stats ps bs f ds → Told ps bs f ds stats levels (tray P e cs stats ps levels)
  in_one [] e cs stats [] f ds levels q t = told_none P e cs stats f ds levels t.0 t.1
  in_one [] e cs stats (b ∷ bs) f ds levels q t = absurd t
  in_one (p ∷ ps) e cs stats [] f ds levels q t = absurd t
  in_one (p ∷ ps) e cs stats (b ∷ bs) f ds levels q t =
      let z = first_record p ps levels q in
      let room = (parameter_passed p levels z.0).1 in
      let r = t.2 (take (area p) levels) (omega (arith, length-take-le (area p) levels room)) in
      let w = in_one ps t.0 t.1 b.stats bs f ds (drop (area p) levels) z.1 t.3 in
      subst (λ (x : Tray). Told (p ∷ ps) (b ∷ bs) f ds stats levels x) (sym (tray_next P e cs stats p ps levels b t.0 t.1 r))
      (told_more p ps b bs f ds stats levels (tray P t.0 t.1 b.stats ps (drop (area p) levels)) room w)

-- ---- the checks that do not look at a block: the first block was accepted
refused_not : {X : Type 0} (n : ℕ) (f : FoundAt) → refused n ≡ accepted f → X
refused_not n f q = let z : ◌≡◌ {A = ℕ} 0 1 = cc in absurd (omega arith)

able : (P : List ℕ) (e : Engine) (cs stats : List ℕ) (p : Params) (block : List ℤ) (f : FoundAt) → (read_payload P e cs stats p block).answer ≡ accepted f → Able P e cs stats
unfolding read_payload
able P e cs stats p block f q = go (payload_checks P e cs stats p block) refl q
  where
    go : (n : ℕ) → n ≡ payload_checks P e cs stats p block → (read_payload_by n P e cs stats p block).answer ≡ accepted f → Able P e cs stats
    go zero u w = (checks_able P e cs stats p block u).0
    go (suc n) u w = unfold read_payload_by in refused_not (suc n) f w

pub records_long : (rows : List (List ℕ)) → length (records_of rows) ≡ length rows
unfolding records_of
records_long [] = refl
records_long (r ∷ rows) = ap suc (records_long rows)

-- each part of what the reader leaves, by its own equation
laid_is : (rows : List (List ℕ)) (bs : List Block) (f : Engine) (ds stats : List ℕ) (levels : List ℤ) (found : List (List ℕ)) (t : Tray)
    → Told (records_of rows) bs f ds stats levels t → reader.laid t found ≡ all_read rows f ds stats bs levels found
laid_is rows bs f ds stats levels found t w =
    made (w.done ∙ records_long rows) w.number w.engine w.contexts w.stats w.levels
    (ap₂ (λ (x : List Found) (n : ℕ). found_rows x ++ drop n found) w.found (w.counted ∙ records_long rows))
  where
    made : t.done ≡ length rows → t.number ≡ 0 → t.engine ≡ f → t.contexts ≡ ds → t.stats ≡ stats_behind stats bs → t.front ++ t.left ≡ levels_of (records_of rows) bs levels
        → found_rows t.found ++ drop (length t.found) found ≡ found_rows (found_in bs) ++ drop (length rows) found → reader.laid t found ≡ all_read rows f ds stats bs levels found
    made a b c d g h k = λ i. record { done = a i; number = b i; engine = c i; contexts = d i; stats = g i; levels = h i; found = k i }

module _ (P : List ℕ) (e : Engine) (cs stats : List ℕ) (f : Engine) (ds : List ℕ) where
  first_able : (p : Params) (ps : List Params) (bs : List Block) (levels : List ℤ) → InTurn P e cs stats (p ∷ ps) bs f ds → 0 ≡ reader.records_refusal (p ∷ ps) levels
      → Able P e cs stats
  first_able p ps [] levels t q = absurd t
  first_able p ps (b ∷ bs) levels t q =
      let z = first_record p ps levels q in
      able P e cs stats p levels _ (ap (λ (x : PayloadRead). x.answer) (t.2 levels (parameter_passed p levels z.0).1))

  none_read : (e : Engine) (cs : List ℕ) (levels : List ℤ) (found : List (List ℕ)) → read_rows P e cs stats [] levels found ≡ reader.untouched 0 e cs stats levels found
  unfolding read_rows read_tray records_of
  none_read e cs levels found = refl

  none_all : (levels : List ℤ) (found : List (List ℕ)) → reader.untouched 0 f ds stats levels found ≡ all_read [] f ds stats [] levels found
  unfolding stats_behind levels_of found_in found_rows records_of
  none_all levels found = refl

  some_read : (r : List ℕ) (rows : List (List ℕ)) (levels : List ℤ) (found : List (List ℕ)) → 0 ≡ reader.tray_checks P e cs stats (rows_refusal (r ∷ rows)) (records_of (r ∷ rows)) levels (length found)
      → read_rows P e cs stats (r ∷ rows) levels found ≡ reader.laid (tray P e cs stats (records_of (r ∷ rows)) levels) found
  unfolding read_rows read_tray records_of read_tray_by
  some_read r rows levels found checks = ap (λ n. read_tray_by n P e cs stats (records_of (r ∷ rows)) levels found) (sym checks)

  pub rows_read : (rows : List (List ℕ)) (bs : List Block) → 0 ≡ rows_refusal rows → length rows ≤ 256 → InTurn P e cs stats (records_of rows) bs f ds
      → (levels : List ℤ) (found : List (List ℕ)) → 0 ≡ reader.records_refusal (records_of rows) levels → length rows ≤ length found
      → read_rows P e cs stats rows levels found ≡ all_read rows f ds stats bs levels found
  unfolding records_of
  rows_read [] [] flags few t levels found q h =
      none_read e cs levels found ∙ ap₂ (λ (x : Engine) (y : List ℕ). reader.untouched 0 x y stats levels found) t.0 t.1 ∙ none_all levels found
  rows_read [] (b ∷ bs) flags few t levels found q h = absurd t
  rows_read (r ∷ rows) bs flags few t levels found q h =
      let ps = records_of (r ∷ rows) in
      let a = first_able (params_of r) (records_of rows) bs levels t q in
      let many = records_long (r ∷ rows) in
      let checks : 0 ≡ reader.tray_checks P e cs stats (rows_refusal (r ∷ rows)) ps levels (length found) =
      or_else_rest 0 _ _ a.payload (or_else_rest 0 _ _ (count_fine (length ps) (omega arith)) (or_else_rest 0 _ _ flags (or_else_rest 0 _ _ q
      (or_else_rest 0 _ _ (rooms_fine (length found) (length ps) (omega arith)) (or_else_rest 0 _ _ a.state (or_else_rest 0 _ _ a.packed (or_else_rest 0 _ _ a.small a.runs))))))) in
      some_read r rows levels found checks ∙ laid_is (r ∷ rows) bs f ds stats levels found (tray P e cs stats ps levels) (in_one P ps e cs stats bs f ds levels q t)

-- the lists' own theorem, as the reader of rows has it
pub again_rows : (P contexts stats : List ℕ) (rows : List (List ℕ)) (bins : List ℕ) → 0 ≡ rows_refusal rows → length rows ≤ 256 → TrayAgain P contexts stats (records_of rows) bins
    → TrayRows P contexts stats rows bins
again_rows P contexts stats rows bins flags few k =
    record {
      blocks = k.blocks;
      next = k.next;
      starts = k.starts;
      lists = k.lists;
      reads = rows_read P (started P) contexts stats k.next (packed_from contexts bins).contexts rows k.blocks flags few k.turns;
      closes = k.closes;
    }
