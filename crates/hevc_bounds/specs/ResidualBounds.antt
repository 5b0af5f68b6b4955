-- The residual tree, once and with everything: what is read has n·n levels, none stored out of the block or out of range, statistics within 84; it stops by 8
-- alone, its contexts are a block's, and no way has more bins than bins_most. For any invariant of levels and greatest column that storing a level keeps.
-- Assumes nothing.
use Prim.Native.Nat.{ℕ, zero, suc, ◌+◌, ◌-◌, ◌*◌, ◌/◌, ◌%◌, ◌^◌, ◌≤◌, ◌<◌}
use Rattle.std.specs.Prelude.{◌≡◌, Bool, ◌&&◌, ◌||◌, ℤ, pos, nat_abs}
use Rattle.std.proofs.Math.Path.{refl, ap}
use Rattle.std.proofs.Common.{sym, subst, ◌∙◌, length-set, pow_pos, eqb-true, eq-eqb, ltb-true, ltb-false}
use Rattle.std.proofs.Math.Bool.{true, false, not, cond}
use mathlib.Core.List.{List, [], ◌∷◌}
use native.Mathlib.Omega.{arith}
use Rattle.std.proofs.Math.ListN.{length, get_or, set, replicate, get_or-eq_default}
use Rattle.std.proofs.lemmas.List.{length-replicate}
use Rattle.std.proofs.Math.Dec.{ltb, eqb}
use Rattle.std.proofs.Math.Pow.{pow_mono}
use Rattle.std.proofs.Math.Arith.{digits_lt}
use Rattle.tables.specs.Table.{eq_below, le_below}
use Rattle.bins.specs.Engine.{bit_no}
use Rattle.trees.specs.Every.{Each, each_done, each_stop, each_bin, each_bind, each_as, each_if, each_aligned, flag_each, bits_each}
use Rattle.trees.specs.ReaderLaws.{clash}
use Rattle.hevc_residual.specs.declared.params.Params.{Params}
use Rattle.hevc_residual.specs.Layout.{at_sig_coeff, at_greater1, at_greater2, block_contexts, in_chroma}
use Rattle.hevc_residual.specs.Scan.{Spot, spot, number_in, sig_ctx}
use Rattle.hevc_residual.specs.Wanted.{Wanted, area, width, cell_of, outer_of, inner_of, spot_in, wanted_in, none}
use Rattle.hevc_residual.specs.Head.{Head, skip_or_bypass}
use Rattle.hevc_residual.specs.Remainder.{log2_transform_range, in_range, signed, rice_next, stat_next}
use Rattle.hevc_residual.specs.SubBlock.{Due, dues, count_of, first_greater1, negative_now, column_so_far, Filled, levels_s, Acc, sb_type, sign_hidden, escape_data_present, coeffs_s}
use Rattle.hevc_residual.specs.Residual.{is_coded, marked, ctx_set_of, sig_at, filled_s, sub_block_s, sub_blocks_s, Block, greatest_of, body_s, residual}
use Rattle.hevc_residual.specs.Extent.{side, column_extent_of, row_extent_of}
use Rattle.hevc_residual.specs.Limits.{Accepted, Statistics}
use Rattle.hevc_residual.specs.LimitLaws.{stats_set, range_small, range_most, rice_most, stat_most, cond_most}
use Rattle.hevc_scans.specs.ScanLaws.{Order, scan_order_lem, number_below, square_is, outer_inside, outer_small, cell_small, inner_inside, inner_before_last}
use Rattle.hevc_scans.specs.SigLaws.{sig_small}
use Rattle.hevc_bounds.specs.Pieces.{bins_most, residual_bounds, chroma_few, bit_few, Lies, head_each, remainder_each, places_each, greater1_each}

-- ---- the block's places
abbrev pub InBlock : Params → Spot → Type 0
InBlock p s = (s.x < side p) × (s.y < side p)

in_order : (l : List Spot) (w : ℕ) → Order l w → 0 < w → (i : ℕ) → ((get_or l i (spot 0 0)).x < w) × ((get_or l i (spot 0 0)).y < w)
in_order l w o h i = go (ltb i (w * w)) refl
  where
    go : (d : Bool) → ltb i (w * w) ≡ d → ((get_or l i (spot 0 0)).x < w) × ((get_or l i (spot 0 0)).y < w)
    go true q = let k = ltb-true i (w * w) q in (o.in_x i k, o.in_y i k)
    go false q =
        let z : length l ≤ i = omega (arith, o.long, ltb-false i (w * w) q) in
        let e : get_or l i (spot 0 0) ≡ spot 0 0 = get_or-eq_default l (spot 0 0) z in
        (subst (λ (s : Spot). s.x < w) (sym e) h, subst (λ (s : Spot). s.y < w) (sym e) h)

module _ (p : Params) (a : Accepted p) where
  -- every place that the reader stores at lies in the block
  pub in_block_lem : (i k : ℕ) → InBlock p (spot_in (inner_of p) (get_or (outer_of p) i (spot 0 0)) k)
  unfolding spot_in
  in_block_lem i k =
      let out = scan_order_lem (p.log2 - 2) p.scan (omega (arith, a.most)) a.scan in
      let inn = scan_order_lem 2 p.scan (omega arith) a.scan in
      let s = in_order (outer_of p) (width p) out (pow_pos (p.log2 - 2)) i in
      let q = in_order (inner_of p) 4 inn (omega arith) k in (
        cell_small p.log2 (get_or (outer_of p) i (spot 0 0)).x (get_or (inner_of p) k (spot 0 0)).x a.least s.0 (omega (arith, q.0)),
        cell_small p.log2 (get_or (outer_of p) i (spot 0 0)).y (get_or (inner_of p) k (spot 0 0)).y a.least s.1 (omega (arith, q.1)),
      )

  pub square : side p * side p ≡ area p
  square = eq_below (λ k. 2 ^ k * 2 ^ k) (λ k. 4 ^ k) 6 tt p.log2 (omega (arith, a.most))

  pub cell_in : (s : Spot) → InBlock p s → cell_of p s < area p
  cell_in s g = subst (λ (z : ℕ). cell_of p s < z) square (digits_lt g.1 g.0)

-- ---- an invariant of what is stored: I holds of n·n levels and the greatest column so far, H once there is a level. A level stored takes I to H
pub record Kept (p : Params) (I H : List ℤ → ℕ → Type 0) : Type 0 where
  pub starts : I (replicate (area p) (pos 0)) 0
  pub weaker : (l : List ℤ) (c : ℕ) → H l c → I l c
  pub stored : (l : List ℤ) (c : ℕ) (s : Spot) (neg : Bool) (m : ℕ) → length l ≡ area p → I l c → InBlock p s → 1 ≤ m → in_range (log2_transform_range p) neg m ≡ true
      → H (set l (cell_of p s) (signed neg m)) (column_so_far c s)

-- nothing is kept
pub kept_none : (p : Params) → Kept p (λ l c. Unit {0}) (λ l c. Unit {0})
kept_none p = record { starts = tt; weaker = λ l c h. tt; stored = λ l c s neg m e i g h r. tt }

-- ---- what stands after a level, after a sub-block and after the block, by m bins
record Filling (p : Params) (H : List ℤ → ℕ → Type 0) (stat upto : ℕ) (f : Filled) (m : ℕ) : Type 0 where
  long : length f.levels ≡ area p
  holds : H f.levels f.column
  small : f.stat ≤ 84
  stays : p.persistent ≡ false → f.stat ≡ stat
  bins : m ≤ upto

pub record Gone (p : Params) (H : List ℤ → ℕ → Type 0) (stats : List ℕ) (upto : ℕ) (a : Acc) (m : ℕ) : Type 0 where
  pub long : length a.levels ≡ area p
  pub holds : H a.levels a.column
  pub small : Statistics a.stats
  pub stays : p.persistent ≡ false → a.stats ≡ stats
  pub bins : m ≤ upto

-- H holds of the levels with the greatest column that was gathered; statistics stay where there is no persistent Rice
pub record Whole (p : Params) (H : List ℤ → ℕ → Type 0) (stats : List ℕ) (top : ℕ) (b : Block) (m : ℕ) : Type 0 where
  pub long : length b.levels ≡ area p
  pub gathered : (column : ℕ) × H b.levels column
  pub column : b.column ≡ column_extent_of p b.levels
  pub row : b.row ≡ row_extent_of p b.levels
  pub greatest : b.greatest ≡ greatest_of b.levels
  pub small : Statistics b.stats
  pub stays : p.persistent ≡ false → b.stats ≡ stats
  pub bins : m ≤ top

-- ---- levels to come: a base is at least 1, and there are as many as places
abbrev pub Bases : List Due → Type 0
Bases [] = Unit {0}
Bases (d ∷ ds) = (1 ≤ d.base_level) × Bases ds

pub dues_bases : (ks : List ℕ) (gs : List Bool) (seen g2 : Bool) → Bases (dues ks gs seen g2)
unfolding dues
dues_bases [] gs seen g2 = tt
dues_bases (k ∷ ks) [] seen g2 = (omega arith, dues_bases ks [] seen g2)
dues_bases (k ∷ ks) (false ∷ gs) seen g2 = (omega arith, dues_bases ks gs seen g2)
dues_bases (k ∷ ks) (true ∷ gs) false g2 = (omega arith, dues_bases ks gs true g2)
dues_bases (k ∷ ks) (true ∷ gs) true g2 = (omega arith, dues_bases ks gs true g2)

dues_long : (ks : List ℕ) (gs : List Bool) (seen g2 : Bool) → length (dues ks gs seen g2) ≡ length ks
unfolding dues
dues_long [] gs seen g2 = refl
dues_long (k ∷ ks) [] seen g2 = ap suc (dues_long ks [] seen g2)
dues_long (k ∷ ks) (false ∷ gs) seen g2 = ap suc (dues_long ks gs seen g2)
dues_long (k ∷ ks) (true ∷ gs) false g2 = ap suc (dues_long ks gs true g2)
dues_long (k ∷ ks) (true ∷ gs) true g2 = ap suc (dues_long ks gs true g2)

-- ---- statistics
stat_stays : (more persistent had : Bool) (x y : ℕ) → persistent ≡ false → cond (more && (persistent && not had)) x y ≡ y
stat_stays true false had x y q = refl
stat_stays false persistent had x y q = refl
stat_stays true true had x y q = let z : ◌≡◌ {A = ℕ} 0 1 = cc in absurd (omega arith)

set_same : (l : List ℕ) (i : ℕ) → set l i (get_or l i 0) ≡ l
set_same [] i = refl
set_same (a ∷ l) zero = refl
set_same (a ∷ l) (suc i) = ap (λ (m : List ℕ). a ∷ m) (set_same l i)

rice_first : (b : Bool) (s : ℕ) → s ≤ 84 → cond b (s / 4) 0 ≤ 21
rice_first true s h = omega arith
rice_first false s h = omega arith

and_first : (a b : Bool) → (a && b) ≡ true → a ≡ true
and_first true b q = refl
and_first false b q = q

and_second : (a b : Bool) → (a && b) ≡ true → b ≡ true
and_second true b q = q
and_second false b q = let z : ◌≡◌ {A = ℕ} 0 1 = cc in absurd (omega arith)

-- ---- contexts of one sub-block, number i of those up to number last
module _ (p : Params) (a : Accepted p) (h : Head) (last lastIn i : ℕ) (hl : last < 4 ^ (p.log2 - 2)) (hi : i ≤ last) (hn : lastIn ≤ 15) where
  sig_few : (s : Spot) → s ≡ get_or (outer_of p) i (spot 0 0) → (right below : Bool) (n k : ℕ) → n ≡ cond (eqb i last) lastIn 16 → k < n
      → sig_at p h (outer_of p) (inner_of p) s right below k < block_contexts
  unfolding sig_at spot_in
  sig_few s e right below n k b u = go (p.skip_context && skip_or_bypass p h.skip)
    where
      n16 : (t : Bool) → n ≡ cond t lastIn 16 → n ≤ 16
      n16 true q = omega arith
      n16 false q = omega arith

      four : p.log2 ≡ 2 → k < 15
      four z =
          let w : 4 ^ (p.log2 - 2) ≡ 1 = rw z in
          let v : n ≡ lastIn = b ∙ ap (λ t. cond t lastIn 16) (eq-eqb i last (omega arith)) in
          omega arith

      go : (d : Bool) → at_sig_coeff + elim d [
        | true ↦ 42 + in_chroma p.luma 1
        | false ↦ sig_ctx p.log2 p.luma p.scan right below (4 * s.x + (get_or (inner_of p) k (spot 0 0)).x) (4 * s.y + (get_or (inner_of p) k (spot 0 0)).y)
      ] < block_contexts
      go true = omega (arith, chroma_few p.luma 1)
      go false =
          let few = n16 (eqb i last) b in
          let o = outer_inside p.log2 p.scan i a.least a.most a.scan (omega arith) in
          let ox : s.x < 2 ^ (p.log2 - 2) = rw e o.0 in
          let oy : s.y < 2 ^ (p.log2 - 2) = rw e o.1 in
          let place = inner_inside p.scan k a.scan (omega arith) in
          let x = cell_small p.log2 s.x (get_or (inner_of p) k (spot 0 0)).x a.least ox place.0 in
          let y = cell_small p.log2 s.y (get_or (inner_of p) k (spot 0 0)).y a.least oy place.1 in
          omega (
            arith,
            sig_small p.log2 p.scan (4 * s.x + (get_or (inner_of p) k (spot 0 0)).x) (4 * s.y + (get_or (inner_of p) k (spot 0 0)).y) p.luma right below x y
                (λ z q r.
                let zx = (outer_small p.log2 s.x a.most ox).1 z in
                let zy = (outer_small p.log2 s.y a.most oy).1 z in
                inner_before_last p.scan k a.scan (four z) (omega arith) (omega arith)),
          )

  set_few : (b : Acc) → ctx_set_of p i b ≤ 3
  set_few b = go (eqb i 0 || not p.luma) (not b.first && eqb b.greater1_ctx 0)
    where
      go : (d e : Bool) → cond d 0 2 + bit_no e ≤ 3
      go true e = omega (arith, bit_few e)
      go false e = omega (arith, bit_few e)

-- the last sub-block is one of the block's, and the last place one of its sixteen
quarter : (n : ℕ) → 2 ^ suc (suc n) ≡ 4 * 2 ^ n
quarter n = omega arith

module _ (p : Params) (a : Accepted p) (x y : ℕ) (hx : x < side p) (hy : y < side p) where
  pub last_few : number_in (outer_of p) (x / 4) (y / 4) < 4 ^ (p.log2 - 2)
  last_few =
      let e : side p ≡ 4 * 2 ^ (p.log2 - 2) = let z : suc (suc (p.log2 - 2)) ≡ p.log2 = omega (arith, a.least) in rw z at (quarter (p.log2 - 2)) in
      let three : p.log2 - 2 ≤ 3 = omega (arith, a.most) in
      rw (square_is (p.log2 - 2) three) at (number_below (p.log2 - 2) p.scan (x / 4) (y / 4) three a.scan (omega arith) (omega arith))

  pub last_in_few : number_in (inner_of p) (x % 4) (y % 4) ≤ 15
  last_in_few =
      let h : number_in (inner_of p) (x % 4) (y % 4) < 16 = number_below 2 p.scan (x % 4) (y % 4) (omega arith) a.scan (omega arith) (omega arith) in
      omega arith

module _ (p : Params) (a : Accepted p) {I H : List ℤ → ℕ → Type 0} (kept : Kept p I H) (top : ℕ) where
  -- ---- levels, by upto bins at most
  levels_each : {n : ℕ} (lv : ℕ → Wanted → ℤ) (spot_of : ℕ → Spot) → ((k : ℕ) → InBlock p (spot_of k)) → (ds : List Due) (left signs r : ℕ) (had : Bool) (sum : ℕ) (f : Filled) (stat upto : ℕ)
      → Bases ds → length f.levels ≡ area p → I f.levels f.column → (ds ≡ [] → H f.levels f.column) → f.stat ≤ 84 → (p.persistent ≡ false → f.stat ≡ stat)
      → r ≤ 21 → n + 66 * length ds ≤ upto → upto ≤ top
      → Each (residual_bounds p top) (Filling p H stat upto) n (levels_s p lv spot_of ds left signs r had sum f)
  unfolding levels_s
  levels_each lv spot_of grid [] left signs r had sum f stat upto o g i e s k w z y =
      each_done (record { long = g; holds = e refl; small = s; stays = k; bins = omega arith })
  levels_each {n} lv spot_of grid (d ∷ ds) left signs r had sum f stat upto o g i e s k w z y =
      each_bind {U = λ v m. m ≤ n + 66} (each_if d.more (λ q. remainder_each p top r _ (omega arith) (omega arith)) (λ q. each_done (omega arith))) (λ v m u.
      let level = d.base_level + v in
      let neg = negative_now left signs (sum + level) in
      let at = spot_of d.at in
      each_if (in_range (log2_transform_range p) neg level)
      (λ q.
      let t22 : 2 ^ log2_transform_range p ≤ 2 ^ 22 = pow_mono (range_small p a.depth) in
      let most : level ≤ 2 ^ 22 = omega (arith, range_most (log2_transform_range p) neg level q) in
      let h = kept.stored f.levels f.column at neg level g i (grid d.at) (omega (arith, o.0)) q in
      levels_each lv spot_of grid ds (left - 1) signs (cond d.more (rice_next p r level) r) (had || d.more) (sum + level)
      (record { levels = set f.levels (cell_of p at) (signed neg level); column = column_so_far f.column at; stat = cond (d.more && (p.persistent && not had)) (stat_next f.stat v) f.stat })
      stat upto o.1 (length-set f.levels (cell_of p at) (signed neg level) ∙ g) (kept.weaker _ _ h) (λ z. h)
      (cond_most (d.more && (p.persistent && not had)) (stat_next f.stat v) f.stat 84 (stat_most f.stat v s (omega (arith, o.0))) s)
      (λ z. stat_stays d.more p.persistent had (stat_next f.stat v) f.stat z ∙ k z)
      (cond_most d.more (rice_next p r level) r 21 (rice_most p r level w most) w) (omega arith) y)
      (λ q. each_stop (refl, omega arith)))

  -- ---- at the significant places k ∷ ks
  coeffs_each : {n : ℕ} (h : Head) (lv : ℕ → Wanted → ℤ) (spot_of : ℕ → Spot) → ((k : ℕ) → InBlock p (spot_of k)) → (ctxSet k : ℕ) (ks : List ℕ) (b : Acc)
      → ctxSet ≤ 3 → length ks ≤ 15 → length b.levels ≡ area p → I b.levels b.column → Statistics b.stats → n + 1082 ≤ top
      → Each (residual_bounds p top) (Gone p H b.stats (n + 1082)) n (coeffs_s p h lv spot_of ctxSet k ks b)
  unfolding coeffs_s
  coeffs_each {n} h lv spot_of grid ctxSet k ks b few short long i st y =
      let stat = get_or b.stats (sb_type p h) 0 in
      let coded = suc (length ks) - bit_no (sign_hidden p h.skip h.rdpcm (k ∷ ks)) in
      each_bind (greater1_each p top lv (at_greater1 + 4 * ctxSet + in_chroma p.luma 16) 8 (k ∷ ks) (record { bins = []; greater1_ctx = 1 }) (omega (arith, chroma_few p.luma 16))) (λ g m₁ u₁.
      each_bind (flag_each (ltb 0 (count_of g.bins)) (at_greater2 + ctxSet + in_chroma p.luma 4) (λ t. ltb 2 (nat_abs (lv (first_greater1 (k ∷ ks) g.bins) t))) (omega (arith, chroma_few p.luma 4))) (λ g2 m₂ u₂.
      each_aligned (p.aligning && escape_data_present (suc (length ks)) (count_of g.bins) g2) (λ q. (and_first p.aligning _ q, omega (arith, u₂.1))) (λ m₃ u₃ v₃.
      each_bind (bits_each coded 0 _) (λ signs m₄ u₄.
      each_bind (levels_each lv spot_of grid (dues (k ∷ ks) g.bins false g2) coded signs (cond p.persistent (stat / 4) 0) false 0
      (record { levels = b.levels; column = b.column; stat = stat }) stat (n + 1082) (dues_bases (k ∷ ks) g.bins false g2) long i
      (λ z. absurd (omega (arith, dues_long (k ∷ ks) g.bins false g2, ap (λ z. length z) z))) (st (sb_type p h)) (λ z. refl) (rice_first p.persistent stat (st (sb_type p h)))
      (omega (arith, dues_long (k ∷ ks) g.bins false g2, u₂.1, u₄.1)) y) (λ f m₅ u₅.
      each_done (record {
        long = u₅.long;
        holds = u₅.holds;
        small = stats_set b.stats (sb_type p h) f.stat st u₅.small;
        stays = λ z. ap (set b.stats (sb_type p h)) (u₅.stays z) ∙ set_same b.stats (sb_type p h);
        bins = u₅.bins;
      }))))))

  -- ---- one sub-block: number last has a level; another one leaves what there is
  module _ (h : Head) (last lastIn : ℕ) (hl : last < 4 ^ (p.log2 - 2)) (hn : lastIn ≤ 15) where
    filled_each : {n : ℕ} (i j : ℕ) → i ≤ last → (b : Acc) (ks : List ℕ) → length ks ≤ 16 → length b.levels ≡ area p → I b.levels b.column
        → (none ks ≡ true → H b.levels b.column) → Statistics b.stats → n + 1082 ≤ top
        → Each (residual_bounds p top) (Gone p H b.stats (n + 1082)) n (filled_s p h (outer_of p) (inner_of p) i (get_or (outer_of p) j (spot 0 0)) b ks)
    unfolding filled_s none
    filled_each i j hi b [] short long w e st y = each_done (record { long = long; holds = e refl; small = st; stays = λ z. refl; bins = omega arith })
    filled_each i j hi b (k ∷ ks) short long w e st y =
        let s = get_or (outer_of p) j (spot 0 0) in
        coeffs_each h (wanted_in p (inner_of p) s) (spot_in (inner_of p) s) (in_block_lem p a j) (ctx_set_of p i b) k ks b (set_few p a h last lastIn i hl hi hn b) (omega arith) long w st y

    not_middle : (i : ℕ) → (ltb 0 i && ltb i last) ≡ true → eqb i last ≡ true → ⊥
    not_middle i q e = let z = and_second (ltb 0 i) (ltb i last) q in omega (arith, ltb-true i last z, eqb-true i last e)

    sub_each : {n : ℕ} (i : ℕ) → i ≤ last → (b : Acc) → length b.levels ≡ area p → I b.levels b.column → (eqb i last ≡ false → H b.levels b.column) → Statistics b.stats
        → n + 1099 ≤ top → Each (residual_bounds p top) (Gone p H b.stats (n + 1099)) n (sub_block_s p h (outer_of p) (inner_of p) last lastIn i b)
    unfolding sub_block_s marked none
    sub_each {n} i hi b long w e st y =
        let s = get_or (outer_of p) i (spot 0 0) in
        let right = is_coded p b (s.x + 1) s.y in
        let below = is_coded p b s.x (s.y + 1) in
        let lv = wanted_in p (inner_of p) s in
        let ctx = sig_at p h (outer_of p) (inner_of p) s right below in
        each_bind {U = λ coded m. (eqb i last ≡ true → coded ≡ true) × (m ≤ n + 1)}
        (each_if (ltb 0 i && ltb i last)
        (λ q. each_bin (omega (arith, chroma_few p.luma 2, bit_few (right || below))) (λ d. each_done (λ z. absurd (not_middle i q z), omega arith)))
        (λ q. each_done (λ z. refl, omega arith))) (λ coded m u.
        each_if coded
        (λ q. each_bind {U = λ ks m₂. (length ks ≤ 16) × (eqb i last ≡ true → none ks ≡ false) × (m₂ ≤ m + 16)}
        (each_if (eqb i last)
        (λ q₂. each_as (places_each p top lv ctx false lastIn (lastIn ∷ []) (λ k l. sig_few p a h last lastIn i hl hi hn s refl right below lastIn k (rw q₂) l))
        (λ ks m₂ v. (omega (arith, v.few), λ z. v.some (unfold none in refl), omega (arith, v.bins))))
        (λ q₂. each_as (places_each p top lv ctx (ltb 0 i && ltb i last) 16 [] (λ k l. sig_few p a h last lastIn i hl hi hn s refl right below 16 k (rw q₂) l))
        (λ ks m₂ v. (omega (arith, v.few), λ z. clash q₂ z, v.bins))))
        (λ ks m₂ v. each_as (filled_each i i hi (marked p b s.x s.y) ks v.0 long w (λ z. go (eqb i last) refl (λ x. clash (v.1 x) z)) st (omega (arith, u.1, v.2)))
        (λ b₂ m₃ r. record { long = r.long; holds = r.holds; small = r.small; stays = r.stays; bins = omega (arith, r.bins, u.1, v.2) })))
        (λ q. each_done (record { long = long; holds = go (eqb i last) refl (λ x. clash q (u.0 x)); small = st; stays = λ z. refl; bins = omega (arith, u.1) })))
      where
        go : (d : Bool) → eqb i last ≡ d → (eqb i last ≡ true → H b.levels b.column) → H b.levels b.column
        go true q f = f q
        go false q f = e q

    -- the rest, once there is a level
    rest_each : {n : ℕ} (i : ℕ) → i ≤ last → (b : Acc) (stats : List ℕ) (upto : ℕ) → length b.levels ≡ area p → H b.levels b.column → Statistics b.stats
        → (p.persistent ≡ false → b.stats ≡ stats) → n + 1099 * i ≤ upto → upto ≤ top
        → Each (residual_bounds p top) (Gone p H stats upto) n (sub_blocks_s p h (outer_of p) (inner_of p) last lastIn i b)
    unfolding sub_blocks_s
    rest_each zero hi b stats upto long w st k z y = each_done (record { long = long; holds = w; small = st; stays = k; bins = omega arith })
    rest_each (suc i) hi b stats upto long w st k z y =
        each_bind (sub_each i (omega arith) b long (kept.weaker _ _ w) (λ q. w) st (omega arith))
        (λ b₂ m u. rest_each i (omega arith) b₂ stats upto u.long u.holds u.small (λ x. u.stays x ∙ k x) (omega (arith, u.bins)) y)

    pub subs_each : {n : ℕ} (b : Acc) (upto : ℕ) → length b.levels ≡ area p → I b.levels b.column → Statistics b.stats → n + 1099 * suc last ≤ upto → upto ≤ top
        → Each (residual_bounds p top) (Gone p H b.stats upto) n (sub_blocks_s p h (outer_of p) (inner_of p) last lastIn (suc last) b)
    unfolding sub_blocks_s
    subs_each b upto long w st z y =
        each_bind (sub_each last (omega arith) b long w (λ q. clash q (eq-eqb last last refl)) st (omega arith))
        (λ b₂ m u. rest_each last (omega arith) b₂ b.stats upto u.long u.holds u.small u.stays (omega (arith, u.bins)) y)

  -- ---- the whole block
  body_each : (stats : List ℕ) → Statistics stats → (h : Head) (n : ℕ) → Lies p.log2 h → n + 64 * 1099 ≤ top → Each (residual_bounds p top) (Whole p H stats top) n (body_s p stats h)
  unfolding body_s
  body_each stats st h n k y =
      let last = number_in (outer_of p) (h.last_x / 4) (h.last_y / 4) in
      let lastIn = number_in (inner_of p) (h.last_x % 4) (h.last_y % 4) in
      let hl = last_few p a h.last_x h.last_y k.in_x k.in_y in
      let most : 4 ^ (p.log2 - 2) ≤ 64 = le_below (λ k. 4 ^ k) (λ _. 64) 4 tt (p.log2 - 2) (omega (arith, a.most)) in
      each_bind (subs_each h last lastIn hl (last_in_few p a h.last_x h.last_y k.in_x k.in_y) (record {
        coded_sub_block = replicate (4 ^ (p.log2 - 2)) false;
        greater1_ctx = 1;
        first = true;
        levels = replicate (area p) (pos 0);
        column = 0;
        stats = stats;
      }) top (length-replicate (area p) (pos 0)) kept.starts st (omega arith) (omega arith)) (λ b m u.
      each_done (record { long = u.long; gathered = (b.column, u.holds); column = refl; row = refl; greatest = refl; small = u.small; stays = u.stays; bins = u.bins }))

  -- behind n bins
  pub residual_from : {n : ℕ} (stats : List ℕ) → Statistics stats → n + bins_most ≤ top → Each (residual_bounds p top) (Whole p H stats top) n (residual p stats)
  unfolding residual
  residual_from stats st y = each_bind (head_each p a top (outer_of p) (inner_of p)) (λ h m u. body_each stats st h m u.0 (omega (arith, u.1)))

-- by itself
pub residual_each : (p : Params) (a : Accepted p) {I H : List ℤ → ℕ → Type 0} → Kept p I H → (stats : List ℕ) → Statistics stats
    → Each (residual_bounds p bins_most) (Whole p H stats bins_most) 0 (residual p stats)
residual_each p a kept stats st = residual_from p a kept bins_most stats st (omega arith)
