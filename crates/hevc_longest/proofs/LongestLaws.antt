-- No list of a block in range is longer than `longest` of its size: along the way of the block a remainder has 32 bins at most, a sub-block 555. Assumes nothing.
use Prim.Native.Nat.{ℕ, zero, suc, ◌+◌, ◌-◌, ◌*◌, ◌/◌, ◌%◌, ◌^◌, ◌≤◌, ◌<◌, max}
use Rattle.std.specs.Prelude.{◌≡◌, Bool, ◌&&◌, ◌||◌, set, eqb, ℤ, pos, nat_abs}
use Rattle.std.proofs.Math.Path.{refl, ap}
use Rattle.std.proofs.Common.{sym, subst, ◌∙◌, add-one}
use Rattle.std.proofs.Math.Bool.{true, false, not, cond}
use mathlib.Core.List.{List, [], ◌∷◌, ◌++◌}
use native.Mathlib.Omega.{arith}
use Rattle.std.proofs.Math.Nat.{pow-suc}
use Rattle.std.proofs.Math.ListN.{length, get_or, replicate, length-append, get_or-eq_default}
use Rattle.std.proofs.Math.Dec.{ltb, leb}
use Rattle.std.proofs.Math.Pow.{pow_mono, pow_pos}
use borrow.Author.Tests.{eqb-true, eqb-false, ltb-true, ltb-false, leb-true}
use Rattle.bins.specs.Engine.{bit_no}
use Rattle.bins.specs.Syn.{Written, write}
use Rattle.trees.specs.Every.{Free, Each, each_as, each_bind, each_done, flag_each, bits_each, prefix_each}
use Rattle.trees.specs.ReaderLaws.{clash}
use Rattle.trees.specs.ShapeLaws.{eg_whole}
use Rattle.trees.specs.LevelLaws.{far_false}
use Rattle.hevc_residual.specs.declared.params.Params.{Params}
use Rattle.hevc_residual.specs.Layout.{at_greater1, in_chroma}
use Rattle.hevc_residual.specs.Scan.{Spot, spot, number_in}
use Rattle.hevc_residual.specs.Wanted.{Wanted, area, negative, outer_of, inner_of, spot_in, wanted_in, is_sig, none}
use Rattle.hevc_residual.specs.Head.{Head, skip_coded, rdpcm_coded, suffix_bits, greatest_group, last_prefix, groups_s, head_s}
use Rattle.hevc_residual.specs.Remainder.{log2_transform_range, in_range, signed, rice_next, stat_next, eg_base, egk_s, limited_s, remainder_s}
use Rattle.hevc_residual.specs.SubBlock.{places_s, Greater1, greater1_s, Due, dues, count_of, first_greater1, negative_now, column_so_far, Filled, levels_s, Acc, sb_type, sign_hidden, escape_data_present, coeffs_s}
use Rattle.hevc_residual.specs.Residual.{is_coded, marked, ctx_set_of, sig_at, filled_s, sub_block_s, sub_blocks_s, Block, body_s, residual}
use Rattle.hevc_residual.specs.Refusal.{too_far}
use Rattle.hevc_residual.specs.Limits.{Accepted, Statistics}
use Rattle.hevc_residual.specs.LimitLaws.{stats_set, range_small, range_most, pow_below, rice_most, stat_most, cond_most}
use Rattle.hevc_bounds.specs.Pieces.{Lies, head_each}
use Rattle.hevc_bounds.specs.ResidualBounds.{Bases, dues_bases, last_few, last_in_few}
use Rattle.hevc_longest.specs.Longest.{longest}
use Rattle.hevc_longest.specs.Way.{Way, way_done, way_stop, way_bin, way_bind, way_if, way_aligned, way_as, way_both, each_way, Ones, ones_way, way_written}

pub longest_five : (log2 : ℕ) → log2 ≤ 5 → (log2 ≡ 2 → ⊥) → (log2 ≡ 3 → ⊥) → (log2 ≡ 4 → ⊥) → 2 ≤ log2 → 71088 ≡ longest log2
longest_five log2 h two three four least = let e : log2 ≡ 5 = omega arith in rw e

-- ---- a remainder: 32 bins at most
-- behind q ones of an Exp-Golomb prefix of order k, of a number that is below 2 ^ T with 2 ^ k more
order_few : (k q T x : ℕ) → x + 2 ^ k < 2 ^ T → ((j : ℕ) → 0 ≤ j → suc j ≡ suc q → leb (eg_base k (suc j)) x ≡ true) → suc q + k < T
order_few k q T x h last = pow_below (suc q + k) T (omega (arith, eg_whole k (suc q), leb-true (eg_base k (suc q)) x (last q (omega arith) refl)))

module _ (b : Wanted) where
  egk_way : {n : ℕ} (k : ℕ) (v : Wanted → ℕ) → 1 ≤ k → k ≤ 22 → v b + 2 ^ k < 2 ^ 15 → Way b (λ x m. m ≤ n + 28) n (egk_s k v)
  unfolding egk_s
  egk_way {n} k v one few h =
      way_bind (ones_way b 31 0 _) (λ q m u. way_if (leb 31 q || leb 32 (q + k)) (λ e. way_stop)
      (λ e. way_bind (each_way {K = Free} (bits_each (q + k) 0 _)) (λ x m₂ u₂. way_done (go q m m₂ u.bins u₂.1 u.last))))
    where
      go : (q m m₂ : ℕ) → m + 0 ≤ n + q + 1 → m₂ ≡ m + (q + k) → ((j : ℕ) → 0 ≤ j → suc j ≡ q → leb (eg_base k (suc j)) (v b) ≡ true) → m₂ ≤ n + 28
      go zero m m₂ a c last = omega arith
      go (suc q) m m₂ a c last = omega (arith, order_few k q 15 (v b) h last)

  limited_way : {n : ℕ} (T k : ℕ) (v : Wanted → ℕ) → T ≤ 22 → k ≤ 22 → v b + 2 ^ k < 2 ^ T → Way b (λ x m. m ≤ n + 28) n (limited_s T k v)
  unfolding limited_s
  limited_way {n} T k v most few h =
      way_bind (ones_way b (28 - T) 0 _) (λ q m u.
      let len = cond (eqb q (28 - T)) T (q + k) in
      way_if (leb 32 q || (leb 32 k || ltb 32 len)) (λ e. way_stop)
      (λ e. way_bind (each_way {K = Free} (bits_each len 0 _)) (λ x m₂ u₂. way_done (go (eqb q (28 - T)) refl m₂ u₂.1 u))))
    where
      fewer : (q m m₂ : ℕ) → m + 0 ≤ n + q + 1 → m₂ ≡ m + (q + k) → q < 28 - T → ((j : ℕ) → 0 ≤ j → suc j ≡ q → leb (eg_base k (suc j)) (v b) ≡ true) → m₂ ≤ n + 28
      fewer zero m m₂ a c l last = omega arith
      fewer (suc q) m m₂ a c l last = omega (arith, order_few k q T (v b) h last)

      go : {q m : ℕ} (d : Bool) → eqb q (28 - T) ≡ d → (m₂ : ℕ) → m₂ ≡ m + cond d T (q + k) → Ones b (28 - T) 0 n (λ g t. leb (eg_base k (suc g)) (v t)) q m → m₂ ≤ n + 28
      go true z m₂ c u = omega (arith, u.most)
      go {q} {m} false z m₂ c u = fewer q m m₂ u.bins c (omega (arith, u.upto, eqb-false q (28 - T) z)) u.last

  remainder_way : {n : ℕ} (p : Params) (r : ℕ) (v : Wanted → ℕ) → p.depth ≤ 16 → r ≤ 21 → v b < 2 ^ log2_transform_range p → Way b (λ x m. m ≤ n + 32) n (remainder_s p r v)
  unfolding remainder_s
  remainder_way {n} p r v d hr h =
      let high : Wanted → ℕ = λ t. v t - 4 * 2 ^ r in
      way_bind (ones_way b 4 0 (λ g t. leb (suc g * 2 ^ r) (v t))) (λ q m u. way_if (ltb q 4)
      (λ e. way_bind (each_way {K = Free} (bits_each r 0 _)) (λ x m₂ u₂. way_done (omega (arith, u.most, u₂.1))))
      (λ e.
      let four : 4 * 2 ^ r ≤ v b = leb-true (4 * 2 ^ r) (v b) (u.last 3 (omega arith) (omega (arith, ltb-false q 4 e, u.upto))) in
      let less : high b + 2 ^ (r + 1) < 2 ^ log2_transform_range p = omega (arith, ap (λ z. 2 ^ z) (add-one r), pow-suc 2 r, pow_pos r) in
      way_bind {U = λ x m₂. m₂ ≤ n + 32} (way_if p.extended
      (λ x. way_as (limited_way (log2_transform_range p) (r + 1) high (range_small p d) (omega arith) less) (λ y m₂ k. omega (arith, u.most)))
      (λ x. way_as (egk_way (r + 1) high (omega arith) (omega arith) (subst (λ T. high b + 2 ^ (r + 1) < 2 ^ T) (ap (λ d. cond d (max 15 (p.depth + 6)) 15) x) less)) (λ y m₂ k. omega (arith, u.most))))
      (λ x m₂ k. way_done k)))

-- ---- pieces of which every way has few enough bins
rice_first : (d : Bool) (s : ℕ) → s ≤ 84 → cond d (s / 4) 0 ≤ 21
rice_first true s h = omega arith
rice_first false s h = omega arith

dues_long : (ks : List ℕ) (gs : List Bool) (seen g2 : Bool) → length (dues ks gs seen g2) ≡ length ks
unfolding dues
dues_long [] gs seen g2 = refl
dues_long (k ∷ ks) [] seen g2 = ap suc (dues_long ks [] seen g2)
dues_long (k ∷ ks) (false ∷ gs) seen g2 = ap suc (dues_long ks gs seen g2)
dues_long (k ∷ ks) (true ∷ gs) false g2 = ap suc (dues_long ks gs true g2)
dues_long (k ∷ ks) (true ∷ gs) true g2 = ap suc (dues_long ks gs true g2)

and_both : (d e : Bool) → (d && e) ≡ true → (d ≡ true) × (e ≡ true)
and_both true e q = (refl, q)
and_both false e q = clash refl q

middle_is : (i last : ℕ) → (ltb 0 i && ltb i last) ≡ true → (0 < i) × (i < last)
middle_is i last q = let z = and_both (ltb 0 i) (ltb i last) q in (ltb-true 0 i z.0, ltb-true i last z.1)

-- ---- levels in range
module _ (p : Params) (a : Accepted p) (b : Wanted) where
  abbrev T : ℕ
  T = log2_transform_range p

  near : too_far T b.levels ≡ false → (i : ℕ) → nat_abs (get_or b.levels i (pos 0)) ≤ 2 ^ T
  near h i = go (ltb i (length b.levels)) refl
    where
      go : (d : Bool) → ltb i (length b.levels) ≡ d → nat_abs (get_or b.levels i (pos 0)) ≤ 2 ^ T
      go true q = range_most T (negative (get_or b.levels i (pos 0))) (nat_abs (get_or b.levels i (pos 0))) (far_false T b.levels h i (ltb-true i (length b.levels) q))
      go false q =
          let e : get_or b.levels i (pos 0) ≡ pos 0 = get_or-eq_default b.levels (pos 0) (ltb-false i (length b.levels) q) in
          subst (λ (z : ℤ). nat_abs z ≤ 2 ^ T) (sym e) (omega arith)

  -- places below i behind those met, and greater1 flags, i at most: a bin each
  places_way : {n : ℕ} (lv : ℕ → Wanted → ℤ) (ctx : ℕ → ℕ) (infer : Bool) (i : ℕ) (ks : List ℕ)
      → Way b (λ r m. (length r ≤ length ks + i) × (m ≤ n + i)) n (places_s lv ctx infer i ks)
  unfolding places_s
  places_way lv ctx infer zero ks = way_done (omega arith, omega arith)
  places_way {n} lv ctx infer (suc k) ks =
      way_if (eqb k 0 && (infer && none ks)) (λ q. way_done (omega arith, omega arith))
      (λ q. way_bin (way_as (places_way {n = suc n} lv ctx infer k _) (λ r m u. (more (is_sig lv b k) r u.0, omega (arith, u.1)))))
    where
      more : (d : Bool) (r : List ℕ) → length r ≤ length (cond d (ks ++ (k ∷ [])) ks) + k → length r ≤ length ks + suc k
      more true r h = omega (arith, length-append ks (k ∷ []))
      more false r h = omega arith

  greater1_way : {n : ℕ} (lv : ℕ → Wanted → ℤ) (base i : ℕ) (ks : List ℕ) (g : Greater1) → Way b (λ r m. m ≤ n + i) n (greater1_s lv base i ks g)
  unfolding greater1_s
  greater1_way lv base zero ks g = way_done (omega arith)
  greater1_way lv base (suc i) [] g = way_done (omega arith)
  greater1_way {n = n} lv base (suc i) (k ∷ ks) g = way_bin (way_as (greater1_way {n = suc n} lv base i ks _) (λ r m u. omega arith))

  -- so many for each level to come; a base is at least 1
  levels_way : {n : ℕ} (lv : ℕ → Wanted → ℤ) (spot_of : ℕ → Spot) → ((k : ℕ) → nat_abs (lv k b) ≤ 2 ^ T) → (ds : List Due) (left signs r : ℕ) (had : Bool) (sum : ℕ) (f : Filled)
      → Bases ds → f.stat ≤ 84 → r ≤ 21 → Way b (λ g m. (g.stat ≤ 84) × (m ≤ n + 32 * length ds)) n (levels_s p lv spot_of ds left signs r had sum f)
  unfolding levels_s
  levels_way lv spot_of ranged [] left signs r had sum f o s w = way_done (s, omega arith)
  levels_way {n} lv spot_of ranged (d ∷ ds) left signs r had sum f o s w =
      way_bind {U = λ v m. m ≤ n + 32}
      (way_if d.more (λ q. remainder_way b p r _ a.depth w (omega (arith, ranged d.at, o.0, pow_pos T))) (λ q. way_done (omega arith))) (λ v m u.
      let level = d.base_level + v in
      let neg = negative_now left signs (sum + level) in
      let at = spot_of d.at in
      way_if (in_range T neg level)
      (λ q.
      let t22 : 2 ^ T ≤ 2 ^ 22 = pow_mono (range_small p a.depth) in
      let most : level ≤ 2 ^ 22 = omega (arith, range_most T neg level q) in
      way_as (levels_way {n = m} lv spot_of ranged ds (left - 1) signs (cond d.more (rice_next p r level) r) (had || d.more) (sum + level) _ o.1
      (cond_most (d.more && (p.persistent && not had)) (stat_next f.stat v) f.stat 84 (stat_most f.stat v s (omega (arith, o.0))) s)
      (cond_most d.more (rice_next p r level) r 21 (rice_most p r level w most) w)) (λ g m₂ k. (k.0, omega (arith, k.1))))
      (λ q. way_stop))

  -- ---- at the significant places k ∷ ks: 8 greater1, 1 greater2, 1 alignment, 16 signs, 16 remainders
  coeffs_way : {n : ℕ} (h : Head) (lv : ℕ → Wanted → ℤ) (spot_of : ℕ → Spot) → ((k : ℕ) → nat_abs (lv k b) ≤ 2 ^ T) → (ctxSet k : ℕ) (ks : List ℕ) (c : Acc)
      → length ks ≤ 15 → Statistics c.stats → Way b (λ r m. Statistics r.stats × (m ≤ n + 538)) n (coeffs_s p h lv spot_of ctxSet k ks c)
  unfolding coeffs_s
  coeffs_way h lv spot_of ranged ctxSet k ks c short st =
      let stat = get_or c.stats (sb_type p h) 0 in
      let coded = suc (length ks) - bit_no (sign_hidden p h.skip h.rdpcm (k ∷ ks)) in
      way_bind (greater1_way lv (at_greater1 + 4 * ctxSet + in_chroma p.luma 16) 8 (k ∷ ks) (record { bins = []; greater1_ctx = 1 })) (λ g m₁ u₁.
      way_bind (each_way {K = Free} (flag_each (ltb 0 (count_of g.bins)) _ (λ t. ltb 2 (nat_abs (lv (first_greater1 (k ∷ ks) g.bins) t))) tt)) (λ g2 m₂ u₂.
      way_aligned (p.aligning && escape_data_present (suc (length ks)) (count_of g.bins) g2) (λ m₃ u₃.
      way_bind (each_way {K = Free} (bits_each coded 0 _)) (λ signs m₄ u₄.
      way_bind (levels_way lv spot_of ranged (dues (k ∷ ks) g.bins false g2) coded signs (cond p.persistent (stat / 4) 0) false 0
      (record { levels = c.levels; column = c.column; stat = stat }) (dues_bases (k ∷ ks) g.bins false g2) (st (sb_type p h)) (rice_first p.persistent stat (st (sb_type p h)))) (λ f m₅ u₅.
      way_done (stats_set c.stats (sb_type p h) f.stat st u₅.0, omega (arith, u₁, u₂.1, u₃, u₄.1, u₅.1, dues_long (k ∷ ks) g.bins false g2)))))))

  -- ---- sub-block number i: 15 or 16 places, and the flag of one in the middle
  module _ (h : Head) (last lastIn : ℕ) (hn : lastIn ≤ 15) (ranged : (i : ℕ) → nat_abs (get_or b.levels i (pos 0)) ≤ 2 ^ T) where
    filled_way : {n : ℕ} (i : ℕ) (s : Spot) (c : Acc) (ks : List ℕ) → length ks ≤ 16 → Statistics c.stats
        → Way b (λ r m. Statistics r.stats × (m ≤ n + 538)) n (filled_s p h (outer_of p) (inner_of p) i s c ks)
    unfolding filled_s wanted_in
    filled_way i s c [] short st = way_done (st, omega arith)
    filled_way i s c (k ∷ ks) short st = coeffs_way h (wanted_in p (inner_of p) s) (spot_in (inner_of p) s) (λ j. ranged _) (ctx_set_of p i c) k ks c (omega arith) st

    sub_way : {n : ℕ} (i : ℕ) (c : Acc) → Statistics c.stats
        → Way b (λ r m. Statistics r.stats × (m ≤ n + 555) × (i ≡ 0 → m ≤ n + 554) × (i ≡ last → m ≤ n + 553)) n (sub_block_s p h (outer_of p) (inner_of p) last lastIn i c)
    unfolding sub_block_s marked
    sub_way {n} i c st =
        let s = get_or (outer_of p) i (spot 0 0) in
        let right = is_coded p c (s.x + 1) s.y in
        let below = is_coded p c s.x (s.y + 1) in
        let lv = wanted_in p (inner_of p) s in
        let ctx = sig_at p h (outer_of p) (inner_of p) s right below in
        way_bind {U = λ coded m. (m ≤ n + 1) × (i ≡ 0 → m ≤ n) × (i ≡ last → m ≤ n)}
        (way_if (ltb 0 i && ltb i last)
        (λ q. let z = middle_is i last q in way_bin (way_done (omega arith, λ e. absurd (omega (arith, z.0)), λ e. absurd (omega (arith, z.1)))))
        (λ q. way_done (omega arith, λ e. omega arith, λ e. omega arith))) (λ coded m u.
        way_if coded
        (λ q. way_bind {U = λ ks m₂. (length ks ≤ 16) × (m₂ ≤ m + 16) × (i ≡ last → m₂ ≤ m + 15)}
        (way_if (eqb i last)
        (λ e. way_as (places_way lv ctx false lastIn (lastIn ∷ [])) (λ ks m₂ v. (omega (arith, v.0), omega (arith, v.1), λ z. omega (arith, v.1))))
        (λ e. way_as (places_way lv ctx (ltb 0 i && ltb i last) 16 []) (λ ks m₂ v. (omega (arith, v.0), v.1, λ z. absurd (eqb-false i last e z)))))
        (λ ks m₂ v. way_as (filled_way i s (marked p c s.x s.y) ks v.0 st)
        (λ r m₃ k. (k.0, omega (arith, k.1, u.0, v.1), λ e. omega (arith, k.1, u.1 e, v.1), λ e. omega (arith, k.1, u.2 e, v.2 e)))))
        (λ q. way_done (st, omega (arith, u.0), λ e. omega (arith, u.1 e), λ e. omega (arith, u.2 e))))

    -- those below number i: the lowest has no flag
    rest_way : {n : ℕ} (i : ℕ) (c : Acc) → Statistics c.stats
        → Way b (λ r m. Statistics r.stats × (m ≤ n + 555 * i) × (0 < i → m < n + 555 * i)) n (sub_blocks_s p h (outer_of p) (inner_of p) last lastIn i c)
    unfolding sub_blocks_s
    rest_way zero c st = way_done (st, omega arith, λ e. absurd (omega arith))
    rest_way {n} (suc i) c st =
        way_bind (sub_way i c st) (λ d m u. way_as (rest_way i d u.0) (λ r m₂ v. let k = less i m m₂ u.1 u.2 v.1 v.2 in (v.0, omega arith, λ e. k)))
      where
        less : (i m m₂ : ℕ) → m ≤ n + 555 → (i ≡ 0 → m ≤ n + 554) → m₂ ≤ m + 555 * i → (0 < i → m₂ < m + 555 * i) → m₂ < n + 555 * suc i
        less zero m m₂ x y z w = omega (arith, y refl)
        less (suc i) m m₂ x y z w = omega (arith, w (omega arith))

    pub subs_way : {n : ℕ} (c : Acc) → Statistics c.stats
        → Way b (λ r m. (last ≡ 0 → m ≤ n + 553) × (m ≤ n + 553 + 555 * last) × (0 < last → m < n + 553 + 555 * last)) n (sub_blocks_s p h (outer_of p) (inner_of p) last lastIn (suc last) c)
    unfolding sub_blocks_s
    subs_way {n} c st =
        way_bind (sub_way last c st) (λ d m u.
        let k = u.3 refl in
        way_as (rest_way last d u.0) (λ r m₂ v. (λ e. omega (arith, v.1), omega (arith, v.1), λ e. omega (arith, v.2 e))))

  -- ---- the head: three flags, two prefixes, two suffixes
  last_way : {n : ℕ} (first : ℕ) (luma : Bool) (v : Wanted → ℕ) → Way b (λ g m. (g ≤ greatest_group p.log2) × (m ≤ n + greatest_group p.log2)) n (last_prefix first luma p.log2 v)
  unfolding last_prefix
  last_way first true v = each_way {K = Free} (each_as (prefix_each _ _ (greatest_group p.log2) 0 _ (λ j k l. tt)) (λ x m u. (omega (arith, u.upto), omega (arith, u.bins))))
  last_way first false v = each_way {K = Free} (each_as (prefix_each _ _ (greatest_group p.log2) 0 _ (λ j k l. tt)) (λ x m u. (omega (arith, u.upto), omega (arith, u.bins))))

  head_few : {n : ℕ} → Way b (λ h m. m + 3 ≤ n + 6 * p.log2) n (head_s p (outer_of p) (inner_of p))
  unfolding head_s groups_s
  head_few =
      way_bind (each_way {K = Free} (flag_each (skip_coded p) _ _ tt)) (λ skip m₁ u₁.
      way_bind (each_way {K = Free} (flag_each (rdpcm_coded p skip) _ _ tt)) (λ flag m₂ u₂.
      way_bind (each_way {K = Free} (flag_each flag _ _ tt)) (λ dir m₃ u₃.
      way_bind {U = λ g m. (g.x ≤ greatest_group p.log2) × (g.y ≤ greatest_group p.log2) × (m ≤ m₃ + 2 * greatest_group p.log2)}
      (way_bind (last_way _ p.luma _) (λ xg m v. way_bind (last_way _ p.luma _) (λ yg m' v'. way_done (v.0, v'.0, omega (arith, v.1, v'.1))))) (λ g m₄ u₄.
      way_bind (each_way {K = Free} (bits_each (suffix_bits g.x) 0 _)) (λ xs m₅ u₅.
      way_bind (each_way {K = Free} (bits_each (suffix_bits g.y) 0 _)) (λ ys m₆ u₆.
      way_done (omega (arith, a.least, u₁.1, u₂.1, u₃.1, u₄.0, u₄.1, u₄.2, u₅.1, u₆.1))))))))

  head_way : {n : ℕ} → Way b (λ h m. Lies p.log2 h × (m + 3 ≤ n + 6 * p.log2)) n (head_s p (outer_of p) (inner_of p))
  head_way {n} = way_both (each_way (each_as (head_each p a (n + 27) (outer_of p) (inner_of p)) (λ h m u. u.0))) head_few

-- ---- the whole block
-- by the number of sub-blocks: one, or several, of which the first and the last have no flag
fits : (log2 last m : ℕ) → 2 ≤ log2 → log2 ≤ 5 → last < 4 ^ (log2 - 2) → (k : ℕ) → k + 3 ≤ 6 * log2 → (last ≡ 0 → m ≤ k + 553) → m ≤ k + 553 + 555 * last → (0 < last → m < k + 553 + 555 * last) → 2 * m ≤ longest log2
fits log2 last m least most h k e one all some = go (eqb log2 2) (eqb log2 3) (eqb log2 4) refl refl refl
  where
    more : (c : ℕ) → last ≤ c → 0 < c → m < k + 553 + 555 * c
    more c l z = pick (eqb last c) refl
      where
        pick : (d : Bool) → eqb last c ≡ d → m < k + 553 + 555 * c
        pick true q = let s : last ≡ c = eqb-true last c q in omega (arith, some (omega arith))
        pick false q = omega (arith, eqb-false last c q)

    go : (x y z : Bool) → eqb log2 2 ≡ x → eqb log2 3 ≡ y → eqb log2 4 ≡ z → 2 * m ≤ longest log2
    go true y z q r s = let w : log2 ≡ 2 = eqb-true log2 2 q in let l : last < 4 ^ (2 - 2) = rw w at h in rw w (omega (arith, one (omega arith)))
    go false true z q r s = let w : log2 ≡ 3 = eqb-true log2 3 r in let l : last < 4 ^ (3 - 2) = rw w at h in rw w (omega (arith, more 3 (omega arith) (omega arith)))
    go false false true q r s = let w : log2 ≡ 4 = eqb-true log2 4 s in let l : last < 4 ^ (4 - 2) = rw w at h in rw w (omega (arith, more 15 (omega arith) (omega arith)))
    go false false false q r s =
        let w : log2 ≡ 5 = omega (arith, eqb-false log2 2 q, eqb-false log2 3 r, eqb-false log2 4 s) in
        let l : last < 4 ^ (5 - 2) = rw w at h in rw w (omega (arith, more 63 (omega arith) (omega arith)))

module _ (p : Params) (a : Accepted p) (stats : List ℕ) (st : Statistics stats) (b : Wanted) (close : too_far (log2_transform_range p) b.levels ≡ false) where
  body_way : (h : Head) (n : ℕ) → Lies p.log2 h → n + 3 ≤ 6 * p.log2 → Way b (λ r m. 2 * m ≤ longest p.log2) n (body_s p stats h)
  unfolding body_s
  body_way h n u k =
      let last = number_in (outer_of p) (h.last_x / 4) (h.last_y / 4) in
      let lastIn = number_in (inner_of p) (h.last_x % 4) (h.last_y % 4) in
      let hl = last_few p a h.last_x h.last_y u.in_x u.in_y in
      let hn = last_in_few p a h.last_x h.last_y u.in_x u.in_y in
      way_bind (subs_way p a b h last lastIn hn (near p a b close) (record {
        coded_sub_block = replicate (4 ^ (p.log2 - 2)) false;
        greater1_ctx = 1;
        first = true;
        levels = replicate (area p) (pos 0);
        column = 0;
        stats = stats;
      }) st) (λ c m v. way_done (fits p.log2 last m a.least a.most hl n k v.0 v.1 v.2))

  residual_way : Way b (λ r m. 2 * m ≤ longest p.log2) 0 (residual p stats)
  unfolding residual
  residual_way = way_bind (head_way p a b {n = 0}) (λ h n u. body_way h n u.0 (omega (arith, u.1)))

  -- a room of `longest` is never too small
  pub longest_enough : (r : Block) (l : List ℕ) → write (residual p stats) b ≡ Written.ok r l → length l ≤ longest p.log2
  longest_enough r l q = let w = way_written residual_way r l q in omega (arith, w.1, w.2)
