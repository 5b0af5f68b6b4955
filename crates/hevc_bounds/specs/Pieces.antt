-- What a reading of the residual syntax is bounded by, and what its small pieces come to: the head, a remainder, places, greater1 flags. Assumes nothing.
use Rattle.std.specs.Prelude.{ℕ, zero, suc, ◌+◌, ◌-◌, ◌*◌, ◌/◌, ◌^◌, ◌≤◌, ◌<◌, ◌≡◌, refl, Bool, ◌&&◌, ◌||◌, length, ℤ, eqb}
use Rattle.std.proofs.Math.Bool.{true, false, cond}
use mathlib.Core.List.{List, [], ◌∷◌, ◌++◌}
use native.Mathlib.Omega.{arith}
use Rattle.std.proofs.Math.ListN.{length-append}
use Rattle.std.proofs.Math.Dec.{ltb, leb}
use Rattle.std.proofs.Math.Pow.{shr_le}
use borrow.Author.Tests.{ltb-false, leb-false}
use Rattle.bins.specs.Engine.{bit_no}
use Rattle.bins.specs.Readers.{bits_s}
use Rattle.trees.specs.Every.{Bounds, Each, each_done, each_stop, each_bin, each_bind, each_as, each_if, flag_each, bits_each, ones_each, prefix_each}
use Rattle.trees.specs.ReaderLaws.{or_false}
use Rattle.hevc_residual.specs.declared.params.Params.{Params}
use Rattle.hevc_residual.specs.declared.params.Rdpcm.{Rdpcm}
use Rattle.hevc_residual.specs.Layout.{at_last_x, at_last_y, at_skip, at_rdpcm_flag, at_rdpcm_dir, block_contexts, in_chroma}
use Rattle.hevc_residual.specs.Scan.{Spot}
use Rattle.hevc_residual.specs.Wanted.{Wanted, none}
use Rattle.hevc_residual.specs.Head.{Head, skip_coded, rdpcm_coded, rdpcm_of, least_of, suffix_bits, greatest_group, last_prefix, groups_s, head_s}
use Rattle.hevc_residual.specs.Remainder.{log2_transform_range, egk_s, limited_s, remainder_s}
use Rattle.hevc_residual.specs.SubBlock.{places_s, Greater1, greater1_s}
use Rattle.hevc_residual.specs.Limits.{Accepted}
use Rattle.hevc_bounds.specs.GroupLaws.{suffix_group}

-- ---- the bounds
-- no more bins than this are read of a block: 27 of the head, 1,099 of each of 64 sub-blocks
abbrev pub bins_most : ℕ
bins_most = 27 + 64 * 1099

-- it stops by 8 alone, and aligns only where that is on; top is the most bins on any way
abbrev pub residual_bounds : Params → ℕ → Bounds
residual_bounds p top =
    record {
      stops = λ r n. (r ≡ 8) × (n ≤ top);
      aligns = λ n. (p.aligning ≡ true) × (n ≤ top);
      contexts = λ c. c < block_contexts;
    }

-- ---- small facts
pub chroma_few : (luma : Bool) (n : ℕ) → in_chroma luma n ≤ n
chroma_few true n = omega arith
chroma_few false n = omega arith

pub bit_few : (b : Bool) → bit_no b ≤ 1
bit_few true = omega arith
bit_few false = omega arith

-- ---- the head
-- where the last level is
pub record Lies (log2 : ℕ) (h : Head) : Type 0 where
  pub in_x : h.last_x < 2 ^ log2
  pub in_y : h.last_y < 2 ^ log2

lies : (log2 : ℕ) (swap skip : Bool) (rdpcm : Rdpcm) (x y : ℕ) → x < 2 ^ log2 → y < 2 ^ log2
    → Lies log2 (record { skip = skip; rdpcm = rdpcm; last_x = cond swap y x; last_y = cond swap x y })
lies log2 true skip rdpcm x y h k = record { in_x = k; in_y = h }
lies log2 false skip rdpcm x y h k = record { in_x = h; in_y = k }

module _ (p : Params) (a : Accepted p) (top : ℕ) where
  last_each : {n : ℕ} (first : ℕ) (luma : Bool) (v : Wanted → ℕ) → first ≤ 18
      → Each (residual_bounds p top) (λ g m. (g ≤ greatest_group p.log2) × (m ≤ n + 9)) n (last_prefix first luma p.log2 v)
  unfolding last_prefix
  last_each first true v h =
      each_as (prefix_each (first + 3 * (p.log2 - 2) + (p.log2 - 1) / 4) ((p.log2 + 1) / 4) (greatest_group p.log2) 0 _ (λ j k l. omega (arith, shr_le j ((p.log2 + 1) / 4), a.least, a.most)))
      (λ x m u. (omega (arith, u.upto), omega (arith, u.bins, a.most)))
  last_each first false v h =
      each_as (prefix_each (first + 15) (p.log2 - 2) (greatest_group p.log2) 0 _ (λ j k l. omega (arith, shr_le j (p.log2 - 2), a.most)))
      (λ x m u. (omega (arith, u.upto), omega (arith, u.bins, a.most)))

  groups_each : {n : ℕ} (x y : Wanted → ℕ)
      → Each (residual_bounds p top) (λ g m. (g.x ≤ greatest_group p.log2) × (g.y ≤ greatest_group p.log2) × (m ≤ n + 18)) n (groups_s p.luma p.log2 x y)
  unfolding groups_s
  groups_each x y =
      each_bind (last_each at_last_x p.luma x (omega arith)) (λ xg m u. each_bind (last_each at_last_y p.luma y (omega arith)) (λ yg m₂ u₂.
      each_done (u.0, u₂.0, omega (arith, u.1, u₂.1))))

  -- the suffix of a group
  suffix_each : {n : ℕ} (g : ℕ) (v : Wanted → ℕ) → g ≤ greatest_group p.log2
      → Each (residual_bounds p top) (λ x m. (least_of g + x < 2 ^ p.log2) × (m ≤ n + 3)) n (bits_s (suffix_bits g) 0 v)
  suffix_each g v h =
      each_as (bits_each (suffix_bits g) 0 v) (λ x m u. ((suffix_group p.log2 a.least a.most g x h (omega (arith, u.0))).1, omega (arith, u.1, a.most)))

  pub head_each : {n : ℕ} (outer inner : List Spot) → Each (residual_bounds p top) (λ h m. Lies p.log2 h × (m ≤ n + 27)) n (head_s p outer inner)
  unfolding head_s
  head_each outer inner =
      let c = chroma_few p.luma 1 in
      each_bind (flag_each (skip_coded p) (at_skip + in_chroma p.luma 1) _ (omega arith)) (λ skip m₁ u₁.
      each_bind (flag_each (rdpcm_coded p skip) (at_rdpcm_flag + in_chroma p.luma 1) _ (omega arith)) (λ flag m₂ u₂.
      each_bind (flag_each flag (at_rdpcm_dir + in_chroma p.luma 1) _ (omega arith)) (λ dir m₃ u₃.
      each_bind (groups_each _ _) (λ g m₄ u₄.
      each_bind (suffix_each g.x _ u₄.0) (λ xs m₅ u₅.
      each_bind (suffix_each g.y _ u₄.1) (λ ys m₆ u₆.
      each_done (
        lies p.log2 (eqb p.scan 2) skip (rdpcm_of flag dir) (least_of g.x + xs) (least_of g.y + ys) u₅.0 u₆.0,
        omega (arith, u₁.1, u₂.1, u₃.1, u₄.2, u₅.1, u₆.1),
      )))))))

-- ---- a remainder has 66 bins at most, in all that it can come to
module _ (p : Params) (top : ℕ) where
  egk_each : {n : ℕ} (k : ℕ) (v : Wanted → ℕ) → n + 62 ≤ top → Each (residual_bounds p top) (λ x m. m ≤ n + 62) n (egk_s k v)
  unfolding egk_s
  egk_each k v h =
      each_bind (ones_each 31 0 _) (λ q m u. each_if (leb 31 q || leb 32 (q + k))
      (λ e. each_stop (refl, omega (arith, u.bins)))
      (λ e. each_bind (bits_each (q + k) 0 _) (λ x m₂ u₂. each_done (omega (arith, u.bins, u₂.1, leb-false 32 (q + k) (or_false (leb 31 q) (leb 32 (q + k)) e).1)))))

  limited_each : {n : ℕ} (T k : ℕ) (v : Wanted → ℕ) → n + 60 ≤ top → Each (residual_bounds p top) (λ x m. m ≤ n + 60) n (limited_s T k v)
  unfolding limited_s
  limited_each T k v h =
      each_bind (ones_each (28 - T) 0 _) (λ q m u.
      let escape_length = cond (eqb q (28 - T)) T (q + k) in
      each_if (leb 32 q || (leb 32 k || ltb 32 escape_length))
      (λ e. each_stop (refl, omega (arith, u.bins)))
      (λ e. each_bind (bits_each escape_length 0 _) (λ x m₂ u₂.
      let s = (or_false (leb 32 k) (ltb 32 escape_length) (or_false (leb 32 q) (leb 32 k || ltb 32 escape_length) e).1).1 in
      each_done (omega (arith, u.bins, u₂.1, ltb-false 32 escape_length s)))))

  pub remainder_each : {n : ℕ} (r : ℕ) (v : Wanted → ℕ) → r ≤ 62 → n + 66 ≤ top → Each (residual_bounds p top) (λ x m. m ≤ n + 66) n (remainder_s p r v)
  unfolding remainder_s
  remainder_each {n} r v h k =
      each_bind (ones_each 4 0 _) (λ q m u. each_if (ltb q 4)
      (λ e. each_bind (bits_each r 0 _) (λ x m₂ u₂. each_done (omega (arith, u.bins, u₂.1))))
      (λ e. each_bind {U = λ x m₂. m₂ ≤ n + 66} (each_if p.extended
      (λ e. each_as (limited_each (log2_transform_range p) (r + 1) _ (omega (arith, u.bins))) (λ x m₂ u₂. omega (arith, u.bins)))
      (λ e. each_as (egk_each (r + 1) _ (omega (arith, u.bins))) (λ x m₂ u₂. omega (arith, u.bins)))) (λ x m₂ u₂. each_done u₂)))

-- ---- places: behind some there are some
pub record Places (ks : List ℕ) (i n : ℕ) (r : List ℕ) (m : ℕ) : Type 0 where
  pub few : length r ≤ length ks + i
  pub some : none ks ≡ false → none r ≡ false
  pub bins : m ≤ n + i

none_more : (ks : List ℕ) (k : ℕ) → none (ks ++ (k ∷ [])) ≡ false
unfolding none
none_more [] k = refl
none_more (j ∷ ks) k = refl

pub places_each : {n : ℕ} (p : Params) (top : ℕ) (lv : ℕ → Wanted → ℤ) (ctx : ℕ → ℕ) (infer : Bool) (i : ℕ) (ks : List ℕ) → ((k : ℕ) → k < i → ctx k < block_contexts)
    → Each (residual_bounds p top) (Places ks i n) n (places_s lv ctx infer i ks)
unfolding places_s
places_each p top lv ctx infer zero ks h = each_done (record { few = omega arith; some = λ q. q; bins = omega arith })
places_each {n} p top lv ctx infer (suc k) ks h =
    each_if (eqb k 0 && (infer && none ks)) (λ q. each_done (record { few = omega arith; some = λ q. unfold none in refl; bins = omega arith }))
    (λ q. each_bin (h k (omega arith)) (λ b. each_as (places_each p top lv ctx infer k (cond b (ks ++ (k ∷ [])) ks) (λ j l. h j (omega arith))) (λ r m u. more b r m u)))
  where
    more : (b : Bool) (r : List ℕ) (m : ℕ) → Places (cond b (ks ++ (k ∷ [])) ks) k (suc n) r m → Places ks (suc k) n r m
    more true r m u = record { few = omega (arith, u.few, length-append ks (k ∷ [])); some = λ q. u.some (none_more ks k); bins = omega (arith, u.bins) }
    more false r m u = record { few = omega (arith, u.few); some = u.some; bins = omega (arith, u.bins) }

-- ---- greater1 flags, i at most
pub greater1_each : {n : ℕ} (p : Params) (top : ℕ) (lv : ℕ → Wanted → ℤ) (base i : ℕ) (ks : List ℕ) (g : Greater1) → base + 3 < block_contexts
    → Each (residual_bounds p top) (λ r m. m ≤ n + i) n (greater1_s lv base i ks g)
unfolding greater1_s
greater1_each p top lv base zero ks g h = each_done (omega arith)
greater1_each p top lv base (suc i) [] g h = each_done (omega arith)
greater1_each {n = n} p top lv base (suc i) (k ∷ ks) g h = each_bin (omega arith) (λ b. each_as (greater1_each {n = suc n} p top lv base i ks _ h) (λ r m u. omega arith))
