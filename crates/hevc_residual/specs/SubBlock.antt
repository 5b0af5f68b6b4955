-- The levels of one sub-block (H.265 7.3.8.11): which places are significant, greater1, greater2, signs, remainders.
use Rattle.std.specs.Prelude.{ℕ, zero, suc, ◌+◌, ◌-◌, ◌*◌, ◌/◌, ◌^◌, min, max, List, [], ◌∷◌, ◌++◌, Bool, true, false, not, ◌&&◌, ◌||◌, cond, length, get_or, set, ltb, eqb, ℤ, nat_abs}
use Rattle.bins.specs.Engine.{bit_no}
use Rattle.bins.specs.Syn.{done, stop, bin, align, ◌>>=◌}
use Rattle.bins.specs.Readers.{odd, flag_if, bits_s}
use Rattle.hevc_residual.specs.declared.params.Params.{Params}
use Rattle.hevc_residual.specs.declared.params.Rdpcm.{Rdpcm}
use Rattle.hevc_residual.specs.Layout.{at_greater1, at_greater2, in_chroma}
use Rattle.hevc_residual.specs.Scan.{Spot}
use Rattle.hevc_residual.specs.Wanted.{Wanted, S, cell_of, negative, is_sig, is_big, none, last_of}
use Rattle.hevc_residual.specs.Head.{Head, skip_or_bypass, rdpcm_flag}
use Rattle.hevc_residual.specs.Remainder.{log2_transform_range, in_range, signed, remainder_s, rice_next, stat_next}

-- ---- sig_coeff_flag
-- the significant places below n, behind those met already, highest first; infer (inferSbDcSigCoeffFlag): the lowest is 1 if
-- no other was
unfoldable pub places_s : (ℕ → Wanted → ℤ) → (ℕ → ℕ) → Bool → ℕ → List ℕ → S (List ℕ)
unfolding none
places_s lv ctx infer zero ks = done ks
places_s lv ctx infer (suc k) ks =
    elim (eqb k 0 && (infer && none ks)) [
      | true ↦ done (0 ∷ [])
      | false ↦ bin (ctx k) (λ t. is_sig lv t k) (λ b. places_s lv ctx infer k (cond b (ks ++ (k ∷ [])) ks))
    ]

-- ---- coeff_abs_level_greater1_flag (9.3.4.2.6), of the first eight levels at most
pub record Greater1 : Type 0 where
  pub bins : List Bool
  pub greater1_ctx : ℕ

unfoldable pub greater1_ctx_next : Bool → ℕ → ℕ
greater1_ctx_next true c = 0
greater1_ctx_next false c = cond (ltb 0 c && ltb c 3) (c + 1) c

-- at the first n of the places, behind the bins read already
unfoldable pub greater1_s : (ℕ → Wanted → ℤ) → ℕ → ℕ → List ℕ → Greater1 → S Greater1
unfolding greater1_ctx_next
greater1_s lv base zero ks g = done g
greater1_s lv base (suc n) [] g = done g
greater1_s lv base (suc n) (k ∷ ks) g =
    bin (base + min g.greater1_ctx 3) (λ t. is_big lv t k)
    (λ b. greater1_s lv base n ks (record { bins = g.bins ++ (b ∷ []); greater1_ctx = greater1_ctx_next b g.greater1_ctx }))

unfoldable pub count_of : List Bool → ℕ
count_of [] = 0
count_of (b ∷ bs) = bit_no b + count_of bs

-- the place of the first greater1, if there is one: coeff_abs_level_greater2_flag is coded there alone
unfoldable pub first_greater1 : List ℕ → List Bool → ℕ
first_greater1 [] bs = 0
first_greater1 (k ∷ ks) [] = 0
first_greater1 (k ∷ ks) (true ∷ bs) = k
first_greater1 (k ∷ ks) (false ∷ bs) = first_greater1 ks bs

-- of n levels: more than eight, more than one greater1, or greater2
abbrev pub escape_data_present : ℕ → ℕ → Bool → Bool
escape_data_present n ones greater2 = ltb 8 n || (ltb 1 ones || greater2)

-- ---- signs
-- whether the sign of the lowest of the places is not coded: highest less lowest exceeds 3, and nothing rules it out
unfoldable pub sign_hidden : Params → Bool → Rdpcm → List ℕ → Bool
sign_hidden p skip rdpcm [] = false
sign_hidden p skip rdpcm (k ∷ ks) =
    p.hiding
    && (ltb 3 (k - last_of ks k) && (not p.lossless && (not (rdpcm_flag rdpcm) && not (skip && p.implicit_rdpcm))))

-- coeff_sign_flag as wanted at the first n of the places, as a number behind v
unfoldable pub signs_no : (ℕ → Wanted → ℤ) → ℕ → List ℕ → Wanted → ℕ → ℕ
signs_no lv zero ks t v = v
signs_no lv (suc n) [] t v = v
signs_no lv (suc n) (k ∷ ks) t v = signs_no lv n ks t (v * 2 + bit_no (negative (lv k t)))

-- whether the next level is negative: its sign bin, of which n are left, or, where it is hidden, whether sumAbsLevel is odd
unfoldable pub negative_now : ℕ → ℕ → ℕ → Bool
negative_now zero signs sumAbsLevel = odd sumAbsLevel
negative_now (suc n) signs sumAbsLevel = odd (signs / 2 ^ n)

-- ---- remainders
-- a level to come: its place in the sub-block's scan, base_level, whether coeff_abs_level_remaining follows
pub record Due : Type 0 where
  pub at : ℕ
  pub base_level : ℕ
  pub more : Bool

-- of the places, by the greater1 bins of the first eight, whether a greater1 was met already, and greater2
unfoldable pub dues : List ℕ → List Bool → Bool → Bool → List Due
dues [] gs seen g2 = []
dues (k ∷ ks) [] seen g2 = record { at = k; base_level = 1; more = true } ∷ dues ks [] seen g2
dues (k ∷ ks) (false ∷ gs) seen g2 = record { at = k; base_level = 1; more = false } ∷ dues ks gs seen g2
dues (k ∷ ks) (true ∷ gs) false g2 = record { at = k; base_level = 2 + bit_no g2; more = g2 } ∷ dues ks gs true g2
dues (k ∷ ks) (true ∷ gs) true g2 = record { at = k; base_level = 2; more = true } ∷ dues ks gs true g2

-- the greatest column of a level, as levels come. What is answered is defined of the levels (Extent); that it comes to the same is column-gathered (crate extents)
abbrev pub column_so_far : ℕ → Spot → ℕ
column_so_far column s = max column s.x

-- what the levels read so far come to
pub record Filled : Type 0 where
  pub levels : List ℤ
  pub column : ℕ  -- greatest column of a level so far
  pub stat : ℕ  -- StatCoeff of the block's sb_type

-- lv is the level wanted at a place of the sub-block's scan, spot_of where that is in the block; n of the signs are left.
-- had: a remainder was read, so that the statistic has moved
unfoldable pub levels_s : Params → (ℕ → Wanted → ℤ) → (ℕ → Spot) → List Due → ℕ → ℕ → ℕ → Bool → ℕ → Filled → S Filled
unfolding rice_next stat_next negative_now
levels_s p lv spot_of [] n signs cRiceParam had sumAbsLevel f = done f
levels_s p lv spot_of (d ∷ ds) n signs cRiceParam had sumAbsLevel f =
    elim d.more [ true ↦ remainder_s p cRiceParam (λ t. nat_abs (lv d.at t) - d.base_level) | false ↦ done 0 ] >>= λ v.
    let m = d.base_level + v in
    let neg = negative_now n signs (sumAbsLevel + m) in
    let s = spot_of d.at in
    elim (in_range (log2_transform_range p) neg m) [
      | false ↦ stop 8
      | true ↦
          levels_s p lv spot_of ds (n - 1) signs (cond d.more (rice_next p cRiceParam m) cRiceParam) (had || d.more) (sumAbsLevel + m)
          (record {
            levels = set f.levels (cell_of p s) (signed neg m);
            column = column_so_far f.column s;
            stat = cond (d.more && (p.persistent && not had)) (stat_next f.stat v) f.stat;
          })
    ]

-- ---- the levels at the significant places
-- what goes from sub-block to sub-block
pub record Acc : Type 0 where
  pub coded_sub_block : List Bool  -- of sub-blocks, row by row
  pub greater1_ctx : ℕ  -- as the sub-block before left it
  pub first : Bool  -- no sub-block had a level yet
  pub levels : List ℤ
  pub column : ℕ  -- greatest column of a level so far
  pub stats : List ℕ  -- StatCoeff

-- sb_type (9.3.3.11): which of the statistics the block's remainders use
abbrev pub sb_type : Params → Head → ℕ
sb_type p h = 2 * bit_no p.luma + bit_no (skip_or_bypass p h.skip)

-- the significant places are k ∷ ks, highest first. The range is aligned before signs and remainders, if these are escape data
unfoldable pub coeffs_s : Params → Head → (ℕ → Wanted → ℤ) → (ℕ → Spot) → ℕ → ℕ → List ℕ → Acc → S Acc
unfolding levels_s dues greater1_s count_of sign_hidden last_of first_greater1 signs_no
coeffs_s p h lv spot_of ctxSet k ks a =
    let n = suc (length ks) in
    greater1_s lv (at_greater1 + 4 * ctxSet + in_chroma p.luma 16) 8 (k ∷ ks) (record { bins = []; greater1_ctx = 1 }) >>= λ g.
    let ones = count_of g.bins in
    flag_if (ltb 0 ones) (at_greater2 + ctxSet + in_chroma p.luma 4) (λ t. ltb 2 (nat_abs (lv (first_greater1 (k ∷ ks) g.bins) t))) >>= λ g2.
    let coded = n - bit_no (sign_hidden p h.skip h.rdpcm (k ∷ ks)) in
    let stat = get_or a.stats (sb_type p h) 0 in
    let rest : S Acc =
    bits_s coded 0 (λ t. signs_no lv coded (k ∷ ks) t 0) >>= λ signs.
    levels_s p lv spot_of (dues (k ∷ ks) g.bins false g2) coded signs (cond p.persistent (stat / 4) 0) false 0
    (record { levels = a.levels; column = a.column; stat = stat }) >>= λ f.
    done (record {
      coded_sub_block = a.coded_sub_block;
      greater1_ctx = g.greater1_ctx;
      first = false;
      levels = f.levels;
      column = f.column;
      stats = set a.stats (sb_type p h) f.stat;
    }) in
    elim (p.aligning && escape_data_present n ones g2) [ true ↦ align rest | false ↦ rest ]
