-- What settles a sub-block's levels as the code finds it, and the tree of them by its parts. Assumes nothing.
use Rattle.std.specs.Prelude.{ℕ, zero, suc, ◌+◌, ◌-◌, ◌*◌, ◌/◌, ◌%◌, ◌^◌, ◌≤◌, ◌<◌, ◌≡◌, Bool, not, ◌&&◌, ◌||◌, cond, List, ◌∷◌, ℤ, nat_abs, length, get_or, set, eqb}
use Rattle.std.proofs.Math.Path.{refl}
use Rattle.std.proofs.Common.{sym, ap, ◌∙◌, arith, pow-suc, lt-ltb, le-ltb, ltb-true, ltb-false, eqb-true}
use Rattle.std.proofs.Math.Bool.{true, false}
use Rattle.std.proofs.Math.Nat.{pow-zero}
use Rattle.std.proofs.Math.Dec.{ltb}
use Rattle.std.specs.Int.Count.{ones, ones_step}
use Rattle.std.proofs.lemmas.Nat.{ones-le}
use Rattle.std.proofs.lemmas.Bool.{eqb-false}
use Rattle.bins.specs.Tags.{context_count}
use Rattle.bins.specs.Engine.{bit_no}
use Rattle.bins.specs.Syn.{done, align, ◌>>=◌}
use Rattle.bins.specs.Readers.{flag_if, bits_s}
use Rattle.hevc_residual.specs.declared.params.Params.{Params}
use Rattle.hevc_residual.specs.Layout.{at_greater1, at_greater2, in_chroma}
use Rattle.hevc_residual.specs.Scan.{Spot}
use Rattle.hevc_residual.specs.Wanted.{Wanted, S, last_of}
use Rattle.hevc_residual.specs.Head as syntax
use Rattle.hevc_residual.specs.SubBlock.{Acc, Filled, Greater1, greater1_s, count_of, first_greater1, escape_data_present, sign_hidden, signs_no, dues, levels_s, sb_type, coeffs_s}
use Rattle.hevc_head_rules.specs.declared.head.Head.{Head}
use Rattle.hevc_places.specs.declared.places.Places.{Places}
use Rattle.hevc_places.specs.Packing.{unpack, unmask}
use Rattle.hevc_places.specs.PackingLaws.{unpack_front, unpack_length, unpack_last, sixteen_pow, unmask_count, bit_most}
use Rattle.hevc_rules.specs.GreaterAgree.{none}
use Rattle.hevc_rules.specs.CoeffsAgree.{is_wide, hides, may_hide}

-- ---- the small functions
-- a mask that is not 0 has a bit
no_bits : (n m : ℕ) → m < 2 ^ n → ones m ≡ 0 → m ≡ 0
no_bits zero m h q = omega (arith, pow-zero 2)
no_bits (suc n) m h q =
    let s = ones_step m in
    let d : m / 2 ≡ 0 = no_bits n (m / 2) (omega (arith, pow-suc 2 n)) (omega arith) in
    omega arith

pub mask_any : (n m : ℕ) → m < 2 ^ n → not (eqb m 0) ≡ ltb 0 (count_of (unmask m n))
mask_any n m h = go (eqb m 0) refl ∙ ap (λ z. ltb 0 z) (sym (unmask_count n m h))
  where
    go : (b : Bool) → eqb m 0 ≡ b → not b ≡ ltb 0 (ones m)
    go true q =
        let z : m ≡ 0 = eqb-true m 0 q in
        let o : ones m ≤ 0 = ones-le 0 m (omega (arith, pow-zero 2)) in
        sym (le-ltb 0 (ones m) o)
    go false q = go-more (ltb 0 (ones m)) refl
      where
        go-more : (b : Bool) → ltb 0 (ones m) ≡ b → true ≡ b
        go-more true e = refl
        go-more false e =
            let o : ones m ≡ 0 = omega (arith, ltb-false 0 (ones m) e) in
            absurd (eqb-false m 0 q (no_bits n m h o))

ltb_less : (a b : ℕ) → ltb (b + 3) a ≡ ltb 3 (a - b)
ltb_less a b = go (ltb 3 (a - b)) refl
  where
    go : (t : Bool) → ltb 3 (a - b) ≡ t → ltb (b + 3) a ≡ t
    go true q = lt-ltb (b + 3) a (omega (arith, ltb-true 3 (a - b) q))
    go false q = le-ltb (b + 3) a (omega (arith, ltb-false 3 (a - b) q))

pub wide_is : (s : Places) → ltb ((s.packed / 2 ^ (4 * (s.count - 1))) % 16 + 3) (s.packed % 16) ≡ is_wide s
wide_is s =
    let n = s.count - 1 in
    let q : (s.packed / 2 ^ (4 * n)) % 16 ≡ last_of (unpack (s.packed / 16) n) (s.packed % 16) =
    sym (unpack_last n s.packed ∙ ap (λ z. s.packed / z % 16) (sixteen_pow n)) in
    ap (λ z. ltb (z + 3) (s.packed % 16)) q ∙ ltb_less (s.packed % 16) (last_of (unpack (s.packed / 16) n) (s.packed % 16))

pub hides_is : (p : Params) (h : Head) (s : Places) → hides p h.skip h.rdpcm s ≡ (p.hiding && (is_wide s && may_hide p h.skip h.rdpcm))
unfolding sign_hidden
hides_is p h s = refl

module _ (luma : Bool) (n k : ℕ) where
  pub chroma_most : k ≡ in_chroma luma n → k ≤ n
  chroma_most q = go luma q
    where
      go : (b : Bool) → k ≡ in_chroma b n → k ≤ n
      go true q = omega arith
      go false q = omega arith

module _ (n o : ℕ) (g2 : Bool) where
  pub escape_many : 8 < n → true ≡ escape_data_present n o g2
  escape_many h = sym (ap (λ b. b || (ltb 1 o || g2)) (lt-ltb 8 n h))

  pub escape_ones : n ≤ 8 → 1 < o → true ≡ escape_data_present n o g2
  escape_ones h i = sym (ap (λ b. b || (ltb 1 o || g2)) (le-ltb 8 n h) ∙ ap (λ b. b || g2) (lt-ltb 1 o i))

  pub escape_two : n ≤ 8 → o ≤ 1 → g2 ≡ escape_data_present n o g2
  escape_two h i = sym (ap (λ b. b || (ltb 1 o || g2)) (le-ltb 8 n h) ∙ ap (λ b. b || g2) (le-ltb 1 o i))

module _ (a b : Bool) where
  pub and_on : (r : Bool) → a ≡ true → r ≡ b → r ≡ (a && b)
  and_on r q e = e ∙ sym (ap (λ i. i && b) q)

  pub and_off : a ≡ false → false ≡ (a && b)
  and_off q = sym (ap (λ i. i && b) q)

-- what rules hiding out
module _ (lossless flag implicit : Bool) where
  pub ruled_lossless : lossless ≡ true → false ≡ (not lossless && (not flag && not implicit))
  ruled_lossless q = sym (ap (λ i. not i && (not flag && not implicit)) q)

  pub ruled_implicit : lossless ≡ false → implicit ≡ true → false ≡ (not lossless && (not flag && not implicit))
  ruled_implicit q e = go flag ∙ sym (ap (λ i. not i && (not flag && not implicit)) q ∙ ap (λ i. not flag && not i) e)
    where
      go : (b : Bool) → false ≡ (not b && false)
      go true = refl
      go false = refl

  pub ruled_flag : lossless ≡ false → implicit ≡ false → (r : Bool) → r ≡ not flag → r ≡ (not lossless && (not flag && not implicit))
  ruled_flag q e r u = u ∙ go flag ∙ sym (ap (λ i. not i && (not flag && not implicit)) q ∙ ap (λ i. not flag && not i) e)
    where
      go : (b : Bool) → not b ≡ (not b && true)
      go true = refl
      go false = refl

module _ (p : Params) (h : Head) (s : Places) where
  hides_by : (a w m : Bool) → p.hiding ≡ a → is_wide s ≡ w → may_hide p h.skip h.rdpcm ≡ m → bit_no (a && (w && m)) ≡ bit_no (hides p h.skip h.rdpcm s)
  hides_by a w m i j k =
      ap bit_no (sym (hides_is p h s ∙ ap (λ b. b && (is_wide s && may_hide p h.skip h.rdpcm)) i
      ∙ ap (λ b. a && (b && may_hide p h.skip h.rdpcm)) j ∙ ap (λ b. a && (w && b)) k))

  pub hidden_not : p.hiding ≡ false → 0 ≡ bit_no (hides p h.skip h.rdpcm s)
  hidden_not i = hides_by false (is_wide s) (may_hide p h.skip h.rdpcm) i refl refl

  module _ (i : p.hiding ≡ true) (w : Bool) (u : w ≡ is_wide s) where
    pub hidden_narrow : w ≡ false → 0 ≡ bit_no (hides p h.skip h.rdpcm s)
    hidden_narrow j = hides_by true false (may_hide p h.skip h.rdpcm) i (sym u ∙ j) refl

    module _ (j : w ≡ true) (m : Bool) (v : m ≡ may_hide p h.skip h.rdpcm) where
      pub hidden_ruled : m ≡ false → 0 ≡ bit_no (hides p h.skip h.rdpcm s)
      hidden_ruled k = hides_by true true false i (sym u ∙ j) (sym v ∙ k)

      pub hidden_one : m ≡ true → 1 ≡ bit_no (hides p h.skip h.rdpcm s)
      hidden_one k = hides_by true true true i (sym u ∙ j) (sym v ∙ k)

-- which statistic
module _ (luma : Bool) (k : ℕ) (b : Bool) (q : k ≡ bit_no b) where
  pub sb_luma : luma ≡ true → 2 + k ≡ 2 * bit_no luma + bit_no b
  sb_luma e = omega (arith, ap bit_no e)

  pub sb_chroma : luma ≡ false → k ≡ 2 * bit_no luma + bit_no b
  sb_chroma e = omega (arith, ap bit_no e)

pub sb_few : (k : ℕ) (a b : Bool) → k ≡ 2 * bit_no a + bit_no b → k < 4
sb_few k a b q = omega (arith, bit_most (bit_no a) a refl, bit_most (bit_no b) b refl)

-- how great the numbers are
pub base_few : (luma : Bool) (ctxSet base : ℕ) → base ≡ at_greater1 + 4 * ctxSet + in_chroma luma 16 → ctxSet ≤ 3 → base + 3 < context_count
base_few luma ctxSet base q h = omega (arith, chroma_most luma 16 (in_chroma luma 16) refl)

pub number_few : (luma : Bool) (ctxSet k : ℕ) → k ≡ at_greater2 + ctxSet + in_chroma luma 4 → ctxSet ≤ 3 → k < context_count
number_few luma ctxSet k q h = omega (arith, chroma_most luma 4 (in_chroma luma 4) refl)

pub hidden_few : (b : Bool) (hid n : ℕ) → hid ≡ bit_no b → 0 < n → hid ≤ n
hidden_few b hid n q h = omega (arith, bit_most hid b q)

pub rice_of : (b : Bool) (v : ℕ) → b ≡ true → v ≡ cond b v 0
rice_of b v q = sym (ap (λ i. cond i v 0) q)

-- ---- the tree by its parts: what is left behind each call
module _ (p : Params) (h : syntax.Head) (lv : ℕ → Wanted → ℤ) (spot_of : ℕ → Spot) (ctxSet k : ℕ) (ks : List ℕ) (a : Acc) where
  abbrev pub signs_of : ℕ
  signs_of = suc (length ks) - bit_no (sign_hidden p h.skip h.rdpcm (k ∷ ks))

  abbrev pub stat_of : ℕ
  stat_of = get_or a.stats (sb_type p h) 0

  abbrev pub levels_of : Greater1 → Bool → ℕ → S Filled
  levels_of g g2 signs =
      levels_s p lv spot_of (dues (k ∷ ks) g.bins false g2) signs_of signs (cond p.persistent (stat_of / 4) 0) false 0
      (record { levels = a.levels; column = a.column; stat = stat_of })

  abbrev pub all_of : Greater1 → Filled → Acc
  all_of g f =
      record {
        coded_sub_block = a.coded_sub_block;
        greater1_ctx = g.greater1_ctx;
        first = false;
        levels = f.levels;
        column = f.column;
        stats = set a.stats (sb_type p h) f.stat;
      }

  unfoldable pub levels_left : Greater1 → Bool → ℕ → S Acc
  levels_left g g2 signs = levels_of g g2 signs >>= λ f. done (all_of g f)

  unfoldable pub signs_left : Greater1 → Bool → S Acc
  unfolding levels_left
  signs_left g g2 = bits_s signs_of 0 (λ t. signs_no lv signs_of (k ∷ ks) t 0) >>= λ signs. levels_left g g2 signs

  unfoldable pub align_left : Greater1 → Bool → S Acc
  unfolding signs_left
  align_left g g2 =
      elim (p.aligning && escape_data_present (suc (length ks)) (count_of g.bins) g2) [ true ↦ align (signs_left g g2) | false ↦ signs_left g g2 ]

  unfoldable pub flag_left : Greater1 → S Acc
  unfolding align_left
  flag_left g =
      flag_if (ltb 0 (count_of g.bins)) (at_greater2 + ctxSet + in_chroma p.luma 4) (λ t. ltb 2 (nat_abs (lv (first_greater1 (k ∷ ks) g.bins) t))) >>= λ g2.
      align_left g g2

  pub coeffs_parts : coeffs_s p h lv spot_of ctxSet k ks a
      ≡ (greater1_s lv (at_greater1 + 4 * ctxSet + in_chroma p.luma 16) 8 (k ∷ ks) none >>= λ g. flag_left g)
  unfolding coeffs_s flag_left align_left signs_left levels_left
  coeffs_parts = refl

-- ---- the places of s
module _ (s : Places) (some : 0 < s.count) where
  pub places_all : (s.packed % 16 ∷ unpack (s.packed / 16) (s.count - 1)) ≡ unpack s.packed s.count
  places_all = let e : suc (s.count - 1) ≡ s.count = omega arith in sym (unpack_front s.packed (s.count - 1)) ∙ ap (λ n. unpack s.packed n) e

  pub places_many : suc (length (unpack (s.packed / 16) (s.count - 1))) ≡ s.count
  places_many = let e : suc (s.count - 1) ≡ s.count = omega arith in ap suc (unpack_length (s.count - 1) (s.packed / 16)) ∙ e
