-- The levels of a sub-block as their code puts them, call after call. Assumes nothing.
use Prim.Native.Nat.{ℕ, zero, suc, ◌+◌, ◌-◌, ◌*◌, ◌/◌, ◌%◌, ◌^◌, ◌≤◌, ◌<◌, min}
use Rattle.std.proofs.Math.Path.{◌≡◌, refl, sym, ap, ap₂, subst}
use Rattle.std.proofs.Common.{◌∙◌, eqb-true}
use Rattle.std.proofs.Math.Bool.{Bool, true, false, not}
use Rattle.std.specs.Prelude.{◌&&◌, cond, List, ◌∷◌, ℤ, nat_abs, length, get_or, eqb}
use native.Mathlib.Omega.{arith}
use Rattle.std.proofs.Math.ListN.{set}
use Rattle.std.proofs.Math.Dec.{ltb}
use Rattle.std.specs.Int.Count.{ones}
use Rattle.std.proofs.lemmas.Bool.{eqb-false}
use Rattle.bins.specs.Engine.{bit_no}
use Rattle.bins.specs.Tags.{align_tag}
use Rattle.bins.specs.Syn.{done, align, ◌>>=◌}
use Rattle.bins.specs.Readers.{flag_if, bits_s}
use Rattle.hevc_residual.specs.declared.params.Params.{Params}
use Rattle.hevc_residual.specs.Layout.{at_greater1, at_greater2, in_chroma}
use Rattle.hevc_residual.specs.Scan.{Spot}
use Rattle.hevc_residual.specs.Wanted.{Wanted, S, inner_of, spot_in}
use Rattle.hevc_residual.specs.Head.{skip_or_bypass}
use Rattle.hevc_residual.specs.SubBlock.{Acc, Filled, Greater1, greater1_s, count_of, first_greater1, escape_data_present, signs_no, dues, levels_s, sb_type}
use Rattle.hevc_head_rules.specs.declared.head.Head.{Head}
use Rattle.hevc_head_rules.specs.HeadOf.{head_of}
use Rattle.hevc_places.specs.declared.places.Places.{Places}
use Rattle.hevc_rules.specs.declared.levels.Going.{Going}
use Rattle.hevc_places.specs.Packing.{Packs, unpack, unpacked, unmask}
use Rattle.hevc_places.specs.PackingLaws.{unmask_count}
use Rattle.hevc_rules.specs.GreaterAgree.{none}
use Rattle.hevc_rules.specs.LevelsAgree.{Fine, going_s}
use Rattle.hevc_rules.specs.CoeffsAgree.{coeffs_of, hides}
use Rattle.hevc_rules.specs.CoeffsLaws.{mask_any, places_all, places_many, coeffs_parts, signs_of, levels_of, all_of, levels_left, signs_left, align_left, flag_left}
use Rattle.hevc_residual.specs.Limits.{Statistics}
use Rattle.hevc_level_rules.specs.StartLaws.{start_of, start_fits}
use Rattle.pen.specs.Sheet.{Sheet, entered, Wrote}
use Rattle.pen.specs.SheetLaws.{wrote_none, wrote_on, wrote_align, wrote_call}
use Rattle.hevc_pen.specs.RemainderLaws.{bits_as}
use Rattle.hevc_pen.specs.HeadLaws.{PutFlag, flag_as}
use Rattle.hevc_wanted.specs.Shown.{Shows}
use Rattle.hevc_levels_pen.specs.LevelsPuts.{with_column, GoesOut, Full}

-- ---- alignment, where it is due
pub record Aligned (due : Bool) (s s' : Sheet) : Type 0 where
  pub aligns : (t : S Acc) (w : Wanted) → Wrote (elim due [ true ↦ align t | false ↦ t ]) t w s s'

pub aligned_due : (due : Bool) (s : Sheet) → due ≡ true → Aligned due s (entered align_tag s)
aligned_due due s q = record { aligns = λ t w. subst (λ b. Wrote (elim b [ true ↦ align t | false ↦ t ]) t w s (entered align_tag s)) (sym q) (wrote_align w t s) }

pub aligned_not : (due : Bool) (s : Sheet) → due ≡ false → Aligned due s s
aligned_not due s q = record { aligns = λ t w. subst (λ b. Wrote (elim b [ true ↦ align t | false ↦ t ]) t w s s) (sym q) (wrote_none w t s) }

-- ---- the syntax's accumulator, of what the code has in several places; its levels and column are no part of a list
pub record AccIs (a : Acc) (coded : List Bool) (carry : ℕ) (first : Bool) (stats : List ℕ) : Type 0 where
  pub coded_is : a.coded_sub_block ≡ coded
  pub carry_is : a.greater1_ctx ≡ carry
  pub first_is : a.first ≡ first
  pub stats_are : a.stats ≡ stats

-- a tree is written to its end, at such an accumulator
pub record Lands (whole : S Acc) (coded : List Bool) (carry : ℕ) (first : Bool) (stats : List ℕ) (w : Wanted) (s s' : Sheet) : Type 0 where
  pub acc : Acc
  pub is : AccIs acc coded carry first stats
  pub wrote : Wrote whole (done acc) w s s'

pub record GoesCoeffs (p : Params) (h : Head) (ctxset : ℕ) (s : Places) (levels : List ℤ) (stats : List ℕ) (carry : ℕ) (stats' : List ℕ) (t t' : Sheet) : Type 0 where
  pub goes : (at : Spot) (lv : ℕ → Wanted → ℤ) (w : Wanted) → Shows lv w levels → (a : Acc) → a.stats ≡ stats
      → Lands (coeffs_of p h at lv ctxset s a) a.coded_sub_block carry false stats' w t t'

pub start_fine : (p : Params) (s : Places) (mask n hid rice stat : ℕ) (stats : List ℕ) (sb : ℕ) → Packs s → mask < 2 ^ n → n ≡ min 8 s.count
    → stat ≡ get_or stats sb 0 → Statistics stats → rice ≡ cond p.persistent (stat / 4) 0 → Fine p (start_of s mask n hid rice stat 0)
start_fine p s mask n hid rice stat stats sb k small en es st er = start_fits p s mask n hid rice stat 0 stats sb k small en es st er (omega arith)

and_flag : (mask : ℕ) (two : Bool) → (mask ≡ 0 → two ≡ false) → (not (eqb mask 0) && two) ≡ two
and_flag mask two h = go (eqb mask 0) refl
  where
    go : (b : Bool) → eqb mask 0 ≡ b → (not b && two) ≡ two
    go true q = sym (h (eqb-true mask 0 q))
    go false q = refl

-- ---- call after call; the code's words for the numbers
module _ (p : Params) (h : Head) (ctxset : ℕ) (s : Places) (levels : List ℤ) (stats : List ℕ) (some : 0 < s.count)
    (n base number hid sb stat rice mask carry sg : ℕ) (two due : Bool) (en : n ≡ min 8 s.count) (eb : base ≡ at_greater1 + 4 * ctxset + in_chroma p.luma 16)
    (small : mask < 2 ^ n) (e2 : number ≡ at_greater2 + ctxset + in_chroma p.luma 4) (tw0 : mask ≡ 0 → two ≡ false)
    (tw : (lv : ℕ → Wanted → ℤ) (w : Wanted) → Shows lv w levels → 0 < mask → two ≡ ltb 2 (nat_abs (lv (first_greater1 (unpacked s) (unmask mask n)) w)))
    (ed : due ≡ (p.aligning && escape_data_present s.count (ones mask) two)) (eh : hid ≡ bit_no (hides p h.skip h.rdpcm s))
    (es : (lv : ℕ → Wanted → ℤ) (w : Wanted) → Shows lv w levels → sg ≡ signs_no lv (s.count - hid) (unpacked s) w 0)
    (esb : sb ≡ 2 * bit_no p.luma + bit_no (skip_or_bypass p h.skip)) (est : stat ≡ get_or stats sb 0) (er : rice ≡ cond p.persistent (stat / 4) 0)
    (s₀ s₁ s₂ s₃ s₄ s₅ : Sheet)
    (G : (lv : ℕ → Wanted → ℤ) (w : Wanted) → Shows lv w levels
    → Wrote (greater1_s lv base 8 (unpacked s) none) (done (record { bins = unmask mask n; greater1_ctx = carry })) w s₀ s₁)
    (F : PutFlag (not (eqb mask 0)) number two s₁ s₂) (L : Aligned due s₂ s₃)
    (B : (x : Wanted → ℕ) (t : Wanted) → x t ≡ sg → Wrote (bits_s (s.count - hid) 0 x) (done sg) t s₃ s₄) (e : Going)
    (Rest : GoesOut p levels two (start_of s mask n hid rice stat 0) e s₄ s₅) where
  module _ (at : Spot) (lv : ℕ → Wanted → ℤ) (w : Wanted) (sh : Shows lv w levels) (a : Acc) (ea : a.stats ≡ stats) where
    abbrev k : ℕ
    k = s.packed % 16

    abbrev ks : List ℕ
    ks = unpack (s.packed / 16) (s.count - 1)

    abbrev g : Greater1
    g = record { bins = unmask mask n; greater1_ctx = carry }

    abbrev spot_of : ℕ → Spot
    spot_of = spot_in (inner_of p) at

    abbrev whole : S Acc
    whole = coeffs_of p h at lv ctxset s a

    at_bins : Wrote whole (flag_left p (head_of h) lv spot_of ctxset k ks a g) w s₀ s₁
    at_bins =
        let t = greater1_s lv (at_greater1 + 4 * ctxset + in_chroma p.luma 16) 8 (k ∷ ks) none in
        let f : Greater1 → S Acc = λ g. flag_left p (head_of h) lv spot_of ctxset k ks a g in
        let x : Wrote whole (t >>= f) w s₀ s₀ = subst (λ z. Wrote whole z w s₀ s₀) (coeffs_parts p (head_of h) lv spot_of ctxset k ks a) (wrote_none w whole s₀) in
        let y : Wrote t (done g) w s₀ s₁ =
        subst (λ l. Wrote (greater1_s lv (at_greater1 + 4 * ctxset + in_chroma p.luma 16) 8 l none) (done g) w s₀ s₁) (sym (places_all s some))
        (subst (λ b. Wrote (greater1_s lv b 8 (unpacked s) none) (done g) w s₀ s₁) eb (G lv w sh)) in
        wrote_call w whole t f g s₀ s₀ s₁ x y

    at_flag : Wrote whole (align_left p (head_of h) lv spot_of ctxset k ks a g two) w s₀ s₂
    unfolding flag_left
    at_flag =
        let coded = ltb 0 (count_of (unmask mask n)) in
        let num = at_greater2 + ctxset + in_chroma p.luma 4 in
        let want : Wanted → Bool = λ t. ltb 2 (nat_abs (lv (first_greater1 (k ∷ ks) (unmask mask n)) t)) in
        let any : not (eqb mask 0) ≡ coded = mask_any n mask small in
        let f : PutFlag coded num two s₁ s₂ = flag_as s₁ s₂ any e2 refl F in
        let so : coded ≡ true → want w ≡ two = λ q.
        let positive : 0 < mask = above mask (any ∙ q) in
        sym (tw lv w sh positive ∙ ap (λ l. ltb 2 (nat_abs (lv (first_greater1 l (unmask mask n)) w))) (sym (places_all s some))) in
        let both : (coded && two) ≡ two = ap (λ b. b && two) (sym any) ∙ and_flag mask two tw0 in
        subst (λ z. Wrote whole (align_left p (head_of h) lv spot_of ctxset k ks a g z) w s₀ s₂) both
        (wrote_call w whole (flag_if coded num want) (λ g2. align_left p (head_of h) lv spot_of ctxset k ks a g g2) (coded && two) s₀ s₁ s₂ at_bins (f want w so))
      where
        above : (m : ℕ) → not (eqb m 0) ≡ true → 0 < m
        above zero q = let z : ◌≡◌ {A = ℕ} 0 1 = cc in absurd (omega arith)
        above (suc m) q = omega arith

    at_signs : Wrote whole (signs_left p (head_of h) lv spot_of ctxset k ks a g two) w s₀ s₃
    unfolding align_left
    at_signs =
        let o : due ≡ (p.aligning && escape_data_present (suc (length ks)) (count_of (unmask mask n)) two) =
        ed ∙ ap (λ i. p.aligning && escape_data_present i (ones mask) two) (sym (places_many s some))
        ∙ ap (λ i. p.aligning && escape_data_present (suc (length ks)) i two) (sym (unmask_count n mask small)) in
        let rest = signs_left p (head_of h) lv spot_of ctxset k ks a g two in
        wrote_on w whole (align_left p (head_of h) lv spot_of ctxset k ks a g two) rest s₀ s₂ s₃ at_flag
        (subst (λ b. Wrote (elim b [ true ↦ align rest | false ↦ rest ]) rest w s₂ s₃) o (L.aligns rest w))

    at_levels : Wrote whole (levels_left p (head_of h) lv spot_of ctxset k ks a g two sg) w s₀ s₄
    unfolding signs_left
    at_levels =
        let m = suc (length ks) - bit_no (hides p h.skip h.rdpcm s) in
        let o : s.count - hid ≡ m = omega (arith, places_many s some) in
        let x : Wanted → ℕ = λ t. signs_no lv m (k ∷ ks) t 0 in
        let i : x w ≡ sg = sym (es lv w sh ∙ ap (λ c. signs_no lv c (unpacked s) w 0) o ∙ ap (λ l. signs_no lv m l w 0) (sym (places_all s some))) in
        wrote_call w whole (bits_s m 0 x) (λ v. levels_left p (head_of h) lv spot_of ctxset k ks a g two v) sg s₀ s₃ s₄ at_signs (bits_as o refl B x w i)

    going_is : going_s p at lv two sg (with_column a.column (start_of s mask n hid rice stat 0)) a.levels
        ≡ levels_of p (head_of h) lv spot_of ctxset k ks a g two sg
    going_is =
        let hs = suc (length ks) - bit_no (hides p h.skip h.rdpcm s) in
        let st = get_or a.stats (sb_type p (head_of h)) 0 in
        let f : List ℕ → ℕ → ℕ → ℕ → S Filled =
        λ l c r t.
        levels_s p lv spot_of (dues l (unmask mask n) false two) c sg r false 0 (record { levels = a.levels; column = a.column; stat = t }) in
        let o : s.count - hid ≡ hs = omega (arith, places_many s some) in
        let i : stat ≡ st = est ∙ ap (λ i. get_or stats i 0) esb ∙ ap (λ l. get_or l (sb_type p (head_of h)) 0) (sym ea) in
        let j : rice ≡ cond p.persistent (st / 4) 0 = er ∙ ap (λ i. cond p.persistent (i / 4) 0) i in
        ap (λ u. f u (s.count - hid) rice stat) (sym (places_all s some))
        ∙ ap (λ u. f (k ∷ ks) u rice stat) o
        ∙ ap (λ u. f (k ∷ ks) hs u stat) j
        ∙ ap (λ u. f (k ∷ ks) hs (cond p.persistent (st / 4) 0) u) i

    all_put : (stats' : List ℕ) → stats' ≡ set stats sb e.stat → Lands whole a.coded_sub_block carry false stats' w s₀ s₅
    unfolding levels_left
    all_put stats' q =
        let v = Rest.goes at lv sg w sh a.levels a.column in
        let t = levels_of p (head_of h) lv spot_of ctxset k ks a g two sg in
        let f : Filled → S Acc = λ f. done (all_of p (head_of h) lv spot_of ctxset k ks a g f) in
        let x : Wrote t (done v.filled) w s₄ s₅ = subst (λ z. Wrote z (done v.filled) w s₄ s₅) going_is v.wrote in
        record {
          acc = all_of p (head_of h) lv spot_of ctxset k ks a g v.filled;
          is = record {
            coded_is = refl;
            carry_is = refl;
            first_is = refl;
            stats_are = ap₂ (λ l i. set l i v.filled.stat) ea (sym esb) ∙ ap (set stats sb) v.is_stat ∙ sym q;
          };
          wrote = wrote_call w whole t f v.filled s₀ s₄ s₅ at_levels x;
        }

  pub coeffs_put : (stats' : List ℕ) → stats' ≡ set stats sb e.stat → GoesCoeffs p h ctxset s levels stats carry stats' s₀ s₅
  coeffs_put stats' q = record { goes = λ at lv w sh a ea. all_put at lv w sh a ea stats' q }
