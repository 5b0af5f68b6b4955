-- The levels of a sub-block as their code reads them, call after call. Assumes nothing.
use Prim.Native.Nat.{ℕ, suc, ◌+◌, ◌-◌, ◌*◌, ◌/◌, ◌%◌, ◌^◌, ◌≤◌, ◌<◌, min}
use Rattle.std.specs.Prelude.{◌≡◌, true, false, not, ◌&&◌, cond, ℤ, pos, nat_abs, length, get_or, set, eqb, Result, Ok, Err}
use Rattle.std.proofs.Common.{sym, subst, ◌∙◌, arith}
use Rattle.std.proofs.Math.Path.{ap}
use Rattle.std.proofs.Math.Bool.{Bool}
use mathlib.Core.List.{List, ◌∷◌}
use Rattle.std.proofs.Math.Dec.{ltb}
use Rattle.std.specs.Int.Count.{ones}
use Rattle.bins.specs.declared.state.Interval.{Interval}
use Rattle.bins.specs.declared.state.Refusal.{Refusal}
use Rattle.bins.specs.declared.state.Taken.{Taken}
use Rattle.bins.specs.Engine.{bit_no}
use Rattle.bins.specs.Syn.{done, align, ◌>>=◌, took, refused, Out}
use Rattle.bins.specs.Readers.{flag_if}
use Rattle.bins.specs.Sources.{Cursor, cursor, with_contexts, by_code, align_from, bits_from, step_of, step_of_bits, Readable, stopped, Step, got}
use Rattle.bins.specs.Laws.{RefusedBy, run_align, run_align_no, After}
use Rattle.bins.specs.CodeLaws.{from_align}
use Rattle.bins.specs.StepLaws.{step_took, step_refused}
use Rattle.hevc_residual.specs.declared.params.Params.{Params}
use Rattle.hevc_residual.specs.Layout.{at_greater1, at_greater2, in_chroma}
use Rattle.hevc_residual.specs.Scan.{Spot}
use Rattle.hevc_residual.specs.Wanted.{Wanted, S, inner_of, spot_in}
use Rattle.hevc_residual.specs.SubBlock.{Acc, Filled, Greater1, greater1_s, count_of, first_greater1, escape_data_present, signs_no, dues, levels_s, sb_type}
use Rattle.hevc_residual.specs.Limits.{Statistics}
use Rattle.hevc_head_rules.specs.declared.head.Head.{Head}
use Rattle.hevc_elements.specs.Agree.{Reads, from, SaysFlag}
use Rattle.hevc_elements.specs.ShapeLaws.{run_done}
use Rattle.hevc_head_rules.specs.HeadOf.{head_of}
use Rattle.hevc_head.specs.HeadLaws.{Behind, behind_ok, behind_no, behind_flag_lem, behind_bits}
use Rattle.hevc_places.specs.declared.places.Places.{Places}
use Rattle.hevc_level_rules.specs.StartLaws.{start_of, start_fits}
use Rattle.hevc_subblock.specs.declared.greater.Greater.{Greater}
use Rattle.hevc_rules.specs.declared.levels.Going.{Going}
use Rattle.hevc_levels.specs.declared.levels.Leveled.{Leveled}
use Rattle.hevc_rules.specs.declared.coeffs.Carry.{Carry}
use Rattle.hevc_places.specs.Packing.{Packs, unpack, unmask}
use Rattle.hevc_places.specs.PackingLaws.{unmask_count}
use Rattle.hevc_rules.specs.GreaterAgree.{none}
use Rattle.hevc_subblock.specs.GreaterAgree.{SaysGreater}
use Rattle.hevc_rules.specs.LevelsAgree.{Fine, going_s}
use Rattle.hevc_levels.specs.LevelsAgree.{SaysAll}
use Rattle.hevc_rules.specs.CoeffsAgree.{Carries, acc_of, coeffs_of, hides}
use Rattle.hevc_subblock.specs.CoeffsAgree.{aligned_if}
use Rattle.hevc_rules.specs.CoeffsLaws.{mask_any, levels_of, all_of, levels_left, signs_left, align_left, flag_left, coeffs_parts, places_all, places_many}

pub eight_few : (n m : ℕ) → n ≡ min 8 m → n ≤ 8
eight_few n m q = omega arith

pub signs_few : (n hid : ℕ) → n ≤ 16 → n - hid ≤ 32
signs_few n hid h = omega arith

module _ (due s : Bool) (l : List ℕ) (x : Interval) where
  pub aligned_due : due ≡ true → (r : Step) → r ≡ step_of x (align_from s l x) → r ≡ aligned_if due s l x
  aligned_due q r e = e ∙ ap (λ i. aligned_if i s l x) (sym q)

  pub aligned_not : due ≡ false → got 0 x ≡ aligned_if due s l x
  aligned_not q = ap (λ i. aligned_if i s l x) (sym q)

-- ---- what an answer leads to
pub record Answered (r : Step) (T : ℕ → Interval → Type 0) (N : Refusal → Type 0) : Type 0 where
  pub ok : (v : ℕ) (z : Interval) → r ≡ got v z → T v z
  pub no : (n : Refusal) → r ≡ stopped n → N n

pub record AnsweredBins (r : Result Greater Refusal) (T : Greater → Interval → Type 0) (N : Refusal → Type 0) : Type 0 where
  pub ok : (g : Greater) → r ≡ Ok g → T g g.next
  pub no : (n : Refusal) → r ≡ Err n → N n

pub record AnsweredLevels (r : Result Leveled Refusal) (T : Going → Interval → Type 0) (N : Refusal → Type 0) : Type 0 where
  pub ok : (v : Leveled) → r ≡ Ok v → T v.going v.next
  pub no : (n : Refusal) → r ≡ Err n → N n

bins_ok : (n : ℕ) (r : Result Greater Refusal) (g : Greater) (es : List ℕ) (o : Out Cursor Greater1) → SaysGreater n r es o → r ≡ Ok g
    → (g.mask < 2 ^ n) × (g.carry ≤ 3) × (o ≡ Out.ok (record { bins = unmask g.mask n; greater1_ctx = g.carry }) (cursor g.next es))
bins_ok n r g es o h q = subst (λ (i : Result Greater Refusal). SaysGreater n i es o) q h

bins_no : (n : ℕ) (r : Result Greater Refusal) (m : Refusal) (es : List ℕ) (o : Out Cursor Greater1) → SaysGreater n r es o → r ≡ Err m → RefusedBy m o
bins_no n r m es o h q = subst (λ (i : Result Greater Refusal). SaysGreater n i es o) q h

levels_ok : (p : Params) (at : Spot) (list : Bool) (l : List ℕ) (g2 : Bool) (signs : ℕ) (g : Going) (y : Interval) (levels : List ℤ) (r : Result Leveled Refusal) (after : List ℤ)
    (v : Leveled) → SaysAll p at list l g2 signs g y levels r after → r ≡ Ok v
    → SaysAll p at list l g2 signs g y levels (Ok v) after
levels_ok p at list l g2 signs g y levels r after v h q = subst (λ (i : Result Leveled Refusal). SaysAll p at list l g2 signs g y levels i after) q h

levels_no : (p : Params) (at : Spot) (list : Bool) (l : List ℕ) (g2 : Bool) (signs : ℕ) (g : Going) (y : Interval) (levels : List ℤ) (r : Result Leveled Refusal) (after : List ℤ)
    (m : Refusal) → SaysAll p at list l g2 signs g y levels r after → r ≡ Err m → SaysAll p at list l g2 signs g y levels (Err m) after
levels_no p at list l g2 signs g y levels r after m h q = subst (λ (i : Result Leveled Refusal). SaysAll p at list l g2 signs g y levels i after) q h

-- ---- alignment, where it is due
module _ {A : Type 0} (s : Bool) (l : List ℕ) (whole : S A) (x : Interval) (cs : List ℕ) (t : S A) (y : Interval) (ds : List ℕ) where
  abbrev aligns_if : Bool → S A
  aligns_if due = elim due [ true ↦ align t | false ↦ t ]

  on_align_lem : (b : Bool) (z : Interval) → align_from s l y ≡ took b z → (by_code s l).on_align (cursor y ds) ≡ took b (cursor z ds)
  unfolding by_code
  on_align_lem b z q = ap (with_contexts ds) q

  on_align_no : (n : ℕ) → align_from s l y ≡ refused n → (by_code s l).on_align (cursor y ds) ≡ refused n
  unfolding by_code
  on_align_no n q = ap (with_contexts ds) q

  behind_align : (due : Bool) → Behind s l whole x cs (aligns_if due) y ds → (r : Step) → r ≡ aligned_if due s l y
      → Answered r (λ v z. Behind s l whole x cs t z ds) (λ n. RefusedBy n (from s l whole x cs))
  behind_align true h r e =
      record {
        ok = λ v z q.
            let d = step_took y (align_from s l y) r v z e q in
            let g : Readable s l z = subst (λ u. After (Readable s l) u) d.2 (from_align s l y h.reads.0) in
            record {
              reads = (g, h.reads.1);
              left = h.left ∙ run_align (by_code s l) t (cursor y ds) d.0 (cursor z ds) (on_align_lem d.0 z d.2);
            };
        no = λ m q.
            let d = step_refused y (align_from s l y) r m e q in
            (ds, h.left ∙ run_align_no (by_code s l) t (cursor y ds) m.number (on_align_no m.number d.0) ∙ ap (λ (z : Interval). Out.no m.number (cursor z ds)) d.1);
      }
  behind_align false h r e =
      record {
        ok = λ v z q.
            let k : ◌≡◌ {A = Taken} (record { value = 0; next = y }) (record { value = v; next = z }) = cc in
            subst (λ u. Behind s l whole x cs t u ds) (ap (λ (t : Taken). t.next) k) h;
        no = λ m q. let z : ◌≡◌ {A = ℕ} 0 1 = cc in absurd (omega arith);
      }

-- ---- call after call
-- any wanted levels
abbrev pub any_levels : ℕ → Wanted → ℤ
any_levels k t = pos 0

module _ (p : Params) (h : Head) (at : Spot) (list : Bool) (l : List ℕ) (ctxSet : ℕ) (s : Places) (c : Carry) (x : Interval) (cs : List ℕ) (levels : List ℤ)
    (stats : List ℕ) where
  abbrev whole : (ℕ → Wanted → ℤ) → List Bool → S Acc
  whole lv coded = coeffs_of p h at lv ctxSet s (acc_of c coded levels stats)

  abbrev pub Left : ((ℕ → Wanted → ℤ) → List Bool → S Acc) → Interval → List ℕ → Type 0
  Left t y ds = (lv : ℕ → Wanted → ℤ) (coded : List Bool) → Behind list l (coeffs_of p h at lv ctxSet s (acc_of c coded levels stats)) x cs (t lv coded) y ds

  abbrev pub NoLevels : Refusal → Type 0
  NoLevels n = (lv : ℕ → Wanted → ℤ) (coded : List Bool) → RefusedBy n (from list l (coeffs_of p h at lv ctxSet s (acc_of c coded levels stats)) x cs)

  -- the bins of a mask
  abbrev pub marked : ℕ → ℕ → Greater1
  marked mask carry = record { bins = unmask mask (min 8 s.count); greater1_ctx = carry }

  abbrev pub to_flag : ℕ → ℕ → (ℕ → Wanted → ℤ) → List Bool → S Acc
  to_flag mask carry lv coded =
      flag_left p (head_of h) lv (spot_in (inner_of p) at) ctxSet (s.packed % 16) (unpack (s.packed / 16) (s.count - 1)) (acc_of c coded levels stats)
      (record { bins = unmask mask (min 8 s.count); greater1_ctx = carry })

  abbrev pub to_align : ℕ → ℕ → Bool → (ℕ → Wanted → ℤ) → List Bool → S Acc
  to_align mask carry g2 lv coded =
      align_left p (head_of h) lv (spot_in (inner_of p) at) ctxSet (s.packed % 16) (unpack (s.packed / 16) (s.count - 1)) (acc_of c coded levels stats)
      (record { bins = unmask mask (min 8 s.count); greater1_ctx = carry }) g2

  abbrev pub to_signs : ℕ → ℕ → Bool → (ℕ → Wanted → ℤ) → List Bool → S Acc
  to_signs mask carry g2 lv coded =
      signs_left p (head_of h) lv (spot_in (inner_of p) at) ctxSet (s.packed % 16) (unpack (s.packed / 16) (s.count - 1)) (acc_of c coded levels stats)
      (record { bins = unmask mask (min 8 s.count); greater1_ctx = carry }) g2

  abbrev pub to_levels : ℕ → ℕ → Bool → ℕ → (ℕ → Wanted → ℤ) → List Bool → S Acc
  to_levels mask carry g2 signs lv coded =
      levels_left p (head_of h) lv (spot_in (inner_of p) at) ctxSet (s.packed % 16) (unpack (s.packed / 16) (s.count - 1)) (acc_of c coded levels stats)
      (record { bins = unmask mask (min 8 s.count); greater1_ctx = carry }) g2 signs

  abbrev bins_of : (ℕ → Wanted → ℤ) → S Greater1
  bins_of lv = greater1_s lv (at_greater1 + 4 * ctxSet + in_chroma p.luma 16) 8 (s.packed % 16 ∷ unpack (s.packed / 16) (s.count - 1)) none

  abbrev behind_bins : (ℕ → Wanted → ℤ) → List Bool → Greater1 → S Acc
  behind_bins lv coded g =
      flag_left p (head_of h) lv (spot_in (inner_of p) at) ctxSet (s.packed % 16) (unpack (s.packed / 16) (s.count - 1)) (acc_of c coded levels stats) g

  begun : Reads list l x cs → Left (λ lv coded. bins_of lv >>= λ g. behind_bins lv coded g) x cs
  begun d lv coded =
      record {
        reads = d;
        left = ap (λ t. from list l t x cs)
            (coeffs_parts p (head_of h) lv (spot_in (inner_of p) at) ctxSet (s.packed % 16) (unpack (s.packed / 16) (s.count - 1)) (acc_of c coded levels stats));
      }

  module _ (some : 0 < s.count) where
    -- coeff_abs_level_greater1_flag
    module _ (d : Reads list l x cs) (base n : ℕ) (u : base ≡ at_greater1 + 4 * ctxSet + in_chroma p.luma 16) (m : n ≡ min 8 s.count) (r : Result Greater Refusal)
        (es : List ℕ)
        (e : (lv : ℕ → Wanted → ℤ) (ks : List ℕ) → min 8 (length ks) ≡ n → SaysGreater n r es (from list l (greater1_s lv base 8 ks none) x cs)) where
      bins_say_lem : (lv : ℕ → Wanted → ℤ) → SaysGreater (min 8 s.count) r es (from list l (bins_of lv) x cs)
      bins_say_lem lv =
          let ks = s.packed % 16 ∷ unpack (s.packed / 16) (s.count - 1) in
          let o : min 8 (length ks) ≡ n = ap (min 8) (places_many s some) ∙ sym m in
          subst (λ i. SaysGreater i r es (from list l (bins_of lv) x cs)) m
          (subst (λ i. SaysGreater n r es (from list l (greater1_s lv i 8 ks none) x cs)) u (e lv ks o))

      pub read_bins_lem : AnsweredBins r (λ g z. (g.mask < 2 ^ min 8 s.count) × (g.carry ≤ 3) × Left (to_flag g.mask g.carry) z es) NoLevels
      read_bins_lem =
          record {
            ok = λ g q.
                let f : (lv : ℕ → Wanted → ℤ) → _ = λ lv. bins_ok (min 8 s.count) r g es (from list l (bins_of lv) x cs) (bins_say_lem lv) q in (
                  (f any_levels).0,
                  (f any_levels).1,
                  λ lv coded.
                      behind_ok list l (whole lv coded) x cs (bins_of lv) (behind_bins lv coded) x cs (begun d lv coded) (marked g.mask g.carry) g.next es (f lv).2,
                );
            no = λ m q lv coded.
                (behind_no list l (whole lv coded) x cs (bins_of lv) (behind_bins lv coded) x cs (begun d lv coded) m
                (bins_no (min 8 s.count) r m es (from list l (bins_of lv) x cs) (bins_say_lem lv) q));
          }

    module _ (mask carry : ℕ) (small : mask < 2 ^ min 8 s.count) where
      -- coeff_abs_level_greater2_flag
      pub read_two : (y : Interval) (ds : List ℕ) → Left (to_flag mask carry) y ds → (k : ℕ) → k ≡ at_greater2 + ctxSet + in_chroma p.luma 4 → (r : Step) (es : List ℕ)
          → ((w : Wanted → Bool) → SaysFlag r es (from list l (flag_if (not (eqb mask 0)) k w) y ds))
          → Answered r (λ v z. Left (to_align mask carry (eqb v 1)) z es) NoLevels
      unfolding flag_left
      read_two y ds d k u r es e =
          let w : (ℕ → Wanted → ℤ) → Wanted → Bool =
          λ lv t. ltb 2 (nat_abs (lv (first_greater1 (s.packed % 16 ∷ unpack (s.packed / 16) (s.count - 1)) (unmask mask (min 8 s.count))) t)) in
          let f : (lv : ℕ → Wanted → ℤ) (coded : List Bool) → _ =
          λ lv coded.
          behind_flag_lem list l (whole lv coded) x cs (ltb 0 (count_of (unmask mask (min 8 s.count)))) (not (eqb mask 0))
          (at_greater2 + ctxSet + in_chroma p.luma 4) k (w lv) (λ g2. to_align mask carry g2 lv coded) y ds (d lv coded) (mask_any (min 8 s.count) mask small) u r es e in
          record {
            ok = λ v z q lv coded. (f lv coded).ok v z q;
            no = λ m q lv coded. (f lv coded).no m q;
          }

      module _ (g2 : Bool) where
        -- alignment
        pub read_align : (y : Interval) (ds : List ℕ) → Left (to_align mask carry g2) y ds → (due : Bool)
            → due ≡ (p.aligning && escape_data_present s.count (ones mask) g2) → (r : Step) → r ≡ aligned_if due list l y
            → Answered r (λ v z. Left (to_signs mask carry g2) z ds) NoLevels
        unfolding align_left
        read_align y ds d due u r e =
            let ks = unpack (s.packed / 16) (s.count - 1) in
            let o : (p.aligning && escape_data_present s.count (ones mask) g2)
            ≡ (p.aligning && escape_data_present (suc (length ks)) (count_of (unmask mask (min 8 s.count))) g2) =
            ap (λ i. p.aligning && escape_data_present i (ones mask) g2) (sym (places_many s some))
            ∙ ap (λ i. p.aligning && escape_data_present (suc (length ks)) i g2) (sym (unmask_count (min 8 s.count) mask small)) in
            let f : (lv : ℕ → Wanted → ℤ) (coded : List Bool) → _ =
            λ lv coded.
            behind_align list l (whole lv coded) x cs (to_signs mask carry g2 lv coded) y ds
            (p.aligning && escape_data_present (suc (length ks)) (count_of (unmask mask (min 8 s.count))) g2) (d lv coded) r
            (e ∙ ap (λ i. aligned_if i list l y) (u ∙ o)) in
            record {
              ok = λ v z q lv coded. (f lv coded).ok v z q;
              no = λ m q lv coded. (f lv coded).no m q;
            }

        -- coeff_sign_flag
        pub read_signs : (y : Interval) (ds : List ℕ) → Left (to_signs mask carry g2) y ds → (hid : ℕ) → hid ≡ bit_no (hides p h.skip h.rdpcm s) → (r : Step)
            → r ≡ step_of_bits (bits_from list l (s.count - hid) y) → Answered r (λ v z. Left (to_levels mask carry g2 v) z ds) NoLevels
        unfolding signs_left
        read_signs y ds d hid u r e =
            let k = s.packed % 16 in
            let ks = unpack (s.packed / 16) (s.count - 1) in
            let n = suc (length ks) - bit_no (hides p h.skip h.rdpcm s) in
            let o : s.count - hid ≡ n = omega (arith, places_many s some) in
            let f : (lv : ℕ → Wanted → ℤ) (coded : List Bool) → _ =
            λ lv coded.
            behind_bits list l (whole lv coded) x cs n (s.count - hid) (λ t. signs_no lv n (k ∷ ks) t 0) (λ signs. to_levels mask carry g2 signs lv coded) y ds (d lv coded)
            o r e in
            record {
              ok = λ v z q lv coded. (f lv coded).ok v z q;
              no = λ m q lv coded. (f lv coded).no m q;
            }

        -- the levels; the code's words for what they start from
        module _ (signs : ℕ) (y : Interval) (ds : List ℕ) (d : Left (to_levels mask carry g2 signs) y ds) (n hid sb stat rice : ℕ) (en : n ≡ min 8 s.count)
            (eh : hid ≡ bit_no (hides p h.skip h.rdpcm s)) (eb : sb ≡ sb_type p (head_of h)) (es : stat ≡ get_or stats sb 0)
            (er : rice ≡ cond p.persistent (stat / 4) 0) where
          abbrev pub start : Going
          start = start_of s mask n hid rice stat c.column

          pub start_fine : Packs s → Carries c → Statistics stats → Fine p start
          start_fine k f t = start_fits p s mask n hid rice stat c.column stats sb k (subst (λ i. mask < 2 ^ i) (sym en) small) en es t er f.column

          going_is : (lv : ℕ → Wanted → ℤ) (coded : List Bool) → going_s p at lv g2 signs start levels
              ≡ levels_of p (head_of h) lv (spot_in (inner_of p) at) ctxSet (s.packed % 16) (unpack (s.packed / 16) (s.count - 1)) (acc_of c coded levels stats) (marked mask carry) g2 signs
          going_is lv coded =
              let ks = s.packed % 16 ∷ unpack (s.packed / 16) (s.count - 1) in
              let hs = suc (length (unpack (s.packed / 16) (s.count - 1))) - bit_no (hides p h.skip h.rdpcm s) in
              let st = get_or stats (sb_type p (head_of h)) 0 in
              let f : List ℕ → ℕ → ℕ → ℕ → ℕ → S Filled =
              λ ks b n r t.
              levels_s p lv (spot_in (inner_of p) at) (dues ks (unmask mask b) false g2) n signs r false 0 (record { levels = levels; column = c.column; stat = t }) in
              let o : s.count - hid ≡ hs = omega (arith, places_many s some) in
              let i : stat ≡ st = es ∙ ap (λ i. get_or stats i 0) eb in
              let j : rice ≡ cond p.persistent (st / 4) 0 = er ∙ ap (λ i. cond p.persistent (i / 4) 0) i in
              ap (λ u. f u n (s.count - hid) rice stat) (sym (places_all s some))
              ∙ ap (λ u. f ks u (s.count - hid) rice stat) en
              ∙ ap (λ u. f ks (min 8 s.count) u rice stat) o
              ∙ ap (λ u. f ks (min 8 s.count) hs u stat) j
              ∙ ap (λ u. f ks (min 8 s.count) hs (cond p.persistent (st / 4) 0) u) i

          abbrev filled_by : (ℕ → Wanted → ℤ) → List Bool → S Filled
          filled_by lv coded =
              levels_of p (head_of h) lv (spot_in (inner_of p) at) ctxSet (s.packed % 16) (unpack (s.packed / 16) (s.count - 1)) (acc_of c coded levels stats)
              (marked mask carry) g2 signs

          abbrev behind_levels : (ℕ → Wanted → ℤ) → List Bool → Filled → S Acc
          behind_levels lv coded f =
              done (all_of p (head_of h) lv (spot_in (inner_of p) at) ctxSet (s.packed % 16) (unpack (s.packed / 16) (s.count - 1)) (acc_of c coded levels stats)
              (marked mask carry) f)

          opened : Left (λ lv coded. filled_by lv coded >>= λ f. behind_levels lv coded f) y ds
          unfolding levels_left
          opened lv coded = d lv coded

          all_ok : (g : Going) (z : Interval) (after : List ℤ) (lv : ℕ → Wanted → ℤ) (coded : List Bool)
              → from list l (going_s p at lv g2 signs start levels) y ds ≡ Out.ok (record { levels = after; column = g.column; stat = g.stat }) (cursor z ds)
              → from list l (whole lv coded) x cs
              ≡ Out.ok (acc_of (record { carry = carry; first = false; column = g.column }) coded after (set stats sb g.stat)) (cursor z ds)
          all_ok g z after lv coded q =
              let f : Filled = record { levels = after; column = g.column; stat = g.stat } in
              let k = behind_ok list l (whole lv coded) x cs (filled_by lv coded) (behind_levels lv coded) y ds (opened lv coded) f z ds
              (ap (λ t. from list l t y ds) (sym (going_is lv coded)) ∙ q) in
              k.left
              ∙ run_done list l (acc_of (record { carry = carry; first = false; column = g.column }) coded after (set stats (sb_type p (head_of h)) g.stat)) z ds
              ∙ ap (λ i. Out.ok (acc_of (record { carry = carry; first = false; column = g.column }) coded after (set stats i g.stat)) (cursor z ds)) (sym eb)

          all_no : (m : Refusal) (lv : ℕ → Wanted → ℤ) (coded : List Bool) → RefusedBy m (from list l (going_s p at lv g2 signs start levels) y ds)
              → RefusedBy m (from list l (whole lv coded) x cs)
          all_no m lv coded q =
              behind_no list l (whole lv coded) x cs (filled_by lv coded) (behind_levels lv coded) y ds (opened lv coded) m
              (subst (λ t. RefusedBy m (from list l t y ds)) (going_is lv coded) q)

          -- r is what the loop answered, with the block behind it
          pub read_levels : (r : Result Leveled Refusal) (after : List ℤ) → SaysAll p at list l g2 signs start y levels r after
              → AnsweredLevels r
              (λ g z. Fine p g
              × ((lv : ℕ → Wanted → ℤ) (coded : List Bool) → from list l (coeffs_of p h at lv ctxSet s (acc_of c coded levels stats)) x cs
              ≡ Out.ok (acc_of (record { carry = carry; first = false; column = g.column }) coded after (set stats sb g.stat)) (cursor z ds)))
              NoLevels
          read_levels r after e =
              record {
                ok = λ v q.
                    let f = levels_ok p at list l g2 signs start y levels r after v e q in
                    (f.0, λ lv coded. all_ok v.going v.next after lv coded (f.2 lv ds));
                no = λ m q lv coded.
                    (all_no m lv coded (levels_no p at list l g2 signs start y levels r after m e q lv ds));
              }
