-- Sub-blocks as their code puts them: one, call after call, and the loop from the last one down. Assumes nothing.
use Prim.Native.Nat.{ℕ, suc, ◌+◌, ◌-◌, ◌*◌, ◌^◌, ◌≤◌, ◌<◌}
use Rattle.std.specs.Prelude.{◌≡◌, Bool, not, ◌&&◌, cond, ℤ, nat_abs, length, get_or, set, ltb, eqb}
use Rattle.std.proofs.Math.Path.{refl, ap, ap₂, subst}
use Rattle.std.proofs.Common.{sym, ◌∙◌}
use Rattle.std.proofs.Math.Bool.{true, false}
use mathlib.Core.List.{List}
use native.Mathlib.Omega.{arith}
use Rattle.bins.specs.Tags.{tag}
use Rattle.bins.specs.Syn.{done, bin, ◌>>=◌}
use Rattle.hevc_residual.specs.declared.params.Params.{Params}
use Rattle.hevc_residual.specs.declared.params.Rdpcm.TheVariants as of_rdpcm
use Rattle.hevc_residual.specs.Scan.{Spot, spot}
use Rattle.hevc_residual.specs.Remainder.{log2_transform_range}
use Rattle.hevc_residual.specs.Wanted.{Wanted, S, width, outer_of, inner_of, wanted_in, spot_in, cell_of, none, sig_places}
use Rattle.hevc_residual.specs.Head.{skip_or_bypass}
use Rattle.hevc_residual.specs.SubBlock.{Acc, places_s}
use Rattle.hevc_residual.specs.Residual.{marked, ctx_set_of, filled_s, sub_block_s, sub_blocks_s}
use Rattle.hevc_head_rules.specs.declared.head.Head.{Head}
use Rattle.hevc_head_rules.specs.HeadOf.{head_of}
use Rattle.hevc_places.specs.declared.places.Places.{Places}
use Rattle.hevc_rules.specs.declared.coeffs.Carry.{Carry}
use Rattle.hevc_places.specs.Packing.{unpack, unpacked}
use Rattle.hevc_places.specs.declared.places.SigNumbers.{SigNumbers}
use Rattle.hevc_places.specs.PlacesAgree.{sig_number, number_at}
use Rattle.hevc_places.specs.PlacesLaws.{places_same}
use Rattle.hevc_rules.specs.CoeffsAgree.{Carries, acc_of, coeffs_of}
use Rattle.hevc_residual.specs.Limits.{Statistics}
use Rattle.hevc_rules.specs.SubsAgree.{near, flag_number, flag_or, Met, begun, last_of, last_in_of}
use Rattle.hevc_residual.specs.Residual.{ctx_set_by}
use Rattle.hevc_rules.specs.SmallLaws.{flag_number_is}
use Rattle.hevc_rules.specs.SubsLaws.{flag_s, flag_no, places_t, ctx_of, wanted, rest, sub_code, places_is}
use Rattle.pen.specs.Sheet.{Sheet, entered, Wrote}
use Rattle.pen.specs.SheetLaws.{wrote_none, wrote_on, wrote_bin, wrote_call}
use Rattle.hevc_wanted.specs.Shown.{Shows}
use Rattle.hevc_levels_pen.specs.LevelsPuts.{AllInRange, InRange}
use Rattle.hevc_coeffs_pen.specs.CoeffsPuts.{GoesCoeffs}

-- ---- the accumulator: what the code has, with any block and column
abbrev pub acc_at : Carry → ℕ → List Bool → List ℤ → List ℕ → Acc
acc_at c column coded levels stats = acc_of (record { carry = c.carry; first = c.first; column = column }) coded levels stats

pub record Left (whole : S Acc) (t : Acc → S Acc) (c : Carry) (coded : List Bool) (stats : List ℕ) (w : Wanted) (s s' : Sheet) : Type 0 where
  pub levels : List ℤ
  pub column : ℕ
  pub wrote : Wrote whole (t (acc_at c column coded levels stats)) w s s'

pub record GoesSub (p : Params) (h : Head) (last lastin i : ℕ) (block : List ℤ) (coded : List Bool) (c : Carry) (stats : List ℕ) (coded' : List Bool) (c' : Carry)
    (stats' : List ℕ) (s s' : Sheet) : Type 0 where
  pub goes : (w : Wanted) → w.levels ≡ block → (levels : List ℤ) (column : ℕ)
      → Left (sub_block_s p (head_of h) (outer_of p) (inner_of p) last lastin i (acc_at c column coded levels stats)) done c' coded' stats' w s s'

-- ---- coded_sub_block_flag
module _ (middle : Bool) (number : ℕ) (s : Sheet) (flag : Bool) (want : Wanted → Bool) (w : Wanted) (q : middle ≡ true → want w ≡ flag) where
  pub coded_put : middle ≡ true → Wrote (flag_or middle number want) (done (cond middle flag true)) w s (entered (tag number flag) s)
  coded_put e =
      subst (λ m. Wrote (flag_or m number want) (done (cond m flag true)) w s (entered (tag number flag) s)) (sym e)
      (subst (λ b. Wrote (bin number want done) (done b) w s (entered (tag number b) s)) (q e) (wrote_bin w number want done s))

  pub coded_left : middle ≡ false → Wrote (flag_or middle number want) (done (cond middle flag true)) w s s
  coded_left e = subst (λ m. Wrote (flag_or m number want) (done (cond m flag true)) w s s) (sym e) (wrote_none w (done true) s)

-- the levels taken out of a block in range are in range
pub shown_in_range : (p : Params) (at : Spot) (block levels : List ℤ) → AllInRange p block
    → ((w : Wanted) → w.levels ≡ block → Shows (wanted_in p (inner_of p) at) w levels) → InRange p levels
unfolding wanted_in
shown_in_range p at block levels h shown k l =
    let w : Wanted = record { skip = false; rdpcm = of_rdpcm.None; levels = block } in
    subst (λ z. nat_abs z ≤ 2 ^ log2_transform_range p) (sym (shown w refl k l)) (h (cell_of p (spot_in (inner_of p) at k)))

-- ---- one sub-block, call after call
module _ (p : Params) (h : Head) (last lastin i xs ys : ℕ) (q : get_or (outer_of p) i (spot 0 0) ≡ spot xs ys) (block : List ℤ) (coded : List Bool) (c : Carry)
    (stats : List ℕ) (bare : Bool) (ea : (w : Wanted) → w.levels ≡ block → bare ≡ none (sig_places (wanted_in p (inner_of p) (spot xs ys)) w))
    (wid : ℕ) (ew : wid ≡ width p) (beside : ℕ) (en : beside ≡ near coded wid xs ys) (mid : Bool)
    (em : mid ≡ (ltb 0 i && ltb i last)) (number : ℕ) (eo : number ≡ flag_number p.luma beside) (s₀ s₁ : Sheet)
    (F : (want : Wanted → Bool) (w : Wanted) → (mid ≡ true → want w ≡ not bare)
    → Wrote (flag_or mid number want) (done (cond mid (not bare) true)) w s₀ s₁) where
  abbrev flag : Bool
  flag = cond mid (not bare) true

  near_is : beside ≡ near coded (width p) xs ys
  near_is = en ∙ ap (λ n. near coded n xs ys) ew

  module _ (w : Wanted) (ewl : w.levels ≡ block) (filled : List ℤ) (column : ℕ) where
    abbrev whole : S Acc
    whole = sub_block_s p (head_of h) (outer_of p) (inner_of p) last lastin i (acc_at c column coded filled stats)

    abbrev wants : Wanted → Bool
    wants = wanted p h last lastin i xs ys q

    at_flag : (b : Bool) → flag ≡ b → Wrote whole (rest p h last lastin i xs ys q (acc_at c column coded filled stats) (ctx_of p h last lastin i xs ys q coded) b) w s₀ s₁
    at_flag b eb =
        let n = flag_no p h last lastin i xs ys q coded in
        let t = flag_s p h last lastin i xs ys q wants n in
        let f : Bool → S Acc = rest p h last lastin i xs ys q (acc_at c column coded filled stats) (ctx_of p h last lastin i xs ys q coded) in
        let x : Wrote whole (t >>= f) w s₀ s₀ =
        subst (λ z. Wrote whole z w s₀ s₀)
        (sub_code p h last lastin i xs ys q (record { carry = c.carry; first = c.first; column = column }) coded filled stats) (wrote_none w whole s₀) in
        let m : number ≡ n = eo ∙ flag_number_is coded (width p) xs ys p.luma beside near_is in
        let so : wants w ≡ not bare = ap not (sym (ea w ewl)) in
        let y : Wrote t (done flag) w s₀ s₁ =
        subst (λ (z : Bool). Wrote (flag_or z n wants) (done flag) w s₀ s₁) em
        (subst (λ k. Wrote (flag_or mid k wants) (done flag) w s₀ s₁) m (F wants w (λ _. so))) in
        subst (λ z. Wrote whole (f z) w s₀ s₁) eb (wrote_call w whole t f flag s₀ s₀ s₁ x y)

  -- not coded
  pub sub_none : flag ≡ false → GoesSub p h last lastin i block coded c stats coded c stats s₀ s₁
  unfolding rest
  sub_none e = record { goes = λ w ewl filled column. record { levels = filled; column = column; wrote = at_flag w ewl filled column false e } }

  -- coded: the significance loop put the places s
  abbrev coded_now : List Bool
  coded_now = set coded (ys * wid + xs) true

  module _ (e : flag ≡ true) (single : Bool) (es : single ≡ (p.skip_context && skip_or_bypass p h.skip)) (below : ℕ)
      (eb : below ≡ cond (eqb i last) lastin 16) (met : Places) (em' : Met i last lastin met) (numbers : SigNumbers)
      (eh : (k : ℕ) → k < below → number_at numbers k ≡ sig_number p single beside xs ys k) (s : Places) (s₂ : Sheet)
      (levels : List ℤ) (shown : (w : Wanted) → w.levels ≡ block → Shows (wanted_in p (inner_of p) (spot xs ys)) w levels)
      (P : (lv : ℕ → Wanted → ℤ) (w : Wanted) → Shows lv w levels
      → Wrote (places_s lv (number_at numbers) mid below (unpacked met)) (done (unpacked s)) w s₁ s₂) where
    at_places : (w : Wanted) → w.levels ≡ block → (filled : List ℤ) (column : ℕ)
        → Wrote (sub_block_s p (head_of h) (outer_of p) (inner_of p) last lastin i (acc_at c column coded filled stats))
        (filled_s p (head_of h) (outer_of p) (inner_of p) i (spot xs ys) (acc_at c column coded_now filled stats) (unpacked s)) w s₀ s₂
    unfolding rest marked
    at_places w ewl filled column =
        let whole = sub_block_s p (head_of h) (outer_of p) (inner_of p) last lastin i (acc_at c column coded filled stats) in
        let ctx = ctx_of p h last lastin i xs ys q coded in
        let t = places_t p h last lastin i xs ys q ctx in
        let f : List ℕ → S Acc = λ ks. filled_s p (head_of h) (outer_of p) (inner_of p) i (spot xs ys) (acc_at c column (set coded (ys * width p + xs) true) filled stats) ks in
        let a : sig_number p single beside xs ys ≡ ctx = ap₂ (λ (z : Bool) n. sig_number p z n xs ys) es near_is in
        let o : places_s (wanted_in p (inner_of p) (spot xs ys)) (number_at numbers) mid below (unpacked met) ≡ t =
        places_same (wanted_in p (inner_of p) (spot xs ys)) (number_at numbers) (sig_number p single beside xs ys) mid below (unpacked met) eh
        ∙ places_is p h last lastin i xs ys q mid below (unpacked met) (sig_number p single beside xs ys) em eb em'.places
        ∙ ap (λ (ctx : ℕ → ℕ). places_t p h last lastin i xs ys q ctx) a in
        let y : Wrote t (done (unpacked s)) w s₁ s₂ =
        subst (λ z. Wrote z (done (unpacked s)) w s₁ s₂) o (P (wanted_in p (inner_of p) (spot xs ys)) w (shown w ewl)) in
        subst (λ n. Wrote whole (filled_s p (head_of h) (outer_of p) (inner_of p) i (spot xs ys) (acc_at c column (set coded (ys * n + xs) true) filled stats) (unpacked s)) w s₀ s₂)
        (sym ew) (wrote_call w whole t f (unpacked s) s₀ s₁ s₂ (at_flag w ewl filled column true e) y)

    -- no level
    pub sub_empty : s.count ≡ 0 → GoesSub p h last lastin i block coded c stats coded_now c stats s₀ s₂
    unfolding filled_s unpack
    sub_empty k =
        record {
          goes = λ w ewl filled column.
              record {
                levels = filled;
                column = column;
                wrote = subst (λ n. Wrote (sub_block_s p (head_of h) (outer_of p) (inner_of p) last lastin i (acc_at c column coded filled stats))
                    (filled_s p (head_of h) (outer_of p) (inner_of p) i (spot xs ys) (acc_at c column coded_now filled stats) (unpack s.packed n)) w s₀ s₂) k
                    (at_places w ewl filled column);
              };
        }

    -- levels
    pub sub_levels : 0 < s.count → (ctxset : ℕ) → ctxset ≡ ctx_set_by p.luma i c.first c.carry → (carry : ℕ) (stats' : List ℕ) (s₃ : Sheet)
        → GoesCoeffs p h ctxset s levels stats carry stats' s₂ s₃
        → GoesSub p h last lastin i block coded c stats coded_now (record { carry = carry; first = false; column = 0 }) stats' s₀ s₃
    unfolding filled_s unpack
    sub_levels k ctxset j carry stats' s₃ g =
        record {
          goes = λ w ewl filled column.
              let whole = sub_block_s p (head_of h) (outer_of p) (inner_of p) last lastin i (acc_at c column coded filled stats) in
              let a = acc_at c column coded_now filled stats in
              let wl = wanted_in p (inner_of p) (spot xs ys) in
              let n : s.count ≡ suc (s.count - 1) = omega arith in
              let x : Wrote whole (coeffs_of p h (spot xs ys) wl (ctx_set_of p i a) s a) w s₀ s₂ =
              subst (λ n. Wrote whole (filled_s p (head_of h) (outer_of p) (inner_of p) i (spot xs ys) a (unpack s.packed n)) w s₀ s₂) n (at_places w ewl filled column) in
              let y : Wrote whole (coeffs_of p h (spot xs ys) wl ctxset s a) w s₀ s₂ =
              subst (λ n. Wrote whole (coeffs_of p h (spot xs ys) wl n s a) w s₀ s₂) (sym j) x in
              let l = g.goes (spot xs ys) wl w (shown w ewl) a refl in
              let b = l.acc in
              let m : Acc = record {
                coded_sub_block = b.coded_sub_block;
                greater1_ctx = b.greater1_ctx;
                first = b.first;
                levels = b.levels;
                column = b.column;
                stats = b.stats;
              } in
              let ec : b.coded_sub_block ≡ coded_now = l.is.coded_is in
              let eg : b.greater1_ctx ≡ carry = l.is.carry_is in
              let ef : b.first ≡ false = l.is.first_is in
              let et : b.stats ≡ stats' = l.is.stats_are in
              let same : m ≡ acc_at (record { carry = carry; first = false; column = 0 }) b.column coded_now b.levels stats' = cc in
              let z : Wrote (coeffs_of p h (spot xs ys) wl ctxset s a) (done m) w s₂ s₃ = l.wrote in
              record {
                levels = b.levels;
                column = b.column;
                wrote = subst (λ (d : Acc). Wrote whole (done d) w s₀ s₃) same (wrote_on w whole (coeffs_of p h (spot xs ys) wl ctxset s a) (done m) s₀ s₂ s₃ y z);
              };
        }

-- ---- all of them; only the statistics that they leave are told
pub record GoesSubs (p : Params) (h : Head) (block : List ℤ) (coded : List Bool) (stats stats' : List ℕ) (s s' : Sheet) : Type 0 where
  pub goes : (w : Wanted) → w.levels ≡ block → (levels : List ℤ)
      → (a : Acc) × (a.stats ≡ stats')
      × Wrote (sub_blocks_s p (head_of h) (outer_of p) (inner_of p) (last_of p h) (last_in_of p h) (suc (last_of p h)) (acc_at begun 0 coded levels stats)) (done a) w s s'

module _ (p : Params) (h : Head) (block : List ℤ) (coded₀ : List Bool) (stats₀ : List ℕ) (s : Sheet) where
  abbrev whole₀ : List ℤ → S Acc
  whole₀ levels = sub_blocks_s p (head_of h) (outer_of p) (inner_of p) (last_of p h) (last_in_of p h) (suc (last_of p h)) (acc_at begun 0 coded₀ levels stats₀)

  abbrev left_of : ℕ → Acc → S Acc
  left_of n a = sub_blocks_s p (head_of h) (outer_of p) (inner_of p) (last_of p h) (last_in_of p h) n a

  -- in the loop, with n sub-blocks left
  pub record Walking (n : ℕ) (c : Carry) (coded : List Bool) (stats : List ℕ) (s' : Sheet) : Type 0 where
    pub few : n ≤ suc (last_of p h)
    pub long : length s'.room ≡ length s.room
    pub carries : Carries c
    pub flags : length coded ≡ width p * width p
    pub statistics : Statistics stats
    pub goes : (w : Wanted) → w.levels ≡ block → (levels : List ℤ) → Left (whole₀ levels) (left_of n) c coded stats w s s'

  pub walk_begins : length coded₀ ≡ width p * width p → Statistics stats₀ → (last : ℕ) → last ≡ last_of p h → Walking (last + 1) begun coded₀ stats₀ s
  walk_begins f m last e =
      let q : suc (last_of p h) ≡ last + 1 = omega arith in
      record {
        few = omega arith;
        long = refl;
        carries = record { carry = omega arith; column = omega arith };
        flags = f;
        statistics = m;
        goes = λ w ewl levels.
            record { levels = levels; column = 0; wrote = subst (λ n. Wrote (whole₀ levels) (left_of n (acc_at begun 0 coded₀ levels stats₀)) w s s) q (wrote_none w (whole₀ levels) s) };
      }

  module _ (n : ℕ) (c : Carry) (coded : List Bool) (stats : List ℕ) (s' : Sheet) (g : Walking n c coded stats s') where
    pub walk_ends : n ≡ 0 → Statistics stats × GoesSubs p h block coded₀ stats₀ stats s s'
    unfolding sub_blocks_s
    walk_ends q = (
      g.statistics,
      record {
        goes = λ w ewl levels.
            let l = g.goes w ewl levels in
            let a = acc_at c l.column coded l.levels stats in
            (a, refl, subst (λ n. Wrote (whole₀ levels) (left_of n a) w s s') q l.wrote);
      },
    )

    -- the next one was put
    pub walk_on : (last lastin : ℕ) → last ≡ last_of p h → lastin ≡ last_in_of p h → 0 < n → (c' : Carry) (coded' : List Bool) (stats' : List ℕ) (s'' : Sheet)
        → length s''.room ≡ length s'.room → length coded' ≡ width p * width p → Statistics stats' → Carries c'
        → GoesSub p h last lastin (n - 1) block coded c stats coded' c' stats' s' s'' → Walking (n - 1) c' coded' stats' s''
    unfolding sub_blocks_s
    walk_on last lastin el ei some c' coded' stats' s'' long f m k o =
        let o' : GoesSub p h (last_of p h) (last_in_of p h) (n - 1) block coded c stats coded' c' stats' s' s'' =
        subst (λ z. GoesSub p h (last_of p h) z (n - 1) block coded c stats coded' c' stats' s' s'') ei
        (subst (λ z. GoesSub p h z lastin (n - 1) block coded c stats coded' c' stats' s' s'') el o) in
        record {
          few = omega (arith, g.few);
          long = long ∙ g.long;
          carries = k;
          flags = f;
          statistics = m;
          goes = λ w ewl levels.
              let l = g.goes w ewl levels in
              let a = acc_at c l.column coded l.levels stats in
              let e : n ≡ suc (n - 1) = omega arith in
              let t = sub_block_s p (head_of h) (outer_of p) (inner_of p) (last_of p h) (last_in_of p h) (n - 1) a in
              let x : Wrote (whole₀ levels) (t >>= left_of (n - 1)) w s s' = subst (λ n. Wrote (whole₀ levels) (left_of n a) w s s') e l.wrote in
              let r = o'.goes w ewl l.levels l.column in
              record {
                levels = r.levels;
                column = r.column;
                wrote = wrote_call w (whole₀ levels) t (left_of (n - 1)) (acc_at c' r.column coded' r.levels stats') s s' s'' x r.wrote;
              };
        }
