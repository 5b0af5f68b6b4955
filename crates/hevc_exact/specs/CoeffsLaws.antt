-- The tree of a sub-block's levels, exact. Assumes nothing.
use Prim.Native.Nat.{ℕ, suc, ◌+◌, ◌-◌, ◌/◌, ◌^◌, ◌≤◌, ◌<◌, min}
use Rattle.std.specs.Prelude.{◌≡◌, Bool, true, ◌&&◌, ◌||◌, ℤ, pos}
use Rattle.std.proofs.Math.Path.{refl}
use Rattle.std.proofs.Common.{sym, ◌∙◌, arith, get_or-set_same, get_or-set_other, ltb-true, lt-ltb}
use Rattle.std.proofs.Math.Bool.{false, not, cond}
use mathlib.Core.List.{List, [], ◌∷◌}
use Rattle.std.proofs.Math.Pow.{pow_mono}
use Rattle.std.proofs.Math.Dec.{ltb}
use Rattle.std.proofs.Math.IntN.{nat_abs}
use Rattle.std.proofs.Math.ListN.{length, get_or, set, length-set}
use Rattle.hevc_residual.specs.declared.params.Params.{Params}
use Rattle.bins.specs.Engine.{bit_no}
use Rattle.hevc_residual.specs.Scan.{Spot}
use Rattle.hevc_residual.specs.Wanted.{Wanted, cell_of, negative, is_big}
use Rattle.hevc_residual.specs.Head.{Head}
use Rattle.hevc_residual.specs.Remainder.{signed, in_range, log2_transform_range, rice_next, stat_next}
use Rattle.hevc_residual.specs.Limits.{Statistics}
use Rattle.hevc_residual.specs.LimitLaws.{stats_set, range_small, range_most, rice_most, stat_most, cond_most}
use Rattle.hevc_residual.specs.SubBlock.{Due, Filled, negative_now, column_so_far, levels_s, Acc, sb_type, dues, count_of, escape_data_present, sign_hidden, first_greater1, signs_no, coeffs_s}
use Rattle.trees.specs.TreeLaws.{Writes, writes_done, writes_align, writes_bind, writes_as, Exact, exact_done, exact_stop, exact_align, exact_bind, exact_as}
use Rattle.trees.specs.ReaderLaws.{clash, writes_if, exact_if, bits_writes, bits_exact, flag_writes_if, flag_exact_if}
use Rattle.hevc_bounds.specs.ResidualBounds.{Bases, dues_bases}
use Rattle.hevc_exact.specs.RemainderLaws.{remainder_writes, remainder_exact}
use Rattle.hevc_exact.specs.LevelLaws.{places_of_dues, size, AllBased, AllSigns, Reads, reads_made, reads_level, reads_mean, dues_places, NotZero, InRange, Tail, based_made, BinsMean, based_means, signs_form, signs_made, signs_ranged, signs_mean, signs_hidden}
use Rattle.hevc_exact.specs.PlaceLaws.{said_of_lem, said_is, greater1_writes, greater1_exact}
use Rattle.trees.specs.ListLaws.{All}

bit_most : (d : Bool) → bit_no d ≤ 1
bit_most true = omega arith
bit_most false = omega arith

bit_true : (d : Bool) → d ≡ true → bit_no d ≡ 1
bit_true d e = rw e

-- ---- where levels go
module _ (p : Params) (lv : ℕ → Wanted → ℤ) (spot_of : ℕ → Spot) (b : Wanted) where
  -- the place in the block, row by row, of a place of the sub-block's scan
  abbrev pub cell : ℕ → ℕ
  cell k = cell_of p (spot_of k)

  -- the levels at the places ks are those wanted
  abbrev pub Got : List ℤ → List ℕ → Type 0
  Got l ks = All (λ k. get_or l (cell k) (pos 0) ≡ lv k b) ks

  abbrev pub Apart : ℕ → List ℕ → Type 0
  Apart i ks = All (λ k. i ≡ cell k → ⊥) ks

  -- the places lie apart, in a block of n levels
  abbrev pub Cells : ℕ → List ℕ → Type 0
  Cells n [] = Unit {0}
  Cells n (k ∷ ks) = (cell k < n) × Apart (cell k) ks × Cells n ks

  -- only levels at the places ks have changed
  pub record Kept (l m : List ℤ) (ks : List ℕ) : Type 0 where
    pub same : (i : ℕ) → Apart i ks → get_or m i (pos 0) ≡ get_or l i (pos 0)
    pub long : length m ≡ length l

  kept_set : (l m : List ℤ) (k : ℕ) (ks : List ℕ) (z : ℤ) → Kept (set l (cell k) z) m ks → Kept l m (k ∷ ks)
  kept_set l m k ks z h = record {
    same = λ i a. h.same i a.1 ∙ get_or-set_other l (cell k) i z (pos 0) a.0;
    long = h.long ∙ length-set l (cell k) z;
  }

  -- and the level stored at k is still there
  kept_at : (l m : List ℤ) (k : ℕ) (ks : List ℕ) (z : ℤ) → cell k < length l → Apart (cell k) ks → Kept (set l (cell k) z) m ks
      → get_or m (cell k) (pos 0) ≡ z
  kept_at l m k ks z h a r = r.same (cell k) a ∙ get_or-set_same l (cell k) z (pos 0) h

  -- ---- the levels
  pub levels_writes : p.depth ≤ 16 → (ds : List Due) (n signs r : ℕ) (had : Bool) (sum : ℕ) (f : Filled)
      → Bases ds → AllBased (log2_transform_range p) lv b ds → AllSigns (log2_transform_range p) lv b (places_of_dues ds) n signs sum
      → Cells (length f.levels) (places_of_dues ds) → r ≤ 21 → f.stat ≤ 84
      → Writes (levels_s p lv spot_of ds n signs r had sum f) b
      (λ g. Got g.levels (places_of_dues ds) × Kept f.levels g.levels (places_of_dues ds) × (g.stat ≤ 84))
  unfolding levels_s
  levels_writes deep [] n signs r had sum f o a s c hr hs = writes_done (tt, record { same = λ i q. refl; long = refl }, hs)
  levels_writes deep (d ∷ ds) n signs r had sum f o a s c hr hs =
      let t = log2_transform_range p in
      let t22 : 2 ^ t ≤ 2 ^ 22 = pow_mono (range_small p deep) in
      let most : size t lv b d.at ≤ 2 ^ t = range_most t (negative (lv d.at b)) (size t lv b d.at) s.0.ranged in
      writes_bind {P = λ v. v ≡ size t lv b d.at - d.base_level} (writes_if d.more
      (λ q. remainder_writes p r (λ w. nat_abs (lv d.at w) - d.base_level) b deep hr (omega (arith, o.0, a.0.least)))
      (λ q. writes_done (omega (arith, a.0.whole q))))
      (λ v e.
      let m = d.base_level + v in
      let neg = negative_now n signs (sum + m) in
      let i = reads_made t lv b d n signs sum v a.0 s.0 e in
      let l = set f.levels (cell d.at) (signed neg m) in
      writes_if (in_range t neg m)
      (λ q. writes_as (levels_writes deep ds (n - 1) signs (cond d.more (rice_next p r m) r) (had || d.more) (sum + m) (record {
        levels = l;
        column = column_so_far f.column (spot_of d.at);
        stat = cond (d.more && (p.persistent && not had)) (stat_next f.stat v) f.stat;
      })
      o.1 a.1 (rw i.whole s.1) (rw length-set c.2)
      (cond_most d.more (rice_next p r m) r 21 (rice_most p r m hr (omega (arith, i.whole))) hr)
      (cond_most (d.more && (p.persistent && not had)) (stat_next f.stat v) f.stat 84 (stat_most f.stat v hs (omega (arith, e, o.0, a.0.least))) hs))
      (λ g h. (
        (kept_at f.levels g.levels d.at (places_of_dues ds) (signed neg m) c.0 c.1 h.1 ∙ i.level, h.0),
        kept_set f.levels g.levels d.at (places_of_dues ds) (signed neg m) h.1,
        h.2,
      )))
      (λ q. clash q i.ranged))

  pub levels_exact : (ds : List Due) (n signs r : ℕ) (had : Bool) (sum : ℕ) (f : Filled)
      → Bases ds → Cells (length f.levels) (places_of_dues ds)
      → Exact (levels_s p lv spot_of ds n signs r had sum f) b
      (λ g. Kept f.levels g.levels (places_of_dues ds)
      × (Got g.levels (places_of_dues ds) → AllBased (log2_transform_range p) lv b ds × AllSigns (log2_transform_range p) lv b (places_of_dues ds) n signs sum))
      (λ g. Got g.levels (places_of_dues ds))
  unfolding levels_s
  levels_exact [] n signs r had sum f o c = exact_done (record { same = λ i q. refl; long = refl }, λ q. (tt, tt))
  levels_exact (d ∷ ds) n signs r had sum f o c =
      let t = log2_transform_range p in
      exact_bind {U = λ v. d.more ≡ false → v ≡ 0} {P = λ v. v ≡ size t lv b d.at - d.base_level} (exact_if d.more
      (λ q. exact_as (remainder_exact p r (λ w. nat_abs (lv d.at w) - d.base_level) b) (λ v g. ((λ h. clash h q), λ e. e)))
      (λ q. exact_done (λ h. refl)))
      (λ v u.
      let m = d.base_level + v in
      let neg = negative_now n signs (sum + m) in
      let l = set f.levels (cell d.at) (signed neg m) in
      exact_if (in_range t neg m)
      (λ q. exact_as (levels_exact ds (n - 1) signs (cond d.more (rice_next p r m) r) (had || d.more) (sum + m) (record {
        levels = l;
        column = column_so_far f.column (spot_of d.at);
        stat = cond (d.more && (p.persistent && not had)) (stat_next f.stat v) f.stat;
      }) o.1 (rw length-set c.2))
      (λ g h.
      let i : Got g.levels (d.at ∷ places_of_dues ds) → Reads t lv b d n signs sum v = λ w.
      reads_level t lv b d n signs sum v o.0 q
      (sym (kept_at f.levels g.levels d.at (places_of_dues ds) (signed neg m) c.0 c.1 h.0) ∙ w.0) in (
        (
          (
            kept_set f.levels g.levels d.at (places_of_dues ds) (signed neg m) h.0,
            λ w.
                let one = reads_mean t lv b d n signs sum v o.0 u (i w) in
                let rest = h.1 w.1 in
                ((one.0, rest.0), (one.1, rw (i w).whole at rest.1)),
          ),
          λ w. omega (arith, (i w).whole),
        ),
        λ w. w.1,
      )))
      (λ q. exact_stop))

  -- ---- the sub-block
  -- what the levels at the significant places must be; hid: the lowest's sign is hidden
  pub record SubFits (hid : Bool) (ks : List ℕ) : Type 0 where
    pub sizes : All (NotZero (log2_transform_range p) lv b) ks
    pub ranged : All (InRange (log2_transform_range p) lv b) ks
    pub hidden : hid ≡ true → Tail (log2_transform_range p) lv b ks 0

  module _ (h : Head) (gset k : ℕ) (ks : List ℕ) (a : Acc) (cells : Cells (length a.levels) (k ∷ ks)) where
    hid : Bool
    hid = sign_hidden p h.skip h.rdpcm (k ∷ ks)

    pub record WroteCoeffs (r : Acc) : Type 0 where
      pub got : Got r.levels (k ∷ ks)
      pub kept : Kept a.levels r.levels (k ∷ ks)
      pub small : Statistics r.stats

    pub coeffs_writes : p.depth ≤ 16 → Statistics a.stats → SubFits (sign_hidden p h.skip h.rdpcm (k ∷ ks)) (k ∷ ks)
        → Writes (coeffs_s p h lv spot_of gset k ks a) b WroteCoeffs
    unfolding coeffs_s hid
    coeffs_writes deep st s =
        let t = log2_transform_range p in
        let n = suc (length ks) in
        writes_bind (greater1_writes lv _ b 8 (k ∷ ks) (record { bins = []; greater1_ctx = 1 })) (λ g hg.
        let ones = count_of g.bins in
        writes_bind (flag_writes_if _ (λ w. ltb 2 (nat_abs (lv (first_greater1 (k ∷ ks) g.bins) w))) b (ltb 0 ones)) (λ g2 h2.
        let coded = n - bit_no hid in
        let all : coded + bit_no hid ≡ length (k ∷ ks) = omega (arith, bit_most hid) in
        let form = signs_form t lv b coded (k ∷ ks) 0 (omega arith) in
        let ds = dues (k ∷ ks) g.bins false g2 in
        let pl : places_of_dues ds ≡ k ∷ ks = dues_places (k ∷ ks) g.bins false g2 in
        let stat = get_or a.stats (sb_type p h) 0 in
        let rest : Writes _ b WroteCoeffs =
        writes_bind (bits_writes (λ w. signs_no lv coded (k ∷ ks) w 0) b coded (omega (arith, form.1, form.2))) (λ signs hs.
        writes_bind (levels_writes deep ds coded signs (cond p.persistent (stat / 4) 0) false 0 (record { levels = a.levels; column = a.column; stat = stat })
        (dues_bases (k ∷ ks) g.bins false g2)
        (based_made t lv b (k ∷ ks) g.bins false g2 (rw hg (said_of_lem (is_big lv b) 8 (k ∷ ks))) s.sizes (λ q c. h2.1 (lt-ltb 0 ones c)))
        (rw pl (signs_made t lv b (k ∷ ks) coded hid signs 0 0 s.ranged all hs s.hidden))
        (rw pl cells)
        (cond_most p.persistent (stat / 4) 0 21 (omega (arith, st (sb_type p h))) (omega arith))
        (st (sb_type p h)))
        (λ f hf. writes_done (record {
          got = rw pl at hf.0;
          kept = rw pl at hf.1;
          small = stats_set a.stats (sb_type p h) f.stat st hf.2;
        }))) in
        writes_if (p.aligning && escape_data_present n ones g2) (λ q. writes_align rest) (λ q. rest)))

    pub record ReadCoeffs (r : Acc) : Type 0 where
      pub kept : Kept a.levels r.levels (k ∷ ks)
      pub fits : Got r.levels (k ∷ ks) → SubFits (sign_hidden p h.skip h.rdpcm (k ∷ ks)) (k ∷ ks)

    pub coeffs_exact : Exact (coeffs_s p h lv spot_of gset k ks a) b ReadCoeffs (λ r. Got r.levels (k ∷ ks))
    unfolding coeffs_s hid
    coeffs_exact =
        let t = log2_transform_range p in
        let n = suc (length ks) in
        exact_bind (greater1_exact lv _ b 8 (k ∷ ks) (record { bins = []; greater1_ctx = 1 })) (λ g hg.
        let ones = count_of g.bins in
        let many : length g.bins ≡ min 8 (length (k ∷ ks)) = rw (← hg.1) at hg.2 in
        exact_bind (flag_exact_if _ (λ w. ltb 2 (nat_abs (lv (first_greater1 (k ∷ ks) g.bins) w))) b (ltb 0 ones)) (λ g2 h2.
        let coded = n - bit_no hid in
        let ds = dues (k ∷ ks) g.bins false g2 in
        let pl : places_of_dues ds ≡ k ∷ ks = dues_places (k ∷ ks) g.bins false g2 in
        let stat = get_or a.stats (sb_type p h) 0 in
        let rest =
        exact_bind (bits_exact (λ w. signs_no lv coded (k ∷ ks) w 0) b coded) (λ signs hs.
        exact_bind (levels_exact ds coded signs (cond p.persistent (stat / 4) 0) false 0 (record { levels = a.levels; column = a.column; stat = stat })
        (dues_bases (k ∷ ks) g.bins false g2) (rw pl cells))
        (λ f hf.
        let means : Got f.levels (k ∷ ks) → BinsMean t lv b (k ∷ ks) g.bins false g2 × AllSigns t lv b (k ∷ ks) coded signs 0 = λ q.
        let u = hf.1 (rw pl q) in
        (based_means t lv b (k ∷ ks) g.bins false g2 (omega arith) u.0, rw pl at u.1) in
        exact_done ((
          (
            (
              (
                record {
                  kept = rw pl at hf.0;
                  fits = λ q. record {
                    sizes = (means q).0.sizes;
                    ranged = signs_ranged t lv b (k ∷ ks) coded signs 0 (means q).1;
                    hidden = λ e. signs_hidden t lv b ks k coded signs 0 (omega (arith, bit_true hid e)) (means q).1;
                  };
                },
                λ q. said_is (is_big lv b) 8 g.bins (k ∷ ks) (means q).0.said many,
              ),
              λ q e. (means q).0.second refl (ltb-true 0 ones e),
            ),
            λ q. signs_mean t lv b coded (k ∷ ks) 0 signs signs 0 (omega arith) hs (omega arith) (means q).1,
          ),
          λ q. rw pl q,
        )))) in
        exact_if (p.aligning && escape_data_present n ones g2) (λ q. exact_align rest) (λ q. rest)))
