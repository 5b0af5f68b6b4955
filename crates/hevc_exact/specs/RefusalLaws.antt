-- write_refusal gives 0 exactly for what can be written. Assumes nothing.
use Prim.Native.Nat.{ℕ, zero, suc, ◌+◌, ◌-◌, ◌*◌, ◌^◌, ◌≤◌, ◌<◌}
use Rattle.std.specs.Prelude.{◌≡◌, Bool, ◌&&◌, cond, ltb, eqb, ℤ, pos, nat_abs, length, get_or}
use Rattle.std.proofs.Math.Path.{refl, sym}
use Rattle.std.proofs.Common.{ap, ◌∙◌, arith, pow_pos, ltb-true, lt-ltb, ne_eqb}
use Rattle.std.proofs.Math.Bool.{true, false, not}
use Rattle.std.specs.Bool.{beq}
use mathlib.Core.List.{List, [], ◌∷◌}
use Rattle.std.proofs.lemmas.Bool.{eqb-false, not-false}
use Rattle.hevc_residual.specs.declared.params.Params.{Params}
use Rattle.bins.specs.Readers.{odd}
use Rattle.hevc_residual.specs.Scan.{Spot, spot}
use Rattle.hevc_residual.specs.Wanted.{Wanted, area, width, negative, outer_of, inner_of, wanted_in, is_sig, sig_places}
use Rattle.hevc_residual.specs.Head.{skip_coded, rdpcm_coded, rdpcm_flag}
use Rattle.hevc_residual.specs.Remainder.{in_range, log2_transform_range}
use Rattle.hevc_residual.specs.SubBlock.{sign_hidden}
use Rattle.hevc_residual.specs.Refusal.{all_zero, too_far, not_coded, sum_over, disagrees, any_disagrees, write_refusal}
use Rattle.trees.specs.ReaderLaws.{clash, both_off, or_false}
use Rattle.trees.specs.LevelLaws.{zero_false, false_zero, far_false, false_far}
use Rattle.hevc_exact.specs.LevelLaws.{Tail}
use Rattle.hevc_exact.specs.SubBlockLaws.{sigs, lv_at, cell_at, Fits}
use Rattle.hevc_exact.specs.ResidualLaws.{Writable, outs, grid, lv_cell, whole_places}
use Rattle.trees.specs.ListLaws.{all_map, down_falling, falling_below, down_at, down_all, not_zero}

-- ---- 10: skip and RDPCM are set only where they are coded
not_both : (a x : Bool) → (a && not x) ≡ false → a ≡ true → x ≡ true
not_both true x e q = not-false x e
not_both false x e q = clash refl q

both_not : (a x : Bool) → (a ≡ true → x ≡ true) → (a && not x) ≡ false
both_not true x f = rw (f refl)
both_not false x f = refl

-- ---- 11: a hidden sign agrees with the sum
same_of : (a c : Bool) → not (beq a c) ≡ false → a ≡ c
same_of true true e = refl
same_of true false e = clash e refl
same_of false true e = clash e refl
same_of false false e = refl

of_same : (a c : Bool) → a ≡ c → not (beq a c) ≡ false
of_same true c e = rw (← e)
of_same false c e = rw (← e)

-- lv says what is wanted in a sub-block, whose significant places are ks
module _ (p : Params) (w : Wanted) (lv : ℕ → Wanted → ℤ) where
  sum_is : (ks : List ℕ) → odd (sum_over lv w ks) ≡ odd (0 + sum_over lv w ks)
  sum_is ks = let q : sum_over lv w ks ≡ 0 + sum_over lv w ks = omega arith in ap odd q

  hidden_agrees : (T : ℕ) (ks : List ℕ) → disagrees p w lv ks ≡ false → sign_hidden p w.skip w.rdpcm ks ≡ true → Tail T lv w ks 0
  unfolding disagrees
  hidden_agrees T [] d q = tt
  hidden_agrees T (k ∷ ks) d q = same_of _ _ (right (sign_hidden p w.skip w.rdpcm (k ∷ ks)) _ d q) ∙ sum_is (k ∷ ks)
    where
      right : (a c : Bool) → (a && c) ≡ false → a ≡ true → c ≡ false
      right true c d q = d
      right false c d q = clash refl q

  agrees_hidden : (T : ℕ) (ks : List ℕ) → (sign_hidden p w.skip w.rdpcm ks ≡ true → Tail T lv w ks 0) → disagrees p w lv ks ≡ false
  unfolding disagrees
  agrees_hidden T [] f = refl
  agrees_hidden T (k ∷ ks) f = left (sign_hidden p w.skip w.rdpcm (k ∷ ks)) _ (λ q. of_same _ _ (f q ∙ sym (sum_is (k ∷ ks))))
    where
      left : (a c : Bool) → (a ≡ true → c ≡ false) → (a && c) ≡ false
      left true c g = g refl
      left false c g = refl

module _ (p : Params) (w : Wanted) (inner : List Spot) where
  -- at the significant places of sub-block s
  abbrev disagrees_at : Spot → Bool
  disagrees_at s = disagrees p w (wanted_in p inner s) (sig_places (wanted_in p inner s) w)

  any_false : (bs : List Spot) → any_disagrees p w inner bs ≡ false → (i : ℕ) → i < length bs → disagrees_at (get_or bs i (spot 0 0)) ≡ false
  unfolding any_disagrees
  any_false [] e i h = absurd (omega arith)
  any_false (s ∷ bs) e zero h = (or_false (disagrees_at s) (any_disagrees p w inner bs) e).0
  any_false (s ∷ bs) e (suc i) h = any_false bs (or_false (disagrees_at s) (any_disagrees p w inner bs) e).1 i (omega arith)

  false_any : (bs : List Spot) → ((i : ℕ) → i < length bs → disagrees_at (get_or bs i (spot 0 0)) ≡ false) → any_disagrees p w inner bs ≡ false
  unfolding any_disagrees
  false_any [] f = refl
  false_any (s ∷ bs) f = rw (f 0 (omega arith), false_any bs (λ i h. f (suc i) (omega arith)))

-- ---- all of them
abbrev refusal_by : Bool → Bool → Bool → Bool → ℕ
refusal_by a b c d = cond a 9 (cond b 10 (cond c 8 (cond d 11 0)))

four : (a b c d : Bool) → refusal_by a b c d ≡ 0 → (a ≡ false) × (b ≡ false) × (c ≡ false) × (d ≡ false)
four true b c d e = absurd (omega arith)
four false true c d e = absurd (omega arith)
four false false true d e = absurd (omega arith)
four false false false true e = absurd (omega arith)
four false false false false e = (refl, refl, refl, refl)

four_back : (a b c d : Bool) → a ≡ false → b ≡ false → c ≡ false → d ≡ false → refusal_by a b c d ≡ 0
four_back a b c d p q r s = rw (p, q, r, s)

refusal_most : (a b c d : Bool) → refusal_by a b c d ≤ 11
refusal_most true b c d = omega arith
refusal_most false true c d = omega arith
refusal_most false false true d = omega arith
refusal_most false false false true = omega arith
refusal_most false false false false = omega arith

zero_ranged : (t : ℕ) (z : ℤ) → ltb 0 (nat_abs z) ≡ false → in_range t (negative z) (nat_abs z) ≡ true
zero_ranged t z e = rw (not_zero z e) (lt-ltb 0 (2 ^ t) (pow_pos t))

-- what is not refused is not refused by 8
pub refusal_near : (p : Params) (b : Wanted) → write_refusal p b ≡ 0 → too_far (log2_transform_range p) b.levels ≡ false
unfolding write_refusal
refusal_near p b e =
    (four (all_zero b.levels) (not_coded p b) (too_far (log2_transform_range p) b.levels) (any_disagrees p b (inner_of p) (outer_of p)) e).2

pub refusal_below : (p : Params) (b : Wanted) → write_refusal p b ≤ 11
unfolding write_refusal
refusal_below p b =
    refusal_most (all_zero b.levels) (not_coded p b) (too_far (log2_transform_range p) b.levels) (any_disagrees p b (inner_of p) (outer_of p))

module _ (p : Params) (low : 2 ≤ p.log2) (high : p.log2 ≤ 5) (scans : p.scan ≤ 2) (b : Wanted) (long : length b.levels ≡ area p) where
  -- a sub-block fits where nothing is refused
  sub_fits : too_far (log2_transform_range p) b.levels ≡ false → any_disagrees p b (inner_of p) (outer_of p) ≡ false
      → (j : ℕ) → j < width p * width p → Fits p b b.skip b.rdpcm j (sigs p b j)
  sub_fits far dis j hj =
      let lv = lv_at p j in
      let ks = sigs p b j in
      let agrees : disagrees p b lv ks ≡ false = any_false p b (inner_of p) (outer_of p) dis j (omega (arith, (outs p low high scans b).long)) in
      record {
        sizes = all_map ks (λ k e. ltb-true 0 (nat_abs (lv k b)) e) (down_all (is_sig lv b) 16);
        ranged = all_map ks
            (λ k hk. rw (lv_cell p low high scans b j k)
            (far_false (log2_transform_range p) b.levels far (cell_at p j k)
            (omega (arith, (grid p low high scans b).inside j k hj hk))))
            (falling_below 16 ks (down_falling (is_sig lv b) 16));
        hidden = hidden_agrees p b lv (log2_transform_range p) ks agrees;
      }

  pub refusal_none : write_refusal p b ≡ 0 → Writable p b
  unfolding write_refusal not_coded
  refusal_none e =
      let f = four (all_zero b.levels) (not_coded p b) (too_far (log2_transform_range p) b.levels) (any_disagrees p b (inner_of p) (outer_of p)) e in
      let n = or_false (b.skip && not (skip_coded p)) (rdpcm_flag b.rdpcm && not (rdpcm_coded p b.skip)) f.1 in
      let z = zero_false b.levels f.0 in
      record {
        long = long;
        skips = not_both b.skip (skip_coded p) n.0;
        explicit = not_both (rdpcm_flag b.rdpcm) (rdpcm_coded p b.skip) n.1;
        some = (z.0, omega (arith, z.1), z.2);
        fits = sub_fits f.2 f.3;
      }

  module _ (w : Writable p b) where
    -- a level that is not zero is one of its sub-block's, and is in range
    all_ranged : (j k : ℕ) → j < width p * width p → k < 16
        → in_range (log2_transform_range p) (negative (lv_at p j k b)) (nat_abs (lv_at p j k b)) ≡ true
    all_ranged j k hj hk = go (is_sig lv b k) refl
      where
        lv : ℕ → Wanted → ℤ
        lv = lv_at p j

        go : (d : Bool) → is_sig lv b k ≡ d → in_range (log2_transform_range p) (negative (lv k b)) (nat_abs (lv k b)) ≡ true
        go true e = down_at (λ k. in_range (log2_transform_range p) (negative (lv k b)) (nat_abs (lv k b)) ≡ true) (is_sig lv b) 16 (w.fits j hj).ranged k hk e
        go false e = zero_ranged (log2_transform_range p) (lv k b) e

    none_far : too_far (log2_transform_range p) b.levels ≡ false
    none_far = false_far (log2_transform_range p) b.levels (λ c hc.
        whole_places p low high scans b (λ c. in_range (log2_transform_range p) (negative (get_or b.levels c (pos 0))) (nat_abs (get_or b.levels c (pos 0))) ≡ true)
        (λ j k hj hk. rw (lv_cell p low high scans b j k) at (all_ranged j k hj hk)) c (omega arith))

    none_disagrees : any_disagrees p b (inner_of p) (outer_of p) ≡ false
    none_disagrees = false_any p b (inner_of p) (outer_of p) (λ j hj.
        agrees_hidden p b (lv_at p j) (log2_transform_range p) (sigs p b j)
        (w.fits j (omega (arith, (outs p low high scans b).long))).hidden)

    pub none_refusal : write_refusal p b ≡ 0
    unfolding write_refusal not_coded
    none_refusal =
        let z = w.some in
        four_back (all_zero b.levels) (not_coded p b) (too_far (log2_transform_range p) b.levels) (any_disagrees p b (inner_of p) (outer_of p))
        (false_zero b.levels z.0 (omega (arith, z.1)) z.2)
        (both_off (b.skip && not (skip_coded p)) (rdpcm_flag b.rdpcm && not (rdpcm_coded p b.skip)) (both_not b.skip (skip_coded p) w.skips)
        (both_not (rdpcm_flag b.rdpcm) (rdpcm_coded p b.skip) w.explicit))
        none_far none_disagrees
