-- The greater1 loop as its code goes: what is left to run, and one lemma for each way out. Assumes nothing.
use Rattle.std.specs.Prelude.{ℕ, suc, ◌+◌, ◌-◌, ◌^◌, ◌≤◌, ◌<◌, min, ◌≡◌, Bool, true, false, List, [], ◌∷◌, ◌++◌, ℤ, length, get_or, drop, ltb, eqb}
use Rattle.std.proofs.Math.Path.{refl}
use Rattle.std.proofs.Common.{sym, ap, subst, ◌∙◌, arith, add-one, drop_of_length-le, drop-cons, ltb-true, ltb-false}
use Rattle.bins.specs.declared.state.Interval.{Interval}
use Rattle.bins.specs.declared.state.Refusal.{Refusal}
use Rattle.bins.specs.Engine.{bit_no}
use Rattle.bins.specs.Syn.{done, bin, ◌>>=◌, Out}
use Rattle.bins.specs.Sources.{cursor, by_code, stopped, Step, got}
use Rattle.bins.specs.Laws.{RefusedBy, bind_ok, bind_no}
use Rattle.hevc_residual.specs.Wanted.{Wanted, is_big}
use Rattle.hevc_residual.specs.SubBlock.{greater1_s, greater1_ctx_next}
use Rattle.hevc_elements.specs.Agree.{Reads, from, SaysFlag, reads_on, flag_ok, flag_no_lem}
use Rattle.hevc_elements.specs.ShapeLaws.{run_done}
use Rattle.hevc_places.specs.Packing.{unmask}
use Rattle.hevc_places.specs.PackingLaws.{bit_back, bit_most, mask_with, mask_small, mask_fits, mask_is}
use Rattle.hevc_rules.specs.GreaterAgree.{none}
use Rattle.hevc_rules.specs.GreaterLaws.{greater_end, greater_out, on_from, greater_more, marked}

module _ (s : Bool) (l : List ℕ) (base n : ℕ) where
  -- what is left to run gives what the whole gives
  pub record Marking (x : Interval) (cs : List ℕ) (y : Interval) (ds : List ℕ) (mask carry j : ℕ) : Type 0 where
    pub few : j ≤ n
    pub reads : Reads s l y ds
    pub small : mask < 2 ^ j
    pub low : carry ≤ 3
    pub left : (lv : ℕ → Wanted → ℤ) (ks : List ℕ) → min 8 (length ks) ≡ n
        → from s l (greater1_s lv base 8 ks none) x cs ≡ from s l (greater1_s lv base (8 - j) (drop j ks) (marked mask j carry)) y ds

  pub marking_begins : (x : Interval) (cs : List ℕ) → Reads s l x cs → Marking x cs x cs 0 1 0
  unfolding unmask
  marking_begins x cs h =
      record { few = omega arith; reads = h; small = omega arith; low = omega arith; left = λ lv ks m. refl }

  module _ (x : Interval) (cs : List ℕ) (y : Interval) (ds : List ℕ) (mask carry j : ℕ) (h : Marking x cs y ds mask carry j) where
    -- all n were read
    pub marking_ends : n ≤ j → (lv : ℕ → Wanted → ℤ) (ks : List ℕ) → min 8 (length ks) ≡ n
        → (mask < 2 ^ n) × (carry ≤ 3) × (from s l (greater1_s lv base 8 ks none) x cs ≡ Out.ok (marked mask n carry) (cursor y ds))
    marking_ends e lv ks m =
        let q : j ≡ n = omega (arith, h.few) in (
          subst (λ z. mask < 2 ^ z) q h.small,
          h.low,
          h.left lv ks m ∙ go (ltb (length ks) 8) refl ∙ run_done s l (marked mask j carry) y ds ∙ ap (λ z. Out.ok (marked mask z carry) (cursor y ds)) q,
        )
      where
        go : (b : Bool) → ltb (length ks) 8 ≡ b
            → from s l (greater1_s lv base (8 - j) (drop j ks) (marked mask j carry)) y ds ≡ from s l (done (marked mask j carry)) y ds
        go true q =
            let i : length ks ≤ j = omega (arith, ltb-true (length ks) 8 q) in
            ap (λ z. from s l (greater1_s lv base (8 - j) z (marked mask j carry)) y ds) (drop_of_length-le ks i)
            ∙ ap (λ t. from s l t y ds) (greater_end lv base (8 - j) (marked mask j carry))
        go false q =
            let i : 8 - j ≡ 0 = omega (arith, ltb-false (length ks) 8 q) in
            ap (λ z. from s l (greater1_s lv base z (drop j ks) (marked mask j carry)) y ds) i
            ∙ ap (λ t. from s l t y ds) (greater_out lv base (drop j ks) (marked mask j carry))

    module _ (more : j < n) (most : n ≤ 8) where
      next_left : (lv : ℕ → Wanted → ℤ) (ks : List ℕ) → min 8 (length ks) ≡ n → from s l (greater1_s lv base 8 ks none) x cs
          ≡ from s l (bin (base + carry) (λ t. is_big lv t (get_or ks j 0)) done >>= on_from lv base (8 - suc j) (drop (suc j) ks) (marked mask j carry)) y ds
      next_left lv ks m =
          let e : 8 - j ≡ suc (8 - suc j) = omega arith in
          let i : j < length ks = omega arith in
          let c : min carry 3 ≡ carry = omega (arith, h.low) in
          h.left lv ks m ∙ ap (λ z. from s l (greater1_s lv base z (drop j ks) (marked mask j carry)) y ds) e
          ∙ ap (λ z. from s l (greater1_s lv base (suc (8 - suc j)) z (marked mask j carry)) y ds) (drop-cons ks j 0 i)
          ∙ ap (λ t. from s l t y ds) (greater_more lv base (8 - suc j) (get_or ks j 0) (drop (suc j) ks) (marked mask j carry))
          ∙ ap (λ z. from s l (bin (base + z) (λ t. is_big lv t (get_or ks j 0)) done >>= on_from lv base (8 - suc j) (drop (suc j) ks) (marked mask j carry)) y ds) c

      -- r is what the bin answered, es the contexts behind it
      module _ (r : Step) (es : List ℕ) (e : (w : Wanted → Bool) → SaysFlag r es (from s l (bin (base + carry) w done) y ds)) where
        pub marking_refused : (v : Refusal) → r ≡ stopped v → (lv : ℕ → Wanted → ℤ) (ks : List ℕ) → min 8 (length ks) ≡ n
            → RefusedBy v (from s l (greater1_s lv base 8 ks none) x cs)
        marking_refused v q lv ks m =
            let w : Wanted → Bool = λ t. is_big lv t (get_or ks j 0) in
            let f = bind_no (by_code s l) (bin (base + carry) w done) (on_from lv base (8 - suc j) (drop (suc j) ks) (marked mask j carry)) (cursor y ds) v
            (flag_no_lem r v es _ (e w) q) in
            (f.0, next_left lv ks m ∙ f.1)

        module _ (v : ℕ) (z : Interval) (q : r ≡ got v z) where
          pub marking_bit : v ≤ 1
          marking_bit = let f = flag_ok r v z es _ (e (λ t. false)) q in bit_most v f.0 f.1

          pub marking_fits : mask_with mask j v < 4294967296
          marking_fits =
              let f = flag_ok r v z es _ (e (λ t. false)) q in
              subst (λ u. mask_with mask j u < 4294967296) (sym f.1) (mask_fits mask j f.0 h.small (omega arith))

          pub marking_on : (c : ℕ) → (c ≡ greater1_ctx_next (eqb v 1) carry) × (c ≤ 3) → Marking x cs z es (mask_with mask j v) c (j + 1)
          marking_on c d =
              let f = flag_ok r v z es _ (e (λ t. false)) q in
              let a : mask_with mask j (bit_no f.0) < 2 ^ suc j = mask_small mask j f.0 h.small (omega arith) in
              record {
                few = omega arith;
                reads = reads_on s l (bin (base + carry) (λ t. false) done) y ds f.0 z es f.2 h.reads;
                small = subst (λ i. mask_with mask j v < 2 ^ i) (sym (add-one j)) (subst (λ u. mask_with mask j u < 2 ^ suc j) (sym f.1) a);
                low = d.1;
                left = λ lv ks m.
                    let w : Wanted → Bool = λ t. is_big lv t (get_or ks j 0) in
                    let f = flag_ok r v z es _ (e w) q in
                    let bs : unmask mask j ++ (f.0 ∷ []) ≡ unmask (mask_with mask j v) (suc j) =
                    sym (ap (λ u. unmask (mask_with mask j u) (suc j)) f.1 ∙ mask_is mask j f.0 h.small (omega arith)) in
                    let n : greater1_ctx_next f.0 carry ≡ c =
                    sym (d.0 ∙ ap (λ u. greater1_ctx_next (eqb u 1) carry) f.1 ∙ ap (λ u. greater1_ctx_next u carry) (bit_back f.0)) in
                    next_left lv ks m
                    ∙ bind_ok (by_code s l) (bin (base + carry) w done) (on_from lv base (8 - suc j) (drop (suc j) ks) (marked mask j carry)) (cursor y ds) f.0 (cursor z es) f.2
                    ∙ ap (λ u. from s l (greater1_s lv base (8 - suc j) (drop (suc j) ks) (record { bins = u; greater1_ctx = greater1_ctx_next f.0 carry })) z es) bs
                    ∙ ap (λ u. from s l (greater1_s lv base (8 - suc j) (drop (suc j) ks) (marked (mask_with mask j v) (suc j) u)) z es) n
                    ∙ ap (λ i. from s l (greater1_s lv base (8 - i) (drop i ks) (marked (mask_with mask j v) i c)) z es) (sym (add-one j));
              }
