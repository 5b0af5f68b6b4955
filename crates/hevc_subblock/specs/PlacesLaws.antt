-- The significance loop as its code goes: what is left to run, and one lemma for each way out. Assumes nothing.
use Rattle.std.specs.Prelude.{ℕ, suc, ◌+◌, ◌-◌, ◌≤◌, ◌<◌, ◌≡◌, refl, Bool, true, false, cond, ◌&&◌, List, [], ◌∷◌, ◌++◌, ℤ, eqb}
use Rattle.std.proofs.Common.{sym, ◌∙◌}
use Rattle.std.proofs.Math.Path.{ap}
use native.Mathlib.Omega.{arith}
use Rattle.bins.specs.declared.state.Interval.{Interval}
use Rattle.bins.specs.declared.state.Refusal.{Refusal}
use Rattle.bins.specs.Syn.{done, bin, ◌>>=◌, Out}
use Rattle.bins.specs.Sources.{cursor, by_code, stopped, Step, got}
use Rattle.bins.specs.Laws.{RefusedBy, bind_ok, bind_no}
use Rattle.hevc_residual.specs.Wanted.{Wanted, is_sig, none}
use Rattle.hevc_residual.specs.SubBlock.{places_s}
use Rattle.hevc_elements.specs.Agree.{Reads, from, SaysFlag, reads_on, flag_ok, flag_no_lem}
use Rattle.hevc_elements.specs.ShapeLaws.{run_done}
use Rattle.hevc_places.specs.declared.places.Places.{Places}
use Rattle.hevc_places.specs.Packing.{Packs, unpack, unpacked}
use Rattle.hevc_places.specs.PackingLaws.{bit_back, bit_most, unpack_none}
use Rattle.hevc_places.specs.PlacesLaws.{places_end, on_from, by_infer, places_more}

module _ (s : Bool) (l : List ℕ) (ctx : ℕ → ℕ) (infer : Bool) (below : ℕ) (met : Places) where
  -- in the loop, with the places below k to come and those in t read: what is left to run gives what the whole gives
  pub record Placing (x : Interval) (cs : List ℕ) (y : Interval) (ds : List ℕ) (k : ℕ) (t : Places) : Type 0 where
    pub low : k ≤ below
    pub room : t.count + k ≤ 16
    pub packs : Packs t
    pub reads : Reads s l y ds
    pub left : (lv : ℕ → Wanted → ℤ)
        → from s l (places_s lv ctx infer below (unpacked met)) x cs ≡ from s l (places_s lv ctx infer k (unpacked t)) y ds

  pub placing_begins : (x : Interval) (cs : List ℕ) → Reads s l x cs → Packs met → met.count + below ≤ 16 → Placing x cs x cs below met
  placing_begins x cs h p r = record { low = omega arith; room = r; packs = p; reads = h; left = λ lv. refl }

  module _ (x : Interval) (cs : List ℕ) (y : Interval) (ds : List ℕ) (k : ℕ) (t : Places) (h : Placing x cs y ds k t) where
    pub placing_ends : k ≤ 0 → (lv : ℕ → Wanted → ℤ)
        → Packs t × (from s l (places_s lv ctx infer below (unpacked met)) x cs ≡ Out.ok (unpacked t) (cursor y ds))
    placing_ends z lv =
        let e : k ≡ 0 = omega arith in (
          h.packs,
          h.left lv ∙ ap (λ i. from s l (places_s lv ctx infer i (unpacked t)) y ds) e
              ∙ ap (λ u. from s l u y ds) (places_end lv ctx infer (unpacked t)) ∙ run_done s l (unpacked t) y ds,
        )

    -- a is what inferred answered
    module _ (pos : 0 < k) (a : Bool) (is : a ≡ (eqb (k - 1) 0 && (infer && eqb t.count 0))) where
      step_left : (lv : ℕ → Wanted → ℤ) → from s l (places_s lv ctx infer below (unpacked met)) x cs
          ≡ from s l (by_infer a (bin (ctx (k - 1)) (λ v. is_sig lv v (k - 1)) done >>= on_from lv ctx infer (k - 1) (unpacked t))) y ds
      step_left lv =
          let e : k ≡ suc (k - 1) = omega arith in
          let b : (eqb (k - 1) 0 && (infer && none (unpacked t))) ≡ a =
          ap (λ z. eqb (k - 1) 0 && (infer && z)) (unpack_none t.count t.packed) ∙ sym is in
          h.left lv ∙ ap (λ i. from s l (places_s lv ctx infer i (unpacked t)) y ds) e
          ∙ ap (λ u. from s l u y ds) (places_more lv ctx infer (k - 1) (unpacked t))
          ∙ ap (λ z. from s l (by_infer z (bin (ctx (k - 1)) (λ v. is_sig lv v (k - 1)) done >>= on_from lv ctx infer (k - 1) (unpacked t))) y ds) b

      pub placing_inferred : a ≡ true → (lv : ℕ → Wanted → ℤ)
          → Packs (record { packed = 0; count = 1 }) × (from s l (places_s lv ctx infer below (unpacked met)) x cs ≡ Out.ok (unpack 0 1) (cursor y ds))
      unfolding unpack
      placing_inferred q lv = (
        record { small = omega arith; few = omega arith },
        step_left lv
            ∙ ap (λ z. from s l (by_infer z (bin (ctx (k - 1)) (λ v. is_sig lv v (k - 1)) done >>= on_from lv ctx infer (k - 1) (unpacked t))) y ds) q
            ∙ run_done s l (0 ∷ []) y ds,
      )

      -- r is what the bin answered, es the contexts behind it
      module _ (off : a ≡ false) (number : ℕ) (nq : number ≡ ctx (k - 1)) (r : Step) (es : List ℕ)
          (e : (w : Wanted → Bool) → SaysFlag r es (from s l (bin number w done) y ds)) where
        next_left : (lv : ℕ → Wanted → ℤ) → from s l (places_s lv ctx infer below (unpacked met)) x cs
            ≡ from s l (bin number (λ v. is_sig lv v (k - 1)) done >>= on_from lv ctx infer (k - 1) (unpacked t)) y ds
        next_left lv =
            step_left lv
            ∙ ap (λ z. from s l (by_infer z (bin (ctx (k - 1)) (λ v. is_sig lv v (k - 1)) done >>= on_from lv ctx infer (k - 1) (unpacked t))) y ds) off
            ∙ ap (λ z. from s l (bin z (λ v. is_sig lv v (k - 1)) done >>= on_from lv ctx infer (k - 1) (unpacked t)) y ds) (sym nq)

        pub placing_refused : (v : Refusal) → r ≡ stopped v → (lv : ℕ → Wanted → ℤ)
            → RefusedBy v (from s l (places_s lv ctx infer below (unpacked met)) x cs)
        placing_refused v q lv =
            let w : Wanted → Bool = λ o. is_sig lv o (k - 1) in
            let f = bind_no (by_code s l) (bin number w done) (on_from lv ctx infer (k - 1) (unpacked t)) (cursor y ds) v (flag_no_lem r v es _ (e w) q) in
            (f.0, next_left lv ∙ f.1)

        module _ (v : ℕ) (z : Interval) (q : r ≡ got v z) where
          pub placing_bit : v ≤ 1
          placing_bit = let f = flag_ok r v z es _ (e (λ o. false)) q in bit_most v f.0 f.1

          pub placing_on : (m : Places)
              → Packs m × (unpacked m ≡ cond (eqb v 1) (unpacked t ++ ((k - 1) ∷ [])) (unpacked t)) × (m.count ≡ t.count + v)
              → Placing x cs z es (k - 1) m
          placing_on m d =
              let f = flag_ok r v z es _ (e (λ o. false)) q in
              record {
                low = omega (arith, h.low);
                room = omega (arith, h.room, d.2, placing_bit);
                packs = d.0;
                reads = reads_on s l (bin number (λ o. false) done) y ds f.0 z es f.2 h.reads;
                left = λ lv.
                    let w : Wanted → Bool = λ o. is_sig lv o (k - 1) in
                    let f = flag_ok r v z es _ (e w) q in
                    let n : cond f.0 (unpacked t ++ ((k - 1) ∷ [])) (unpacked t) ≡ unpacked m =
                    sym (d.1 ∙ ap (λ u. cond (eqb u 1) (unpacked t ++ ((k - 1) ∷ [])) (unpacked t)) f.1
                    ∙ ap (λ u. cond u (unpacked t ++ ((k - 1) ∷ [])) (unpacked t)) (bit_back f.0)) in
                    next_left lv
                    ∙ bind_ok (by_code s l) (bin number w done) (on_from lv ctx infer (k - 1) (unpacked t)) (cursor y ds) f.0 (cursor z es) f.2
                    ∙ ap (λ u. from s l (places_s lv ctx infer (k - 1) u) z es) n;
              }

-- a context's number that was worked out
pub place_low : (number m bound : ℕ) → number ≡ m → m < bound → number < bound
place_low number m bound q h = omega arith
