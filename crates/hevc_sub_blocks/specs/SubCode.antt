-- One sub-block over what its code has: the row's width as a parameter, each call's answer with what it says. Assumes nothing.
use Rattle.std.specs.Prelude.{ℕ, ◌+◌, ◌*◌, ◌<◌, ◌≡◌, Bool, true, ◌&&◌, cond, List, ℤ, get_or, set, ltb, eqb, Result, Ok, Err}
use Rattle.std.proofs.Common.{sym, ap, ap₂, subst, ◌∙◌}
use Rattle.bins.specs.declared.state.Interval.{Interval}
use Rattle.bins.specs.declared.state.Refusal.{Refusal}
use Rattle.bins.specs.Syn.{Out}
use Rattle.bins.specs.Sources.{Cursor, cursor, stopped, Step, got}
use Rattle.bins.specs.Laws.{RefusedBy}
use Rattle.hevc_residual.specs.declared.params.Params.{Params}
use Rattle.hevc_residual.specs.Scan.{spot}
use Rattle.hevc_residual.specs.Wanted.{Wanted, width, outer_of, inner_of, wanted_in}
use Rattle.hevc_residual.specs.Head.{skip_or_bypass}
use Rattle.hevc_residual.specs.SubBlock.{Acc, places_s}
use Rattle.hevc_residual.specs.Residual.{ctx_set_by, sub_block_s}
use Rattle.hevc_head_rules.specs.declared.head.Head.{Head}
use Rattle.hevc_head_rules.specs.HeadOf.{head_of}
use Rattle.hevc_elements.specs.Agree.{Reads, from, SaysFlag}
use Rattle.hevc_places.specs.declared.places.Places.{Places}
use Rattle.hevc_subblock.specs.declared.places.Placed.{Placed}
use Rattle.hevc_rules.specs.declared.coeffs.Carry.{Carry}
use Rattle.hevc_subblock.specs.declared.coeffs.Carried.{Carried}
use Rattle.hevc_places.specs.Packing.{Packs, unpacked}
use Rattle.hevc_places.specs.declared.places.SigNumbers.{SigNumbers}
use Rattle.hevc_places.specs.PlacesAgree.{sig_number, number_at}
use Rattle.hevc_places.specs.PlacesLaws.{places_same}
use Rattle.hevc_subblock.specs.PlacesAgree.{SaysPlaces}
use Rattle.hevc_rules.specs.CoeffsAgree.{acc_of}
use Rattle.hevc_subblock.specs.CoeffsAgree.{SaysCoeffs}
use Rattle.hevc_rules.specs.SubsAgree.{near, flag_number, flag_or, Met}
use Rattle.hevc_sub_blocks.specs.SubsAgree.{SaysSub}
use Rattle.hevc_rules.specs.SmallLaws.{flag_number_is}
use Rattle.hevc_rules.specs.SubsLaws.{flag_s, flag_no, places_t, ctx_of, places_is}
use Rattle.hevc_sub_blocks.specs.SubsLaws.{sub_flag_refused, sub_none, sub_reads, sub_places_refused, sub_packs, sub_reads_on, sub_empty, sub_levels}

-- ---- from call to call
module _ (p : Params) (h : Head) (last lastin i xs ys : ℕ) (q : get_or (outer_of p) i (spot 0 0) ≡ spot xs ys) where
  module _ (list : Bool) (l : List ℕ) (c : Carry) (coded : List Bool) (levels : List ℤ) (stats : List ℕ) (x : Interval) (cs : List ℕ) (w : ℕ) (ew : w ≡ width p)
      (beside : ℕ) (en : beside ≡ near coded w xs ys) (mid : Bool) (em : mid ≡ (ltb 0 i && ltb i last)) where
    abbrev whole : Out Cursor Acc
    whole = from list l (sub_block_s p (head_of h) (outer_of p) (inner_of p) last lastin i (acc_of c coded levels stats)) x cs

    near_is : beside ≡ near coded (width p) xs ys
    near_is = en ∙ ap (λ n. near coded n xs ys) ew

    -- the flag's call
    module _ (number : ℕ) (eo : number ≡ flag_number p.luma beside) (f : Step) (cs' : List ℕ)
        (e : (u : Wanted → Bool) → SaysFlag f cs' (from list l (flag_or mid number u) x cs)) where
      said : (u : Wanted → Bool) → SaysFlag f cs' (from list l (flag_s p h last lastin i xs ys q u (flag_no p h last lastin i xs ys q coded)) x cs)
      said u =
          let m : number ≡ flag_no p h last lastin i xs ys q coded = eo ∙ flag_number_is coded (width p) xs ys p.luma beside near_is in
          subst (λ (z : Bool). SaysFlag f cs' (from list l (flag_or z (flag_no p h last lastin i xs ys q coded) u) x cs)) em
          (subst (λ k. SaysFlag f cs' (from list l (flag_or mid k u) x cs)) m (e u))

      pub flag_refused : (n : Refusal) → f ≡ stopped n → RefusedBy n whole
      flag_refused n u =
          (sub_flag_refused p h last lastin i xs ys q list l c coded levels stats x cs cs' f said n u)

      module _ (v : ℕ) (y : Interval) (u : f ≡ got v y) where
        pub flag_none : v ≡ 0 → whole ≡ Out.ok (acc_of c coded levels stats) (cursor y cs')
        flag_none z = sub_none p h last lastin i xs ys q list l c coded levels stats x cs cs' f said v y u z

        pub flag_reads : Reads list l x cs → Reads list l y cs'
        flag_reads g = sub_reads p h last lastin i xs ys q list l c coded levels stats x cs cs' f said v y u g

        -- the significance loop
        module _ (o : v ≡ 0 → ⊥) (single : Bool) (es : single ≡ (p.skip_context && skip_or_bypass p h.skip)) (below : ℕ)
            (eb : below ≡ cond (eqb i last) lastin 16) (met : Places) (em' : Met i last lastin met) (numbers : SigNumbers)
            (eh : (k : ℕ) → k < below → number_at numbers k ≡ sig_number p single beside xs ys k) (r : Result Placed Refusal) (cs'' : List ℕ)
            (d : (lv : ℕ → Wanted → ℤ) → SaysPlaces r cs'' (from list l (places_s lv (number_at numbers) mid below (unpacked met)) y cs')) where
          placed_so : SaysPlaces r cs'' (from list l (places_t p h last lastin i xs ys q (ctx_of p h last lastin i xs ys q coded)) y cs')
          placed_so =
              let a : sig_number p single beside xs ys ≡ ctx_of p h last lastin i xs ys q coded = ap₂ (λ (z : Bool) n. sig_number p z n xs ys) es near_is in
              let t = places_same (wanted_in p (inner_of p) (spot xs ys)) (number_at numbers) (sig_number p single beside xs ys) mid below (unpacked met) eh
              ∙ places_is p h last lastin i xs ys q mid below (unpacked met) (sig_number p single beside xs ys) em eb em'.places
              ∙ ap (λ (ctx : ℕ → ℕ). places_t p h last lastin i xs ys q ctx) a in
              subst (λ z. SaysPlaces r cs'' (from list l z y cs')) t (d (wanted_in p (inner_of p) (spot xs ys)))

          pub places_refused : (n : Refusal) → r ≡ Err n → RefusedBy n whole
          places_refused n a =
              (sub_places_refused p h last lastin i xs ys q list l c coded levels stats x cs cs' f said v y u o r cs'' placed_so n a)

          module _ (s : Places) (z : Interval) (m : r ≡ Ok (record { places = s; next = z })) where
            pub got_packs : Packs s
            got_packs = sub_packs p h last lastin i xs ys q list l c coded levels stats x cs cs' f said v y u o r cs'' placed_so s z m

            pub got_reads : Reads list l y cs' → Reads list l z cs''
            got_reads g = sub_reads_on p h last lastin i xs ys q list l c coded levels stats x cs cs' f said v y u o r cs'' placed_so s z m g

            pub got_none : s.count ≡ 0 → whole ≡ Out.ok (acc_of c (set coded (ys * w + xs) true) levels stats) (cursor z cs'')
            got_none k =
                sub_empty p h last lastin i xs ys q list l c coded levels stats x cs cs' f said v y u o r cs'' placed_so s z m k
                ∙ ap (λ n. Out.ok (acc_of c (set coded (ys * n + xs) true) levels stats) (cursor z cs'')) (sym ew)

            pub got_levels : 0 < s.count → (ctxset : ℕ) → ctxset ≡ ctx_set_by p.luma i c.first c.carry → (a : Result Carried Refusal) (ds : List ℕ) (levels' : List ℤ) (stats' : List ℕ)
                → SaysCoeffs p h (spot xs ys) list l ctxset s c z cs'' levels stats a ds levels' stats'
                → SaysSub p h list l last lastin i c x cs coded levels stats a ds (set coded (ys * w + xs) true) levels' stats'
            got_levels k ctxset j a ds levels' stats' g =
                subst (λ n. SaysSub p h list l last lastin i c x cs coded levels stats a ds (set coded (ys * n + xs) true) levels' stats') (sym ew)
                (sub_levels p h last lastin i xs ys q list l c coded levels stats x cs cs' f said v y u o r cs'' placed_so s z m k ctxset j a ds levels' stats' g)
