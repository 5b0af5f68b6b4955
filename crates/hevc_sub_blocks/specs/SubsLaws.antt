-- One sub-block, as its code goes from call to call. Assumes nothing.
use Prim.Native.Nat.{ℕ, suc, ◌+◌, ◌-◌, ◌*◌, ◌<◌}
use Rattle.std.specs.Prelude.{◌≡◌, refl, Bool, List, ℤ, get_or, set, Result, Ok, Err}
use Rattle.std.proofs.Common.{sym, subst, ◌∙◌}
use Rattle.std.proofs.Math.Path.{ap}
use Rattle.std.proofs.Math.Bool.{true, false}
use native.Mathlib.Omega.{arith}
use Rattle.bins.specs.declared.state.Interval.{Interval}
use Rattle.bins.specs.declared.state.Refusal.{Refusal}
use Rattle.bins.specs.Engine.{bit_no}
use Rattle.bins.specs.Syn.{◌>>=◌, Out}
use Rattle.bins.specs.Sources.{cursor, by_code, stopped, Step, got}
use Rattle.bins.specs.Laws.{RefusedBy, bind_ok, bind_no}
use Rattle.hevc_residual.specs.declared.params.Params.{Params}
use Rattle.hevc_residual.specs.Scan.{spot}
use Rattle.hevc_residual.specs.Wanted.{Wanted, S, width, outer_of, inner_of}
use Rattle.hevc_residual.specs.SubBlock.{Acc}
use Rattle.hevc_residual.specs.Residual.{marked, ctx_set_of, filled_s, sub_block_s}
use Rattle.hevc_head_rules.specs.declared.head.Head.{Head}
use Rattle.hevc_head_rules.specs.HeadOf.{head_of}
use Rattle.hevc_elements.specs.Agree.{Reads, from, SaysFlag, reads_on, flag_ok, flag_no_lem}
use Rattle.hevc_elements.specs.ShapeLaws.{run_done}
use Rattle.hevc_places.specs.declared.places.Places.{Places}
use Rattle.hevc_subblock.specs.declared.places.Placed.{Placed}
use Rattle.hevc_rules.specs.declared.coeffs.Carry.{Carry}
use Rattle.hevc_subblock.specs.declared.coeffs.Carried.{Carried}
use Rattle.hevc_places.specs.Packing.{Packs, unpack, unpacked}
use Rattle.hevc_subblock.specs.PlacesAgree.{SaysPlaces}
use Rattle.hevc_rules.specs.CoeffsAgree.{acc_of, coeffs_of}
use Rattle.hevc_subblock.specs.CoeffsAgree.{SaysCoeffs}
use Rattle.hevc_sub_blocks.specs.SubsAgree.{SaysSub}
use Rattle.hevc_rules.specs.SubsLaws.{flag_s, flag_no, lv, places_t, wanted, rest, ctx_of, sub_code}

-- ---- the ways out
module _ (p : Params) (h : Head) (last lastin i xs ys : ℕ) (q : get_or (outer_of p) i (spot 0 0) ≡ spot xs ys) where
  -- the tree's parts, here
  abbrev flag_h : (Wanted → Bool) → ℕ → S Bool
  flag_h = flag_s p h last lastin i xs ys q

  abbrev number_h : List Bool → ℕ
  number_h = flag_no p h last lastin i xs ys q

  abbrev lv_h : ℕ → Wanted → ℤ
  lv_h = lv p h last lastin i xs ys q

  abbrev places_h : (ℕ → ℕ) → S (List ℕ)
  places_h = places_t p h last lastin i xs ys q

  abbrev wanted_h : Wanted → Bool
  wanted_h = wanted p h last lastin i xs ys q

  abbrev rest_h : Acc → (ℕ → ℕ) → Bool → S Acc
  rest_h = rest p h last lastin i xs ys q

  abbrev ctx_h : List Bool → ℕ → ℕ
  ctx_h = ctx_of p h last lastin i xs ys q

  -- f is what the flag's call answered, behind which the contexts are cs'
  module _ (list : Bool) (l : List ℕ) (c : Carry) (coded : List Bool) (levels : List ℤ) (stats : List ℕ) (x : Interval) (cs cs' : List ℕ) (f : Step)
      (e : (w : Wanted → Bool) → SaysFlag f cs' (from list l (flag_h w (number_h coded)) x cs)) where
    abbrev whole : S Acc
    whole = sub_block_s p (head_of h) (outer_of p) (inner_of p) last lastin i (acc_of c coded levels stats)

    pub sub_flag_refused : (n : Refusal) → f ≡ stopped n → RefusedBy n (from list l whole x cs)
    sub_flag_refused n u =
        let r = bind_no (by_code list l) (flag_h wanted_h (number_h coded)) (rest_h (acc_of c coded levels stats) (ctx_h coded)) (cursor x cs) n (flag_no_lem f n cs' _ (e wanted_h) u) in
        (r.0, ap (λ t. from list l t x cs) (sub_code p h last lastin i xs ys q c coded levels stats) ∙ r.1)

    behind_flag_lem : (v : ℕ) (y : Interval) (b : Bool) → f ≡ got v y → (v ≡ bit_no b)
        → from list l whole x cs ≡ from list l (rest_h (acc_of c coded levels stats) (ctx_h coded) b) y cs'
    behind_flag_lem v y b u w =
        let r = flag_ok f v y cs' _ (e wanted_h) u in
        let d : r.0 ≡ b = same_bit r.0 b (sym r.1 ∙ w) in
        ap (λ t. from list l t x cs) (sub_code p h last lastin i xs ys q c coded levels stats)
        ∙ bind_ok (by_code list l) (flag_h wanted_h (number_h coded)) (rest_h (acc_of c coded levels stats) (ctx_h coded)) (cursor x cs) r.0 (cursor y cs') r.2
        ∙ ap (λ z. from list l (rest_h (acc_of c coded levels stats) (ctx_h coded) z) y cs') d
      where
        same_bit : (a b : Bool) → bit_no a ≡ bit_no b → a ≡ b
        same_bit true true q = refl
        same_bit false false q = refl
        same_bit true false q = absurd (omega arith)
        same_bit false true q = absurd (omega arith)

    -- not coded
    pub sub_none : (v : ℕ) (y : Interval) → f ≡ got v y → v ≡ 0 → from list l whole x cs ≡ Out.ok (acc_of c coded levels stats) (cursor y cs')
    unfolding rest
    sub_none v y u w = behind_flag_lem v y false u w ∙ run_done list l (acc_of c coded levels stats) y cs'

    pub sub_reads : (v : ℕ) (y : Interval) → f ≡ got v y → Reads list l x cs → Reads list l y cs'
    sub_reads v y u g = let r = flag_ok f v y cs' _ (e wanted_h) u in reads_on list l (flag_h wanted_h (number_h coded)) x cs r.0 y cs' r.2 g

    -- coded: what is marked, and what is left
    abbrev pub coded_now : List Bool
    coded_now = set coded (ys * width p + xs) true

    coded_left : (v : ℕ) (y : Interval) → f ≡ got v y → (v ≡ 0 → ⊥)
        → from list l whole x cs
        ≡ from list l (places_h (ctx_h coded) >>= λ ks. filled_s p (head_of h) (outer_of p) (inner_of p) i (spot xs ys) (acc_of c coded_now levels stats) ks) y cs'
    unfolding rest marked
    coded_left v y u w = behind_flag_lem v y true u (one v (λ z. w z) (flag_ok f v y cs' _ (e wanted_h) u).0 (flag_ok f v y cs' _ (e wanted_h) u).1)
      where
        one : (v : ℕ) → (v ≡ 0 → ⊥) → (b : Bool) → v ≡ bit_no b → v ≡ 1
        one v h true q = q
        one v h false q = absurd (h q)

    -- ---- r is what the significance loop answered
    module _ (v : ℕ) (y : Interval) (u : f ≡ got v y) (w : v ≡ 0 → ⊥) (r : Result Placed Refusal) (cs'' : List ℕ)
        (d : SaysPlaces r cs'' (from list l (places_h (ctx_h coded)) y cs')) where
      pub sub_places_refused : (n : Refusal) → r ≡ Err n → RefusedBy n (from list l whole x cs)
      sub_places_refused n z =
          let g : RefusedBy n (from list l (places_h (ctx_h coded)) y cs') = subst (λ (o : Result Placed Refusal). SaysPlaces o cs'' (from list l (places_h (ctx_h coded)) y cs')) z d in
          let k = bind_no (by_code list l) (places_h (ctx_h coded)) (λ ks. filled_s p (head_of h) (outer_of p) (inner_of p) i (spot xs ys) (acc_of c coded_now levels stats) ks) (cursor y cs') n g in
          (k.0, coded_left v y u w ∙ k.1)

      module _ (s : Places) (z : Interval) (m : r ≡ Ok (record { places = s; next = z })) where
        got_so : Packs s × (from list l (places_h (ctx_h coded)) y cs' ≡ Out.ok (unpacked s) (cursor z cs''))
        got_so = subst (λ (o : Result Placed Refusal). SaysPlaces o cs'' (from list l (places_h (ctx_h coded)) y cs')) m d

        pub sub_packs : Packs s
        sub_packs = got_so.0

        pub sub_reads_on : Reads list l y cs' → Reads list l z cs''
        sub_reads_on g = reads_on list l (places_h (ctx_h coded)) y cs' (unpacked s) z cs'' got_so.1 g

        filled_left : from list l whole x cs
            ≡ from list l (filled_s p (head_of h) (outer_of p) (inner_of p) i (spot xs ys) (acc_of c coded_now levels stats) (unpacked s)) z cs''
        filled_left =
            coded_left v y u w
            ∙ bind_ok (by_code list l) (places_h (ctx_h coded)) (λ ks. filled_s p (head_of h) (outer_of p) (inner_of p) i (spot xs ys) (acc_of c coded_now levels stats) ks) (cursor y cs') (unpacked s) (cursor z cs'') got_so.1

        -- no level
        pub sub_empty : s.count ≡ 0 → from list l whole x cs ≡ Out.ok (acc_of c coded_now levels stats) (cursor z cs'')
        unfolding filled_s unpack
        sub_empty k =
            filled_left ∙ ap (λ n. from list l (filled_s p (head_of h) (outer_of p) (inner_of p) i (spot xs ys) (acc_of c coded_now levels stats) (unpack s.packed n)) z cs'') k
            ∙ run_done list l (acc_of c coded_now levels stats) z cs''

        levels_left_lem : 0 < s.count
            → from list l whole x cs
            ≡ from list l (coeffs_of p h (spot xs ys) lv_h (ctx_set_of p i (acc_of c coded_now levels stats)) s (acc_of c coded_now levels stats)) z cs''
        unfolding filled_s unpack
        levels_left_lem k =
            let n : s.count ≡ suc (s.count - 1) = omega arith in
            filled_left ∙ ap (λ n. from list l (filled_s p (head_of h) (outer_of p) (inner_of p) i (spot xs ys) (acc_of c coded_now levels stats) (unpack s.packed n)) z cs'') n

        -- levels: o is what their call answered
        pub sub_levels : 0 < s.count → (ctxset : ℕ) → ctxset ≡ ctx_set_of p i (acc_of c coded levels stats) → (o : Result Carried Refusal) (ds : List ℕ) (levels' : List ℤ) (stats' : List ℕ)
            → SaysCoeffs p h (spot xs ys) list l ctxset s c z cs'' levels stats o ds levels' stats'
            → SaysSub p h list l last lastin i c x cs coded levels stats o ds coded_now levels' stats'
        sub_levels k ctxset j (Ok v) ds levels' stats' g =
            (g.0, levels_left_lem k ∙ ap (λ n. from list l (coeffs_of p h (spot xs ys) lv_h n s (acc_of c coded_now levels stats)) z cs'') (sym j) ∙ g.1 lv_h coded_now)
        sub_levels k ctxset j (Err n) ds levels' stats' g =
            let f = g lv_h coded_now in
            (f.0, levels_left_lem k ∙ ap (λ n. from list l (coeffs_of p h (spot xs ys) lv_h n s (acc_of c coded_now levels stats)) z cs'') (sym j) ∙ f.1)
