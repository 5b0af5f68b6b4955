-- The tree of one sub-block, by its parts. Assumes nothing.
use Prim.Native.Nat.{ℕ, ◌+◌, ◌*◌, ◌≤◌, ◌<◌}
use Rattle.std.specs.Prelude.{◌≡◌, refl, not, ◌&&◌, ◌||◌, List, [], ◌∷◌, ℤ, get_or, ltb, leb, eqb}
use Rattle.std.proofs.Common.{sym, ◌∙◌, le-ltb, eq-eqb, eqb-true}
use Rattle.std.proofs.Math.Path.{ap, ap₂}
use Rattle.std.proofs.Math.Bool.{Bool, true, false, cond, and-false}
use native.Mathlib.Omega.{arith}
use Rattle.bins.specs.Tags.{context_count}
use Rattle.bins.specs.Engine.{bit_no}
use Rattle.bins.specs.Readers.{odd}
use Rattle.bins.specs.Syn.{done, bin, ◌>>=◌}
use Rattle.hevc_residual.specs.declared.params.Params.{Params}
use Rattle.hevc_residual.specs.Layout.{at_sig_coeff, at_coded_sub_block, in_chroma}
use Rattle.hevc_residual.specs.Scan.{Spot, spot, sig_ctx}
use Rattle.hevc_residual.specs.Wanted.{Wanted, S, width, outer_of, inner_of, spot_in, wanted_in, none, sig_places}
use Rattle.hevc_residual.specs.Head as syntax
use Rattle.hevc_residual.specs.SubBlock.{Acc, places_s}
use Rattle.hevc_residual.specs.Residual.{is_coded, marked, sig_at, filled_s, sub_block_s}
use Rattle.hevc_scans.specs.ScanLaws.{inner_inside, inner_before_last, outer_small, cell_small}
use Rattle.hevc_scans.specs.SigLaws.{sig_small}
use Rattle.hevc_head_rules.specs.declared.head.Head.{Head}
use Rattle.hevc_head_rules.specs.HeadOf.{head_of}
use Rattle.hevc_rules.specs.declared.coeffs.Carry.{Carry}
use Rattle.hevc_places.specs.PlacesAgree.{sig_number}
use Rattle.hevc_rules.specs.LevelsAgree.{Site}
use Rattle.hevc_rules.specs.CoeffsAgree.{acc_of}
use Rattle.hevc_rules.specs.SubsAgree.{coded_at, near}

-- ---- neighbours
near_right : (a b : Bool) → odd (bit_no a + 2 * bit_no b) ≡ a
near_right true true = refl
near_right true false = refl
near_right false true = refl
near_right false false = refl

near_below : (a b : Bool) → leb 2 (bit_no a + 2 * bit_no b) ≡ b
near_below true true = refl
near_below true false = refl
near_below false true = refl
near_below false false = refl

pub near_small : (l : List Bool) (w x y : ℕ) → near l w x y ≤ 3
near_small l w x y = go (coded_at l w (x + 1) y) (coded_at l w x (y + 1))
  where
    go : (a b : Bool) → bit_no a + 2 * bit_no b ≤ 3
    go true true = omega arith
    go true false = omega arith
    go false true = omega arith
    go false false = omega arith

-- ---- the tree, at the sub-block (xs, ys) that stands at number i
module _ (p : Params) (h : Head) (last lastin i xs ys : ℕ) (q : get_or (outer_of p) i (spot 0 0) ≡ spot xs ys) where
  abbrev pub middle : Bool
  middle = ltb 0 i && ltb i last

  abbrev pub flag_s : (Wanted → Bool) → ℕ → S Bool
  flag_s w n = elim middle [ true ↦ bin n w done | false ↦ done true ]

  abbrev pub flag_no : List Bool → ℕ
  flag_no coded = at_coded_sub_block + in_chroma p.luma 2 + bit_no (coded_at coded (width p) (xs + 1) ys || coded_at coded (width p) xs (ys + 1))

  abbrev pub single : Bool
  single = p.skip_context && syntax.skip_or_bypass p h.skip

  abbrev pub lv : ℕ → Wanted → ℤ
  lv = wanted_in p (inner_of p) (spot xs ys)

  abbrev pub places_t : (ℕ → ℕ) → S (List ℕ)
  places_t ctx = elim (eqb i last) [ true ↦ places_s lv ctx false lastin (lastin ∷ []) | false ↦ places_s lv ctx middle 16 [] ]

  abbrev pub wanted : Wanted → Bool
  wanted = λ t. not (none (sig_places lv t))

  -- what stands behind the flag
  unfoldable pub rest : Acc → (ℕ → ℕ) → Bool → S Acc
  rest a ctx b =
      elim b [
        | false ↦ done a
        | true ↦ places_t ctx >>= λ ks. filled_s p (head_of h) (outer_of p) (inner_of p) i (spot xs ys) (marked p a xs ys) ks
      ]

  -- the same at any spot
  sub_at : Acc → Spot → S Acc
  sub_at a s =
      let right = is_coded p a (s.x + 1) s.y in
      let below = is_coded p a s.x (s.y + 1) in
      let flag : S Bool =
      elim middle [
        | true ↦ bin (at_coded_sub_block + in_chroma p.luma 2 + bit_no (right || below)) (λ t. not (none (sig_places (wanted_in p (inner_of p) s) t))) done
        | false ↦ done true
      ] in
      let places : S (List ℕ) =
      elim (eqb i last) [
        | true ↦ places_s (wanted_in p (inner_of p) s) (sig_at p (head_of h) (outer_of p) (inner_of p) s right below) false lastin (lastin ∷ [])
        | false ↦ places_s (wanted_in p (inner_of p) s) (sig_at p (head_of h) (outer_of p) (inner_of p) s right below) middle 16 []
      ] in
      flag >>= λ coded.
      elim coded [ false ↦ done a | true ↦ places >>= λ ks. filled_s p (head_of h) (outer_of p) (inner_of p) i s (marked p a s.x s.y) ks ]

  sub_is : (a : Acc)
      → sub_block_s p (head_of h) (outer_of p) (inner_of p) last lastin i a
      ≡ (flag_s wanted (at_coded_sub_block + in_chroma p.luma 2 + bit_no (is_coded p a (xs + 1) ys || is_coded p a xs (ys + 1)))
      >>= rest a (sig_at p (head_of h) (outer_of p) (inner_of p) (spot xs ys) (is_coded p a (xs + 1) ys) (is_coded p a xs (ys + 1))))
  unfolding sub_block_s rest sub_at
  sub_is a = ap (sub_at a) q

  -- the context's number, by the neighbours as a number
  sig_is : (coded : List Bool) (c : Carry) (levels : List ℤ) (stats : List ℕ)
      → sig_at p (head_of h) (outer_of p) (inner_of p) (spot xs ys) (coded_at coded (width p) (xs + 1) ys) (coded_at coded (width p) xs (ys + 1))
      ≡ sig_number p single (near coded (width p) xs ys) xs ys
  unfolding sig_at sig_number spot_in
  sig_is coded c levels stats =
      let r = coded_at coded (width p) (xs + 1) ys in
      let b = coded_at coded (width p) xs (ys + 1) in
      let number : Bool → Bool → ℕ → ℕ = λ u v k. at_sig_coeff + elim single [
        | true ↦ 42 + in_chroma p.luma 1
        | false ↦ sig_ctx p.log2 p.luma p.scan u v (4 * xs + (get_or (inner_of p) k (spot 0 0)).x) (4 * ys + (get_or (inner_of p) k (spot 0 0)).y)
      ] in
      ap₂ number (sym (near_right r b)) (sym (near_below r b))

  -- the whole, over the accumulator of the code
  abbrev pub ctx_of : List Bool → ℕ → ℕ
  ctx_of coded = sig_number p single (near coded (width p) xs ys) xs ys

  pub sub_code : (c : Carry) (coded : List Bool) (levels : List ℤ) (stats : List ℕ)
      → sub_block_s p (head_of h) (outer_of p) (inner_of p) last lastin i (acc_of c coded levels stats)
      ≡ (flag_s wanted (flag_no coded) >>= rest (acc_of c coded levels stats) (ctx_of coded))
  unfolding is_coded
  sub_code c coded levels stats =
      sub_is (acc_of c coded levels stats)
      ∙ ap (λ (ctx : ℕ → ℕ). flag_s wanted (flag_no coded) >>= rest (acc_of c coded levels stats) ctx) (sig_is coded c levels stats)

  -- ---- the places that the significance loop begins with
  pub places_is : (m : Bool) (n : ℕ) (ks : List ℕ) (ctx : ℕ → ℕ) → m ≡ middle → n ≡ cond (eqb i last) lastin 16 → ks ≡ cond (eqb i last) (lastin ∷ []) []
      → places_s lv ctx m n ks ≡ places_t ctx
  places_is m n ks ctx a b d = go (eqb i last) refl b d
    where
      go : (t : Bool) → eqb i last ≡ t → n ≡ cond t lastin 16 → ks ≡ cond t (lastin ∷ []) []
          → places_s lv ctx m n ks ≡ elim t [ true ↦ places_s lv ctx false lastin (lastin ∷ []) | false ↦ places_s lv ctx middle 16 [] ]
      go true u b d =
          let e : i ≡ last = eqb-true i last u in
          let f : m ≡ false = a ∙ ap (λ z. ltb 0 i && z) (le-ltb i last (omega arith)) ∙ and-false (ltb 0 i) in
          cc
      go false u b d = cc

  -- every context that is asked for is there
  pub number_small : (n near k : ℕ) → Site p xs ys → lastin ≤ 15 → (p.log2 ≡ 2 → i ≡ last) → n ≡ cond (eqb i last) lastin 16 → k < n
      → sig_number p single near xs ys k < context_count
  unfolding sig_number spot_in
  number_small n near k g h o b u = go single
    where
      few : n ≤ 16
      few = le16 (eqb i last) b
        where
          le16 : (t : Bool) → n ≡ cond t lastin 16 → n ≤ 16
          le16 true q = omega arith
          le16 false q = omega arith

      four : p.log2 ≡ 2 → k < 15
      four e = let w : n ≡ lastin = b ∙ ap (λ z. cond z lastin 16) (eq-eqb i last (o e)) in omega arith

      chroma : (b : Bool) → in_chroma b 1 ≤ 1
      chroma true = omega arith
      chroma false = omega arith

      go : (b : Bool) → at_sig_coeff + elim b [
        | true ↦ 42 + in_chroma p.luma 1
        | false ↦ sig_ctx p.log2 p.luma p.scan (odd near) (leb 2 near) (4 * xs + (get_or (inner_of p) k (spot 0 0)).x) (4 * ys + (get_or (inner_of p) k (spot 0 0)).y)
      ] < context_count
      go true = omega (arith, chroma p.luma)
      go false =
          let place = inner_inside p.scan k g.scan (omega (arith, few)) in
          let a = cell_small p.log2 xs (get_or (inner_of p) k (spot 0 0)).x g.least g.column place.0 in
          let d = cell_small p.log2 ys (get_or (inner_of p) k (spot 0 0)).y g.least g.row place.1 in
          omega (
            arith,
            sig_small p.log2 p.scan (4 * xs + (get_or (inner_of p) k (spot 0 0)).x) (4 * ys + (get_or (inner_of p) k (spot 0 0)).y) p.luma (odd near) (leb 2 near) a d
                (λ e q r.
                let z = (outer_small p.log2 xs g.most g.column).1 e in
                let y = (outer_small p.log2 ys g.most g.row).1 e in
                inner_before_last p.scan k g.scan (four e) (omega arith) (omega arith)),
          )
