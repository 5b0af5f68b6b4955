-- Sub-blocks by their number in the scan, and the last place with a level, as the code looks for it. Assumes nothing.
use Prim.Native.Nat.{ℕ, zero, suc, ◌+◌, ◌-◌, ◌*◌, ◌/◌, ◌%◌, ◌^◌, ◌≤◌, ◌<◌}
use Rattle.std.specs.Prelude.{◌≡◌, Bool, cond, List, [], ◌∷◌, ℤ, get_or}
use Rattle.std.proofs.Math.Path.{refl, sym, ap}
use Rattle.std.proofs.Common.{ap₂, subst, ◌∙◌, pow-add, pow_mono}
use Rattle.std.proofs.Math.Bool.{true, false}
use native.Mathlib.Omega.{arith}
use Rattle.tables.specs.Table.{le_below}
use Rattle.hevc_residual.specs.declared.params.Params.{Params}
use Rattle.hevc_residual.specs.Scan.{Spot, spot}
use Rattle.hevc_residual.specs.Wanted.{Wanted, area, width, outer_of, inner_of, spot_in, wanted_in, is_sig, down_from, sig_places}
use Rattle.hevc_residual.specs.Head.{last_wanted}
use Rattle.hevc_scans.specs.Pairs.{pairs_of, Orders}
use Rattle.hevc_scans.specs.PairLaws.{at_column, at_row}
use Rattle.hevc_scans.specs.ScanLaws.{outer_inside, outer_small}
use Rattle.hevc_rules.specs.LevelsAgree.{Site}
use Rattle.hevc_rules.specs.SpotLaws.{inside, within}
use Rattle.hevc_places.specs.Packing.{unpack}
use Rattle.hevc_residual.specs.Limits.{Accepted}
use Rattle.hevc_wanted.specs.declared.last.Place.{Place}
use Rattle.hevc_wanted.specs.LastAgree.{Inside}

-- ---- sub-block i of the scan, as the code reads it
module _ (p : Params) (outer : List (List ℕ)) (o : Orders (4 ^ (p.log2 - 2)) (outer_of p) outer) (a : Accepted p) (i : ℕ)
    (h : i < 4 ^ (p.log2 - 2)) where
  corner_in : (get_or (get_or outer i []) 0 0 < width p) × (get_or (get_or outer i []) 1 0 < width p)
  corner_in =
      let g = outer_inside p.log2 p.scan i a.least a.most a.scan h in (
        subst (λ (n : ℕ). n < width p) (sym (at_column (4 ^ (p.log2 - 2)) (outer_of p) outer o i h)) g.0,
        subst (λ (n : ℕ). n < width p) (sym (at_row (4 ^ (p.log2 - 2)) (outer_of p) outer o i h)) g.1,
      )

  pub corner_few : (get_or (get_or outer i []) 0 0 ≤ 7) × (get_or (get_or outer i []) 1 0 ≤ 7)
  corner_few = ((outer_small p.log2 _ a.most corner_in.0).0, (outer_small p.log2 _ a.most corner_in.1).0)

  pub number_few : i < 64
  number_few = let m : 4 ^ (p.log2 - 2) ≤ 64 = le_below (λ k. 4 ^ k) (λ _. 64) 4 tt (p.log2 - 2) (omega (arith, a.most)) in omega arith

  pub corner_site : Site p (get_or (get_or outer i []) 0 0) (get_or (get_or outer i []) 1 0)
  corner_site = record { least = a.least; most = a.most; scan = a.scan; depth = a.depth; column = corner_in.0; row = corner_in.1 }

  pub corner_spot : get_or (outer_of p) i (spot 0 0) ≡ spot (get_or (get_or outer i []) 0 0) (get_or (get_or outer i []) 1 0)
  corner_spot =
      sym (ap₂ (λ x y. spot x y) (at_column (4 ^ (p.log2 - 2)) (outer_of p) outer o i h) (at_row (4 ^ (p.log2 - 2)) (outer_of p) outer o i h))

-- ---- a place in the block
module _ (p : Params) (xs ys : ℕ) (site : Site p xs ys) (k : ℕ) (h : k < 16) (order : List (List ℕ)) (q : order ≡ pairs_of (inner_of p)) where
  pub place_few : (get_or (get_or order k []) 0 0 < 4) × (get_or (get_or order k []) 1 0 < 4)
      × (4 * xs + get_or (get_or order k []) 0 0 ≤ 31) × (4 * ys + get_or (get_or order k []) 1 0 ≤ 31)
  place_few =
      let i = inside p xs ys site k h order q in
      (i.less_x, i.less_y, (within p xs ys site k h xs _ site.column i.less_x).1, (within p xs ys site k h ys _ site.row i.less_y).1)

  pub place_inside : Inside p (record { x = 4 * xs + get_or (get_or order k []) 0 0; y = 4 * ys + get_or (get_or order k []) 1 0 })
  place_inside =
      let i = inside p xs ys site k h order q in
      record { column = (within p xs ys site k h xs _ site.column i.less_x).0; row = (within p xs ys site k h ys _ site.row i.less_y).0 }

  pub place_spot : spot_in (inner_of p) (spot xs ys) k ≡ spot (4 * xs + get_or (get_or order k []) 0 0) (4 * ys + get_or (get_or order k []) 1 0)
  unfolding spot_in
  place_spot =
      let i = inside p xs ys site k h order q in
      sym (ap₂ (λ x y. spot (4 * xs + x) (4 * ys + y)) i.is_x i.is_y)

-- ---- the last place, a sub-block at a time
-- the first of the places, else the one found behind
abbrev pub first_or : (ℕ → Spot) → List ℕ → Spot → Spot
first_or at [] r = r
first_or at (k ∷ ks) r = at k

chosen : (b c : Bool) (x y : Spot) → c ≡ b → (elim c [ true ↦ x | false ↦ y ]) ≡ cond b x y
chosen true c x y q = rw q
chosen false c x y q = rw q

module _ (p : Params) (outer inner : List Spot) (w : Wanted) where
  pub last_suc : (m : ℕ) (b : Bool) → is_sig (wanted_in p inner (get_or outer (m / 16) (spot 0 0))) w (m % 16) ≡ b
      → last_wanted p outer inner w (suc m) ≡ cond b (spot_in inner (get_or outer (m / 16) (spot 0 0)) (m % 16)) (last_wanted p outer inner w m)
  unfolding last_wanted
  last_suc m b q =
      chosen b (is_sig (wanted_in p inner (get_or outer (m / 16) (spot 0 0))) w (m % 16))
      (spot_in inner (get_or outer (m / 16) (spot 0 0)) (m % 16)) (last_wanted p outer inner w m) q

module _ (p : Params) (outer inner : List Spot) (w : Wanted) (i : ℕ) where
  abbrev corner : Spot
  corner = get_or outer i (spot 0 0)

  last_step : (n : ℕ) → n < 16 → (b : Bool) → is_sig (wanted_in p inner corner) w n ≡ b
      → last_wanted p outer inner w (suc (16 * i + n)) ≡ cond b (spot_in inner corner n) (last_wanted p outer inner w (16 * i + n))
  last_step n h b q =
      let d : (16 * i + n) / 16 ≡ i = omega arith in
      let m : (16 * i + n) % 16 ≡ n = omega arith in
      last_suc p outer inner w (16 * i + n) b (ap₂ (λ u v. is_sig (wanted_in p inner (get_or outer u (spot 0 0))) w v) d m ∙ q)
      ∙ ap₂ (λ u v. cond b (spot_in inner (get_or outer u (spot 0 0)) v) (last_wanted p outer inner w (16 * i + n))) d m

  last_in : (n : ℕ) → n ≤ 16
      → last_wanted p outer inner w (16 * i + n) ≡ first_or (spot_in inner corner) (down_from (is_sig (wanted_in p inner corner) w) n)
      (last_wanted p outer inner w (16 * i))
  unfolding down_from
  last_in zero h = let q : 16 * i + 0 ≡ 16 * i = omega arith in ap (λ n. last_wanted p outer inner w n) q
  last_in (suc n) h =
      let q : 16 * i + suc n ≡ suc (16 * i + n) = omega arith in
      ap (λ n. last_wanted p outer inner w n) q ∙ go (is_sig (wanted_in p inner corner) w n) refl (last_in n (omega arith))
    where
      go : (b : Bool) → is_sig (wanted_in p inner corner) w n ≡ b
          → last_wanted p outer inner w (16 * i + n) ≡ first_or (spot_in inner corner) (down_from (is_sig (wanted_in p inner corner) w) n)
          (last_wanted p outer inner w (16 * i))
          → last_wanted p outer inner w (suc (16 * i + n))
          ≡ first_or (spot_in inner corner) (down_from (is_sig (wanted_in p inner corner) w) (suc n)) (last_wanted p outer inner w (16 * i))
      go true e r = last_step n (omega arith) true e ∙ rw e
      go false e r = last_step n (omega arith) false e ∙ r ∙ rw e

  pub last_whole : last_wanted p outer inner w (16 * (i + 1))
      ≡ first_or (spot_in inner corner) (sig_places (wanted_in p inner corner) w) (last_wanted p outer inner w (16 * i))
  last_whole = let q : 16 * (i + 1) ≡ 16 * i + 16 = omega arith in ap (λ n. last_wanted p outer inner w n) q ∙ last_in 16 (omega arith)

-- the last place with a level of the first n
abbrev pub last_of_first : Params → Wanted → ℕ → Spot
last_of_first p w n = last_wanted p (outer_of p) (inner_of p) w n

-- ---- the loop: what is left to look at has the last place of all
pub record Looking (p : Params) (block : List ℤ) (i : ℕ) : Type 0 where
  pub few : i ≤ 4 ^ (p.log2 - 2)
  pub left : (w : Wanted) → w.levels ≡ block → last_of_first p w (16 * i) ≡ last_of_first p w (area p)

pub looking_begins : (p : Params) (block : List ℤ) (i : ℕ) → Accepted p → i ≡ 4 ^ (p.log2 - 2) → Looking p block i
looking_begins p block i a q =
    let s : 2 + (p.log2 - 2) ≡ p.log2 = omega (arith, a.least) in
    let e : 16 * 4 ^ (p.log2 - 2) ≡ area p = sym (pow-add 4 2 (p.log2 - 2)) ∙ ap (λ n. 4 ^ n) s in
    record { few = omega arith; left = λ w h. ap (λ n. last_of_first p w n) (ap (λ n. 16 * n) q ∙ e) }

pub looking_ends : (p : Params) (block : List ℤ) (i : ℕ) → Accepted p → Looking p block i → i ≤ 0
    → ((w : Wanted) → w.levels ≡ block → spot 0 0 ≡ last_of_first p w (area p)) × Inside p (record { x = 0; y = 0 })
unfolding last_wanted
looking_ends p block i a l h =
    let z : 16 * i ≡ 0 = omega arith in
    let m : 2 ^ 0 ≤ 2 ^ p.log2 = pow_mono {i = 0} {j = p.log2} (omega arith) in
    (λ w q. sym (ap (λ n. last_of_first p w n) z) ∙ l.left w q, record { column = omega arith; row = omega arith })

-- the places of sub-block i, 1 less than the loop's number, are packed in v
module _ (p : Params) (block : List ℤ) (i : ℕ) (l : Looking p block i) (h : 0 < i) (xs ys : ℕ)
    (at : get_or (outer_of p) (i - 1) (spot 0 0) ≡ spot xs ys) (v n : ℕ)
    (e : (w : Wanted) → w.levels ≡ block → unpack v n ≡ sig_places (wanted_in p (inner_of p) (spot xs ys)) w) where
  looked : (w : Wanted) → w.levels ≡ block
      → last_of_first p w (area p) ≡ first_or (spot_in (inner_of p) (spot xs ys)) (unpack v n) (last_of_first p w (16 * (i - 1)))
  looked w q =
      let j : 16 * (i - 1 + 1) ≡ 16 * i = omega arith in
      let f : last_of_first p w (16 * (i - 1 + 1))
      ≡ first_or (spot_in (inner_of p) (spot xs ys)) (sig_places (wanted_in p (inner_of p) (spot xs ys)) w) (last_of_first p w (16 * (i - 1))) =
      subst
      (λ (s : Spot). last_of_first p w (16 * (i - 1 + 1)) ≡ first_or (spot_in (inner_of p) s) (sig_places (wanted_in p (inner_of p) s) w) (last_of_first p w (16 * (i - 1)))) at
      (last_whole p (outer_of p) (inner_of p) w (i - 1)) in
      sym (ap (λ n. last_of_first p w n) j ∙ l.left w q) ∙ f
      ∙ ap (λ (ks : List ℕ). first_or (spot_in (inner_of p) (spot xs ys)) ks (last_of_first p w (16 * (i - 1)))) (sym (e w q))

  pub looking_on : n ≤ 0 → Looking p block (i - 1)
  unfolding unpack
  looking_on m =
      let z : n ≡ 0 = omega arith in
      record {
        few = omega (arith, l.few);
        left = λ w q. sym (looked w q ∙ ap (λ n. first_or (spot_in (inner_of p) (spot xs ys)) (unpack v n) (last_of_first p w (16 * (i - 1)))) z);
      }

  pub looking_found : 0 < n → (r : Place) → spot_in (inner_of p) (spot xs ys) (v % 16) ≡ spot r.x r.y
      → (w : Wanted) → w.levels ≡ block → spot r.x r.y ≡ last_of_first p w (area p)
  unfolding unpack
  looking_found m r g w q =
      let z : n ≡ suc (n - 1) = omega arith in
      sym (looked w q ∙ ap (λ n. first_or (spot_in (inner_of p) (spot xs ys)) (unpack v n) (last_of_first p w (16 * (i - 1)))) z ∙ g)
