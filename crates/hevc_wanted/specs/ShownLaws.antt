-- Laws of the levels, places and sums of a sub-block. Assumes nothing.
use Rattle.std.specs.Prelude.{ℕ, zero, suc, ◌+◌, ◌-◌, ◌*◌, ◌%◌, ◌^◌, ◌≤◌, ◌<◌, max, ◌≡◌, refl, Bool, true, false, cond, ℤ, pos, ltb, eqb, length, set}
use Rattle.std.proofs.Common.{sym, ap, ◌∙◌, add-one, below_more, lt-ltb, le-ltb, ltb-false, eqb-true, length-set, get_or-set_same, get_or-set_other}
use Rattle.std.proofs.Math.Path.{ap₂}
use mathlib.Core.List.{List, [], ◌∷◌, ◌++◌, append_assoc, append-nil}
use native.Mathlib.Omega.{arith}
use Rattle.std.proofs.lemmas.Bool.{eqb-false}
use Rattle.std.proofs.Math.IntN.{nat_abs}
use Rattle.std.proofs.Math.Arith.{digits_lt}
use Rattle.std.proofs.Math.ListN.{get_or}
use Rattle.bins.specs.Engine.{bit_no}
use Rattle.hevc_residual.specs.declared.params.Params.{Params}
use Rattle.hevc_residual.specs.Scan.{Spot, spot, number_in}
use Rattle.hevc_residual.specs.Wanted.{Wanted, down_from, is_sig, sig_places, cell_of, inner_of, spot_in, wanted_in, none, area}
use Rattle.tables.specs.Table.{eq_below}
use Rattle.hevc_scans.specs.ScanLaws.{Order, scan_order_lem}
use Rattle.hevc_rules.specs.SpotLaws.{within, row_shift, cell_small}
use Rattle.hevc_rules.specs.LevelsAgree.{Site}
use Rattle.hevc_places.specs.declared.places.Places.{Places}
use Rattle.hevc_places.specs.Packing.{Packs, unpack, unpacked}
use Rattle.hevc_wanted.specs.Shown.{Shows, is_level, sum_below, size_at, row_most, row_at}

-- ---- the loop that takes the 16 levels
-- the level at place k of the scan of sub-block s
abbrev pub level_in : Params → Spot → List ℤ → ℕ → ℤ
level_in p s block k = get_or block (cell_of p (spot_in (inner_of p) s k)) (pos 0)

pub record Taken (f : ℕ → ℤ) (levels : List ℤ) (k : ℕ) : Type 0 where
  pub within : k ≤ 16
  pub long : length levels ≡ 16
  pub same : (j : ℕ) → j < k → get_or levels j (pos 0) ≡ f j

pub taken_begins : (f : ℕ → ℤ) (levels : List ℤ) → length levels ≡ 16 → Taken f levels 0
taken_begins f levels h = record { within = omega arith; long = h; same = λ j l. absurd (omega arith) }

pub taken_more : (f : ℕ → ℤ) (levels : List ℤ) (k : ℕ) (v : ℤ) → Taken f levels k → k < 16 → v ≡ f k → Taken f (set levels k v) (k + 1)
taken_more f levels k v t h e = record {
  within = omega arith;
  long = length-set levels k v ∙ t.long;
  same =
      below_more (λ j. get_or (set levels k v) j (pos 0) ≡ f j) k
      (λ j l. get_or-set_other levels k j v (pos 0) (λ q. omega arith) ∙ t.same j l)
      (get_or-set_same levels k v (pos 0) (omega (arith, t.long)) ∙ e);
}

pub taken_ends : (p : Params) (s : Spot) (block levels : List ℤ) (k : ℕ) → Taken (level_in p s block) levels k → 16 ≤ k
    → (w : Wanted) → w.levels ≡ block → Shows (wanted_in p (inner_of p) s) w levels
unfolding wanted_in
taken_ends p s block levels k t h w q = λ j l. t.same j (omega arith) ∙ ap (λ (b : List ℤ). level_in p s b j) (sym q)

-- ---- whether a level is not 0, by its magnitude m
pub level_one : (v : ℤ) (m : ℕ) → m ≡ nat_abs v → 0 < m → 1 ≡ bit_no (ltb 0 (nat_abs v))
level_one v m q h = rw (lt-ltb 0 (nat_abs v) (omega arith))

pub level_none : (v : ℤ) (m : ℕ) → m ≡ nat_abs v → m ≤ 0 → 0 ≡ bit_no (ltb 0 (nat_abs v))
level_none v m q h = rw (le-ltb 0 (nat_abs v) (omega arith))

-- ---- the loop that lists the places with a level
pub record Listed (f : ℕ → Bool) (s : Places) (k : ℕ) : Type 0 where
  pub packs : Packs s
  pub room : s.count + k ≤ 16
  pub places : unpacked s ++ down_from f k ≡ down_from f 16

pub listed_begins : (f : ℕ → Bool) → Listed f (record { packed = 0; count = 0 }) 16
unfolding unpack
listed_begins f = record { packs = record { small = omega arith; few = omega arith }; room = omega arith; places = refl }

pub bit_few : (b : Bool) → bit_no b ≤ 1
bit_few true = omega arith
bit_few false = omega arith

listed_step : (f : ℕ → Bool) (u v : List ℕ) (k : ℕ) (b : Bool) → f k ≡ b → v ≡ cond (eqb (bit_no b) 1) (u ++ (k ∷ [])) u
    → v ++ down_from f k ≡ u ++ down_from f (suc k)
unfolding down_from
listed_step f u v k true q e = rw (q, e) (append_assoc u (k ∷ []) (down_from f k))
listed_step f u v k false q e = rw (q, e) refl

pub listed_on : (f : ℕ → Bool) (s : Places) (k : ℕ) → Listed f s k → 0 < k → (b : ℕ) → b ≡ bit_no (f (k - 1)) → (r : Places)
    → Packs r × (unpacked r ≡ cond (eqb b 1) (unpacked s ++ ((k - 1) ∷ [])) (unpacked s)) × (r.count ≡ s.count + b) → Listed f r (k - 1)
listed_on f s k i h b e r g =
    let j : suc (k - 1) ≡ k = omega arith in
    let x : unpacked r ≡ cond (eqb (bit_no (f (k - 1))) 1) (unpacked s ++ ((k - 1) ∷ [])) (unpacked s) =
    g.1 ∙ ap (λ z. cond (eqb z 1) (unpacked s ++ ((k - 1) ∷ [])) (unpacked s)) e in
    record {
      packs = g.0;
      room = let m = bit_few (f (k - 1)) in omega (arith, i.room, g.2);
      places = listed_step f (unpacked s) (unpacked r) (k - 1) (f (k - 1)) refl x ∙ ap (λ z. unpacked s ++ down_from f z) j ∙ i.places;
    }

pub listed_ends : (f : ℕ → Bool) (s : Places) (k : ℕ) → Listed f s k → k ≤ 0 → Packs s × (unpacked s ≡ down_from f 16)
unfolding down_from
listed_ends f s k i h =
    let z : k ≡ 0 = omega arith in
    (i.packs, sym (ap (λ n. unpacked s ++ down_from f n) z ∙ append-nil (unpacked s)) ∙ i.places)

pub nothing_packed : Packs (record { packed = 0; count = 0 }) × (unpacked (record { packed = 0; count = 0 }) ≡ [])
unfolding unpack
nothing_packed = (record { small = omega arith; few = omega arith }, refl)

-- two tests that agree below n pick the same places
pub down_same : (f g : ℕ → Bool) (n : ℕ) → ((k : ℕ) → k < n → f k ≡ g k) → down_from f n ≡ down_from g n
unfolding down_from
down_same f g zero h = refl
down_same f g (suc n) h =
    let e = down_same f g n (λ k l. h k (omega arith)) in
    ap₂ (λ (b : Bool) (l : List ℕ). cond b (n ∷ l) l) (h n (omega arith)) e

-- the places with a level are the significant places wanted
pub places_shown : (lv : ℕ → Wanted → ℤ) (w : Wanted) (levels : List ℤ) → Shows lv w levels → down_from (is_level levels) 16 ≡ sig_places lv w
places_shown lv w levels s = down_same (is_level levels) (is_sig lv w) 16 (λ k h. ap (λ (v : ℤ). ltb 0 (nat_abs v)) (s k h))

-- ---- the greatest of four is 0 iff each is
zero_of : (a b c d : ℕ) → max (max a b) (max c d) ≡ 0 → (a ≡ 0) × (b ≡ 0) × (c ≡ 0) × (d ≡ 0)
zero_of a b c d q = (omega arith, omega arith, omega arith, omega arith)

of_zero : (a b c d : ℕ) → a ≡ 0 → b ≡ 0 → c ≡ 0 → d ≡ 0 → max (max a b) (max c d) ≡ 0
of_zero a b c d p q r s = omega arith

-- ---- no places: the test holds of none
none_all : (f : ℕ → Bool) (n : ℕ) → ((k : ℕ) → k < n → f k ≡ false) → none (down_from f n) ≡ true
unfolding none down_from
none_all f zero h = refl
none_all f (suc n) h = rw (h n (omega arith)) (none_all f n (λ k l. h k (omega arith)))

all_none : (f : ℕ → Bool) (n : ℕ) → none (down_from f n) ≡ true → (k : ℕ) → k < n → f k ≡ false
unfolding none down_from
all_none f zero q k h = absurd (omega arith)
all_none f (suc n) q k h = go (f n) refl q (all_none f n) (eqb k n) refl
  where
    go : (d : Bool) → f n ≡ d → none (cond d (n ∷ down_from f n) (down_from f n)) ≡ true → (none (down_from f n) ≡ true → (k : ℕ) → k < n → f k ≡ false)
        → (e : Bool) → eqb k n ≡ e → f k ≡ false
    go true z u r e w = let z : ◌≡◌ {A = ℕ} 0 1 = cc in absurd (omega arith)
    go false z u r true w = ap f (eqb-true k n w) ∙ z
    go false z u r false w = r u k (omega (arith, eqb-false k n w))

pub nothing_wanted : (ks : List ℕ) → none ks ≡ true → [] ≡ ks
unfolding none
nothing_wanted [] q = refl
nothing_wanted (k ∷ ks) q = let z : ◌≡◌ {A = ℕ} 0 1 = cc in absurd (omega arith)

-- ---- the sixteen cells of a sub-block, row by row, are the sixteen places of its scan
module _ (p : Params) (xs ys : ℕ) (site : Site p xs ys) where
  -- a row's first cell, as the code finds it, and that the row lies in the block
  pub row_found : (j : ℕ) → j < 4 → (4 * ys + j ≤ 31) × (4 * xs ≤ 28) × ((4 * ys + j) * 2 ^ p.log2 % 2 ^ 32 ≡ (4 * ys + j) * 2 ^ p.log2)
      × ((4 * ys + j) * 2 ^ p.log2 + 4 * xs ≤ 1023) × (row_at p xs ys j + 4 ≤ area p)
  row_found j h =
      let y = within p xs ys site 0 (omega arith) ys j site.row h in
      let x = within p xs ys site 0 (omega arith) xs 3 site.column (omega arith) in
      let e : 2 ^ p.log2 * 2 ^ p.log2 ≡ area p = eq_below (λ k. 2 ^ k * 2 ^ k) (λ k. 4 ^ k) 6 tt p.log2 (omega (arith, site.most)) in (
        y.1,
        omega (arith, x.1),
        row_shift p xs ys site 0 (omega arith) (4 * ys + j) y.1,
        cell_small p xs ys site 0 (omega arith) (4 * xs) (4 * ys + j) (omega (arith, x.1)) y.1,
        let d : (4 * ys + j) * 2 ^ p.log2 + (4 * xs + 3) < 2 ^ p.log2 * 2 ^ p.log2 = digits_lt y.0 x.0 in omega (arith, e),
      )

module _ (p : Params) (xs ys : ℕ) (site : Site p xs ys) (block : List ℤ) where
  abbrev cell : ℕ → ℕ → ℕ
  cell x y = size_at block (row_at p xs ys y + x)

  abbrev lv : ℕ → Wanted → ℤ
  lv = wanted_in p (inner_of p) (spot xs ys)

  abbrev inn : Order (inner_of p) 4
  inn = scan_order_lem 2 p.scan (omega arith) site.scan

  -- place k is a cell
  at_place : (w : Wanted) → w.levels ≡ block → (k : ℕ) → nat_abs (lv k w) ≡ cell (get_or (inner_of p) k (spot 0 0)).x (get_or (inner_of p) k (spot 0 0)).y
  unfolding wanted_in spot_in
  at_place w q k =
      let s = get_or (inner_of p) k (spot 0 0) in
      let e : (4 * ys + s.y) * 2 ^ p.log2 + (4 * xs + s.x) ≡ row_at p xs ys s.y + s.x = omega arith in
      ap₂ (λ (l : List ℤ) (c : ℕ). nat_abs (get_or l c (pos 0))) q e

  sig_cell : (w : Wanted) → w.levels ≡ block → ((x y : ℕ) → x < 4 → y < 4 → cell x y ≡ 0) → (k : ℕ) → k < 16 → is_sig lv w k ≡ false
  sig_cell w q z k h = le-ltb 0 (nat_abs (lv k w)) (omega (arith, at_place w q k, z _ _ (inn.in_x k h) (inn.in_y k h)))

  cell_sig : (w : Wanted) → w.levels ≡ block → ((k : ℕ) → k < 16 → is_sig lv w k ≡ false) → (x y : ℕ) → x < 4 → y < 4 → cell x y ≡ 0
  cell_sig w q z x y h k =
      let n = number_in (inner_of p) x y in
      let e : cell (get_or (inner_of p) n (spot 0 0)).x (get_or (inner_of p) n (spot 0 0)).y ≡ cell x y = ap₂ cell (inn.at_x x y h k) (inn.at_y x y h k) in
      omega (arith, e, at_place w q n, ltb-false 0 (nat_abs (lv n w)) (z n (inn.below x y h k)))

  rows_zero : max (max (row_most block (row_at p xs ys 0)) (row_most block (row_at p xs ys 1))) (max (row_most block (row_at p xs ys 2)) (row_most block (row_at p xs ys 3))) ≡ 0
      → (x y : ℕ) → x < 4 → y < 4 → cell x y ≡ 0
  rows_zero z x y h k = pick y k
    where
      in_row : (y : ℕ) → row_most block (row_at p xs ys y) ≡ 0 → (x : ℕ) → x < 4 → cell x y ≡ 0
      in_row y q zero h = ap (size_at block) (omega arith) ∙ (zero_of _ _ _ _ q).0
      in_row y q (suc zero) h = (zero_of _ _ _ _ q).1
      in_row y q (suc (suc zero)) h = (zero_of _ _ _ _ q).2
      in_row y q (suc (suc (suc zero))) h = (zero_of _ _ _ _ q).3
      in_row y q (suc (suc (suc (suc n)))) h = absurd (omega arith)

      pick : (y : ℕ) → y < 4 → cell x y ≡ 0
      pick zero l = in_row 0 (zero_of _ _ _ _ z).0 x h
      pick (suc zero) l = in_row 1 (zero_of _ _ _ _ z).1 x h
      pick (suc (suc zero)) l = in_row 2 (zero_of _ _ _ _ z).2 x h
      pick (suc (suc (suc zero))) l = in_row 3 (zero_of _ _ _ _ z).3 x h
      pick (suc (suc (suc (suc n)))) l = absurd (omega arith)

  zero_rows : ((x y : ℕ) → x < 4 → y < 4 → cell x y ≡ 0) → (y : ℕ) → y < 4 → row_most block (row_at p xs ys y) ≡ 0
  zero_rows z y h =
      of_zero _ _ _ _ (ap (size_at block) (omega arith) ∙ z 0 y (omega arith) h) (z 1 y (omega arith) h) (z 2 y (omega arith) h) (z 3 y (omega arith) h)

  -- the rows have no level iff no place has one
  pub bare_is : (most : ℕ)
      → most ≡ max (max (row_most block (row_at p xs ys 0)) (row_most block (row_at p xs ys 1))) (max (row_most block (row_at p xs ys 2)) (row_most block (row_at p xs ys 3)))
      → (w : Wanted) → w.levels ≡ block → eqb most 0 ≡ none (sig_places lv w)
  bare_is most e w q = go (eqb most 0) refl (none (sig_places lv w)) refl
    where
      go : (d : Bool) → eqb most 0 ≡ d → (b : Bool) → none (sig_places lv w) ≡ b → d ≡ b
      go true z b u = sym (none_all (is_sig lv w) 16 (sig_cell w q (rows_zero (sym e ∙ eqb-true most 0 z)))) ∙ u
      go false z false u = refl
      go false z true u =
          let f = zero_rows (cell_sig w q (all_none (is_sig lv w) 16 u)) in
          absurd (eqb-false most 0 z (e ∙ of_zero _ _ _ _ (f 0 (omega arith)) (f 1 (omega arith)) (f 2 (omega arith)) (f 3 (omega arith))))

  -- as the code looks at the rows, from the cells that it finds
  pub bare_found : (i j k l a b c d ab cd most : ℕ) → i ≡ row_at p xs ys 0 → a ≡ row_most block i → j ≡ row_at p xs ys 1 → b ≡ row_most block j
      → k ≡ row_at p xs ys 2 → c ≡ row_most block k → l ≡ row_at p xs ys 3 → d ≡ row_most block l → ab ≡ max a b → cd ≡ max c d → most ≡ max ab cd
      → (w : Wanted) → w.levels ≡ block → eqb most 0 ≡ none (sig_places lv w)
  bare_found i j k l a b c d ab cd most ei ea ej eb ek ec el ed eab ecd e =
      let row : (n at m : ℕ) → at ≡ row_at p xs ys n → m ≡ row_most block at → m ≡ row_most block (row_at p xs ys n) = λ n at m u v. v ∙ ap (row_most block) u in
      bare_is most (e ∙ ap₂ max (eab ∙ ap₂ max (row 0 i a ei ea) (row 1 j b ej eb)) (ecd ∙ ap₂ max (row 2 k c ek ec) (row 3 l d el ed)))

-- ---- the loop that sums
pub record Summed (levels : List ℤ) (sum k : ℕ) : Type 0 where
  pub within : k ≤ 16
  pub is_sum : sum ≡ sum_below levels k
  pub small : sum ≤ k * 4294967295

pub summed_begins : (levels : List ℤ) → Summed levels 0 0
unfolding sum_below
summed_begins levels = record { within = omega arith; is_sum = refl; small = omega arith }

pub summed_on : (levels : List ℤ) (sum k m : ℕ) → Summed levels sum k → k < 16 → m ≡ nat_abs (get_or levels k (pos 0)) → m ≤ 4294967295
    → Summed levels (sum + m) (k + 1)
unfolding sum_below
summed_on levels sum k m i h e f = record {
  within = omega arith;
  is_sum = rw (add-one k) (omega (arith, i.is_sum));
  small = omega (arith, i.small);
}

pub summed_ends : (levels : List ℤ) (sum k : ℕ) → Summed levels sum k → 16 ≤ k → sum ≡ sum_below levels 16
summed_ends levels sum k i h = let q : k ≡ 16 = omega (arith, i.within) in i.is_sum ∙ ap (λ n. sum_below levels n) q
