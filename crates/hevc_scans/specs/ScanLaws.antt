-- The scans are orders of the whole grid: number and place determine one another, for every size and scan. One computed test. Assumes nothing.
use Rattle.std.specs.Prelude.{ℕ, suc, ◌+◌, ◌-◌, ◌*◌, ◌/◌, ◌%◌, ◌^◌, ◌<◌, ◌≤◌, ◌≡◌, Bool, ◌&&◌, List, T, ltb, eqb, length, get_or}
use Rattle.std.proofs.Common.{ap₂, ◌∙◌, arith, eqb→eq, ltb→lt}
use Rattle.std.proofs.Math.Arith.{digits_lt, digits_div, digits_mod}
use Rattle.hevc_residual.specs.Scan.{Spot, spot, scan_order, number_in}
use Rattle.tables.specs.Table.{and_left, and_right, all_from, below, eq_below, le_below}

-- at number i of the scan stands a place of the grid, and its number is i
abbrev number_test : List Spot → ℕ → ℕ → Bool
number_test l w i = let s = get_or l i (spot 0 0) in ltb s.x w && (ltb s.y w && eqb (number_in l s.x s.y) i)

-- the place y·w + x has a number, and at that number it stands
abbrev place_test : List Spot → ℕ → ℕ → Bool
place_test l w c =
    let m = number_in l (c % w) (c / w) in
    let s = get_or l m (spot 0 0) in
    ltb m (w * w) && (eqb s.x (c % w) && eqb s.y (c / w))

abbrev order_test : List Spot → ℕ → Bool
order_test l w = eqb (length l) (w * w) && (all_from (number_test l w) 0 (w * w) && all_from (place_test l w) 0 (w * w))

abbrev scan_test : ℕ → ℕ → Bool
scan_test k s = order_test (scan_order (2 ^ k) s) (2 ^ k)

all_scans : T (all_from (λ k. all_from (scan_test k) 0 3) 0 4)
unfolding scan_order number_in
all_scans = tt

-- a list that is an order of the w×w grid
pub record Order (l : List Spot) (w : ℕ) : Type 0 where
  pub long : length l ≡ w * w
  pub in_x : (i : ℕ) → i < w * w → (get_or l i (spot 0 0)).x < w
  pub in_y : (i : ℕ) → i < w * w → (get_or l i (spot 0 0)).y < w
  pub number : (i : ℕ) → i < w * w → number_in l (get_or l i (spot 0 0)).x (get_or l i (spot 0 0)).y ≡ i
  pub below : (x y : ℕ) → x < w → y < w → number_in l x y < w * w
  pub at_x : (x y : ℕ) → x < w → y < w → (get_or l (number_in l x y) (spot 0 0)).x ≡ x
  pub at_y : (x y : ℕ) → x < w → y < w → (get_or l (number_in l x y) (spot 0 0)).y ≡ y

three : (a b c : Bool) → T (a && (b && c)) → T a × T b × T c
three a b c t = (and_left a (b && c) t, and_left b c (and_right a (b && c) t), and_right b c (and_right a (b && c) t))

number_facts : (l : List Spot) (w i : ℕ) → T (number_test l w i)
    → ((get_or l i (spot 0 0)).x < w) × ((get_or l i (spot 0 0)).y < w) × (number_in l (get_or l i (spot 0 0)).x (get_or l i (spot 0 0)).y ≡ i)
number_facts l w i t =
    let s = get_or l i (spot 0 0) in
    let u = three (ltb s.x w) (ltb s.y w) (eqb (number_in l s.x s.y) i) t in
    (ltb→lt s.x w u.0, ltb→lt s.y w u.1, eqb→eq (number_in l s.x s.y) i u.2)

place_facts : (l : List Spot) (w x y c : ℕ) → c % w ≡ x → c / w ≡ y → T (place_test l w c)
    → (number_in l x y < w * w) × ((get_or l (number_in l x y) (spot 0 0)).x ≡ x) × ((get_or l (number_in l x y) (spot 0 0)).y ≡ y)
place_facts l w x y c p q t =
    let m = number_in l (c % w) (c / w) in
    let s = get_or l m (spot 0 0) in
    let u = three (ltb m (w * w)) (eqb s.x (c % w)) (eqb s.y (c / w)) t in
    let e : number_in l x y ≡ m = rw (p, q) in
    (rw e (ltb→lt m (w * w) u.0), rw e (eqb→eq s.x (c % w) u.1 ∙ p), rw e (eqb→eq s.y (c / w) u.2 ∙ q))

order_of : (l : List Spot) (w : ℕ) → T (order_test l w) → Order l w
order_of l w t = record {
  long = eqb→eq (length l) (w * w) u.0;
  in_x = λ i h. (n i h).0;
  in_y = λ i h. (n i h).1;
  number = λ i h. (n i h).2;
  below = λ x y hx hy. (g x y hx hy).0;
  at_x = λ x y hx hy. (g x y hx hy).1;
  at_y = λ x y hx hy. (g x y hx hy).2;
}
  where
    u : T (eqb (length l) (w * w)) × T (all_from (number_test l w) 0 (w * w)) × T (all_from (place_test l w) 0 (w * w))
    u = three (eqb (length l) (w * w)) (all_from (number_test l w) 0 (w * w)) (all_from (place_test l w) 0 (w * w)) t

    n : (i : ℕ) → i < w * w
        → ((get_or l i (spot 0 0)).x < w) × ((get_or l i (spot 0 0)).y < w) × (number_in l (get_or l i (spot 0 0)).x (get_or l i (spot 0 0)).y ≡ i)
    n i h = number_facts l w i (below (number_test l w) (w * w) u.1 i h)

    g : (x y : ℕ) → x < w → y < w
        → (number_in l x y < w * w) × ((get_or l (number_in l x y) (spot 0 0)).x ≡ x) × ((get_or l (number_in l x y) (spot 0 0)).y ≡ y)
    g x y hx hy =
        place_facts l w x y (y * w + x) (digits_mod y hx) (digits_div y hx) (below (place_test l w) (w * w) u.2 (y * w + x) (digits_lt hy hx))

pub scan_order_lem : (k s : ℕ) → k ≤ 3 → s ≤ 2 → Order (scan_order (2 ^ k) s) (2 ^ k)
scan_order_lem k s hk hs =
    order_of (scan_order (2 ^ k) s) (2 ^ k)
    (below (scan_test k) 3 (below (λ k. all_from (scan_test k) 0 3) 4 all_scans k (omega arith)) s (omega arith))

-- ---- the number of a place
module _ (k s x y : ℕ) (hk : k ≤ 3) (hs : s ≤ 2) (hx : x < 2 ^ k) (hy : y < 2 ^ k) where
  pub number_below : number_in (scan_order (2 ^ k) s) x y < 2 ^ k * 2 ^ k
  number_below = (scan_order_lem k s hk hs).below x y hx hy

  pub number_place : get_or (scan_order (2 ^ k) s) (number_in (scan_order (2 ^ k) s) x y) (spot 0 0) ≡ spot x y
  number_place = let o = scan_order_lem k s hk hs in ap₂ (λ a b. spot a b) (o.at_x x y hx hy) (o.at_y x y hx hy)

-- ---- the sub-blocks of a block of 2^log2
pub square_is : (k : ℕ) → k ≤ 3 → 2 ^ k * 2 ^ k ≡ 4 ^ k
square_is k h = eq_below (λ k. 2 ^ k * 2 ^ k) (λ k. 4 ^ k) 4 tt k (omega arith)

module _ (log2 s i : ℕ) (low : 2 ≤ log2) (high : log2 ≤ 5) (hs : s ≤ 2) (hi : i < 4 ^ (log2 - 2)) where
  pub outer_inside : ((get_or (scan_order (2 ^ (log2 - 2)) s) i (spot 0 0)).x < 2 ^ (log2 - 2)) × ((get_or (scan_order (2 ^ (log2 - 2)) s) i (spot 0 0)).y < 2 ^ (log2 - 2))
  outer_inside =
      let hk : log2 - 2 ≤ 3 = omega arith in
      let o = scan_order_lem (log2 - 2) s hk hs in
      let h : i < 2 ^ (log2 - 2) * 2 ^ (log2 - 2) = rw (square_is (log2 - 2) hk) hi in
      (o.in_x i h, o.in_y i h)

-- what sig_ctx asks of a coordinate of a sub-block, and where its places lie in the block
pub outer_small : (log2 a : ℕ) → log2 ≤ 5 → a < 2 ^ (log2 - 2) → (a ≤ 7) × (log2 ≡ 2 → a ≡ 0)
outer_small log2 a high h =
    let e : 2 ^ (log2 - 2) ≤ 8 = le_below (λ k. 2 ^ k) (λ _. 8) 4 tt (log2 - 2) (omega arith) in
    (omega arith, λ p. let q : 2 ^ (log2 - 2) ≡ 1 = rw p in omega arith)

pub cell_small : (log2 a b : ℕ) → 2 ≤ log2 → a < 2 ^ (log2 - 2) → b ≤ 3 → 4 * a + b < 2 ^ log2
cell_small log2 a b low ha hb =
    let p : suc (suc (log2 - 2)) ≡ log2 = omega arith in
    let h : 4 * a + b < 2 ^ suc (suc (log2 - 2)) = omega arith in
    rw p at h

-- ---- the places of a sub-block
module _ (s i : ℕ) (hs : s ≤ 2) where
  pub inner_inside : i < 16 → ((get_or (scan_order 4 s) i (spot 0 0)).x ≤ 3) × ((get_or (scan_order 4 s) i (spot 0 0)).y ≤ 3)
  inner_inside h = let o = scan_order_lem 2 s (omega arith) hs in (omega (arith, o.in_x i h), omega (arith, o.in_y i h))

  last_number : number_in (scan_order 4 s) 3 3 ≡ 15
  unfolding scan_order number_in
  last_number = eq_below (λ s. number_in (scan_order 4 s) 3 3) (λ _. 15) 3 tt s (omega arith)

  -- only the last place is the corner
  pub inner_before_last : i < 15 → (get_or (scan_order 4 s) i (spot 0 0)).x ≡ 3 → (get_or (scan_order 4 s) i (spot 0 0)).y ≡ 3 → ⊥
  inner_before_last h px py =
      let n : number_in (scan_order 4 s) (get_or (scan_order 4 s) i (spot 0 0)).x (get_or (scan_order 4 s) i (spot 0 0)).y ≡ i = (scan_order_lem 2 s (omega arith) hs).number i (omega arith) in
      let e : number_in (scan_order 4 s) 3 3 ≡ i = rw (px, py) at n in
      omega (arith, last_number)
