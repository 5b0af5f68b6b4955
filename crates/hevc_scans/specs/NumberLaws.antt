-- The number of a place, as the code works it out by formula. Assumes nothing.
use Rattle.std.specs.Prelude.{ℕ, ◌+◌, ◌-◌, ◌*◌, ◌/◌, ◌%◌, ◌^◌, ◌≤◌, ◌<◌, ◌≡◌, T, eqb, Bool, List}
use Rattle.std.proofs.Math.Path.{sym}
use Rattle.std.proofs.Common.{ap, ◌∙◌, mul-le-mul, lt-ltb, le-ltb, eqb→eq}
use native.Mathlib.Omega.{arith}
use Rattle.std.proofs.Math.Arith.{digits_lt, digits_div, digits_mod}
use Rattle.tables.specs.Table.{all_from, below, eq_below, le_below}
use Rattle.hevc_residual.specs.Scan.{Spot, scan_order, number_in}
use Rattle.hevc_scans.specs.Numbers.{triangle, diagonal_number, number_by}

pub eight : (k : ℕ) → k ≤ 3 → 2 ^ k ≤ 8
eight k h = le_below (λ k. 2 ^ k) (λ _. 8) 4 tt k (omega arith)

-- the code's shift
pub wide_is : (k : ℕ) → k ≤ 3 → 1 * 2 ^ k % 4294967296 ≡ 2 ^ k
wide_is k h = eq_below (λ k. 1 * 2 ^ k % 4294967296) (λ k. 2 ^ k) 4 tt k (omega arith)

pub small_product : (a b : ℕ) → a ≤ 8 → b ≤ 8 → a * b ≤ 64
small_product a b ha hb = mul-le-mul ha hb

pub triangle_small : (n : ℕ) → n ≤ 8 → n * (n + 1) ≤ 72
triangle_small n h = omega (arith, small_product n n h h)

pub square_pos : (w x : ℕ) → x < w → 1 ≤ w * w
square_pos w x h = mul-le-mul {n₁ = 1} {m₁ = 1} {n₂ = w} {m₂ = w} (omega arith) (omega arith)

room : (k m : ℕ) → m ≤ k → triangle m + (k + 2) ≤ (k + 2) * (k + 2)
room k m h = let q : m * m ≤ k * k = mul-le-mul h h in omega arith

-- what is taken from the end is there
pub back_fits : (w x y t : ℕ) → x < w → y < w → w ≤ x + y → t ≡ triangle (2 * w - 2 - (x + y)) → t + (w - 1 - x) ≤ w * w - 1
back_fits w x y t hx hy h e =
    let p : w ≡ w - 2 + 2 = omega arith in
    let q : triangle (2 * w - 2 - (x + y)) + (w - 2 + 2) ≤ (w - 2 + 2) * (w - 2 + 2) = room (w - 2) (2 * w - 2 - (x + y)) (omega arith) in
    let r : triangle (2 * w - 2 - (x + y)) + w ≤ w * w = rw (← p) at q in
    omega arith

pub front_is : (w x y t : ℕ) → x + y < w → t ≡ triangle (x + y) → t + x ≡ diagonal_number w x y
unfolding diagonal_number
front_is w x y t h e = simp (lt-ltb (x + y) w h, e)

pub back_is : (w x y t : ℕ) → w ≤ x + y → t ≡ triangle (2 * w - 2 - (x + y)) → w * w - 1 - (t + (w - 1 - x)) ≡ diagonal_number w x y
unfolding diagonal_number
back_is w x y t h e = simp (le-ltb (x + y) w h, e)

-- ---- the formula at every place y·w + x of every size and scan: one computed test
abbrev place_test : List Spot → (ℕ → ℕ → ℕ) → ℕ → ℕ → Bool
place_test l f w c = eqb (f (c % w) (c / w)) (number_in l (c % w) (c / w))

abbrev scan_test : ℕ → ℕ → Bool
scan_test k s = all_from (place_test (scan_order (2 ^ k) s) (number_by (2 ^ k) s) (2 ^ k)) 0 (2 ^ k * 2 ^ k)

all_scans : T (all_from (λ k. all_from (scan_test k) 0 3) 0 4)
unfolding scan_order number_in number_by
all_scans = tt

at_place : (l : List Spot) (f : ℕ → ℕ → ℕ) (w x y : ℕ) → x < w → y < w → T (all_from (place_test l f w) 0 (w * w)) → f x y ≡ number_in l x y
at_place l f w x y hx hy t =
    let c = y * w + x in
    let e : f (c % w) (c / w) ≡ number_in l (c % w) (c / w) =
    eqb→eq (f (c % w) (c / w)) (number_in l (c % w) (c / w)) (below (place_test l f w) (w * w) t c (digits_lt hy hx)) in
    rw (digits_mod y hx, digits_div y hx) at e

formula : (k s x y : ℕ) → k ≤ 3 → s ≤ 2 → x < 2 ^ k → y < 2 ^ k → number_by (2 ^ k) s x y ≡ number_in (scan_order (2 ^ k) s) x y
formula k s x y hk hs hx hy =
    at_place (scan_order (2 ^ k) s) (number_by (2 ^ k) s) (2 ^ k) x y hx hy
    (below (scan_test k) 3 (below (λ k. all_from (scan_test k) 0 3) 4 all_scans k (omega arith)) s (omega arith))

-- ---- by scan, for a w that is 2^k
pub product_small : (k v w : ℕ) → k ≤ 3 → v < 2 ^ k → w ≡ 2 ^ k → v * w ≤ 64
product_small k v w hk hv hw = let e = eight k hk in small_product v w (omega arith) (omega arith)

module _ (k s x y w : ℕ) (hk : k ≤ 3) (hs : s ≤ 2) (hx : x < 2 ^ k) (hy : y < 2 ^ k) (hw : w ≡ 2 ^ k) where
  pub number_is : number_by w s x y ≡ number_in (scan_order (2 ^ k) s) x y
  number_is = rw hw (formula k s x y hk hs hx hy)

  pub number_diagonal : (r : ℕ) → s ≡ 0 → r ≡ diagonal_number w x y → r ≡ number_in (scan_order (2 ^ k) s) x y
  unfolding number_by
  number_diagonal r p e = e ∙ sym (ap (λ s. number_by w s x y) p) ∙ number_is

  pub number_row : s ≡ 1 → y * w + x ≡ number_in (scan_order (2 ^ k) s) x y
  unfolding number_by
  number_row p = sym (ap (λ s. number_by w s x y) p) ∙ number_is

  pub number_column : (s ≡ 0 → ⊥) → (s ≡ 1 → ⊥) → x * w + y ≡ number_in (scan_order (2 ^ k) s) x y
  unfolding number_by
  number_column a b = let p : s ≡ 2 = omega arith in sym (ap (λ s. number_by w s x y) p) ∙ number_is
