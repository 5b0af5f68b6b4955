-- Rows of the code's tables are places of the scans. Assumes nothing.
use Rattle.std.specs.Prelude.{ℕ, zero, suc, ◌+◌, ◌-◌, ◌^◌, ◌≤◌, ◌<◌, ◌≡◌, refl, List, [], ◌∷◌, length, get_or, set}
use Rattle.std.proofs.Common.{ap, ◌∙◌, arith, below_more, length-set, get_or-set_same, get_or-set_other}
use Rattle.hevc_residual.specs.Scan.{Spot, spot, scan_order}
use Rattle.hevc_scans.specs.Pairs.{pair, pairs_of, Orders, Begins}
use Rattle.hevc_scans.specs.ScanLaws.{scan_order_lem, square_is}

pub pairs_long : (l : List Spot) → length (pairs_of l) ≡ length l
unfolding pairs_of
pairs_long [] = refl
pairs_long (s ∷ l) = ap suc (pairs_long l)

pub pairs_at : (l : List Spot) (i : ℕ) → i < length l → get_or (pairs_of l) i [] ≡ pair (get_or l i (spot 0 0))
unfolding pairs_of
pairs_at [] i h = absurd (omega arith)
pairs_at (s ∷ l) zero h = refl
pairs_at (s ∷ l) (suc i) h = pairs_at l i (omega arith)

-- a table that begins with all of an order
pub begins_orders : (l : List Spot) (few r : List (List ℕ)) (n : ℕ) → few ≡ pairs_of l → n ≤ length l → Begins few r → Orders n l r
begins_orders l few r n e h b = record {
  row = λ i k.
      let f : i < length few = rw (e, pairs_long l) (omega arith) in
      b.row i f ∙ ap (λ t. get_or t i []) e ∙ pairs_at l i (omega arith);
}

pub begins_self : (r : List (List ℕ)) → Begins r r
begins_self r = record { row = λ i h. refl }

pub pairs_orders : (l : List Spot) (r : List (List ℕ)) (n : ℕ) → r ≡ pairs_of l → n ≤ length l → Orders n l r
pairs_orders l r n e h = begins_orders l r r n e h (begins_self r)

-- column and row, as the code reads them
pub at_column : (n : ℕ) (l : List Spot) (r : List (List ℕ)) → Orders n l r → (i : ℕ) → i < n → get_or (get_or r i []) 0 0 ≡ (get_or l i (spot 0 0)).x
at_column n l r o i h = rw (o.row i h)

pub at_row : (n : ℕ) (l : List Spot) (r : List (List ℕ)) → Orders n l r → (i : ℕ) → i < n → get_or (get_or r i []) 1 0 ≡ (get_or l i (spot 0 0)).y
at_row n l r o i h = rw (o.row i h)

-- ---- the loop that copies the rows
pub record Copied (few all : List (List ℕ)) (i : ℕ) : Type 0 where
  pub within : i ≤ length few
  pub long : length all ≡ 64
  pub row : (k : ℕ) → k < i → get_or all k [] ≡ get_or few k []

pub copy_begins : (few all : List (List ℕ)) → length all ≡ 64 → Copied few all 0
copy_begins few all h = record { within = omega arith; long = h; row = λ k h. absurd (omega arith) }

pub copy_more : (few all : List (List ℕ)) (i : ℕ) → length few ≤ 64 → Copied few all i → i < length few → Copied few (set all i (get_or few i [])) (i + 1)
copy_more few all i f c h = record {
  within = omega arith;
  long = length-set all i (get_or few i []) ∙ c.long;
  row =
      below_more (λ k. get_or (set all i (get_or few i [])) k [] ≡ get_or few k []) i
      (λ k l. get_or-set_other all i k (get_or few i []) [] (λ e. omega arith) ∙ c.row k l)
      (get_or-set_same all i (get_or few i []) [] (omega (arith, c.long)));
}

pub copy_ends : (few all : List (List ℕ)) (i : ℕ) → Copied few all i → length few ≤ i → Begins few all
copy_ends few all i c h = record { row = λ k l. c.row k (omega arith) }

-- ---- the orders by size
order_long : (k s : ℕ) → k ≤ 3 → s ≤ 2 → length (scan_order (2 ^ k) s) ≡ 4 ^ k
order_long k s hk hs = (scan_order_lem k s hk hs).long ∙ square_is k hk

pub widened_orders : (k s : ℕ) → k ≤ 3 → s ≤ 2 → (few r : List (List ℕ)) (log2 : ℕ) → log2 ≡ k + 2 → few ≡ pairs_of (scan_order (2 ^ k) s) → Begins few r
    → Orders (4 ^ (log2 - 2)) (scan_order (2 ^ (log2 - 2)) s) r
widened_orders k s hk hs few r log2 p e b =
    let q : log2 - 2 ≡ k = omega arith in
    rw q (begins_orders (scan_order (2 ^ k) s) few r (4 ^ k) e (omega (arith, order_long k s hk hs)) b)

-- a grid of one place
one_place : (s : ℕ) → scan_order 1 s ≡ spot 0 0 ∷ []
unfolding scan_order
one_place zero = refl
one_place (suc zero) = refl
one_place (suc (suc s)) = refl

pub one_wide : (log2 s : ℕ) (r : List (List ℕ)) → log2 ≡ 2 → get_or r 0 [] ≡ 0 ∷ 0 ∷ [] → Orders (4 ^ (log2 - 2)) (scan_order (2 ^ (log2 - 2)) s) r
one_wide log2 s r p h = rw (p, one_place s) (record { row = λ i l. let z : i ≡ 0 = omega arith in rw z h })
