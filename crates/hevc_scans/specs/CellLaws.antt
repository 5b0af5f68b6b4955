-- A block of 4·w × 4·w as w·w sub-blocks of 16: every cell is a place's, and one place's only. Assumes nothing.
use Rattle.std.specs.Prelude.{ℕ, ◌+◌, ◌*◌, ◌/◌, ◌%◌, ◌<◌, ◌≡◌, List, get_or}
use Rattle.std.proofs.Common.{sym, ap, ap₂, ◌∙◌, arith, div-lt_iff_lt-mul, mod-lt, div-add-mod'}
use Rattle.std.proofs.Math.Arith.{digits_lt, digits_div, digits_mod}
use Rattle.hevc_residual.specs.Scan.{Spot, spot, number_in}
use Rattle.hevc_scans.specs.ScanLaws.{Order}

-- cell y·4w + x of place k of sub-block i
module _ (outer inner : List Spot) (w : ℕ) (out : Order outer w) (inn : Order inner 4) where
  abbrev pub cell_x : ℕ → ℕ → ℕ
  cell_x i k = 4 * (get_or outer i (spot 0 0)).x + (get_or inner k (spot 0 0)).x

  abbrev pub cell_y : ℕ → ℕ → ℕ
  cell_y i k = 4 * (get_or outer i (spot 0 0)).y + (get_or inner k (spot 0 0)).y

  pub cell_in_x : (i k : ℕ) → i < w * w → k < 16 → cell_x i k < 4 * w
  cell_in_x i k hi hk = omega (arith, out.in_x i hi, inn.in_x k hk)

  pub cell_in_y : (i k : ℕ) → i < w * w → k < 16 → cell_y i k < 4 * w
  cell_in_y i k hi hk = omega (arith, out.in_y i hi, inn.in_y k hk)

  -- back from a place of the block
  pub cell_block : (i k : ℕ) → i < w * w → k < 16 → number_in outer (cell_x i k / 4) (cell_y i k / 4) ≡ i
  cell_block i k hi hk =
      let x : cell_x i k / 4 ≡ (get_or outer i (spot 0 0)).x = omega (arith, inn.in_x k hk) in
      let y : cell_y i k / 4 ≡ (get_or outer i (spot 0 0)).y = omega (arith, inn.in_y k hk) in
      rw (x, y) (out.number i hi)

  pub cell_in : (i k : ℕ) → i < w * w → k < 16 → number_in inner (cell_x i k % 4) (cell_y i k % 4) ≡ k
  cell_in i k hi hk =
      let x : cell_x i k % 4 ≡ (get_or inner k (spot 0 0)).x = omega (arith, inn.in_x k hk) in
      let y : cell_y i k % 4 ≡ (get_or inner k (spot 0 0)).y = omega (arith, inn.in_y k hk) in
      rw (x, y) (inn.number k hk)

  -- a place of the block has a sub-block and a number there
  pub record Found (x y : ℕ) : Type 0 where
    pub block : number_in outer (x / 4) (y / 4) < w * w
    pub place : number_in inner (x % 4) (y % 4) < 16
    pub is_x : cell_x (number_in outer (x / 4) (y / 4)) (number_in inner (x % 4) (y % 4)) ≡ x
    pub is_y : cell_y (number_in outer (x / 4) (y / 4)) (number_in inner (x % 4) (y % 4)) ≡ y

  pub found : (x y : ℕ) → x < 4 * w → y < 4 * w → Found x y
  found x y hx hy =
      let x4 : x / 4 < w = omega arith in
      let y4 : y / 4 < w = omega arith in
      record {
        block = out.below (x / 4) (y / 4) x4 y4;
        place = inn.below (x % 4) (y % 4) (omega arith) (omega arith);
        is_x = omega (arith, out.at_x (x / 4) (y / 4) x4 y4, inn.at_x (x % 4) (y % 4) (omega arith) (omega arith));
        is_y = omega (arith, out.at_y (x / 4) (y / 4) x4 y4, inn.at_y (x % 4) (y % 4) (omega arith) (omega arith));
      }

  module _ (size : ℕ) (whole : size ≡ 4 * w) where
    pub cell_inside : (i k : ℕ) → i < w * w → k < 16 → cell_y i k * size + cell_x i k < size * size
    cell_inside i k hi hk = digits_lt (rw whole (cell_in_y i k hi hk)) (rw whole (cell_in_x i k hi hk))

    pub cell_apart : (i k j m : ℕ) → i < w * w → k < 16 → j < w * w → m < 16
        → cell_y i k * size + cell_x i k ≡ cell_y j m * size + cell_x j m → (i ≡ j) × (k ≡ m)
    cell_apart i k j m hi hk hj hm e =
        let a : cell_x i k < size = rw whole (cell_in_x i k hi hk) in
        let c : cell_x j m < size = rw whole (cell_in_x j m hj hm) in
        let y : cell_y i k ≡ cell_y j m = sym (digits_div (cell_y i k) a) ∙ ap (λ z. z / size) e ∙ digits_div (cell_y j m) c in
        let x : cell_x i k ≡ cell_x j m = sym (digits_mod (cell_y i k) a) ∙ ap (λ z. z % size) e ∙ digits_mod (cell_y j m) c in (
          sym (cell_block i k hi hk) ∙ ap₂ (λ u v. number_in outer (u / 4) (v / 4)) x y ∙ cell_block j m hj hm,
          sym (cell_in i k hi hk) ∙ ap₂ (λ u v. number_in inner (u % 4) (v % 4)) x y ∙ cell_in j m hj hm,
        )

    -- every cell is a place's
    pub cell_onto : 0 < w → (c : ℕ) → c < size * size → (i k : ℕ) × (i < w * w) × (k < 16) × (cell_y i k * size + cell_x i k ≡ c)
    cell_onto hw c h =
        let sp : 0 < size = omega arith in
        let x : c % size < size = mod-lt c sp in
        let y : c / size < size = (div-lt_iff_lt-mul {k = size} {x = c} {y = size} sp).1 h in
        let f = found (c % size) (c / size) (omega arith) (omega arith) in (
          number_in outer (c % size / 4) (c / size / 4),
          number_in inner (c % size % 4) (c / size % 4),
          f.block,
          f.place,
          ap₂ (λ u v. u * size + v) f.is_y f.is_x ∙ div-add-mod' c size,
        )
