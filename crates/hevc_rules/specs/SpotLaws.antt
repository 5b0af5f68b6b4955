-- The places of a sub-block as the code finds them: rows of two, inside the sub-block, and the cell inside the block. Assumes nothing.
use Rattle.std.specs.Prelude.{ℕ, zero, suc, ◌+◌, ◌-◌, ◌*◌, ◌%◌, ◌^◌, ◌≤◌, ◌<◌, ◌≡◌, refl, List, [], ◌∷◌, ltb, get_or}
use Rattle.std.proofs.Common.{sym, ◌∙◌, arith, pow-suc, mul-le-mul_right, ltb→lt, pow-add, pow_mono, shl_exact}
use Rattle.std.proofs.Math.Path.{ap, ap₂, subst}
use Rattle.std.proofs.Math.Arith.{digits_lt}
use Rattle.tables.specs.Table.{below}
use Rattle.hevc_residual.specs.declared.params.Params.{Params}
use Rattle.hevc_residual.specs.Scan.{Spot, spot, scan_order}
use Rattle.hevc_residual.specs.Wanted.{width, inner_of, spot_in}
use Rattle.hevc_scans.specs.Pairs.{pairs_of}
use Rattle.hevc_rules.specs.LevelsAgree.{Site, Lies}

-- ---- rows of two
pub pairs_x : (l : List Spot) (k : ℕ) → get_or (get_or (pairs_of l) k []) 0 0 ≡ (get_or l k (spot 0 0)).x
unfolding pairs_of
pairs_x [] k = refl
pairs_x (s ∷ l) zero = refl
pairs_x (s ∷ l) (suc k) = pairs_x l k

pub pairs_y : (l : List Spot) (k : ℕ) → get_or (get_or (pairs_of l) k []) 1 0 ≡ (get_or l k (spot 0 0)).y
unfolding pairs_of
pairs_y [] k = refl
pairs_y (s ∷ l) zero = refl
pairs_y (s ∷ l) (suc k) = pairs_y l k

-- ---- the 16 places of a sub-block lie in it, in each scan
inner_x : (scan k : ℕ) → scan ≤ 2 → k < 16 → (get_or (scan_order 4 scan) k (spot 0 0)).x < 4
unfolding scan_order
inner_x zero k h i = ltb→lt (get_or (scan_order 4 0) k (spot 0 0)).x 4 (below (λ k. ltb (get_or (scan_order 4 0) k (spot 0 0)).x 4) 16 tt k i)
inner_x (suc zero) k h i = ltb→lt (get_or (scan_order 4 1) k (spot 0 0)).x 4 (below (λ k. ltb (get_or (scan_order 4 1) k (spot 0 0)).x 4) 16 tt k i)
inner_x (suc (suc zero)) k h i = ltb→lt (get_or (scan_order 4 2) k (spot 0 0)).x 4 (below (λ k. ltb (get_or (scan_order 4 2) k (spot 0 0)).x 4) 16 tt k i)
inner_x (suc (suc (suc n))) k h i = absurd (omega arith)

inner_y : (scan k : ℕ) → scan ≤ 2 → k < 16 → (get_or (scan_order 4 scan) k (spot 0 0)).y < 4
unfolding scan_order
inner_y zero k h i = ltb→lt (get_or (scan_order 4 0) k (spot 0 0)).y 4 (below (λ k. ltb (get_or (scan_order 4 0) k (spot 0 0)).y 4) 16 tt k i)
inner_y (suc zero) k h i = ltb→lt (get_or (scan_order 4 1) k (spot 0 0)).y 4 (below (λ k. ltb (get_or (scan_order 4 1) k (spot 0 0)).y 4) 16 tt k i)
inner_y (suc (suc zero)) k h i = ltb→lt (get_or (scan_order 4 2) k (spot 0 0)).y 4 (below (λ k. ltb (get_or (scan_order 4 2) k (spot 0 0)).y 4) 16 tt k i)
inner_y (suc (suc (suc n))) k h i = absurd (omega arith)

-- ---- the cell
four_pow : (n : ℕ) → 4 ^ n ≡ 2 ^ n * 2 ^ n
four_pow zero = refl
four_pow (suc n) = omega (arith, pow-suc 4 n, four_pow n, ap₂ ◌*◌ (pow-suc 2 n) (pow-suc 2 n))

four_widths : (n : ℕ) → 2 ≤ n → 2 ^ (n - 2) * 4 ≡ 2 ^ n
four_widths n h =
    let q : n - 2 + 2 ≡ n = omega arith in
    sym (pow-add 2 (n - 2) 2) ∙ ap (λ k. 2 ^ k) q

-- what the code reads of the scan at place k
pub record Inside (p : Params) (k x y : ℕ) : Type 0 where
  pub is_x : x ≡ (get_or (inner_of p) k (spot 0 0)).x
  pub is_y : y ≡ (get_or (inner_of p) k (spot 0 0)).y
  pub less_x : x < 4
  pub less_y : y < 4

module _ (p : Params) (xs ys : ℕ) (site : Site p xs ys) (k : ℕ) (h : k < 16) where
  pub inside : (order : List (List ℕ)) → order ≡ pairs_of (inner_of p) → Inside p k (get_or (get_or order k []) 0 0) (get_or (get_or order k []) 1 0)
  inside order q =
      let ex : get_or (get_or order k []) 0 0 ≡ (get_or (inner_of p) k (spot 0 0)).x = ap (λ (o : List (List ℕ)). get_or (get_or o k []) 0 0) q ∙ pairs_x (inner_of p) k in
      let ey : get_or (get_or order k []) 1 0 ≡ (get_or (inner_of p) k (spot 0 0)).y = ap (λ (o : List (List ℕ)). get_or (get_or o k []) 1 0) q ∙ pairs_y (inner_of p) k in
      record {
        is_x = ex;
        is_y = ey;
        less_x = subst (λ (n : ℕ). n < 4) (sym ex) (inner_x p.scan k site.scan h);
        less_y = subst (λ (n : ℕ). n < 4) (sym ey) (inner_y p.scan k site.scan h);
      }

  width_most : width p ≤ 8
  width_most = pow_mono {i = p.log2 - 2} {j = 3} (omega (arith, site.most))

  -- a column or row of sub-blocks, and one in it
  pub within : (s x : ℕ) → s < width p → x < 4 → (4 * s + x < 2 ^ p.log2) × (4 * s + x ≤ 31)
  within s x a b =
      let w = width_most in
      (omega (arith, four_widths p.log2 site.least), omega arith)

  pub row_shift : (y : ℕ) → y ≤ 31 → y * 2 ^ p.log2 % 2 ^ 32 ≡ y * 2 ^ p.log2
  row_shift y b = shl_exact 5 p.log2 32 (omega arith) (omega (arith, site.most))

  pub cell_small : (x y : ℕ) → x ≤ 31 → y ≤ 31 → y * 2 ^ p.log2 + x ≤ 1023
  cell_small x y a b =
      let m : 2 ^ p.log2 ≤ 32 = pow_mono {i = p.log2} {j = 5} site.most in
      let n : y * 2 ^ p.log2 ≤ 31 * 2 ^ p.log2 = mul-le-mul_right (2 ^ p.log2) b in
      omega arith

  -- what the code makes of it: the column, and the cell
  pub lies : (x y at : ℕ) → Inside p k x y → at ≡ (4 * ys + y) * 2 ^ p.log2 % 2 ^ 32 + (4 * xs + x) → Lies p xs ys k (4 * xs + x) at
  unfolding spot_in
  lies x y at i q =
      let a = within xs x site.column i.less_x in
      let b = within ys y site.row i.less_y in
      let e : at ≡ (4 * ys + y) * 2 ^ p.log2 + (4 * xs + x) = q ∙ ap (λ n. n + (4 * xs + x)) (row_shift (4 * ys + y) b.1) in
      record {
        is_column = ap (λ n. 4 * xs + n) i.is_x;
        is_cell = e ∙ ap₂ (λ m n. (4 * ys + m) * 2 ^ p.log2 + (4 * xs + n)) i.is_y i.is_x;
        narrow = a.1;
        in_block = subst (λ (n : ℕ). at < n) (sym (four_pow p.log2)) (subst (λ (n : ℕ). n < 2 ^ p.log2 * 2 ^ p.log2) (sym e) (digits_lt b.0 a.0));
      }
