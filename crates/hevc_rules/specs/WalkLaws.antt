-- Where the last significant position lies. Assumes nothing.
use Rattle.std.specs.Prelude.{ℕ, suc, ◌-◌, ◌*◌, ◌/◌, ◌%◌, ◌^◌, ◌≤◌, ◌<◌, ◌≡◌, List, [], get_or}
use Rattle.std.proofs.Common.{sym, ap, ◌∙◌, arith}
use Rattle.hevc_residual.specs.declared.params.Params.{Params}
use Rattle.hevc_residual.specs.Scan.{Spot, spot}
use Rattle.hevc_residual.specs.Wanted.{width, outer_of}
use Rattle.hevc_scans.specs.Pairs.{Orders, pair}
use Rattle.hevc_scans.specs.ScanLaws.{number_below, outer_inside, square_is}
use Rattle.hevc_head_rules.specs.declared.head.Head.{Head}
use Rattle.hevc_rules.specs.LevelsAgree.{Site}
use Rattle.hevc_rules.specs.SubsAgree.{Last, last_of, last_in_of}

-- ---- where the last significant position lies
module _ (p : Params) (h : Head) (g : Last p h) where
  quarter : (a : ℕ) → a < 2 ^ p.log2 → a / 4 < 2 ^ (p.log2 - 2)
  quarter a k =
      let s : suc (suc (p.log2 - 2)) ≡ p.log2 = omega (arith, g.least) in
      let w : 2 ^ p.log2 ≡ 4 * 2 ^ (p.log2 - 2) = ap (λ n. 2 ^ n) (sym s) ∙ four (p.log2 - 2) in
      omega arith
    where
      four : (n : ℕ) → 2 ^ suc (suc n) ≡ 4 * 2 ^ n
      four n = omega arith

  pub last_column : h.x / 4 < 2 ^ (p.log2 - 2)
  last_column = quarter h.x g.column

  pub last_row : h.y / 4 < 2 ^ (p.log2 - 2)
  last_row = quarter h.y g.row

  pub few : p.log2 - 2 ≤ 3
  few = omega (arith, g.most)

  pub last_below : last_of p h < width p * width p
  last_below = number_below (p.log2 - 2) p.scan (h.x / 4) (h.y / 4) few g.scan last_column last_row

  pub last_in_below : last_in_of p h ≤ 15
  last_in_below = omega (arith, number_below 2 p.scan (h.x % 4) (h.y % 4) (omega arith) g.scan (omega arith) (omega arith))

  -- a 4x4 block has one sub-block
  pub only_one : (i : ℕ) → i ≤ last_of p h → p.log2 ≡ 2 → i ≡ last_of p h
  only_one i k e =
      let w : width p ≡ 1 = ap (λ n. 2 ^ (n - 2)) e in
      let v : width p * width p ≡ 1 = ap (λ n. n * n) w in
      omega (arith, last_below)

  -- sub-block number i as the order has it
  module _ (order : List (List ℕ)) (o : Orders (4 ^ (p.log2 - 2)) (outer_of p) order) (i : ℕ) (k : i ≤ last_of p h) where
    inside : i < 4 ^ (p.log2 - 2)
    inside = omega (arith, last_below, square_is (p.log2 - 2) few)

    pub sub_spot : get_or (outer_of p) i (spot 0 0) ≡ spot (get_or (get_or order i []) 0 0) (get_or (get_or order i []) 1 0)
    sub_spot =
        let r : get_or order i [] ≡ pair (get_or (outer_of p) i (spot 0 0)) = o.row i inside in
        sym (ap (λ (z : List ℕ). spot (get_or z 0 0) (get_or z 1 0)) r)

    pub sub_site : Site p (get_or (get_or order i []) 0 0) (get_or (get_or order i []) 1 0)
    sub_site =
        let b = outer_inside p.log2 p.scan i g.least g.most g.scan inside in
        let x : (get_or (outer_of p) i (spot 0 0)).x ≡ get_or (get_or order i []) 0 0 = ap (λ (z : Spot). z.x) sub_spot in
        let y : (get_or (outer_of p) i (spot 0 0)).y ≡ get_or (get_or order i []) 1 0 = ap (λ (z : Spot). z.y) sub_spot in
        record { least = g.least; most = g.most; scan = g.scan; depth = g.depth; column = omega (arith, b.0); row = omega (arith, b.1) }
