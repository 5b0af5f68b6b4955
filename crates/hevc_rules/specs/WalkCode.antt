-- The last sub-block and its last place as the code finds them. Assumes nothing.
use Rattle.std.specs.Prelude.{ℕ, ◌-◌, ◌^◌, ◌≤◌, ◌<◌, ◌≡◌, List, [], get_or}
use Rattle.std.proofs.Common.{sym, ◌∙◌, arith}
use Rattle.tables.specs.Table.{le_below}
use Rattle.hevc_residual.specs.declared.params.Params.{Params}
use Rattle.hevc_residual.specs.Wanted.{width, outer_of}
use Rattle.hevc_scans.specs.Pairs.{Orders}
use Rattle.hevc_head_rules.specs.declared.head.Head.{Head}
use Rattle.hevc_rules.specs.SubsAgree.{Last, last_of, last_in_of}
use Rattle.hevc_rules.specs.SmallLaws.{square_small}
use Rattle.hevc_rules.specs.WalkLaws.{last_below, last_in_below, only_one, sub_site}

-- ---- where the last significant position lies
module _ (p : Params) (h : Head) (g : Last p h) where
  width_few : width p ≤ 8
  width_few = le_below (λ k. 2 ^ k) (λ _. 8) 4 tt (p.log2 - 2) (omega (arith, g.most))

  pub last_few : (last : ℕ) → last ≡ last_of p h → last < 64
  last_few last e = omega (arith, last_below p h g, square_small (width p) width_few)

  pub last_in_few : (lastin : ℕ) → lastin ≡ last_in_of p h → lastin ≤ 15
  last_in_few lastin e = omega (arith, last_in_below p h g)

  pub only_last : (last i : ℕ) → last ≡ last_of p h → i ≤ last → p.log2 ≡ 2 → i ≡ last
  only_last last i e k q = only_one p h g i (omega arith) q ∙ sym e

  -- a place of the order is a small number
  module _ (order : List (List ℕ)) (o : Orders (4 ^ (p.log2 - 2)) (outer_of p) order) (i : ℕ) (k : i ≤ last_of p h) where
    pub column_few : get_or (get_or order i []) 0 0 < 8
    column_few = omega (arith, (sub_site p h g order o i k).column, width_few)

    pub row_few : get_or (get_or order i []) 1 0 < 8
    row_few = omega (arith, (sub_site p h g order o i k).row, width_few)
