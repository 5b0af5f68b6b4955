-- The tree of levels: one clause of it, by what goes from level to level. Assumes nothing.
use Rattle.std.specs.Prelude.{ℕ, ◌+◌, ◌-◌, ◌%◌, ◌<◌, ◌≡◌, Bool, true, false, List, ℤ, nat_abs, set}
use Rattle.std.proofs.Math.Path.{ap}
use Rattle.bins.specs.Syn.{done, stop, ◌>>=◌}
use Rattle.hevc_residual.specs.declared.params.Params.{Params}
use Rattle.hevc_residual.specs.Wanted.{Wanted, S, cell_of, inner_of, spot_in}
use Rattle.hevc_residual.specs.Scan.{Spot}
use Rattle.hevc_residual.specs.Remainder.{log2_transform_range, in_range, signed}
use Rattle.hevc_residual.specs.SubBlock.{dues, Filled, levels_s, negative_now}
use Rattle.hevc_rules.specs.declared.levels.Going.{Going}
use Rattle.hevc_places.specs.Packing.{unpack, unmask}
use Rattle.hevc_rules.specs.LevelsAgree.{Based, extra_s, behind_of, going_s}
use Rattle.hevc_rules.specs.DueLaws.{dues_turn}

-- ---- one clause of the tree
module _ (p : Params) (s : Spot) (lv : ℕ → Wanted → ℤ) (g2 : Bool) (signs : ℕ) (g : Going) (levels : List ℤ) (level : ℕ) (more : Bool) where
  abbrev pub place_of : Spot
  place_of = spot_in (inner_of p) s (g.places % 16)

  -- what is wanted of its remainder
  abbrev pub wants : Wanted → ℕ
  wants t = nat_abs (lv (g.places % 16) t) - level

  abbrev pub sign_of : ℕ → Bool
  sign_of v = negative_now g.signs signs (g.sum + (level + v))

  abbrev pub goes_on : ℕ → S Filled
  goes_on v =
      going_s p s lv g2 signs (behind_of p g more v (level + v) (g.sum + (level + v)) place_of.x)
      (set levels (cell_of p place_of) (signed (sign_of v) (level + v)))

  abbrev pub if_in : ℕ → Bool → S Filled
  if_in v b = elim b [ false ↦ stop 8 | true ↦ goes_on v ]

  -- what follows its remainder v
  abbrev pub rest_s : ℕ → S Filled
  rest_s v = if_in v (in_range (log2_transform_range p) (sign_of v) (level + v))

  pub going_turn : 0 < g.count → Based level more g.mask g.bins g.seen g2
      → going_s p s lv g2 signs g levels ≡ (extra_s p more g.rice wants >>= rest_s)
  unfolding levels_s
  going_turn h b =
      ap (λ ds. levels_s p lv (spot_in (inner_of p) s) ds g.signs signs g.rice g.had g.sum
      (record { levels = levels; column = g.column; stat = g.stat }))
      (dues_turn g.places g.count g.mask g.bins g.seen g2 level more h b)

-- ---- the loop
pub going_end : (p : Params) (s : Spot) (lv : ℕ → Wanted → ℤ) (g2 : Bool) (signs : ℕ) (g : Going) (levels : List ℤ) → g.count ≡ 0
    → going_s p s lv g2 signs g levels ≡ done (record { levels = levels; column = g.column; stat = g.stat })
unfolding levels_s dues unpack
going_end p s lv g2 signs g levels q =
    ap (λ n. levels_s p lv (spot_in (inner_of p) s) (dues (unpack g.places n) (unmask g.mask g.bins) g.seen g2)
    g.signs signs g.rice g.had g.sum (record { levels = levels; column = g.column; stat = g.stat })) q
