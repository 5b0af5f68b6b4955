-- What goes from level to level of a sub-block, and the tree of the levels that are left.
use Rattle.std.specs.Prelude.{ℕ, ◌+◌, ◌-◌, ◌*◌, ◌/◌, ◌^◌, ◌≤◌, ◌<◌, max, ◌≡◌, Bool, true, false, not, ◌&&◌, ◌||◌, cond, List, [], ◌∷◌, ℤ}
use Rattle.bins.specs.Engine.{bit_no}
use Rattle.bins.specs.Syn.{done}
use Rattle.hevc_residual.specs.declared.params.Params.{Params}
use Rattle.hevc_residual.specs.Wanted.{Wanted, S, area, cell_of, width, inner_of, spot_in}
use Rattle.hevc_residual.specs.Scan.{Spot, spot}
use Rattle.hevc_residual.specs.Remainder.{remainder_s, rice_next, stat_next}
use Rattle.hevc_residual.specs.SubBlock.{dues, Filled, levels_s}
use Rattle.hevc_rules.specs.declared.levels.Going.{Going}
use Rattle.hevc_places.specs.Packing.{unpack, unmask}

-- a sub-block of an accepted block
pub record Site (p : Params) (xs ys : ℕ) : Type 0 where
  pub least : 2 ≤ p.log2
  pub most : p.log2 ≤ 5
  pub scan : p.scan ≤ 2
  pub depth : p.depth ≤ 16
  pub column : xs < width p
  pub row : ys < width p

-- what the loop keeps
pub record Fine (p : Params) (g : Going) : Type 0 where
  pub places : g.places < 16 ^ g.count
  pub few : g.count ≤ 16
  pub mask : g.mask < 2 ^ g.bins
  pub bins : g.bins ≤ 8
  pub signs : g.signs ≤ 16
  pub rice : g.rice ≤ 21
  pub stat : g.stat ≤ 84
  pub sum : g.sum + g.count * 4194304 ≤ 16 * 4194304
  pub column : g.column ≤ 31

-- ---- the level that is due next, by the greater1 bins left, whether one was met already, and greater2
-- its base_level
unfoldable pub base_now : List Bool → Bool → Bool → ℕ
base_now [] seen g2 = 1
base_now (false ∷ gs) seen g2 = 1
base_now (true ∷ gs) false g2 = 2 + bit_no g2
base_now (true ∷ gs) true g2 = 2

-- whether a remainder follows
unfoldable pub more_now : List Bool → Bool → Bool → Bool
more_now [] seen g2 = true
more_now (false ∷ gs) seen g2 = false
more_now (true ∷ gs) false g2 = g2
more_now (true ∷ gs) true g2 = true

-- and whether a greater1 was met behind it
unfoldable pub seen_now : List Bool → Bool → Bool
seen_now [] seen = seen
seen_now (false ∷ gs) seen = seen
seen_now (true ∷ gs) seen = true

-- what the code finds of it
pub record Based (level : ℕ) (more : Bool) (mask bins : ℕ) (seen g2 : Bool) : Type 0 where
  pub base : level ≡ base_now (unmask mask bins) seen g2
  pub follows : more ≡ more_now (unmask mask bins) seen g2

-- where it goes: place k of the scan of sub-block (xs, ys)
pub record Lies (p : Params) (xs ys k column at : ℕ) : Type 0 where
  pub is_column : column ≡ (spot_in (inner_of p) (spot xs ys) k).x
  pub is_cell : at ≡ cell_of p (spot_in (inner_of p) (spot xs ys) k)
  pub narrow : column ≤ 31
  pub in_block : at < area p

-- its remainder, where one follows
abbrev pub extra_s : Params → Bool → ℕ → (Wanted → ℕ) → S ℕ
extra_s p more cRiceParam w = elim more [ true ↦ remainder_s p cRiceParam w | false ↦ done 0 ]

-- what goes on behind a level of remainder v, magnitude m and a column, where the magnitudes come to sum
abbrev pub behind_of : Params → Going → Bool → ℕ → ℕ → ℕ → ℕ → Going
behind_of p g more v m sum column =
    record {
      places = g.places / 16;
      count = g.count - 1;
      mask = g.mask / 2;
      bins = g.bins - 1;
      seen = seen_now (unmask g.mask g.bins) g.seen;
      signs = g.signs - 1;
      rice = cond more (rice_next p g.rice m) g.rice;
      had = g.had || more;
      sum = sum;
      column = max g.column column;
      stat = cond (more && (p.persistent && not g.had)) (stat_next g.stat v) g.stat;
    }

-- what is left to read, lv being the level wanted at a place of the scan of sub-block s
abbrev pub going_s : Params → Spot → (ℕ → Wanted → ℤ) → Bool → ℕ → Going → List ℤ → S Filled
going_s p s lv greater2 signs g levels =
    levels_s p lv (spot_in (inner_of p) s) (dues (unpack g.places g.count) (unmask g.mask g.bins) g.seen greater2)
    g.signs signs g.rice g.had g.sum (record { levels = levels; column = g.column; stat = g.stat })
