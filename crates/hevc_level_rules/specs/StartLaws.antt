-- What the loop over a sub-block's levels starts from, read or written. Assumes nothing.
use Rattle.std.specs.Prelude.{ℕ, ◌-◌, ◌/◌, ◌^◌, ◌≤◌, ◌<◌, min, ◌≡◌, Bool, true, false, cond, List, get_or}
use Rattle.std.proofs.Common.{sym, subst, arith}
use Rattle.hevc_residual.specs.declared.params.Params.{Params}
use Rattle.hevc_residual.specs.Limits.{Statistics}
use Rattle.hevc_rules.specs.declared.levels.Going.{Going}
use Rattle.hevc_places.specs.declared.places.Places.{Places}
use Rattle.hevc_places.specs.Packing.{Packs}
use Rattle.hevc_rules.specs.LevelsAgree.{Fine}

-- by the significant places, the greater1 bins and how many those are, how many signs are hidden, the Rice parameter, the statistic and the column extent so far
abbrev pub start_of : Places → ℕ → ℕ → ℕ → ℕ → ℕ → ℕ → Going
start_of s mask n hid rice stat column =
    record {
      places = s.packed;
      count = s.count;
      mask = mask;
      bins = n;
      seen = false;
      signs = s.count - hid;
      rice = rice;
      had = false;
      sum = 0;
      column = column;
      stat = stat;
    }

pub start_fits : (p : Params) (s : Places) (mask n hid rice stat column : ℕ) (stats : List ℕ) (sb : ℕ) → Packs s → mask < 2 ^ n → n ≡ min 8 s.count
    → stat ≡ get_or stats sb 0 → Statistics stats → rice ≡ cond p.persistent (stat / 4) 0 → column ≤ 31 → Fine p (start_of s mask n hid rice stat column)
start_fits p s mask n hid rice stat column stats sb k small en es st er narrow =
    record {
      places = k.small;
      few = k.few;
      mask = small;
      bins = omega arith;
      signs = omega (arith, k.few);
      rice = go p.persistent er;
      stat = stat-few;
      sum = omega (arith, k.few);
      column = narrow;
    }
  where
    stat-few : stat ≤ 84
    stat-few = subst (λ i. i ≤ 84) (sym es) (st sb)

    go : (b : Bool) → rice ≡ cond b (stat / 4) 0 → rice ≤ 21
    go true q = omega (arith, stat-few)
    go false q = omega arith
