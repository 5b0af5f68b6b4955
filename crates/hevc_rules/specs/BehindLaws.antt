-- Behind a level: whether it is in range, what goes on as the code makes it, and that this stays within bounds. Assumes nothing.
use Rattle.std.specs.Prelude.{ℕ, zero, suc, ◌+◌, ◌-◌, ◌/◌, ◌^◌, ◌≤◌, ◌<◌, min, max, ◌≡◌, refl, Bool, true, false, not, ◌&&◌, ◌||◌, cond, leb}
use Rattle.std.proofs.Common.{ap, ◌∙◌, arith, pow-suc, pow_mono, ltb-true, leb-true, leb-false, le-ltb}
use Rattle.std.proofs.lemmas.Bool.{lt-leb}
use Rattle.hevc_residual.specs.declared.params.Params.{Params}
use Rattle.hevc_residual.specs.LimitLaws.{rice_most, stat_most, cond_most}
use Rattle.hevc_residual.specs.Remainder.{in_range, rice_next, stat_next}
use Rattle.hevc_rules.specs.declared.levels.Going.{Going}
use Rattle.hevc_places.specs.Packing.{unmask}
use Rattle.hevc_magnitudes.specs.Most.{most}
use Rattle.hevc_rules.specs.LevelsAgree.{Fine, seen_now, behind_of}

-- ---- the range: a value above what is told apart is out of it, whatever its sign
module _ (t : ℕ) (small : t ≤ 22) where
  pub range_most : (neg : Bool) (m : ℕ) → in_range t neg m ≡ true → m ≤ 4194304
  range_most true m q = let k : 2 ^ t ≤ 2 ^ 22 = pow_mono small in omega (arith, leb-true m (2 ^ t) q)
  range_most false m q = let k : 2 ^ t ≤ 2 ^ 22 = pow_mono small in omega (arith, ltb-true m (2 ^ t) q)

  range_above : (neg : Bool) (m : ℕ) → 4194304 < m → in_range t neg m ≡ false
  range_above true m h = let k : 2 ^ t ≤ 2 ^ 22 = pow_mono small in lt-leb m (2 ^ t) (omega arith)
  range_above false m h = let k : 2 ^ t ≤ 2 ^ 22 = pow_mono small in le-ltb m (2 ^ t) (omega arith)

  pub range_out : (neg : ℕ → Bool) (level u v : ℕ) → v ≡ min u most → in_range t (neg v) (level + v) ≡ false
      → in_range t (neg u) (level + u) ≡ false
  range_out neg level u v q h = go (leb u most) refl
    where
      go : (d : Bool) → leb u most ≡ d → in_range t (neg u) (level + u) ≡ false
      go true e =
          let s : u ≡ v = omega (arith, leb-true u most e) in
          ap (λ k. in_range t (neg k) (level + k)) s ∙ h
      go false e = range_above (neg u) (level + u) (omega (arith, leb-false u most e))

-- ---- what goes on, as the code makes it
pub chosen : (d : Bool) (x y r : ℕ) → d ≡ true → r ≡ x → r ≡ cond d x y
chosen d x y r q h = rw q h

pub other : (d : Bool) (x y : ℕ) → d ≡ false → y ≡ cond d x y
other d x y q = rw q

module _ (more persistent had : Bool) (s v : ℕ) where
  pub stat_moves : (r : ℕ) → more ≡ true → persistent ≡ true → not had ≡ true → r ≡ stat_next s v
      → r ≡ cond (more && (persistent && not had)) (stat_next s v) s
  stat_moves r a b c h = rw (a, b, c) h

  pub stat_had : more ≡ true → persistent ≡ true → not had ≡ false → s ≡ cond (more && (persistent && not had)) (stat_next s v) s
  stat_had a b c = rw (a, b, c)

  pub stat_plain : more ≡ true → persistent ≡ false → s ≡ cond (more && (persistent && not had)) (stat_next s v) s
  stat_plain a b = rw (a, b)

  pub stat_stays : more ≡ false → s ≡ cond (more && (persistent && not had)) (stat_next s v) s
  stat_stays a = rw a

pub behind_code : (p : Params) (g : Going) (more : Bool) (v m sum column : ℕ) (bins : ℕ) (seen : Bool) (signs rice : ℕ) (had : Bool) (columns stat : ℕ)
    → bins ≡ g.bins - 1 → seen ≡ seen_now (unmask g.mask g.bins) g.seen → signs ≡ g.signs - 1
    → rice ≡ cond more (rice_next p g.rice m) g.rice → had ≡ (g.had || more) → columns ≡ max g.column column
    → stat ≡ cond (more && (p.persistent && not g.had)) (stat_next g.stat v) g.stat
    → ◌≡◌ {A = Going}
    (record {
      places = g.places / 16;
      count = g.count - 1;
      mask = g.mask / 2;
      bins = bins;
      seen = seen;
      signs = signs;
      rice = rice;
      had = had;
      sum = sum;
      column = columns;
      stat = stat;
    })
    (behind_of p g more v m sum column)
behind_code p g more v m sum column bins seen signs rice had columns stat a b c d e f h = cc

-- ---- what the loop keeps
places_less : (v n : ℕ) → 0 < n → v < 16 ^ n → v / 16 < 16 ^ (n - 1)
places_less v zero h k = absurd (omega arith)
places_less v (suc n) h k = let e : suc n - 1 ≡ n = omega arith in rw e (omega (arith, pow-suc 16 n))

mask_less : (m n : ℕ) → m < 2 ^ n → m / 2 < 2 ^ (n - 1)
mask_less m zero k = omega arith
mask_less m (suc n) k = let e : suc n - 1 ≡ n = omega arith in rw e (omega (arith, pow-suc 2 n))

pub fine_behind : (p : Params) (g : Going) (level : ℕ) (more : Bool) (v column : ℕ) → Fine p g → 0 < g.count → 1 ≤ level → level + v ≤ 4194304
    → column ≤ 31 → Fine p (behind_of p g more v (level + v) (g.sum + (level + v)) column)
fine_behind p g level more v column f h a b c = record {
  places = places_less g.places g.count h f.places;
  few = omega (arith, f.few);
  mask = mask_less g.mask g.bins f.mask;
  bins = omega (arith, f.bins);
  signs = omega (arith, f.signs);
  rice = cond_most more (rice_next p g.rice (level + v)) g.rice 21 (rice_most p g.rice (level + v) f.rice (omega arith)) f.rice;
  stat = cond_most (more && (p.persistent && not g.had)) (stat_next g.stat v) g.stat 84 (stat_most g.stat v f.stat (omega arith)) f.stat;
  sum = omega (arith, f.sum);
  column = omega (arith, f.column);
}
