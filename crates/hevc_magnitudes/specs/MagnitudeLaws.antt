-- What the functions on magnitudes cite: T and the range, the Rice parameter behind a level, the statistic behind a remainder.
use Rattle.std.specs.Prelude.{ℕ, ◌+◌, ◌-◌, ◌*◌, ◌/◌, ◌%◌, ◌^◌, ◌≤◌, ◌<◌, max, min, ◌≡◌, refl, Bool, true, false, cond, ltb, leb}
use Rattle.std.proofs.Common.{arith, shl_exact}
use borrow.Author.Tests.{lt-ltb, le-ltb, le-leb, lt-leb, eq-eqb, ne_eqb, ltb-false}
use Rattle.hevc_residual.specs.declared.params.Params.{Params}
use Rattle.hevc_residual.specs.Remainder.{log2_transform_range, in_range, rice_next, stat_next}
use Rattle.hevc_magnitudes.specs.Escape.{escape_length}

-- ---- numbers: shifts that lose nothing
pub shl_32 : (a j k : ℕ) → a < 2 ^ j → j + k ≤ 32 → (a * 2 ^ k) % 4294967296 ≡ a * 2 ^ k
shl_32 a j k h s = shl_exact j k 32 h s

-- ---- T, and the range
module _ (p : Params) where
  pub range_deep : p.extended ≡ true → 9 < p.depth → p.depth + 6 ≡ log2_transform_range p
  range_deep q h = rw q (omega arith)

  pub range_flat : p.extended ≡ true → p.depth ≤ 9 → 15 ≡ log2_transform_range p
  range_flat q h = rw q (omega arith)

  pub range_within : p.depth ≤ 16 → (15 ≤ log2_transform_range p) × (log2_transform_range p ≤ 22)
  range_within h = go p.extended
    where
      go : (d : Bool) → (15 ≤ cond d (max 15 (p.depth + 6)) 15) × (cond d (max 15 (p.depth + 6)) 15 ≤ 22)
      go true = (omega arith, omega arith)
      go false = (omega arith, omega arith)

module _ (t m : ℕ) (h : t ≤ 22) (negative : Bool) where
  pub in_range_negative : negative ≡ true → leb m ((1 * 2 ^ t) % 4294967296) ≡ in_range t negative m
  in_range_negative q =
      let s : 1 * 2 ^ t ≡ 2 ^ t = omega arith in
      rw (q, shl_32 1 1 t (omega arith) (omega arith), s)

  pub in_range_positive : negative ≡ false → ltb m ((1 * 2 ^ t) % 4294967296) ≡ in_range t negative m
  in_range_positive q =
      let s : 1 * 2 ^ t ≡ 2 ^ t = omega arith in
      rw (q, shl_32 1 1 t (omega arith) (omega arith), s)

-- ---- the Rice parameter behind a level
module _ (p : Params) (rice m : ℕ) (h : rice ≤ 21) where
  rice_shl : (3 * 2 ^ rice) % 4294967296 ≡ 3 * 2 ^ rice
  rice_shl = shl_32 3 2 rice (omega arith) (omega arith)

  pub rice_stays : m ≤ (3 * 2 ^ rice) % 4294967296 → rice ≡ rice_next p rice m
  unfolding rice_next
  rice_stays k = rw (le-ltb (3 * 2 ^ rice) m (rw rice_shl at k))

  module _ (k : (3 * 2 ^ rice) % 4294967296 < m) where
    pub rice_persists : p.persistent ≡ true → rice + 1 ≡ rice_next p rice m
    unfolding rice_next
    rice_persists q = rw (lt-ltb (3 * 2 ^ rice) m (rw rice_shl at k), q)

    pub rice_grows : p.persistent ≡ false → min (rice + 1) 4 ≡ rice_next p rice m
    unfolding rice_next
    rice_grows q = rw (lt-ltb (3 * 2 ^ rice) m (rw rice_shl at k), q)

    pub rice_most : p.persistent ≡ false → 4 ≤ rice → 4 ≡ rice_next p rice m
    unfolding rice_next
    rice_most q g = rw (lt-ltb (3 * 2 ^ rice) m (rw rice_shl at k), q) (omega arith)

-- ---- the statistic behind a remainder
module _ (s v : ℕ) (h : s ≤ 84) where
  three_shl : (3 * 2 ^ (s / 4)) % 4294967296 ≡ 3 * 2 ^ (s / 4)
  three_shl = shl_32 3 2 (s / 4) (omega arith) (omega arith)

  one_shl : (1 * 2 ^ (s / 4)) % 4294967296 ≡ 1 * 2 ^ (s / 4)
  one_shl = shl_32 1 1 (s / 4) (omega arith) (omega arith)

  pub stat_up : (3 * 2 ^ (s / 4)) % 4294967296 ≤ v → s + 1 ≡ stat_next s v
  unfolding stat_next
  stat_up k = rw (le-leb (3 * 2 ^ (s / 4)) v (rw three_shl at k))

  module _ (k : v < (3 * 2 ^ (s / 4)) % 4294967296) where
    pub stat_down : 2 * v < (1 * 2 ^ (s / 4)) % 4294967296 → s - 1 ≡ stat_next s v
    unfolding stat_next
    stat_down g =
        let g' : 2 * v < 1 * 2 ^ (s / 4) = rw one_shl at g in
        rw (lt-leb (3 * 2 ^ (s / 4)) v (rw three_shl at k), lt-ltb (2 * v) (2 ^ (s / 4)) (omega arith)) (go (ltb 0 s) refl)
      where
        go : (b : Bool) → ltb 0 s ≡ b → s - 1 ≡ cond b (s - 1) s
        go true q = refl
        go false q = omega (arith, ltb-false 0 s q)

    pub stat_none : 2 * v < (1 * 2 ^ (s / 4)) % 4294967296 → s ≤ 0 → s ≡ stat_next s v
    unfolding stat_next
    stat_none g z =
        let g' : 2 * v < 1 * 2 ^ (s / 4) = rw one_shl at g in
        rw (lt-leb (3 * 2 ^ (s / 4)) v (rw three_shl at k), lt-ltb (2 * v) (2 ^ (s / 4)) (omega arith), le-ltb 0 s z)

    pub stat_stays : (1 * 2 ^ (s / 4)) % 4294967296 ≤ 2 * v → s ≡ stat_next s v
    unfolding stat_next
    stat_stays g =
        let g' : 1 * 2 ^ (s / 4) ≤ 2 * v = rw one_shl at g in
        rw (lt-leb (3 * 2 ^ (s / 4)) v (rw three_shl at k), le-ltb (2 * v) (2 ^ (s / 4)) (omega arith))

-- ---- how many bits follow the ones of an escape
pub length_most : (t k n : ℕ) → n ≡ 28 - t → t ≡ escape_length t k n
length_most t k n q = rw (eq-eqb n (28 - t) q)

pub length_less : (t k n : ℕ) → (n ≡ 28 - t → ⊥) → n + k ≡ escape_length t k n
length_less t k n q = rw (ne_eqb n (28 - t) q)
