-- What holds of the engine's steps: the tables' bounds, the shift, and what a decision comes to. Assumes nothing.
use Rattle.std.specs.Prelude.{ℕ, zero, suc, ◌+◌, ◌-◌, ◌*◌, ◌/◌, ◌%◌, ◌^◌, ◌≤◌, ◌<◌, ◌≡◌, refl, Bool, true, false, not, cond, List, [], ◌∷◌, get_or, ltb, leb}
use Rattle.std.proofs.Common.{sym, ap, ◌∙◌, arith, ltb-true, ltb-false, leb-true, leb-false, lt-ltb, le-ltb, le-leb}
use Rattle.std.specs.Int.Count.{count_leading_zeros}
use Rattle.std.proofs.lemmas.Bool.{lt-leb}
use Rattle.tables.specs.Tables.{lps_of, on_mps, on_lps, val_mps, entry_of}
use Rattle.bins.specs.Engine.{bit_no, Split, split, split_by}
use Rattle.tables.specs.Table.{eq_below, le_below}
use Rattle.tables.specs.Bounds.{lps_bounds, mps_small, lps_small}

-- ---- the shift, at each range from 1 to 510
width : ℕ → ℕ
width k = suc k * 2 ^ count_leading_zeros 9 (suc k)

pub record Shifted (r : ℕ) : Type 0 where
  pub same : count_leading_zeros 32 r ≡ count_leading_zeros 9 r + 23
  pub few : count_leading_zeros 9 r ≤ 8
  pub least : 256 ≤ r * 2 ^ count_leading_zeros 9 r
  pub most : r * 2 ^ count_leading_zeros 9 r ≤ 510

pub shifted : (r : ℕ) → 0 < r → r ≤ 510 → Shifted r
unfolding count_leading_zeros width
shifted zero p h = absurd (omega arith)
shifted (suc k) p h =
    record {
      same = eq_below (λ i. count_leading_zeros 32 (suc i)) (λ i. count_leading_zeros 9 (suc i) + 23) 510 tt k (omega arith);
      few = le_below (λ i. count_leading_zeros 9 (suc i)) (λ i. 8) 510 tt k (omega arith);
      least = le_below (λ i. 256) width 510 tt k (omega arith);
      most = le_below width (λ i. 510) 510 tt k (omega arith);
    }

-- ---- what a decision hands to renormalising
pub record Splits (r o ctx : ℕ) : Type 0 where
  pub some : 0 < (split r o ctx).range
  pub nine : (split r o ctx).range ≤ 510
  pub below : (split r o ctx).offset < (split r o ctx).range

splits_by : (b : Bool) (r o ctx lps : ℕ) → ltb o (r - lps) ≡ b → 256 ≤ r → r ≤ 510 → o < r → 2 ≤ lps → lps ≤ 240
    → (0 < (split_by b r o ctx lps).range) × ((split_by b r o ctx lps).range ≤ 510) × ((split_by b r o ctx lps).offset < (split_by b r o ctx lps).range)
unfolding split_by
splits_by true r o ctx lps q least most below two few =
    let h = ltb-true o (r - lps) q in (omega arith, omega arith, omega arith)
splits_by false r o ctx lps q least most below two few =
    let h = ltb-false o (r - lps) q in (omega arith, omega arith, omega arith)

pub splits : (r o ctx : ℕ) → 256 ≤ r → r ≤ 510 → o < r → Splits r o ctx
unfolding split
splits r o ctx least most below =
    let lps = lps_bounds ctx r in
    let s = splits_by (ltb o (r - lps_of ctx r)) r o ctx (lps_of ctx r) refl least most below lps.0 lps.1 in
    record { some = s.0; nine = s.1; below = s.2 }

split_packed_by : (b : Bool) (r o ctx lps : ℕ) → ctx < 128 → (split_by b r o ctx lps).ctx < 128
unfolding split_by
split_packed_by true r o ctx lps h = omega (arith, mps_small ctx h)
split_packed_by false r o ctx lps h = omega (arith, lps_small ctx h)

pub split_packed : (r o ctx : ℕ) → ctx < 128 → (split r o ctx).ctx < 128
unfolding split
split_packed r o ctx h = split_packed_by (ltb o (r - lps_of ctx r)) r o ctx (lps_of ctx r) h

-- ---- the parts of an entry of the decision table
pub record Parts (ctx r x : ℕ) : Type 0 where
  pub lps : x % 256 ≡ lps_of ctx r
  pub mps : x / 256 % 256 ≡ on_mps ctx
  pub other : x / 65536 ≡ on_lps ctx

class_only : (ctx r : ℕ) → lps_of ctx (64 * (r / 64 % 4)) ≡ lps_of ctx r
unfolding lps_of
class_only ctx r = let a : 64 * (r / 64 % 4) / 64 % 4 ≡ r / 64 % 4 = omega arith in rw a

pub parts : (ctx r x : ℕ) → ctx < 128 → x ≡ entry_of ctx (r / 64 % 4) → Parts ctx r x
unfolding entry_of
parts ctx r x h q =
    let a = class_only ctx r in
    let b = lps_bounds ctx r in
    let m = mps_small ctx h in
    let n = lps_small ctx h in
    record { lps = omega arith; mps = omega arith; other = omega arith }

-- ---- a decision as the code makes it, f being whether the favoured bin is read, m the favoured bin as a number
mps_number : (ctx : ℕ) → ctx < 128 → bit_no (val_mps ctx) ≡ ctx / 64
mps_number ctx h = go (leb 64 ctx) refl
  where
    go : (b : Bool) → leb 64 ctx ≡ b → bit_no b ≡ ctx / 64
    go true q = omega (arith, leb-true 64 ctx q)
    go false q = omega (arith, leb-false 64 ctx q)

not_number : (b : Bool) → bit_no (not b) ≡ 1 - bit_no b
not_number true = refl
not_number false = refl

pub record SplitIs (f : Bool) (r o ctx x : ℕ) : Type 0 where
  pub range : cond f (r - x % 256) (x % 256) ≡ (split r o ctx).range
  pub offset : cond f o (o - (r - x % 256)) ≡ (split r o ctx).offset
  pub context : cond f (x / 256 % 256) (x / 65536) ≡ (split r o ctx).ctx
  pub bit : cond f (ctx / 64) (1 - ctx / 64) ≡ bit_no (split r o ctx).bit

split_by_lem : (f : Bool) (r o ctx x : ℕ) → ctx < 128 → Parts ctx r x
    → (cond f (r - x % 256) (x % 256) ≡ (split_by f r o ctx (lps_of ctx r)).range)
    × (cond f o (o - (r - x % 256)) ≡ (split_by f r o ctx (lps_of ctx r)).offset)
    × (cond f (x / 256 % 256) (x / 65536) ≡ (split_by f r o ctx (lps_of ctx r)).ctx)
    × (cond f (ctx / 64) (1 - ctx / 64) ≡ bit_no (split_by f r o ctx (lps_of ctx r)).bit)
unfolding split_by
split_by_lem true r o ctx x h p = (ap (λ z. r - z) p.lps, refl, p.mps, sym (mps_number ctx h))
split_by_lem false r o ctx x h p =
    (p.lps, ap (λ z. o - (r - z)) p.lps, p.other, sym (not_number (val_mps ctx) ∙ ap (λ z. 1 - z) (mps_number ctx h)))

pub split_is : (f : Bool) (r o ctx x : ℕ) → ctx < 128 → x ≡ entry_of ctx (r / 64 % 4) → f ≡ ltb o (r - x % 256) → SplitIs f r o ctx x
unfolding split
split_is f r o ctx x h q e =
    let p = parts ctx r x h q in
    let g : f ≡ ltb o (r - lps_of ctx r) = e ∙ ap (λ z. ltb o (r - z)) p.lps in
    let s = split_by_lem f r o ctx x h p in
    let w : split_by f r o ctx (lps_of ctx r) ≡ split r o ctx = ap (λ b. split_by b r o ctx (lps_of ctx r)) g in
    record {
      range = s.0 ∙ ap (λ z. z.range) w;
      offset = s.1 ∙ ap (λ z. z.offset) w;
      context = s.2 ∙ ap (λ z. z.ctx) w;
      bit = s.3 ∙ ap (λ z. bit_no z.bit) w;
    }
