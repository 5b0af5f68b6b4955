-- c bypass bins by one division, and one after the other: one law for every count. Assumes nothing.
use Rattle.std.specs.Prelude.{ℕ, zero, suc, ◌+◌, ◌-◌, ◌*◌, ◌/◌, ◌%◌, ◌^◌, ◌≤◌, ◌<◌, min, ◌≡◌, refl, Bool, true, false, cond, List, ltb, leb}
use Rattle.std.proofs.Common.{sym, subst, ◌∙◌, arith, pow-suc, mul-le-mul_right, mod-lt, div-add-mod', pow-add, pow_mono, ltb-true, ltb-false}
use Rattle.std.proofs.Math.Path.{ap}
use Rattle.std.proofs.Math.Nat.{mod-eq_of_lt, div-eq_of_lt, add-mul-div_right, mul-add-mod_self_right}
use Rattle.std.proofs.Math.Arith.{digits_div, digits_mod}
use Rattle.bins.specs.declared.state.Interval.{Interval}
use Rattle.bins.specs.declared.state.Taken.{Taken}
use Rattle.bins.specs.declared.places.SourcePlace.{SourcePlace}
use Rattle.bins.specs.Bits.{bit_at, bits, ends, past_most}
use Rattle.bins.specs.BitLaws.{bits_lt, bits_past, bits_add}
use Rattle.bins.specs.Engine.{bit_no}
use Rattle.bins.specs.Interval.{place_of, ran_on, Goes, fetched_on, bypassed_on}
use Rattle.bins.specs.IntervalLaws.{bypassed_goes, bypassed_lt}

-- from where c bits left the place, the next d bits are those behind the c
pub bits_ran : (l : List ℕ) (p c d : ℕ) → bits l (ran_on l p c) d ≡ bits l (p + c) d
bits_ran l p c d = go (ltb (ends l + past_most) (p + c)) refl
  where
    go : (b : Bool) → ltb (ends l + past_most) (p + c) ≡ b → bits l (ran_on l p c) d ≡ bits l (p + c) d
    go true q =
        let h : ends l + past_most < p + c = ltb-true (ends l + past_most) (p + c) q in
        bits_past l (ran_on l p c) (p + c) d (omega arith) (omega arith)
    go false q =
        let h : p + c ≤ ends l + past_most = ltb-false (ends l + past_most) (p + c) q in
        let s : ran_on l p c ≡ p + c = omega arith in
        ap (λ x. bits l x d) s

-- ---- c bypass bins and then d: the two answers side by side
pub bypassed_add : (l : List ℕ) (x : Interval) (c d : ℕ) → 0 < x.range
    → (bypassed_on l x (c + d)).value ≡ (bypassed_on l x c).value * 2 ^ d + (bypassed_on l (bypassed_on l x c).next d).value
unfolding bypassed_on fetched_on
bypassed_add l x c d h =
    let r = x.range in
    let y = x.offset * 2 ^ c + bits l (place_of x) c in
    let z = y % r * 2 ^ d + bits l (place_of x + c) d in
    let e : x.offset * 2 ^ (c + d) + bits l (place_of x) (c + d) ≡ z + y / r * 2 ^ d * r =
    rw (bits_add, pow-add) (omega (arith, ap (λ k. k * 2 ^ d) (div-add-mod' y r))) in
    rw (bits_ran l (place_of x) c d, e, add-mul-div_right z (y / r * 2 ^ d) h) (omega arith)

pub bypassed_add_next : (l : List ℕ) (x : Interval) (c d : ℕ)
    → (bypassed_on l x (c + d)).next ≡ (bypassed_on l (bypassed_on l x c).next d).next
unfolding bypassed_on fetched_on
bypassed_add_next l x c d =
    let r = x.range in
    let y = x.offset * 2 ^ c + bits l (place_of x) c in
    let z = y % r * 2 ^ d + bits l (ran_on l (place_of x) c) d in
    let e : x.offset * 2 ^ (c + d) + bits l (place_of x) (c + d) ≡ y / r * 2 ^ d * r + z =
    rw (bits_ran, bits_add, pow-add) (omega (arith, ap (λ k. k * 2 ^ d) (div-add-mod' y r))) in
    let o : (x.offset * 2 ^ (c + d) + bits l (place_of x) (c + d)) % r ≡ z % r = rw e (mul-add-mod_self_right (y / r * 2 ^ d) r z) in
    let a : ran_on l (place_of x) (c + d) ≡ ran_on l (ran_on l (place_of x) c) d = omega arith in
    cc

-- the two halves as the code joins them
pub between_goes : (l : List ℕ) (x : Interval) (n : ℕ) (high : Taken) → Goes l x → high ≡ bypassed_on l x n → Goes l high.next
between_goes l x n high g p = subst (λ (t : Taken). Goes l t.next) (sym p) (bypassed_goes l x n g)

pub half_small : (l : List ℕ) (x : Interval) (n : ℕ) (half : Taken) → Goes l x → n ≤ 16 → half ≡ bypassed_on l x n → half.value < 65536
half_small l x n half g h p =
    let e : half.value ≡ (bypassed_on l x n).value = ap (λ (t : Taken). t.value) p in omega (arith, bypassed_lt l x n g, pow_mono h)

pub bypassed_joined : (l : List ℕ) (x : Interval) (n : ℕ) (high low : Taken) → Goes l x → 16 ≤ n
    → high ≡ bypassed_on l x (n - 16) → low ≡ bypassed_on l high.next 16
    → ◌≡◌ {A = Taken} (record { value = high.value * 65536 + low.value; next = low.next }) (bypassed_on l x n)
bypassed_joined l x n high low g h p q =
    let s : n - 16 + 16 ≡ n = omega arith in
    let pos : 0 < x.range = omega (arith, g.least) in
    let v : (bypassed_on l x n).value ≡ high.value * 65536 + low.value = rw s at (bypassed_add l x (n - 16) 16 pos) ∙ cc in
    let w : (bypassed_on l x n).next ≡ low.next = rw s at (bypassed_add_next l x (n - 16) 16) ∙ cc in
    let t : bypassed_on l x n ≡ record { value = (bypassed_on l x n).value; next = (bypassed_on l x n).next } = refl in
    cc

-- ---- one bin: the doubled offset held against the range
one_by : (z : Bool) (y r : ℕ) → ltb y r ≡ z → 0 < r → y < r + r → (cond z 0 1 ≡ y / r) × (cond z y (y - r) ≡ y % r)
one_by true y r q h k =
    let s = ltb-true y r q in (sym (div-eq_of_lt s), sym (mod-eq_of_lt s))
one_by false y r q h k =
    let s = ltb-false y r q in
    let e : 1 * r + (y - r) ≡ y = omega arith in
    let d : (1 * r + (y - r)) / r ≡ 1 = digits_div 1 (omega arith) in
    let m : (1 * r + (y - r)) % r ≡ y - r = digits_mod 1 (omega arith) in
    (sym (rw e at d), sym (rw e at m))

-- y is the doubled offset with the bit b, z whether it is below the range
pub one_code : (l : List ℕ) (x : Interval) (b v k : ℕ) (at : SourcePlace) → Goes l x → b ≡ bits l (place_of x) 1 → at.0 ≡ ran_on l (place_of x) 1
    → v ≡ cond (ltb (x.offset * 2 + b) x.range) 0 1
    → k ≡ cond (ltb (x.offset * 2 + b) x.range) (x.offset * 2 + b) (x.offset * 2 + b - x.range)
    → ◌≡◌ {A = Taken} (record { value = v; next = record { range = x.range; offset = k; position = at } }) (bypassed_on l x 1)
unfolding bypassed_on fetched_on
one_code l x b v k at g p q u w =
    let y = x.offset * 2 + b in
    let pos : 0 < x.range = omega (arith, g.least) in
    let small : b < 2 = omega (arith, bits_lt l (place_of x) 1) in
    let s = one_by (ltb y x.range) y x.range refl pos (omega (arith, g.below)) in
    let e : y ≡ x.offset * 2 ^ 1 + bits l (place_of x) 1 = omega arith in
    let a : at ≡ record { 0 = ran_on l (place_of x) 1 } = ap (λ (k : ℕ). record { 0 = k }) q in
    let s0 : v ≡ y / x.range = u ∙ s.0 in
    let s1 : k ≡ y % x.range = w ∙ s.1 in
    cc

-- ---- up to 16 by one division, as the code does it with 32 bits
module _ (l : List ℕ) (x : Interval) (n : ℕ) (g : Goes l x) (h : n ≤ 16) where
  shl_small : x.offset * 2 ^ n ≤ 509 * 65536
  shl_small =
      let a : x.offset * 2 ^ n ≤ 509 * 2 ^ n = mul-le-mul_right (2 ^ n) (omega (arith, g.below, g.most)) in
      omega (arith, pow_mono h)

  pub few_small : x.offset * 2 ^ n + bits l (place_of x) n < 4294967296
  few_small = omega (arith, shl_small, bits_lt l (place_of x) n, pow_mono h)

  pub few_code : (v : ℕ) (at : SourcePlace) → v ≡ bits l (place_of x) n → at.0 ≡ ran_on l (place_of x) n
      → ◌≡◌ {A = Taken} (record { value = ((x.offset * 2 ^ n) % 4294967296 + v) / x.range; next = record { range = x.range; offset = ((x.offset * 2 ^ n) % 4294967296 + v) % x.range; position = at } }) (bypassed_on l x n)
  unfolding bypassed_on fetched_on
  few_code v at p q =
      let a : (x.offset * 2 ^ n) % 4294967296 ≡ x.offset * 2 ^ n = mod-eq_of_lt (omega (arith, shl_small)) in
      let w : at ≡ record { 0 = ran_on l (place_of x) n } = ap (λ (k : ℕ). record { 0 = k }) q in
      cc
