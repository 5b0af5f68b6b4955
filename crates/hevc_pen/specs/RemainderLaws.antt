-- Remainders as their code puts them: how long a prefix is, and that a suffix holds the rest. Assumes nothing.
use Rattle.std.specs.Prelude.{ℕ, suc, ◌+◌, ◌-◌, ◌*◌, ◌/◌, ◌%◌, ◌^◌, ◌≤◌, ◌<◌, ◌≡◌, refl, Bool, true, false, ◌||◌, cond, eqb}
use Rattle.std.proofs.Common.{sym, ap, subst, ◌∙◌, arith, div-mul-le_self, pow_mono, pow_pos, lt-ltb, le-ltb, le-leb}
use Rattle.std.proofs.Math.Nat.{mul-le-mul_right, mod-lt}
use Rattle.std.proofs.Math.Pow.{split}
use Rattle.std.proofs.Math.Dec.{ltb, leb}
use Rattle.std.proofs.lemmas.Bool.{eqb-false, lt-leb}
use Rattle.bins.specs.Syn.{done, ◌>>=◌}
use Rattle.bins.specs.Readers.{bits_s, ones_s}
use Rattle.trees.specs.Pick.{pick}
use Rattle.hevc_residual.specs.declared.params.Params.{Params}
use Rattle.hevc_residual.specs.Wanted.{Wanted, S}
use Rattle.hevc_residual.specs.Remainder.{log2_transform_range, eg_base, egk_s, limited_s, remainder_s}
use Rattle.hevc_magnitudes.specs.MagnitudeLaws.{range_within, shl_32}
use Rattle.hevc_magnitudes.specs.Escape.{escape_length, escape_s}
use Rattle.pen.specs.Sheet.{Sheet, Wrote, Counts}
use Rattle.pen.specs.SheetLaws.{wrote_then, wrote_call}
use Rattle.exp_golomb.specs.PrefixLaws.{Prefixed, base_reached, prefix_short, rest_fits}
use Rattle.pen_shapes.specs.PrefixCounts.{prefix_counts}
use Rattle.pen_shapes.specs.PlainLaws.{passed, taken, escaped_written}

or_none : (a b : Bool) → a ≡ false → b ≡ false → (a || b) ≡ false
or_none true b p q = p
or_none false b p q = q

module _ (k v n : ℕ) (hk : k ≤ 22) where
  pub egk_fits : v < 4194304 → Prefixed k v 31 n → (n + k ≤ 32) × (v - eg_base k n < 2 ^ (n + k))
  egk_fits hv c = let h : n + k ≤ 22 = prefix_short k v 31 n c hk hv in (omega arith, rest_fits k v 31 n c (omega arith))

  module _ (T : ℕ) (lo : 15 ≤ T) (hi : T ≤ 22) (hv : v < 2 ^ T) (c : Prefixed k v (28 - T) n) where
    small : v < 4194304
    small = let p : 2 ^ T ≤ 2 ^ 22 = pow_mono hi in omega arith

    pub limited_fits : (escape_length T k n ≤ 32) × (v - eg_base k n < 2 ^ escape_length T k n)
    limited_fits = go (eqb n (28 - T)) refl
      where
        go : (b : Bool) → eqb n (28 - T) ≡ b → (cond b T (n + k) ≤ 32) × (v - eg_base k n < 2 ^ cond b T (n + k))
        go true q = (omega arith, omega arith)
        go false q =
            let d : n ≡ 28 - T → ⊥ = eqb-false n (28 - T) q in
            let h : n + k ≤ 22 = prefix_short k v (28 - T) n c hk small in
            (omega arith, rest_fits k v (28 - T) n c (omega (arith, c.upto)))

module _ (k v n : ℕ) (s s₁ s₂ : Sheet) (hk : k ≤ 22) where
  pub egk_written : v < 4194304 → Prefixed k v 31 n
      → ((one : ℕ → Wanted → Bool) (w : Wanted) → Counts one w n 31 → Wrote (ones_s 31 0 one) (done n) w s s₁)
      → ((x : Wanted → ℕ) (t : Wanted) → x t ≡ v - eg_base k n → Wrote (bits_s (n + k) 0 x) (done (v - eg_base k n)) t s₁ s₂)
      → (want : Wanted → ℕ) (w : Wanted) → want w ≡ v → Wrote (egk_s k want) (done v) w s s₂
  unfolding egk_s
  egk_written hv c f g want w e =
      let h : n + k ≤ 22 = prefix_short k v 31 n c hk hv in
      escaped_written 31 (λ g t. leb (eg_base k (suc g)) (want t)) (λ n. leb 31 n || leb 32 (n + k)) (λ n. n + k) (λ n. eg_base k n) want w v n s s₁ s₂
      (or_none (leb 31 n) (leb 32 (n + k)) (lt-leb 31 n (omega arith)) (lt-leb 32 (n + k) (omega arith)))
      e (base_reached k v 31 n c) (f (λ g t. leb (eg_base k (suc g)) (want t)) w (prefix_counts k v 31 n c want w e)) g

  module _ (T : ℕ) (lo : 15 ≤ T) (hi : T ≤ 22) (hv : v < 2 ^ T) (c : Prefixed k v (28 - T) n) where
    pub limited_written : ((one : ℕ → Wanted → Bool) (w : Wanted) → Counts one w n (28 - T) → Wrote (ones_s (28 - T) 0 one) (done n) w s s₁)
        → ((x : Wanted → ℕ) (t : Wanted) → x t ≡ v - eg_base k n → Wrote (bits_s (escape_length T k n) 0 x) (done (v - eg_base k n)) t s₁ s₂)
        → (want : Wanted → ℕ) (w : Wanted) → want w ≡ v → Wrote (limited_s T k want) (done v) w s s₂
    unfolding limited_s
    limited_written f g want w e =
        escaped_written (28 - T) (λ g t. leb (eg_base k (suc g)) (want t)) (λ n. leb 32 n || (leb 32 k || ltb 32 (escape_length T k n)))
        (λ n. escape_length T k n) (λ n. eg_base k n) want w v n s s₁ s₂
        (or_none (leb 32 n) (leb 32 k || ltb 32 (escape_length T k n)) (lt-leb 32 n (omega (arith, c.upto)))
        (or_none (leb 32 k) (ltb 32 (escape_length T k n)) (lt-leb 32 k (omega arith)) (le-ltb 32 (escape_length T k n) (limited_fits k v n hk T lo hi hv c).0)))
        e (base_reached k v (28 - T) n c) (f (λ g t. leb (eg_base k (suc g)) (want t)) w (prefix_counts k v (28 - T) n c want w e)) g

-- ---- an escape, by the precision
module _ (p : Params) (k v : ℕ) (s s' : Sheet) where
  pub escape_limited : p.extended ≡ true → (t : ℕ) → t ≡ log2_transform_range p
      → ((want : Wanted → ℕ) (w : Wanted) → want w ≡ v → Wrote (limited_s t k want) (done v) w s s')
      → (want : Wanted → ℕ) (w : Wanted) → want w ≡ v → Wrote (escape_s p k want) (done v) w s s'
  escape_limited q t e f want w x =
      let f' : Wrote (limited_s (log2_transform_range p) k want) (done v) w s s' = subst (λ i. Wrote (limited_s i k want) (done v) w s s') e (f want w x) in
      subst (λ b. Wrote (elim b [ true ↦ limited_s (log2_transform_range p) k want | false ↦ egk_s k want ]) (done v) w s s') (sym q) f'

  pub escape_plain : p.extended ≡ false → ((want : Wanted → ℕ) (w : Wanted) → want w ≡ v → Wrote (egk_s k want) (done v) w s s')
      → (want : Wanted → ℕ) (w : Wanted) → want w ≡ v → Wrote (escape_s p k want) (done v) w s s'
  escape_plain q f want w x =
      subst (λ b. Wrote (elim b [ true ↦ limited_s (log2_transform_range p) k want | false ↦ egk_s k want ]) (done v) w s s') (sym q) (f want w x)

-- ---- all of it
module _ (p : Params) (rice v : ℕ) (s s₁ s₂ : Sheet) where
  rising : (g q : ℕ) → g < q → suc g * 2 ^ rice ≤ q * 2 ^ rice
  rising g q h = mul-le-mul_right {m = suc g} {n = q} (2 ^ rice) (omega arith)

  module _ (want : Wanted → ℕ) (w : Wanted) (e : want w ≡ v) where
    abbrev ones : ℕ → Wanted → Bool
    ones g t = leb (suc g * 2 ^ rice) (want t)

    abbrev low : ℕ → S ℕ
    low q = bits_s rice 0 (λ t. want t - q * 2 ^ rice) >>= λ x. done (q * 2 ^ rice + x)

    abbrev high : S ℕ
    high = escape_s p (rice + 1) (λ t. want t - 4 * 2 ^ rice) >>= λ x. done (4 * 2 ^ rice + x)

    abbrev whole : S ℕ
    whole = ones_s 4 0 ones >>= λ q. pick (ltb q 4) (low q) high

    low_written : (q : ℕ) → q < 4 → q * 2 ^ rice ≤ v → v < suc q * 2 ^ rice
        → ((one : ℕ → Wanted → Bool) (w : Wanted) → Counts one w q 4 → Wrote (ones_s 4 0 one) (done q) w s s₁)
        → ((x : Wanted → ℕ) (t : Wanted) → x t ≡ v - q * 2 ^ rice → Wrote (bits_s rice 0 x) (done (v - q * 2 ^ rice)) t s₁ s₂) → Wrote whole (done v) w s s₂
    low_written q h lo hi f g =
        let c : Counts ones w q 4 = (λ g l. rw e (le-leb (suc g * 2 ^ rice) v (omega (arith, rising g q l))), λ m. rw e (lt-leb (suc q * 2 ^ rice) v hi)) in
        let next : ℕ → S ℕ = λ q. pick (ltb q 4) (low q) high in
        let a : Wrote whole (low q) w s s₁ = taken (ltb q 4) (low q) high whole w s s₁ (lt-ltb q 4 h) (wrote_then w (ones_s 4 0 ones) next q s s₁ (f ones w c)) in
        let x : want w - q * 2 ^ rice ≡ v - q * 2 ^ rice = ap (λ i. i - q * 2 ^ rice) e in
        let r = wrote_call w whole (bits_s rice 0 (λ t. want t - q * 2 ^ rice)) (λ x. done (q * 2 ^ rice + x)) (v - q * 2 ^ rice) s s₁ s₂ a (g (λ t. want t - q * 2 ^ rice) w x) in
        let y : q * 2 ^ rice + (v - q * 2 ^ rice) ≡ v = omega arith in
        subst (λ i. Wrote whole (done i) w s s₂) y r

    high_written : 4 * 2 ^ rice ≤ v
        → ((one : ℕ → Wanted → Bool) (w : Wanted) → Counts one w 4 4 → Wrote (ones_s 4 0 one) (done 4) w s s₁)
        → ((x : Wanted → ℕ) (t : Wanted) → x t ≡ v - 4 * 2 ^ rice → Wrote (escape_s p (rice + 1) x) (done (v - 4 * 2 ^ rice)) t s₁ s₂)
        → Wrote whole (done v) w s s₂
    high_written lo f g =
        let c : Counts ones w 4 4 = (λ g l. rw e (le-leb (suc g * 2 ^ rice) v (omega (arith, rising g 4 l))), λ m. absurd (omega arith)) in
        let next : ℕ → S ℕ = λ q. pick (ltb q 4) (low q) high in
        let a : Wrote whole high w s s₁ = passed (ltb 4 4) (low 4) high whole w s s₁ refl (wrote_then w (ones_s 4 0 ones) next 4 s s₁ (f ones w c)) in
        let x : want w - 4 * 2 ^ rice ≡ v - 4 * 2 ^ rice = ap (λ i. i - 4 * 2 ^ rice) e in
        let r = wrote_call w whole (escape_s p (rice + 1) (λ t. want t - 4 * 2 ^ rice)) (λ x. done (4 * 2 ^ rice + x)) (v - 4 * 2 ^ rice) s s₁ s₂ a (g (λ t. want t - 4 * 2 ^ rice) w x) in
        let y : 4 * 2 ^ rice + (v - 4 * 2 ^ rice) ≡ v = omega arith in
        subst (λ i. Wrote whole (done i) w s s₂) y r

  pub remainder_low : v / 2 ^ rice < 4
      → ((one : ℕ → Wanted → Bool) (w : Wanted) → Counts one w (v / 2 ^ rice) 4 → Wrote (ones_s 4 0 one) (done (v / 2 ^ rice)) w s s₁)
      → ((x : Wanted → ℕ) (t : Wanted) → x t ≡ v - v / 2 ^ rice * 2 ^ rice → Wrote (bits_s rice 0 x) (done (v - v / 2 ^ rice * 2 ^ rice)) t s₁ s₂)
      → (want : Wanted → ℕ) (w : Wanted) → want w ≡ v → Wrote (remainder_s p rice want) (done v) w s s₂
  unfolding remainder_s
  remainder_low h f g want w e =
      let a : v / 2 ^ rice * 2 ^ rice + v % 2 ^ rice ≡ v = split v rice in
      let b : v % 2 ^ rice < 2 ^ rice = mod-lt v (pow_pos rice) in
      low_written want w e (v / 2 ^ rice) h (omega arith) (omega arith) f g

  pub remainder_high : 4 ≤ v / 2 ^ rice
      → ((one : ℕ → Wanted → Bool) (w : Wanted) → Counts one w 4 4 → Wrote (ones_s 4 0 one) (done 4) w s s₁)
      → ((x : Wanted → ℕ) (t : Wanted) → x t ≡ v - 4 * 2 ^ rice → Wrote (escape_s p (rice + 1) x) (done (v - 4 * 2 ^ rice)) t s₁ s₂)
      → (want : Wanted → ℕ) (w : Wanted) → want w ≡ v → Wrote (remainder_s p rice want) (done v) w s s₂
  unfolding remainder_s
  remainder_high h f g want w e =
      let a : v / 2 ^ rice * 2 ^ rice + v % 2 ^ rice ≡ v = split v rice in
      let m : 4 * 2 ^ rice ≤ v / 2 ^ rice * 2 ^ rice = mul-le-mul_right {m = 4} {n = v / 2 ^ rice} (2 ^ rice) h in
      high_written want w e (omega arith) f g

-- the code's shifts lose nothing
pub low_fits : (v rice : ℕ) → v - v / 2 ^ rice * 2 ^ rice < 2 ^ rice
low_fits v rice =
    let a : v / 2 ^ rice * 2 ^ rice + v % 2 ^ rice ≡ v = split v rice in
    let b : v % 2 ^ rice < 2 ^ rice = mod-lt v (pow_pos rice) in
    omega arith

pub quotient_back : (v rice : ℕ) → v / 2 ^ rice * 2 ^ rice ≤ v
quotient_back v rice = div-mul-le_self v (2 ^ rice)

-- a suffix of so many bits, by the code's names of both numbers
pub bits_as : {n m z z' : ℕ} {s s' : Sheet} → n ≡ m → z ≡ z'
    → ((x : Wanted → ℕ) (t : Wanted) → x t ≡ z → Wrote (bits_s n 0 x) (done z) t s s')
    → (x : Wanted → ℕ) (t : Wanted) → x t ≡ z' → Wrote (bits_s m 0 x) (done z') t s s'
bits_as {n} {m} {z} {z'} {s} {s'} e q f x t r =
    subst (λ i. Wrote (bits_s i 0 x) (done z') t s s') e (subst (λ i. Wrote (bits_s n 0 x) (done i) t s s') q (f x t (r ∙ sym q)))

pub escape_as : (p : Params) (k z z' : ℕ) (s s' : Sheet) → z ≡ z'
    → ((x : Wanted → ℕ) (t : Wanted) → x t ≡ z → Wrote (escape_s p k x) (done z) t s s')
    → (x : Wanted → ℕ) (t : Wanted) → x t ≡ z' → Wrote (escape_s p k x) (done z') t s s'
escape_as p k z z' s s' q f x t r = subst (λ i. Wrote (escape_s p k x) (done i) t s s') q (f x t (r ∙ sym q))

pub value_small : (p : Params) (v : ℕ) → p.depth ≤ 16 → v < 2 ^ log2_transform_range p → v < 4194304
value_small p v h k = let m : 2 ^ log2_transform_range p ≤ 2 ^ 22 = pow_mono (range_within p h).1 in omega arith

pub quotient_shl : (v rice : ℕ) → rice ≤ 21 → v / 2 ^ rice < 4 → (v / 2 ^ rice * 2 ^ rice) % 4294967296 ≡ v / 2 ^ rice * 2 ^ rice
quotient_shl v rice h q = shl_32 (v / 2 ^ rice) 2 rice (omega arith) (omega arith)

pub four_shl : (rice : ℕ) → rice ≤ 21 → (4 * 2 ^ rice) % 4294967296 ≡ 4 * 2 ^ rice
four_shl rice h = shl_32 4 3 rice (omega arith) (omega arith)

pub four_back : (v rice : ℕ) → 4 ≤ v / 2 ^ rice → 4 * 2 ^ rice ≤ v
four_back v rice h =
    let a : v / 2 ^ rice * 2 ^ rice ≤ v = div-mul-le_self v (2 ^ rice) in
    let m : 4 * 2 ^ rice ≤ v / 2 ^ rice * 2 ^ rice = mul-le-mul_right {m = 4} {n = v / 2 ^ rice} (2 ^ rice) h in
    omega arith
