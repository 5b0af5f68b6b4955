-- Several bits at once are the bits one by one: the 32 of four bytes, and a part of those. Assumes nothing.
use Rattle.std.specs.Prelude.{ℕ, zero, suc, ◌+◌, ◌-◌, ◌*◌, ◌/◌, ◌%◌, ◌^◌, ◌≤◌, ◌<◌, ◌≡◌, refl, Bool, true, false, List, length, get_or, take, ltb}
use Rattle.std.proofs.Common.{sym, ap, ap₂, ◌∙◌, mul-le-mul_right, mod-eq_of_lt, div-one, pow-suc, arith, take_all, pow-add, pow_pos, ltb-true, ltb-false}
use Rattle.std.proofs.Math.Nat.{div-eq_of_lt, div-div-eq-div-mul}
use Rattle.std.proofs.Math.Arith.{digits_div, digits_mod}
use Rattle.bins.specs.declared.fetch.Drawn.{Drawn}
use Rattle.bins.specs.declared.places.BitPlace.{BitPlace}
use Rattle.bins.specs.Bits.{bit_at, bits, ends, over}
use Rattle.bins.specs.Interval.{ran_on, supplied}
use Rattle.bins.specs.BitLaws.{bits_add, bits_lt, bits_below, over_out, over_none}
use Rattle.bins.specs.BypassLaws.{bits_ran}

-- w is the four bytes at i, the first the lowest
pub record LowFirst (l : List ℕ) (i w : ℕ) : Type 0 where
  pub sum : w ≡ get_or l i 255 + get_or l (i + 1) 255 * 256 + get_or l (i + 2) 255 * 65536 + get_or l (i + 3) 255 * 16777216
  pub first : get_or l i 255 < 256
  pub second : get_or l (i + 1) 255 < 256
  pub third : get_or l (i + 2) 255 < 256
  pub fourth : get_or l (i + 3) 255 < 256

-- ---- the bits of a byte are the byte
bit_in : (l : List ℕ) (i k : ℕ) → k < 8 → bit_at l (8 * i + k) ≡ get_or l i 255 / 2 ^ (7 - k) % 2
bit_in l i k h =
    let a : (8 * i + k) / 8 ≡ i = omega arith in
    let b : (8 * i + k) % 8 ≡ k = omega arith in
    rw (a, b)

halves : (y : ℕ) → y / 2 * 2 + y % 2 ≡ y
halves y = omega arith

first_bits : (l : List ℕ) (i k : ℕ) → get_or l i 255 < 256 → k ≤ 8 → bits l (8 * i) k ≡ get_or l i 255 / 2 ^ (8 - k)
unfolding bits
first_bits l i zero h q = sym (div-eq_of_lt h)
first_bits l i (suc k) h q =
    let b = get_or l i 255 in
    let ih : bits l (8 * i) k ≡ b / 2 ^ (8 - k) = first_bits l i k h (omega arith) in
    let e : 8 - k ≡ suc (7 - k) = omega arith in
    let f : 8 - suc k ≡ 7 - k = omega arith in
    let d : b / 2 ^ (8 - k) ≡ b / 2 ^ (7 - k) / 2 = rw (e, pow-suc) (sym (div-div-eq-div-mul b (2 ^ (7 - k)) 2)) in
    let t : bit_at l (8 * i + k) ≡ b / 2 ^ (7 - k) % 2 = bit_in l i k (omega arith) in
    ap₂ (λ x y. x * 2 + y) (ih ∙ d) t ∙ halves (b / 2 ^ (7 - k)) ∙ ap (λ z. b / 2 ^ z) (sym f)

byte_bits : (l : List ℕ) (i : ℕ) → get_or l i 255 < 256 → bits l (8 * i) 8 ≡ get_or l i 255
byte_bits l i h = first_bits l i 8 h (omega arith) ∙ div-one (get_or l i 255)

-- ---- the digits of a number to the base 256
low : (a r : ℕ) → a < 256 → (a + r * 256) % 256 ≡ a
low a r h = omega arith

rest : (a r : ℕ) → a < 256 → (a + r * 256) / 256 ≡ r
rest a r h = omega arith

turn : (a b c d w : ℕ) → a < 256 → b < 256 → c < 256 → w ≡ a + b * 256 + c * 65536 + d * 16777216
    → w % 256 * 16777216 + w / 256 % 256 * 65536 + w / 65536 % 256 * 256 + w / 16777216 ≡ ((a * 256 + b) * 256 + c) * 256 + d
turn a b c d w h k m e =
    let x = b + (c + d * 256) * 256 in
    let e0 : w ≡ a + x * 256 = omega arith in
    let w0 : w % 256 ≡ a = ap (λ z. z % 256) e0 ∙ low a x h in
    let w1 : w / 256 ≡ x = ap (λ z. z / 256) e0 ∙ rest a x h in
    let w2 : w / 65536 ≡ c + d * 256 = sym (div-div-eq-div-mul w 256 256) ∙ ap (λ z. z / 256) w1 ∙ rest b (c + d * 256) k in
    let w3 : w / 16777216 ≡ d = sym (div-div-eq-div-mul w 65536 256) ∙ ap (λ z. z / 256) w2 ∙ rest c d m in
    let x1 : w / 256 % 256 ≡ b = ap (λ z. z % 256) w1 ∙ low b (c + d * 256) k in
    let x2 : w / 65536 % 256 ≡ c = ap (λ z. z % 256) w2 ∙ low c d m in
    rw (w0, x1, x2, w3) (omega arith)

-- ---- four bytes, turned so that the first is the highest
pub turned_bits : (l : List ℕ) (i w : ℕ) → LowFirst l i w
    → w % 256 * 16777216 + w / 256 % 256 * 65536 + w / 65536 % 256 * 256 + w / 16777216 ≡ bits l (8 * i) 32
turned_bits l i w h =
    let b0 : bits l (8 * i) 8 ≡ get_or l i 255 = byte_bits l i h.first in
    let b1 : bits l (8 * i + 8) 8 ≡ get_or l (i + 1) 255 = byte_next (i + 1) 8 (omega arith) h.second in
    let b2 : bits l (8 * i + 16) 8 ≡ get_or l (i + 2) 255 = byte_next (i + 2) 16 (omega arith) h.third in
    let b3 : bits l (8 * i + 24) 8 ≡ get_or l (i + 3) 255 = byte_next (i + 3) 24 (omega arith) h.fourth in
    let a : bits l (8 * i) 16 ≡ bits l (8 * i) 8 * 256 + bits l (8 * i + 8) 8 = bits_add l (8 * i) 8 8 in
    let b : bits l (8 * i) 24 ≡ bits l (8 * i) 16 * 256 + bits l (8 * i + 16) 8 = bits_add l (8 * i) 16 8 in
    let c : bits l (8 * i) 32 ≡ bits l (8 * i) 24 * 256 + bits l (8 * i + 24) 8 = bits_add l (8 * i) 24 8 in
    turn _ _ _ _ w h.first h.second h.third h.sum ∙ sym (rw (c, b, a, b0, b1, b2, b3))
  where
    byte_next : (j k : ℕ) → 8 * i + k ≡ 8 * j → get_or l j 255 < 256 → bits l (8 * i + k) 8 ≡ get_or l j 255
    byte_next j k e q = rw e (byte_bits l j q)

-- ---- of n bits at p, the c behind the first s: shifted left by s within n bits, then right
part_of : (l : List ℕ) (p s c d : ℕ)
    → bits l p (s + (c + d)) * 2 ^ s % 2 ^ (s + (c + d)) / 2 ^ (s + d) ≡ bits l (p + s) c
part_of l p s c d =
    let a = bits l p s in
    let b = bits l (p + s) c in
    let e = bits l (p + s + c) d in
    let whole : bits l p (s + (c + d)) ≡ a * 2 ^ (c + d) + bits l (p + s) (c + d) = bits_add l p s (c + d) in
    let rest : bits l (p + s) (c + d) ≡ b * 2 ^ d + e = bits_add l (p + s) c d in
    let n : 2 ^ (s + (c + d)) ≡ 2 ^ (c + d) * 2 ^ s = rw pow-add (omega arith) in
    let m : 2 ^ (s + d) ≡ 2 ^ d * 2 ^ s = rw pow-add (omega arith) in
    let x = bits l (p + s) (c + d) * 2 ^ s in
    let y = e * 2 ^ s in
    let below : x < 2 ^ (c + d) * 2 ^ s = omega (arith, mul-le-mul_right (2 ^ s) (bits_lt l (p + s) (c + d)), pow_pos s) in
    let under : y < 2 ^ d * 2 ^ s = omega (arith, mul-le-mul_right (2 ^ s) (bits_lt l (p + s + c) d), pow_pos s) in
    let first : bits l p (s + (c + d)) * 2 ^ s ≡ a * (2 ^ (c + d) * 2 ^ s) + x = rw whole (omega arith) in
    let second : x ≡ b * (2 ^ d * 2 ^ s) + y = rw rest (omega arith) in
    rw (first, n, m, digits_mod a below, second) (digits_div b under)

-- ---- as the code has it
-- of the 32 bits at byte i, the c at a place in that byte
pub drawn : (l : List ℕ) (p i w c : ℕ) → i ≡ p / 8 → w ≡ bits l (8 * i) 32 → c ≤ 16 → w * 2 ^ (p % 8) % 4294967296 / 2 ^ (32 - c) ≡ bits l p c
drawn l p i w c e q h =
    let s = p % 8 in
    let d = 32 - s - c in
    let n : s + (c + d) ≡ 32 = omega arith in
    let m : s + d ≡ 32 - c = omega arith in
    let at : 8 * i + s ≡ p = omega arith in
    rw (q, ← m) (rw (n, at) at (part_of l (8 * i) s c d))

-- where four bytes are left, none of the c bits lies past the end
pub drawn_word : (l : List ℕ) (p i w c : ℕ) → i ≡ p / 8 → w ≡ bits l (8 * i) 32 → c ≤ 16 → i + 4 ≤ length l
    → ◌≡◌ {A = Drawn} (record { bits = w * 2 ^ (p % 8) % 4294967296 / 2 ^ (32 - c); next = record { 0 = p + c }; past = 0 }) (supplied l p c)
drawn_word l p i w c e q h k =
    let b = drawn l p i w c e q h in
    let inside : p + c ≤ ends l = omega arith in
    let n : p + c ≡ ran_on l p c = omega arith in
    let o : 0 ≡ over l p c = sym (over_none l p c inside) in
    cc

-- a list lent from its first place on
pub lent_whole : (l : List ℕ) → take (length l - 0) l ≡ l
lent_whole l = take_all (length l - 0) l (omega arith)

pub drawn_parts : (l : List ℕ) (p c b n : ℕ) (next : BitPlace) → b ≡ bits l p c → next.0 ≡ ran_on l p c → n ≡ over l p c
    → ◌≡◌ {A = Drawn} (record { bits = b; next = next; past = n }) (supplied l p c)
drawn_parts l p c b n next x y z =
    let w : next ≡ record { 0 = ran_on l p c } = ap (λ (k : ℕ). record { 0 = k }) y in cc

-- past the end: those of c bits, and of d more from where the c left the place
over_ran : (l : List ℕ) (p c d : ℕ) → over l p c + over l (ran_on l p c) d ≡ over l p (c + d)
over_ran l p c d = go (ltb (ends l) (p + c)) refl
  where
    go : (b : Bool) → ltb (ends l) (p + c) ≡ b → over l p c + over l (ran_on l p c) d ≡ over l p (c + d)
    go true q =
        let k : ends l < p + c = ltb-true (ends l) (p + c) q in
        rw (over_out l (ran_on l p c) d (omega arith)) (omega arith)
    go false q =
        let k : p + c ≤ ends l = ltb-false (ends l) (p + c) q in
        let s : ran_on l p c ≡ p + c = omega arith in
        rw (s, over_none l p c k) (omega arith)

-- 16 bits, and the rest of them from where those left the place
module _ (l : List ℕ) (p c : ℕ) (high low : Drawn) (h : 16 ≤ c) (k : c ≤ 32) (x : high ≡ supplied l p 16) (y : low ≡ supplied l high.next.0 (c - 16)) where
  rest_at : low ≡ supplied l (ran_on l p 16) (c - 16)
  rest_at = y ∙ ap (λ (d : Drawn). supplied l d.next.0 (c - 16)) x

  both : bits l p c ≡ high.bits * 2 ^ (c - 16) + low.bits
  both =
      let e : 16 + (c - 16) ≡ c = omega arith in
      let t : bits l p c ≡ bits l p 16 * 2 ^ (c - 16) + bits l (p + 16) (c - 16) = rw e at (bits_add l p 16 (c - 16)) in
      let u : low.bits ≡ bits l (p + 16) (c - 16) = ap (λ (d : Drawn). d.bits) rest_at ∙ bits_ran l p 16 (c - 16) in
      let v : high.bits ≡ bits l p 16 = ap (λ (d : Drawn). d.bits) x in
      rw (v, u) t

  high_small : high.bits * 2 ^ (c - 16) < 4294967296
  high_small = omega (arith, both, bits_below l p c 32 k)

  joined_bits : high.bits * 2 ^ (c - 16) % 4294967296 + low.bits ≡ bits l p c
  joined_bits = rw (mod-eq_of_lt high_small) (sym both)

  joined_past : high.past + low.past ≡ over l p c
  joined_past =
      let e : 16 + (c - 16) ≡ c = omega arith in
      let v : high.past ≡ over l p 16 = ap (λ (d : Drawn). d.past) x in
      let u : low.past ≡ over l (ran_on l p 16) (c - 16) = ap (λ (d : Drawn). d.past) rest_at in
      rw (v, u) (rw e at (over_ran l p 16 (c - 16)))

  pub joined_small : high.bits * 2 ^ (c - 16) % 4294967296 + low.bits < 4294967296
  joined_small = rw joined_bits (bits_below l p c 32 k)

  pub joined_few : high.past + low.past ≤ 32
  joined_few = rw joined_past (omega arith)

  pub joined : ◌≡◌ {A = Drawn} (record { bits = high.bits * 2 ^ (c - 16) % 4294967296 + low.bits; next = low.next; past = high.past + low.past }) (supplied l p c)
  joined =
      let q : low.next.0 ≡ ran_on l (ran_on l p 16) (c - 16) = ap (λ (d : Drawn). d.next.0) rest_at in
      let n : ran_on l (ran_on l p 16) (c - 16) ≡ ran_on l p c = omega arith in
      drawn_parts l p c _ _ low.next joined_bits (q ∙ n) joined_past
