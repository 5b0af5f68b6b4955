-- The payload of an interval: its first n bits are the number that the flush picks, which lies in the interval, where terminate is 1.
-- Assumes nothing.
use Rattle.std.specs.Prelude.{ℕ, zero, suc, ◌+◌, ◌-◌, ◌*◌, ◌/◌, ◌%◌, ◌^◌, ◌≤◌, ◌<◌, min, ◌≡◌, refl, Bool, true, false, ◌||◌, cond, List, [], ◌∷◌, length, get_or, ltb, leb}
use Rattle.std.proofs.Math.Path.{sym, ap, subst}
use Rattle.std.proofs.Common.{ap₂, ◌∙◌, lt-ltb, le-ltb}
use native.Mathlib.Omega.{arith}
use Rattle.std.proofs.Math.Nat.{mod-eq_of_lt}
use Rattle.std.proofs.Math.Pow.{shl_lt, shl-shr, high}
use Rattle.std.proofs.lemmas.Nat.{mod-pow-add}
use Rattle.bins.specs.declared.state.Engine.{Engine}
use Rattle.bins.specs.Bits.{bit_at, bits, ends, after, over}
use Rattle.bins.specs.BitLaws.{bits_lt}
use Rattle.bins.specs.Engine.{place, fetched, started, Drawn, terminated, terminated_by}
use Rattle.tables.specs.Table.{eq_below}
use Rattle.packing.specs.Pack.{Enc, begun, octets, filled, flushed, payload_of}
use Rattle.packing.specs.FollowLaws.{In, Follows, Wide, first_bits}

-- ---- bits of bytes
bit_tail : (x : ℕ) (l : List ℕ) (p : ℕ) → bit_at (x ∷ l) (8 + p) ≡ bit_at l p
bit_tail x l p =
    let a : (8 + p) / 8 ≡ suc (p / 8) = omega arith in
    let b : (8 + p) % 8 ≡ p % 8 = omega arith in
    rw (a, b)

bits_tail : (x : ℕ) (l : List ℕ) (p c : ℕ) → bits (x ∷ l) (8 + p) c ≡ bits l p c
unfolding bits
bits_tail x l p zero = refl
bits_tail x l p (suc c) =
    let a : 8 + p + c ≡ 8 + (p + c) = omega arith in
    ap₂ (λ y z. y * 2 + z) (bits_tail x l p c) (ap (bit_at (x ∷ l)) a ∙ bit_tail x l (p + c))

bits_byte : (x : ℕ) (l : List ℕ) → x < 256 → bits (x ∷ l) 0 8 ≡ x
unfolding bits
bits_byte x l h = eq_below (λ i. bits (i ∷ l) 0 8) (λ i. i) 256 tt x h

pub octets_length : (m v : ℕ) → length (octets m v) ≡ m
unfolding octets
octets_length zero v = refl
octets_length (suc m) v = ap suc (octets_length m v)

pub octets_bits : (m v : ℕ) → bits (octets m v) 0 (8 * m) ≡ v % 2 ^ (8 * m)
unfolding octets
octets_bits zero v = unfold bits in omega arith
octets_bits (suc m) v =
    let x = v / 2 ^ (8 * m) % 256 in
    let l = octets m v in
    let s : 8 * suc m ≡ 8 + 8 * m = omega arith in
    let a = first_bits (x ∷ l) 8 (8 * m) in
    let b : bits (x ∷ l) 0 8 ≡ x = bits_byte x l (omega arith) in
    let c : bits (x ∷ l) 8 (8 * m) ≡ bits l 0 (8 * m) = bits_tail x l 0 (8 * m) in
    let d : v % 2 ^ (8 + 8 * m) ≡ x * 2 ^ (8 * m) + v % 2 ^ (8 * m) = mod-pow-add v 8 (8 * m) in
    rw s (a ∙ ap₂ (λ y z. y * 2 ^ (8 * m) + z) b (c ∙ octets_bits m v) ∙ sym d)

-- ---- n bits in bytes
module _ (n v : ℕ) where
  pub filled_length : length (filled n v) ≡ (n + 7) / 8
  unfolding filled
  filled_length = octets_length ((n + 7) / 8) (v * 2 ^ (8 * ((n + 7) / 8) - n))

  pub filled_ends : n ≤ ends (filled n v)
  filled_ends = omega (arith, filled_length)

  pub filled_bits : v < 2 ^ n → bits (filled n v) 0 n ≡ v
  unfolding filled
  filled_bits h =
      let m = (n + 7) / 8 in
      let k = 8 * m - n in
      let l = octets m (v * 2 ^ k) in
      let s : 8 * m ≡ n + k = omega arith in
      let small : v * 2 ^ k < 2 ^ (n + k) = shl_lt n k h in
      let whole : bits l 0 (n + k) ≡ v * 2 ^ k = subst (λ (z : ℕ). bits l 0 z ≡ v * 2 ^ k) s (octets_bits m (v * 2 ^ k) ∙ mod-eq_of_lt (subst (λ (z : ℕ). v * 2 ^ k < 2 ^ z) (sym s) small)) in
      sym (high (bits l 0 n) k (bits_lt l n k)) ∙ ap (λ z. z / 2 ^ k) (sym (first_bits l n k) ∙ whole) ∙ shl-shr v k

-- ---- the number that the flush picks
flushed_least : (s : Enc) → Wide s → s.low + s.range - 2 ≤ flushed s
unfolding flushed
flushed_least s h = omega arith

flushed_most : (s : Enc) → Wide s → flushed s < s.low + s.range
unfolding flushed
flushed_most s h = omega (arith, h.least)

pub payload_bits : (s : Enc) → Wide s → bits (payload_of s) 0 s.n ≡ flushed s
unfolding payload_of
payload_bits s h = filled_bits s.n (flushed s) (omega (arith, flushed_most s h, h.fits))

pub payload_length : (s : Enc) → length (payload_of s) ≡ (s.n + 7) / 8
unfolding payload_of
payload_length s = filled_length s.n (flushed s)

pub payload_in : (s : Enc) → Wide s → In (payload_of s) s
payload_in s h =
    let b = payload_bits s h in
    record { least = omega (arith, flushed_least s h, h.least); most = omega (arith, flushed_most s h) }

-- ---- the reader's start, and its terminate
pub begun_wide : Wide begun
begun_wide = record { least = omega arith; most = omega arith; nine = omega arith; fits = omega arith }

pub started_follows : (l : List ℕ) → 9 ≤ ends l → Follows l begun (started l)
unfolding started fetched
started_follows l h =
    record { at = omega arith; wide = refl; above = omega arith; clean = omega arith; live = refl }

-- where the reader stands, terminate is 1, and leaves the position
pub record Ends (l : List ℕ) (s : Enc) (e : Engine) : Type 0 where
  pub one : (terminated l e).value ≡ 1
  pub stays : place (terminated l e).next ≡ s.n
  pub clean : (terminated l e).next.past ≡ 0
  pub over : (terminated l e).next.ended ≡ true

ends_by : (l : List ℕ) (s : Enc) (e : Engine) (b : Bool) → b ≡ false → Follows l s e
    → ((terminated_by b l e).value ≡ 1) × (place (terminated_by b l e).next ≡ s.n) × ((terminated_by b l e).next.past ≡ 0) × ((terminated_by b l e).next.ended ≡ true)
unfolding terminated_by
ends_by l s e true q f = let z : ◌≡◌ {A = ℕ} 0 1 = ap (λ x. cond x 0 1) q in absurd (omega arith)
ends_by l s e false q f = (refl, f.at, f.clean, refl)

pub payload_ends : (s : Enc) (e : Engine) → Wide s → Follows (payload_of s) s e → Ends (payload_of s) s e
unfolding terminated
payload_ends s e h f =
    let l = payload_of s in
    let b = payload_bits s h in
    let q : ltb e.offset (e.range - 2) ≡ false = le-ltb e.offset (e.range - 2) (omega (arith, f.above, f.wide, flushed_least s h, h.least)) in
    let r = ends_by l s e (ltb e.offset (e.range - 2)) q f in
    record { one = r.0; stays = r.1; clean = r.2; over = r.3 }
