-- Laws of bits, for every count. Assumes nothing.
use Rattle.std.specs.Prelude.{ℕ, zero, suc, ◌+◌, ◌-◌, ◌*◌, ◌/◌, ◌%◌, ◌^◌, ◌≤◌, ◌<◌, min, ◌≡◌, refl, List, [], ◌∷◌, Bool, true, false, length, get_or, ltb}
use Rattle.std.proofs.Common.{sym, ap, ap₂, ◌∙◌, pow-suc, add-zero, add-suc, mod-lt, arith, add-one, pow-add, pow_mono, ltb-false, ltb-true}
use Rattle.std.proofs.Math.ListN.{get_or-eq_default}
use Rattle.bins.specs.Bits.{bit_at, bits, ends, after, over, added}

-- ---- bits
pub bits_add : (l : List ℕ) (p c d : ℕ) → bits l p (c + d) ≡ bits l p c * 2 ^ d + bits l (p + c) d
unfolding bits
bits_add l p c zero = rw (add-zero c) (omega arith)
bits_add l p c (suc d) =
    let ih = bits_add l p c d in
    let s : p + c + d ≡ p + (c + d) = omega arith in
    rw (add-suc c d, ih, s, pow-suc) (omega arith)

-- 255 has every bit
ones255 : (k : ℕ) → k < 8 → 255 / 2 ^ (7 - k) % 2 ≡ 1
ones255 zero h = refl
ones255 (suc zero) h = refl
ones255 (suc (suc zero)) h = refl
ones255 (suc (suc (suc zero))) h = refl
ones255 (suc (suc (suc (suc zero)))) h = refl
ones255 (suc (suc (suc (suc (suc zero))))) h = refl
ones255 (suc (suc (suc (suc (suc (suc zero)))))) h = refl
ones255 (suc (suc (suc (suc (suc (suc (suc zero))))))) h = refl
ones255 (suc (suc (suc (suc (suc (suc (suc (suc k)))))))) h = absurd (omega arith)

pub bit_past : (l : List ℕ) (p : ℕ) → ends l ≤ p → bit_at l p ≡ 1
bit_past l p h =
    let q : length l ≤ p / 8 = omega arith in
    rw (get_or-eq_default l 255 q) (ones255 (p % 8) (omega arith))

-- past the end it does not matter where
pub bits_past : (l : List ℕ) (p q c : ℕ) → ends l ≤ p → ends l ≤ q → bits l p c ≡ bits l q c
unfolding bits
bits_past l p q zero h k = refl
bits_past l p q (suc c) h k =
    ap₂ (λ x y. x * 2 + y) (bits_past l p q c h k) (bit_past l (p + c) (omega arith) ∙ sym (bit_past l (q + c) (omega arith)))

-- from where a fetch of c bits left the position, the next d bits are those behind the c
pub bits_after : (l : List ℕ) (p c d : ℕ) → bits l (after l p c) d ≡ bits l (p + c) d
bits_after l p c d = go (ltb (ends l) (p + c)) refl
  where
    go : (b : Bool) → ltb (ends l) (p + c) ≡ b → bits l (after l p c) d ≡ bits l (p + c) d
    go true q =
        let h : ends l < p + c = ltb-true (ends l) (p + c) q in bits_past l (after l p c) (p + c) d (omega arith) (omega arith)
    go false q =
        let h : p + c ≤ ends l = ltb-false (ends l) (p + c) q in
        let s : after l p c ≡ p + c = omega arith in
        ap (λ x. bits l x d) s

-- bits past the end, counted at once or one fetch after the other
pub over_in : (l : List ℕ) (p c : ℕ) → p ≤ ends l → over l p c ≡ p + c - ends l
over_in l p c h = omega arith

pub over_out : (l : List ℕ) (p c : ℕ) → ends l ≤ p → over l p c ≡ c
over_out l p c h = omega arith

-- a total that is 0 with c bits more: none of them lies past the end, and the other way
pub none_over : (l : List ℕ) (p c n : ℕ) → p ≤ ends l → added n (over l p c) ≡ 0 → p + c ≤ ends l
none_over l p c n h q =
    let z : over l p c ≡ 0 = omega arith in
    let w : p + c - ends l ≡ 0 = sym (over_in l p c h) ∙ z in
    omega arith

pub over_none : (l : List ℕ) (p c : ℕ) → p + c ≤ ends l → over l p c ≡ 0
over_none l p c h = omega arith

pub added_add : (n j k : ℕ) → added (added n j) k ≡ added n (j + k)
added_add n j k = omega arith

pub after_run : (l : List ℕ) (p c : ℕ) → after l (min p (ends l)) c ≡ min (p + c) (ends l)
after_run l p c = omega arith

-- from a total n: what lies past the end before p and in the c bits at p, cut to the end, is what lies past it before p + c
pub over_run : (l : List ℕ) (p c n : ℕ) → added (added n (p - ends l)) (over l (min p (ends l)) c) ≡ added n (p + c - ends l)
over_run l p c n = added_add n (p - ends l) (over l (min p (ends l)) c) ∙ ap (added n) (go (ltb (ends l) p) refl)
  where
    go : (b : Bool) → ltb (ends l) p ≡ b → p - ends l + over l (min p (ends l)) c ≡ p + c - ends l
    go true q =
        let h : ends l < p = ltb-true (ends l) p q in
        let s : over l (min p (ends l)) c ≡ c = over_out l (min p (ends l)) c (omega arith) in
        rw s (omega arith)
    go false q =
        let h : p ≤ ends l = ltb-false (ends l) p q in
        let m : min p (ends l) ≡ p = omega arith in
        rw (m, over_in l p c h) (omega arith)

pub bit_lt : (l : List ℕ) (p : ℕ) → bit_at l p < 2
bit_lt l p = mod-lt (get_or l (p / 8) 255 / 2 ^ (7 - p % 8)) (omega arith)

-- ---- for the code that fetches
-- within the list it does not matter what stands for a missing element
pub get_d_any : {A : Type 0} (l : List A) (i : ℕ) (a b : A) → i < length l → get_or l i a ≡ get_or l i b
get_d_any [] i a b h = absurd (omega arith)
get_d_any (x ∷ l) zero a b h = refl
get_d_any (x ∷ l) (suc i) a b h = get_d_any l i a b (omega arith)

pub bits_suc : (l : List ℕ) (p c : ℕ) → bits l p (c + 1) ≡ bits l p c * 2 + bit_at l (p + c)
unfolding bits
bits_suc l p c = rw add-one

pub bits_lt : (l : List ℕ) (p c : ℕ) → bits l p c < 2 ^ c
unfolding bits
bits_lt l p zero = omega arith
bits_lt l p (suc c) = rw pow-suc (omega (arith, bits_lt l p c, bit_lt l (p + c)))

pub bits_below : (l : List ℕ) (p c k : ℕ) → c ≤ k → bits l p c < 2 ^ k
bits_below l p c k h = omega (arith, bits_lt l p c, pow_mono h)
