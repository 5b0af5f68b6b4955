-- Laws of a spelled digit, byte and decimal number, as the code meets them. Assumes nothing.
use Rattle.std.specs.Prelude.{ℕ, suc, ◌+◌, ◌-◌, ◌*◌, ◌≤◌, ◌<◌, ◌≡◌, refl, Bool, true, false, ◌&&◌, cond, List, [], ◌∷◌, ltb, leb, length, get_or, drop, Some, None, Option}
use Rattle.std.proofs.Common.{arith, add-one, sym, ap, ◌∙◌, drop_of_length-le, drop-cons, lt-ltb, le-ltb, ltb-true, ltb-false, le-leb, leb-true}
use Rattle.io.specs.Digits.{hex_digit_ascii}
use Rattle.text_fields.specs.Spelled.{within, digit_of, octet_from, octet_of, greatest_extended, decimal_from, decimal_of}

-- ---- between two numbers
pub inside : (low high b : ℕ) → low ≤ b → b ≤ high → within low high b ≡ true
inside low high b h k = ap (λ (t : Bool). t && leb b high) (le-leb low b h) ∙ le-leb b high k

outside : (low high b : ℕ) → (low ≤ b → b ≤ high → ⊥) → within low high b ≡ false
outside low high b apart = go (leb low b) (leb b high) refl refl
  where
    go : (t u : Bool) → leb low b ≡ t → leb b high ≡ u → within low high b ≡ false
    go true true p q = absurd (apart (leb-true low b p) (leb-true b high q))
    go true false p q = ap (λ (t : Bool). t && leb b high) p ∙ q
    go false u p q = ap (λ (t : Bool). t && leb b high) p

pub both : (low high b : ℕ) → within low high b ≡ true → (low ≤ b) × (b ≤ high)
both low high b e = go (leb low b) refl
  where
    go : (t : Bool) → leb low b ≡ t → (low ≤ b) × (b ≤ high)
    go true q = (leb-true low b q, leb-true b high (ap (λ (t : Bool). t && leb b high) (sym q) ∙ e))
    go false q = let z : true ≡ false = sym e ∙ ap (λ (t : Bool). t && leb b high) q in absurd (let y : ◌≡◌ {A = ℕ} 0 1 = cc in omega arith)

-- ---- a digit
pub digit_decimal : (b : ℕ) → 48 ≤ b → b ≤ 57 → Some (b - 48) ≡ digit_of b
unfolding digit_of
digit_decimal b h k = rw (inside 48 57 b h k)

pub digit_letter : (b : ℕ) → 97 ≤ b → b ≤ 102 → Some (b - 87) ≡ digit_of b
unfolding digit_of
digit_letter b h k =
    let not-decimal : within 48 57 b ≡ false = outside 48 57 b (λ p q. omega arith) in rw (not-decimal, inside 97 102 b h k)

pub digit_none : (b : ℕ) → (48 ≤ b → b ≤ 57 → ⊥) → (97 ≤ b → b ≤ 102 → ⊥) → None ≡ digit_of b
unfolding digit_of
digit_none b h k = rw (outside 48 57 b h, outside 97 102 b k)

-- a digit is read just where it is the glyph of a number below 16
pub glyph_decimal : (d : ℕ) → d < 10 → hex_digit_ascii d ≡ 48 + d
glyph_decimal d h = ap (λ (t : Bool). cond t (48 + d) (87 + d)) (lt-ltb d 10 h)

glyph_letter : (d : ℕ) → 10 ≤ d → hex_digit_ascii d ≡ 87 + d
glyph_letter d h = ap (λ (t : Bool). cond t (48 + d) (87 + d)) (le-ltb d 10 h)

pub digit_spelled : (b d : ℕ) → digit_of b ≡ Some d → (d < 16) × (hex_digit_ascii d ≡ b)
unfolding digit_of
digit_spelled b d e = go (within 48 57 b) (within 97 102 b) refl refl
  where
    go : (t u : Bool) → within 48 57 b ≡ t → within 97 102 b ≡ u → (d < 16) × (hex_digit_ascii d ≡ b)
    go true u p q =
        let h = both 48 57 b p in
        let f : d ≡ b - 48 = cc in (omega arith, glyph_decimal d (omega arith) ∙ (omega arith))
    go false true p q =
        let h = both 97 102 b q in
        let f : d ≡ b - 87 = cc in (omega arith, glyph_letter d (omega arith) ∙ (omega arith))
    go false false p q = let z : ◌≡◌ {A = ℕ} 0 1 = cc in absurd (omega arith)

pub digit_glyph : (d : ℕ) → d < 16 → digit_of (hex_digit_ascii d) ≡ Some d
digit_glyph d h = go (ltb d 10) refl
  where
    go : (t : Bool) → ltb d 10 ≡ t → digit_of (hex_digit_ascii d) ≡ Some d
    go true q =
        let k = ltb-true d 10 q in
        let e : 48 + d - 48 ≡ d = omega arith in
        ap digit_of (glyph_decimal d k) ∙ sym (digit_decimal (48 + d) (omega arith) (omega arith)) ∙ ap Some e
    go false q =
        let k = ltb-false d 10 q in
        let e : 87 + d - 87 ≡ d = omega arith in
        ap digit_of (glyph_letter d k) ∙ sym (digit_letter (87 + d) (omega arith) (omega arith)) ∙ ap Some e

pub digit_small : (b h : ℕ) (d : Option ℕ) → d ≡ digit_of b → d ≡ Some h → h < 16
digit_small b h d e q = (digit_spelled b h (sym e ∙ q)).0

-- ---- a byte
pub octet_high : (high low : ℕ) (d : Option ℕ) → d ≡ digit_of high → d ≡ None → None ≡ octet_of high low
unfolding octet_of
octet_high high low d e q = ap (λ (x : Option ℕ). octet_from x (digit_of low)) (sym q ∙ e)

pub octet_low : (high low h : ℕ) (d f : Option ℕ) → d ≡ digit_of high → f ≡ digit_of low → d ≡ Some h → f ≡ None
    → None ≡ octet_of high low
unfolding octet_of
octet_low high low h d f e g p q =
    ap (λ (x : Option ℕ). octet_from (Some h) x) (sym q ∙ g) ∙ ap (λ (x : Option ℕ). octet_from x (digit_of low)) (sym p ∙ e)

pub octet_both : (high low h l v : ℕ) (d f : Option ℕ) → d ≡ digit_of high → f ≡ digit_of low → d ≡ Some h → f ≡ Some l → v ≡ h * 16 + l
    → Some v ≡ octet_of high low
unfolding octet_of
octet_both high low h l v d f e g p q ev =
    ap Some ev
    ∙ ap (λ (x : Option ℕ). octet_from (Some h) x) (sym q ∙ g)
    ∙ ap (λ (x : Option ℕ). octet_from x (digit_of low)) (sym p ∙ e)

-- ---- a decimal number, from a place on
pub taken : (v b : ℕ) (s : List ℕ) → 48 ≤ b → b ≤ 57 → v ≤ greatest_extended → decimal_from v (b ∷ s) ≡ decimal_from (v * 10 + (b - 48)) s
unfolding decimal_from
taken v b s h k m = rw (inside 48 57 b h k, le-leb v greatest_extended m)

pub refused : (v b : ℕ) (s : List ℕ) → (48 ≤ b → b ≤ 57 → v ≤ greatest_extended → ⊥) → None ≡ decimal_from v (b ∷ s)
unfolding decimal_from
refused v b s apart = go (leb v greatest_extended) refl
  where
    go : (t : Bool) → leb v greatest_extended ≡ t → None ≡ decimal_from v (b ∷ s)
    go true q = rw (q, outside 48 57 b (λ h k. apart h k (leb-true v greatest_extended q)))
    go false q = rw q (off (within 48 57 b))
      where
        off : (t : Bool) → None ≡ cond (t && false) (decimal_from (v * 10 + (b - 48)) s) None
        off true = refl
        off false = refl

module _ (s : List ℕ) (i v : ℕ) (h : i < length s) where
  pub decimal_none : (48 ≤ get_or s i 0 → get_or s i 0 ≤ 57 → v ≤ greatest_extended → ⊥) → None ≡ decimal_from v (drop i s)
  decimal_none apart = rw (drop-cons s i 0 h) (refused v (get_or s i 0) (drop (suc i) s) apart)

  pub decimal_more : (d : ℕ) → 48 ≤ get_or s i 0 → get_or s i 0 ≤ 57 → v ≤ greatest_extended → d ≡ get_or s i 0 - 48
      → decimal_from (v * 10 + d) (drop (i + 1) s) ≡ decimal_from v (drop i s)
  decimal_more d k m n e = rw (add-one i, drop-cons s i 0 h, e) (sym (taken v (get_or s i 0) (drop (suc i) s) k m n))

pub decimal_end : (s : List ℕ) (i v : ℕ) → length s ≤ i → Some v ≡ decimal_from v (drop i s)
unfolding decimal_from
decimal_end s i v h = rw (drop_of_length-le s h)

pub decimal_empty : (s : List ℕ) → length s ≡ 0 → None ≡ decimal_of s
unfolding decimal_of
decimal_empty [] h = refl
decimal_empty (b ∷ s) h = absurd (omega arith)

pub decimal_first : (s : List ℕ) → (length s ≡ 0 → ⊥) → decimal_from 0 s ≡ decimal_of s
unfolding decimal_of
decimal_first [] h = absurd (h refl)
decimal_first (b ∷ s) h = refl
