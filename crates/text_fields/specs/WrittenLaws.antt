-- What io writes of a number or a byte is read again, and nothing else is read as it. Assumes nothing.
use Rattle.std.specs.Prelude.{ℕ, zero, suc, ◌+◌, ◌-◌, ◌*◌, ◌/◌, ◌%◌, ◌^◌, ◌≤◌, ◌<◌, ◌≡◌, refl, Bool, true, false, List, [], ◌∷◌, ◌++◌, leb, length, Some, None, Option}
use Rattle.std.proofs.Common.{pow-suc, arith, add-one, sym, ap, subst, ◌∙◌, append_assoc, append-nil, length-append, leb-true, leb-false}
use Rattle.io.specs.Digits.{last_digits, hex_digit_ascii}
use Rattle.text_fields.specs.Spelled.{within, digit_of, octet_from, octet_of, greatest_extended, decimal_from, decimal_of}
use Rattle.text_fields.specs.SpelledLaws.{both, inside, taken, refused, glyph_decimal, digit_spelled, digit_glyph, decimal_first}

-- ---- a byte: of those below 256, just the one that io writes so
pub octet_spelled : (high low v : ℕ) → octet_of high low ≡ Some v → (v < 256) × (last_digits 16 2 v ≡ high ∷ low ∷ [])
unfolding octet_of
octet_spelled high low v e = go (digit_of high) (digit_of low) refl refl
  where
    go : (d f : Option ℕ) → digit_of high ≡ d → digit_of low ≡ f → (v < 256) × (last_digits 16 2 v ≡ high ∷ low ∷ [])
    go (Some h) (Some l) p q =
        let x = digit_spelled high h p in
        let y = digit_spelled low l q in
        let z : Some v ≡ Some (h * 16 + l) = sym e ∙ ap (λ (d : Option ℕ). octet_from d (digit_of low)) p ∙ ap (octet_from (Some h)) q in
        let w : v ≡ h * 16 + l = cc in
        let a : v / 16 % 16 ≡ h = omega arith in
        let b : v % 16 ≡ l = omega arith in (
          omega arith,
          ap (λ (n : ℕ). hex_digit_ascii n ∷ hex_digit_ascii (v % 16) ∷ []) a ∙ ap (λ (n : ℕ). hex_digit_ascii h ∷ hex_digit_ascii n ∷ []) b
              ∙ ap (λ (n : ℕ). n ∷ hex_digit_ascii l ∷ []) x.1 ∙ ap (λ (n : ℕ). high ∷ n ∷ []) y.1,
        )
    go (Some h) None p q =
        let z : Some v ≡ None = sym e ∙ ap (λ (d : Option ℕ). octet_from d (digit_of low)) p ∙ ap (octet_from (Some h)) q in
        let y : ◌≡◌ {A = ℕ} 0 1 = cc in absurd (omega arith)
    go None f p q =
        let z : Some v ≡ None = sym e ∙ ap (λ (d : Option ℕ). octet_from d (digit_of low)) p in
        let y : ◌≡◌ {A = ℕ} 0 1 = cc in absurd (omega arith)

pub octet_written : (v : ℕ) → v < 256 → octet_of (hex_digit_ascii (v / 16)) (hex_digit_ascii (v % 16)) ≡ Some v
unfolding octet_of
octet_written v h =
    let e : v / 16 * 16 + v % 16 ≡ v = omega arith in
    ap (λ (d : Option ℕ). octet_from d (digit_of (hex_digit_ascii (v % 16)))) (digit_glyph (v / 16) (omega arith))
    ∙ ap (octet_from (Some (v / 16))) (digit_glyph (v % 16) (omega arith))
    ∙ ap Some e

-- ---- a decimal number: io writes of it what was read
one_more : (k v b : ℕ) → 48 ≤ b → b ≤ 57 → last_digits 10 (suc k) (v * 10 + (b - 48)) ≡ last_digits 10 k v ++ (b ∷ [])
one_more k v b h m =
    let q : (v * 10 + (b - 48)) / 10 ≡ v = omega arith in
    let r : (v * 10 + (b - 48)) % 10 ≡ b - 48 = omega arith in
    let g : 48 + (b - 48) ≡ b = omega arith in
    ap (λ (n : ℕ). last_digits 10 k n ++ (hex_digit_ascii ((v * 10 + (b - 48)) % 10) ∷ [])) q
    ∙ ap (λ (n : ℕ). last_digits 10 k v ++ (hex_digit_ascii n ∷ [])) r
    ∙ ap (λ (n : ℕ). last_digits 10 k v ++ (n ∷ [])) (glyph_decimal (b - 48) (omega arith) ∙ g)

spelled_from : (s p : List ℕ) (v w : ℕ) → last_digits 10 (length p) v ≡ p → decimal_from v s ≡ Some w → last_digits 10 (length (p ++ s)) w ≡ p ++ s
unfolding decimal_from
spelled_from [] p v w e h = let q : v ≡ w = cc in rw (append-nil p) (ap (last_digits 10 (length p)) (sym q) ∙ e)
spelled_from (b ∷ s) p v w e h = go (within 48 57 b) (leb v greatest_extended) refl refl (λ k. spelled_from s (p ++ (b ∷ [])) (v * 10 + (b - 48)) w k)
  where
    stuck : None ≡ decimal_from v (b ∷ s) → ⊥
    stuck z = let o : None ≡ Some w = z ∙ h in let y : ◌≡◌ {A = ℕ} 0 1 = cc in omega arith

    go : (t u : Bool) → within 48 57 b ≡ t → leb v greatest_extended ≡ u
        → (last_digits 10 (length (p ++ (b ∷ []))) (v * 10 + (b - 48)) ≡ p ++ (b ∷ []) → decimal_from (v * 10 + (b - 48)) s ≡ Some w
        → last_digits 10 (length ((p ++ (b ∷ [])) ++ s)) w ≡ (p ++ (b ∷ [])) ++ s)
        → last_digits 10 (length (p ++ (b ∷ s))) w ≡ p ++ (b ∷ s)
    go true true x y rec =
        let k = both 48 57 b x in
        let n : length (p ++ (b ∷ [])) ≡ suc (length p) = length-append p (b ∷ []) ∙ add-one (length p) in
        let f : last_digits 10 (length (p ++ (b ∷ []))) (v * 10 + (b - 48)) ≡ p ++ (b ∷ []) =
        ap (λ (m : ℕ). last_digits 10 m (v * 10 + (b - 48))) n ∙ one_more (length p) v b k.0 k.1 ∙ ap (λ (l : List ℕ). l ++ (b ∷ [])) e in
        let g : decimal_from (v * 10 + (b - 48)) s ≡ Some w =
        sym (taken v b s k.0 k.1 (leb-true v greatest_extended y)) ∙ h in
        subst (λ (l : List ℕ). last_digits 10 (length l) w ≡ l) (append_assoc p (b ∷ []) s) (rec f g)
    go true false x y rec = absurd (stuck (refused v b s (λ i j m. omega (arith, leb-false v greatest_extended y))))
    go false u x y rec = absurd (stuck (refused v b s (λ i j m. differ (inside 48 57 b i j))))
      where
        differ : within 48 57 b ≡ true → ⊥
        differ z = let o : true ≡ false = sym z ∙ x in let y : ◌≡◌ {A = ℕ} 0 1 = cc in omega arith

pub decimal_spelled : (s : List ℕ) (v : ℕ) → decimal_of s ≡ Some v → last_digits 10 (length s) v ≡ s
unfolding decimal_of
decimal_spelled [] v e = refl
decimal_spelled (b ∷ s) v e = spelled_from (b ∷ s) [] 0 v refl e

-- what io writes of a number, with any zeros before it, is read again: up to 10^19 + 9
written_from : (k v : ℕ) (s : List ℕ) → v < 10 ^ k → v ≤ 10000000000000000009 → decimal_from 0 (last_digits 10 k v ++ s) ≡ decimal_from v s
written_from zero v s h m = let q : v ≡ 0 = omega arith in rw q
written_from (suc k) v s h m =
    let p : 10 ^ suc k ≡ 10 ^ k * 10 = pow-suc 10 k in
    let g : hex_digit_ascii (v % 10) ≡ 48 + v % 10 = glyph_decimal (v % 10) (omega arith) in
    let e : v / 10 * 10 + (hex_digit_ascii (v % 10) - 48) ≡ v = omega arith in
    ap (decimal_from 0) (append_assoc (last_digits 10 k (v / 10)) (hex_digit_ascii (v % 10) ∷ []) s)
    ∙ written_from k (v / 10) (hex_digit_ascii (v % 10) ∷ s) (omega arith) (omega arith)
    ∙ taken (v / 10) (hex_digit_ascii (v % 10)) s (omega arith) (omega arith) (omega arith)
    ∙ ap (λ (n : ℕ). decimal_from n s) e

pub decimal_written : (k v : ℕ) → v < 10 ^ suc k → v ≤ 10000000000000000009 → decimal_of (last_digits 10 (suc k) v) ≡ Some v
unfolding decimal_from
decimal_written k v h m =
    let n : length (last_digits 10 (suc k) v) ≡ length (last_digits 10 k (v / 10)) + 1 = length-append (last_digits 10 k (v / 10)) (hex_digit_ascii (v % 10) ∷ []) in
    sym (decimal_first (last_digits 10 (suc k) v) (λ z. omega arith))
    ∙ ap (decimal_from 0) (sym (append-nil (last_digits 10 (suc k) v)))
    ∙ written_from (suc k) v [] h m
