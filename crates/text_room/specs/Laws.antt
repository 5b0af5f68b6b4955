-- Laws of text that is put piece behind piece, and of decimal numbers. Assumes nothing.
use Rattle.std.specs.Prelude.{ℕ, zero, suc, ◌+◌, ◌-◌, ◌/◌, ◌%◌, ◌^◌, ◌≤◌, ◌<◌, ◌≡◌, refl, Bool, true, false, cond, List, [], ◌∷◌, ◌++◌, leb, length, take}
use Rattle.std.proofs.Common.{pow-suc, arith, sym, ap, subst, ◌∙◌, append_assoc, length-take, length-append, take_at, length-take-le, lt-ltb, le-ltb, leb-true, leb-false}
use Rattle.std.proofs.Math.Seq.{take-append-add, take-length}
use Rattle.std.proofs.lemmas.List.{take-append-le}
use Rattle.io.specs.Digits.{hex_digit_ascii, last_digits, IsDigitCount}
use Rattle.text_fields.specs.SpelledLaws.{glyph_decimal}
use Rattle.text_room.specs.Decimal.{decimal_in, decimal}

-- ---- a piece behind what stands
-- out behind the first `at` bytes was lent; ys came back of it, of which the front is s
pub piece : (out ys rest s : List ℕ) (at k : ℕ) → at ≤ length out → k ≤ length ys → take k ys ≡ s → take (at + k) (take at out ++ (ys ++ rest)) ≡ take at out ++ s
piece out ys rest s at k h j e =
    ap (λ (n : ℕ). take (n + k) (take at out ++ (ys ++ rest))) (sym (length-take-le at out h))
    ∙ take-append-add (take at out) (ys ++ rest) k
    ∙ ap (λ (x : List ℕ). take at out ++ x) (take-append-le k ys rest j ∙ e)

pub copied_front : (s t after : List ℕ) → after ≡ take (length s) s ++ t → take (length s) after ≡ s
copied_front s t after e = ap (take (length s)) (e ∙ ap (λ (x : List ℕ). x ++ t) (take-length s)) ∙ take_at s t (length s) refl

pub copied_room : (s t after : List ℕ) → after ≡ take (length s) s ++ t → length s ≤ length after
copied_room s t after e = omega (arith, ap length e, length-append (take (length s) s) t, length-take (length s) s)

-- ---- decimal
pow_two : (k : ℕ) → 10 ≤ 10 ^ suc k
pow_two zero = omega (arith, pow-suc 10 0)
pow_two (suc k) = let i = pow_two k in omega (arith, pow-suc 10 (suc k))

less : (k : ℕ) → suc k - 1 ≡ k
less k = omega arith

digits_in : (k f n : ℕ) → k ≤ f → 1 ≤ k → n < 10 ^ k → (1 < k → 10 ^ (k - 1) ≤ n) → last_digits 10 k n ≡ decimal_in f n
unfolding decimal_in
digits_in zero f n h p q r = absurd (omega arith)
digits_in (suc k) zero n h p q r = absurd (omega arith)
digits_in (suc zero) (suc f) n h p q r =
    let b : n < 10 = omega (arith, pow-suc 10 0) in
    let m : n % 10 ≡ n = omega arith in
    ap (λ (x : ℕ). x ∷ []) (ap hex_digit_ascii m ∙ glyph_decimal n b) ∙ sym (ap (λ (t : Bool). cond t ((48 + n) ∷ []) (decimal_in f (n / 10) ++ ((48 + n % 10) ∷ []))) (lt-ltb n 10 b))
digits_in (suc (suc k)) (suc f) n h p q r =
    let low : 10 ^ suc k ≤ n = subst (λ (x : ℕ). 10 ^ x ≤ n) (less (suc k)) (r (omega arith)) in
    let part : 10 ^ k ≤ n / 10 = omega (arith, pow-suc 10 k) in
    let ten = pow_two k in
    let i : last_digits 10 (suc k) (n / 10) ≡ decimal_in f (n / 10) =
    digits_in (suc k) f (n / 10) (omega arith) (omega arith) (omega (arith, pow-suc 10 (suc k))) (λ z. subst (λ (x : ℕ). 10 ^ x ≤ n / 10) (sym (less k)) part) in
    ap (λ (x : List ℕ). x ++ (hex_digit_ascii (n % 10) ∷ [])) i
    ∙ ap (λ (x : ℕ). decimal_in f (n / 10) ++ (x ∷ [])) (glyph_decimal (n % 10) (omega arith))
    ∙ sym (ap (λ (t : Bool). cond t ((48 + n) ∷ []) (decimal_in f (n / 10) ++ ((48 + n % 10) ∷ []))) (le-ltb n 10 (omega arith)))

pub decimal_is : (k n : ℕ) → k ≤ 20 → IsDigitCount 10 1 n k → last_digits 10 k n ≡ decimal n
unfolding decimal
decimal_is k n h f = digits_in k 20 n h f.0 f.1 f.2

pow_up : (a b : ℕ) → 10 ^ a ≤ 10 ^ (a + b)
pow_up a zero = let e : a + 0 ≡ a = omega arith in subst (λ (x : ℕ). 10 ^ a ≤ 10 ^ x) (sym e) (omega arith)
pow_up a (suc b) =
    let e : a + suc b ≡ suc (a + b) = omega arith in
    let i = pow_up a b in
    subst (λ (x : ℕ). 10 ^ a ≤ 10 ^ x) (sym e) (omega (arith, pow-suc 10 (a + b)))

-- a number of 64 bits has at most 20 digits
pub decimal_short : (k n : ℕ) → n < 18446744073709551616 → IsDigitCount 10 1 n k → k ≤ 20
decimal_short k n h f = go (leb k 20) refl
  where
    go : (t : Bool) → leb k 20 ≡ t → k ≤ 20
    go true q = leb-true k 20 q
    go false q =
        let g = leb-false k 20 q in
        let e : 20 + (k - 21) ≡ k - 1 = omega arith in
        let low : 10 ^ (k - 1) ≤ n = f.2 (omega arith) in
        let up : 10 ^ 20 ≤ 10 ^ (k - 1) = subst (λ (x : ℕ). 10 ^ 20 ≤ 10 ^ x) e (pow_up 20 (k - 21)) in
        absurd (omega arith)

pub decimal_front : (k n : ℕ) (text : List ℕ) → n < 18446744073709551616 → IsDigitCount 10 1 n k → take k text ≡ last_digits 10 k n → take k text ≡ decimal n
decimal_front k n text h f e = e ∙ decimal_is k n (decimal_short k n h f) f

-- ---- pieces one behind the other, each as its call left the room's front
pub one_piece : (x t u v : List ℕ) → x ≡ t ++ u → u ≡ v → x ≡ t ++ v
one_piece x t u v p q = p ∙ ap (λ (l : List ℕ). t ++ l) q

pub two_pieces : (x y t u v : List ℕ) → x ≡ y ++ v → y ≡ t ++ u → x ≡ t ++ (u ++ v)
two_pieces x y t u v p q = p ∙ ap (λ (l : List ℕ). l ++ v) q ∙ append_assoc t u v

pub three_pieces : (x y z t u v w : List ℕ) → x ≡ y ++ w → y ≡ z ++ v → z ≡ t ++ u → x ≡ t ++ (u ++ (v ++ w))
three_pieces x y z t u v w p q r =
    two_pieces x y z v w p q ∙ ap (λ (l : List ℕ). l ++ (v ++ w)) r ∙ append_assoc t u (v ++ w)

pub four_pieces : (x y z r t u v w o : List ℕ) → x ≡ y ++ o → y ≡ z ++ w → z ≡ r ++ v → r ≡ t ++ u → x ≡ t ++ (u ++ (v ++ (w ++ o)))
four_pieces x y z r t u v w o p q k j = two_pieces x r t u (v ++ (w ++ o)) (three_pieces x y z r v w o p q k) j

pub piece_behind : (x y t u : List ℕ) → x ≡ y ++ u → y ≡ t → x ≡ t ++ u
piece_behind x y t u p q = p ∙ ap (λ (l : List ℕ). l ++ u) q
