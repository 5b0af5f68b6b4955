-- What a field spells: a digit, a byte, a number, a row of bytes. WrittenLaws: io writes it so.
use Rattle.std.specs.Prelude.{ℕ, ◌+◌, ◌-◌, ◌*◌, Bool, false, ◌&&◌, ◌||◌, cond, List, [], ◌∷◌, ◌++◌, leb, eqb, length, take, drop, Some, None, Option}

abbrev pub within : ℕ → ℕ → ℕ → Bool
within low high b = leb low b && leb b high

-- ---- a hexadecimal digit: 0 to 9, a to f
unfoldable pub digit_of : ℕ → Option ℕ
digit_of b = cond (within 48 57 b) (Some (b - 48)) (cond (within 97 102 b) (Some (b - 87)) None)

-- ---- a byte of two such digits
unfoldable pub octet_from : Option ℕ → Option ℕ → Option ℕ
octet_from (Some h) (Some l) = Some (h * 16 + l)
octet_from (Some h) None = None
octet_from None l = None

unfoldable pub octet_of : ℕ → ℕ → Option ℕ
unfolding octet_from
octet_of high low = octet_from (digit_of high) (digit_of low)

-- ---- a decimal number: digits throughout, at least one
-- 10^18: behind a greater number no digit is taken, so that every number fits 64 bits
abbrev pub greatest_extended : ℕ
greatest_extended = 1000000000000000000

unfoldable pub decimal_from : ℕ → List ℕ → Option ℕ
decimal_from v [] = Some v
decimal_from v (b ∷ s) =
    let r = decimal_from (v * 10 + (b - 48)) s in
    cond (within 48 57 b && leb v greatest_extended) r None

unfoldable pub decimal_of : List ℕ → Option ℕ
unfolding decimal_from
decimal_of [] = None
decimal_of (b ∷ s) = decimal_from 0 (b ∷ s)

-- ---- bytes of two digits each: those before the first that is none
unfoldable pub octet_then : Option ℕ → List ℕ → List ℕ
octet_then (Some v) r = v ∷ r
octet_then None r = []

unfoldable pub octets_of : List ℕ → List ℕ
unfolding octet_then
octets_of [] = []
octets_of (high ∷ []) = []
octets_of (high ∷ low ∷ s) = octet_then (octet_of high low) (octets_of s)

-- those of them that a room takes, over its start
unfoldable pub octets_over : List ℕ → List ℕ → List ℕ
octets_over s out = let w = take (length out) (octets_of s) in w ++ drop (length w) out

-- a dash, which stands for no bytes
unfoldable pub is_dash : List ℕ → Bool
is_dash [] = false
is_dash (b ∷ []) = eqb b 45
is_dash (b ∷ c ∷ s) = false

-- how many they are, where they are the whole field
unfoldable pub octets_read : List ℕ → ℕ → Option ℕ
octets_read s n = cond (is_dash s || eqb (length s) (2 * n)) (Some n) None

unfoldable pub octets_answer : List ℕ → ℕ → Option ℕ
unfolding octets_read
octets_answer s room = octets_read s (length (take room (octets_of s)))
