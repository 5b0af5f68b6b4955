-- Bits of a payload, a list of bytes. A bit place counts from 0, the high bit of byte 0 first.
use Rattle.std.specs.Prelude.{ℕ, zero, suc, ◌+◌, ◌-◌, ◌*◌, ◌/◌, ◌%◌, ◌^◌, min, List, length, get_or}

-- the bit at a place (H.265 7.2, read_bits: high bit first); past the end it is 1, since a missing byte counts as 255
abbrev pub bit_at : List ℕ → ℕ → ℕ
bit_at l p = get_or l (p / 8) 255 / 2 ^ (7 - p % 8) % 2

-- the number that the c bits at a place make, high bit first
unfoldable pub bits : List ℕ → ℕ → ℕ → ℕ
bits l p zero = 0
bits l p (suc c) = bits l p c * 2 + bit_at l (p + c)

-- the place behind the last bit
abbrev pub ends : List ℕ → ℕ
ends l = 8 * length l

-- where a fetch of c bits at p leaves the position, and how many of the c lie past the end
abbrev pub after : List ℕ → ℕ → ℕ → ℕ
after l p c = min (p + c) (ends l)

abbrev pub over : List ℕ → ℕ → ℕ → ℕ
over l p c = min c (p + c - ends l)

-- the most bits past the end that a total counts, and how far past the end a place is followed
abbrev pub past_most : ℕ
past_most = 65535

-- a total with k bits past the end more: it stops there
abbrev pub added : ℕ → ℕ → ℕ
added n k = min past_most (n + k)
