-- Entries of a bin list, two bytes a bin, low byte first: 2·context number + bin; behind the contexts' come bypass, and alignment of the range.
use Rattle.std.specs.Prelude.{ℕ, ◌+◌, ◌*◌, ◌/◌, ◌%◌, Bool, ◌&&◌, List, ◌∷◌, eqb}
use Rattle.bins.specs.Engine.{bit_no}

-- how many contexts, and so how many initial values, are lent
abbrev pub context_count : ℕ
context_count = 130

-- the entry of a bin with the context of a number
abbrev pub tag : ℕ → Bool → ℕ
tag c b = 2 * c + bit_no b

-- bypass stands as one more number behind the contexts': 260 and 261
abbrev pub bypass_no : ℕ
bypass_no = context_count

-- alignment behind that: 262
abbrev pub align_tag : ℕ
align_tag = 2 * context_count + 2

-- an entry's two bytes
abbrev pub low : ℕ → ℕ
low t = t % 256

abbrev pub high : ℕ → ℕ
high t = t / 256

-- an entry in front of a list
abbrev pub entry : ℕ → List ℕ → List ℕ
entry t l = low t ∷ high t ∷ l

-- whether two bytes are the entry
unfoldable pub is_entry : ℕ → ℕ → ℕ → Bool
is_entry x y t = eqb x (low t) && eqb y (high t)
