-- A place of a heat map: how often, of so many blocks, it held a level, as one of top + 1 steps. Step 0 is for never alone, so it is rounded up.
use Rattle.std.specs.Prelude.{ℕ, zero, suc, ◌+◌, ◌*◌, ◌/◌, min, List, [], ◌∷◌, get_or}

-- no blocks: never
unfoldable pub scaled : ℕ → ℕ → ℕ → ℕ
scaled top count zero = 0
scaled top count (suc b) = min top ((count * top + b) / suc b)

-- of a picture, and of a text
abbrev pub grey_of : ℕ → ℕ → ℕ
grey_of count blocks = scaled 255 count blocks

abbrev pub shade_of : ℕ → ℕ → ℕ
shade_of count blocks = scaled 9 count blocks

-- the ten characters: ` .:-=+*#%@`
abbrev pub marks : List ℕ
marks = 32 ∷ 46 ∷ 58 ∷ 45 ∷ 61 ∷ 43 ∷ 42 ∷ 35 ∷ 37 ∷ 64 ∷ []

unfoldable pub mark_of : ℕ → ℕ
mark_of shade = get_or marks shade 64
