-- What the code answers, as the definition has it.
use Rattle.std.specs.Prelude.{ℕ, ◌≡◌, List, take, Ok, Err, Result}
use Rattle.cabac.specs.Numbers.{Answer, accepted, refused}

abbrev pub Pressed : Type 0
Pressed = Result ℕ ℕ

abbrev pub pressed_says : Pressed → List ℕ → Answer (List ℕ)
pressed_says (Ok n) room = accepted (take n room)
pressed_says (Err n) room = refused n

-- a refused drawing leaves the room as it was
abbrev pub Leaves : Pressed → List ℕ → List ℕ → Type 0
Leaves (Ok n) room room' = Unit {0}
Leaves (Err n) room room' = room' ≡ room
