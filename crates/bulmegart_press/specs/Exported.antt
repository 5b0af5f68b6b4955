-- The exported press: its answer as C has it, and what the drawing gives.
use Rattle.std.specs.Prelude.{ℕ, ◌≡◌, List, length, ℤ, Ok, Err}
use Rattle.press_frame.specs.Pressed.{pressed}
use Rattle.press_frame.specs.Said.{Pressed, pressed_says, Leaves}
use Rattle.bulmegart_press.specs.declared.PressAnswer.{PressAnswer}

abbrev pub answer_of : Pressed → PressAnswer
answer_of (Ok n) = record { number = 0; length = n }
answer_of (Err n) = record { number = n; length = 0 }

-- the frame at the front of the room, or the number, is the drawing's; a refused one leaves the room as it was
pub record Given (room head values : List ℕ) (levels : List ℤ) (r : PressAnswer) (room' : List ℕ) : Type 0 where
  pub answer : Pressed
  pub told : r ≡ answer_of answer
  pub is : pressed_says answer room' ≡ pressed (length room) head values levels
  pub leaves : Leaves answer room room'
