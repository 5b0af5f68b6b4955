-- Document 01's numbers for what any syntax is lent: contexts, and the room for a list.
use Rattle.std.specs.Prelude.{ℕ, List, [], ◌∷◌, cond, length, ltb}
use Rattle.cabac.specs.Numbers.{◌or_else◌, context_refusal}

-- 3: a context byte above 127
unfoldable pub contexts_refusal : List ℕ → ℕ
contexts_refusal [] = 0
contexts_refusal (c ∷ cs) = context_refusal c or_else contexts_refusal cs

-- 12: a list longer than the room
unfoldable pub room_refusal : List ℕ → List ℕ → ℕ
room_refusal l room = cond (ltb (length room) (length l)) 12 0
