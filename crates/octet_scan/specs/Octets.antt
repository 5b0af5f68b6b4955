-- Where an octet stands in a text, and the part between two places.
use Rattle.std.specs.Prelude.{ℕ, suc, List, [], ◌∷◌, take, drop, cond, ◌==◌}

-- the first place of b; the length where it does not stand
unfoldable pub index_of : ℕ → List ℕ → ℕ
index_of b [] = 0
index_of b (x ∷ xs) = cond (x == b) 0 (suc (index_of b xs))

-- what stands from one place up to another; less where the text ends before
unfoldable pub slice : ℕ → ℕ → List ℕ → List ℕ
slice from to s = drop from (take to s)
