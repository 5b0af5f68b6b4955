-- The fields of a line, counted from 0: a space parts one from the next.
use Rattle.std.specs.Prelude.{ℕ, zero, suc, List, take, drop}
use Rattle.octet_scan.specs.Octets.{index_of}

-- the line from its k-th field on; nothing where it has fewer
unfoldable pub from_field : List ℕ → ℕ → List ℕ
from_field s zero = s
from_field s (suc k) = from_field (drop (suc (index_of 32 s)) s) k

-- what stands before the first space; all where there is none
unfoldable pub before_space : List ℕ → List ℕ
before_space s = take (index_of 32 s) s

-- the k-th field
unfoldable pub field_of : List ℕ → ℕ → List ℕ
unfolding from_field before_space
field_of s k = before_space (from_field s k)
