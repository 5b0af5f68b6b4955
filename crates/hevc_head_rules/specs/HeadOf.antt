-- A head of the code as a head of the syntax.
use Rattle.std.specs.Prelude.{ℕ, Bool, cond}
use Rattle.hevc_residual.specs.declared.params.Rdpcm.{Rdpcm}
use Rattle.hevc_residual.specs.Head as syntax
use Rattle.hevc_head_rules.specs.declared.head.Head.{Head}

abbrev pub head_of : Head → syntax.Head
head_of h = record { skip = h.skip; rdpcm = h.rdpcm; last_x = h.x; last_y = h.y }

-- the head that the elements make; scan 2 swaps the coordinates
abbrev pub placed_at : Bool → Rdpcm → Bool → ℕ → ℕ → syntax.Head
placed_at skip rdpcm swap x y = record { skip = skip; rdpcm = rdpcm; last_x = cond swap y x; last_y = cond swap x y }
