use native.Mathlib.Omega.{arith}
use Prim.Native.Nat.{◌/◌, ◌%◌, ◌-◌, ◌^◌}
use mathlib.Core.Path.{ap, sym, ◌∙◌}
use Rattle.bins.specs.BitLaws.{bit_past, get_d_any}
use lib.ListN.{get_or}
use Rattle.payload_bits.proofs.bits.bit_at.Goals as goal

pub returns-then-i-bytes : goal.returns-then-i-bytes
returns-then-i-bytes c = let a = c.args in ap (λ i. get_or a.bytes.now i 0 / 2 ^ (7 - a.at.0 % 8) % 2) c.byte_of-byte.ensures ∙ ap (λ x. x / 2 ^ (7 - a.at.0 % 8) % 2) (get_d_any a.bytes.now (a.at.0 / 8) 0 255 (omega arith))

pub returns-else-i-bytes : goal.returns-else-i-bytes
returns-else-i-bytes c = let a = c.args in sym (bit_past a.bytes.now a.at.0 (omega arith))
