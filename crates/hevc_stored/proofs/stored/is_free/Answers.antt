use Prim.Native.Nat.{suc}
use native.Mathlib.Omega.{arith}
use mathlib.Core.Path.{◌≡◌, refl, sym, ◌∙◌}
use lib.IntN.{ℤ, pos, negsuc, nat_abs}
use lib.ListN.{get_or}
use lib.Dec.{eqb}
use mir.Syntax.{w32}
use mir.Val.{SFits, of_z}
use borrow.Author.Tests.{ne_eqb}
use Rattle.hevc_stored.proofs.stored.is_free.Goals as goal

-- `is_free` meets its contract: of a number that fits, the bits are zero as the number is. Assumes nothing.
bits_zero : (z : ℤ) → SFits w32 z → eqb (of_z w32 z) 0 ≡ eqb (nat_abs z) 0
bits_zero (pos n) f = refl
bits_zero (negsuc n) f = let h = f.sfits in ne_eqb (of_z w32 (negsuc n)) 0 (λ q. omega (arith, q)) ∙ sym (ne_eqb (suc n) 0 (λ q. omega (arith, q)))

pub returns : goal.returns
returns c = bits_zero (get_or c.args.block.now c.args.at (pos 0)) (record { sfits = c.result-1.given })
