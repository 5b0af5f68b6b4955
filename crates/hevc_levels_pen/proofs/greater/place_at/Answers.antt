use native.Mathlib.Nat.{mod-lt}
use native.Mathlib.Omega.{arith}
use Rattle.hevc_levels_pen.specs.GreaterPuts.{place_is}
use Rattle.hevc_levels_pen.proofs.greater.place_at.Goals as goal

pub returns : goal.returns
returns c = let a = c.args in (mod-lt _ (omega arith), place_is a.list a.j)
