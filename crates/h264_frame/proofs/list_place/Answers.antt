use native.Mathlib.Omega.{arith}
use Prim.Native.Nat.{◌+◌, ◌*◌}
use mathlib.Core.Path.{refl}
use Rattle.h264_frame.specs.FrameLaws.{zigzag_few}
use Rattle.h264_frame.proofs.list_place.Goals as goal

pub overflow_cast-result : goal.overflow_cast-result
overflow_cast-result c = omega (arith, zigzag_few (4 * c.args.row + c.args.column) (omega (arith, c.requires)))

pub returns : goal.returns
returns c = (refl, omega (arith, zigzag_few (4 * c.args.row + c.args.column) (omega (arith, c.requires))))
