use native.Mathlib.Omega.{arith}
use Rattle.std.proofs.Common.{◌≡◌, ◌-◌, ◌++◌, length, take, drop, refl}
use Rattle.std.proofs.Math.Seq.{take-length}
use Rattle.text_room.specs.Laws.{piece, copied_front, copied_room}
use Rattle.text_room.proofs.put.Goals as goal

pub returns : goal.returns
returns c =
    let a = c.args in
    let e : c.copy.new.out ≡ take (length a.s.now) a.s.now ++ drop (length a.s.now) (take (length a.out.now - a.at) (drop a.at a.out.now)) = rw (take-length a.s.now) c.copy.ensures in
    (piece a.out.now _ _ _ a.at _ (omega arith) (copied_room a.s.now _ _ e) (copied_front a.s.now _ _ e), refl)
