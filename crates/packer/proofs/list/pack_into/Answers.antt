use mathlib.Core.Path.{sym, subst}
use mathlib.Core.List.{List}
use Prim.Native.Nat.{ℕ}
use native.Mathlib.Omega.{arith}
use Rattle.bins.specs.CodeLaws.{Packed}
use Rattle.packer.specs.IntoCode.{no_room, all_written}
use Rattle.packer.proofs.list.pack_into.Goals as goal

pub returns-then-room-n : goal.returns-then-room-n
returns-then-room-n c =
    let a = c.args in
    no_room a.contexts.now a.list.now a.room.now c.put_list-n.result c.put_list-n.new.room c.put_list-n.new.contexts c.put_list-n.ensures (omega arith)

pub put_list-written-requires : goal.put_list-written-requires
put_list-written-requires c =
    let h = c.requires in
    (subst (λ (l : List ℕ). Packed l) (sym h.1) h.0, h.2, h.3)

pub returns : goal.returns
returns c =
    let a = c.args in
    all_written a.contexts.now a.list.now a.room.now c.put_list-n.result c.put_list-n.new.room c.put_list-n.new.contexts c.put_list-n.ensures (omega arith) a.again.now c.requires.1 c.put_list-written.result c.put_list-written.new.room c.put_list-written.new.contexts c.put_list-written.ensures
