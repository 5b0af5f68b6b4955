use native.Mathlib.Omega.{arith}
use Rattle.packer.specs.WalkLaws.{written_begin, written_steady, written_grown, written_more, laid}
use Rattle.packer.proofs.list.put_list.Goals as goal

pub loop-k-init : goal.loop-k-init
loop-k-init c =
    let a = c.args in
    let h = c.requires in
    written_begin a.room.now a.contexts.now a.writing a.list.now h.0 h.2

pub put_entry-d-requires : goal.put_entry-d-requires
put_entry-d-requires c =
    let a = c.args in
    let h = c.requires in
    let s = written_steady a.room.now a.contexts.now a.writing a.list.now h.0 h.2 c.loop-k.k c.loop-k.room c.loop-k.c c.loop-k.contexts c.loop-k.invariant in
    (s.0, s.1, h.1)

pub put_out-c-requires : goal.put_out-c-requires
put_out-c-requires c =
    let a = c.args in
    let h = c.requires in
    written_grown a.room.now a.contexts.now a.writing a.list.now h.0 h.2 c.loop-k.k c.loop-k.room c.loop-k.c c.put_entry-d.result c.loop-k.contexts c.put_entry-d.new.contexts _ c.loop-k.invariant (omega arith) c.put_entry-d.ensures.0 c.put_entry-d.ensures.1

pub loop-k-preserved : goal.loop-k-preserved
loop-k-preserved c =
    let a = c.args in
    let h = c.requires in
    written_more a.room.now a.contexts.now a.writing a.list.now h.0 h.2 c.loop-k.k c.loop-k.room c.loop-k.c c.put_entry-d.result c.loop-k.contexts c.put_entry-d.new.contexts c.entry_number-entry.result c.loop-k.invariant (omega arith) c.put_entry-d.ensures.0 c.put_entry-d.ensures.1 c.put_out-c.new.room c.put_out-c.result c.entry_number-entry.ensures c.put_out-c.ensures

pub flush-requires : goal.flush-requires
flush-requires c =
    let a = c.args in
    let h = c.requires in
    let s = written_steady a.room.now a.contexts.now a.writing a.list.now h.0 h.2 c.loop-k.k c.loop-k.room c.loop-k.c c.loop-k.contexts c.loop-k.invariant in
    s.0

pub shape_of-contexts : goal.shape_of-contexts
shape_of-contexts c =
    let a = c.args in
    let h = c.requires in
    (laid a.room.now a.contexts.now a.writing a.list.now h.0 h.2 c.loop-k.k c.loop-k.room c.loop-k.c c.loop-k.contexts c.flush.new.room c.flush.result c.loop-k.invariant (omega arith) c.flush.ensures.0 c.flush.ensures.1).sized

pub shape_of-room : goal.shape_of-room
shape_of-room c =
    let a = c.args in
    let h = c.requires in
    (laid a.room.now a.contexts.now a.writing a.list.now h.0 h.2 c.loop-k.k c.loop-k.room c.loop-k.c c.loop-k.contexts c.flush.new.room c.flush.result c.loop-k.invariant (omega arith) c.flush.ensures.0 c.flush.ensures.1).long

pub returns : goal.returns
returns c =
    let a = c.args in
    let h = c.requires in
    laid a.room.now a.contexts.now a.writing a.list.now h.0 h.2 c.loop-k.k c.loop-k.room c.loop-k.c c.loop-k.contexts c.flush.new.room c.flush.result c.loop-k.invariant (omega arith) c.flush.ensures.0 c.flush.ensures.1
