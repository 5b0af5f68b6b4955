use native.Mathlib.Omega.{arith}
use Rattle.bins.specs.IntervalLaws.{decide_small, decide_renorms, decide_code}
use Rattle.payload_source.proofs.payload.decide_by.Goals as goal

pub overflow_cast-c : goal.overflow_cast-c
overflow_cast-c c =
    let a = c.args in
    let h = c.requires in
    omega (arith, decide_small a.bytes.now a.x a.c.now a.entry h.0 h.1 h.2 _ c.pick-next.ensures)

pub renorm-interval-requires : goal.renorm-interval-requires
renorm-interval-requires c =
    let a = c.args in
    let h = c.requires in
    decide_renorms a.bytes.now a.x a.c.now a.entry h.0 h.1 h.2 _ _ c.pick-left.ensures c.keep-kept.ensures

pub returns : goal.returns
returns c =
    let a = c.args in
    let h = c.requires in
    decide_code a.bytes.now a.x a.c.now a.entry h.0 h.1 h.2 _ _ _ _ _ c.pick-left.ensures c.keep-kept.ensures c.pick-bin.ensures c.pick-next.ensures c.renorm-interval.ensures
