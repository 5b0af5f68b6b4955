use native.Mathlib.Omega.{arith}
use Rattle.bins.specs.StepLaws.{passed_on}
use Rattle.h264_places.specs.PlaceCode.{place_refused, place_none, place_reads, place_short, place_bit, place_got}
use Rattle.h264_places.proofs.places.place_flags.Goals as goal

pub returns-in_err-b : goal.returns-in_err-b
returns-in_err-b c =
    let a = c.args in
    rw (passed_on c.from_residual.result _ c.from_residual.ensures.1)
    (place_refused a.list a.bytes.now a.k a.x a.contexts.now c.requires.0 c.context_bin.result c.context_bin.new.contexts c.context_bin.ensures _ c.in_err-b.was)

pub returns-then-b-eq0 : goal.returns-then-b-eq0
returns-then-b-eq0 c =
    let a = c.args in
    place_none a.list a.bytes.now a.k a.x a.contexts.now c.requires.0 c.context_bin.result c.context_bin.new.contexts c.context_bin.ensures _ _
    c.in_ok-b.was c.if-b-eq0.true

pub context_bin-requires-2 : goal.context_bin-requires-2
context_bin-requires-2 c =
    let a = c.args in (
      place_reads a.list a.bytes.now a.k a.x a.contexts.now c.requires.0 c.context_bin.result c.context_bin.new.contexts c.context_bin.ensures _ _
          c.in_ok-b.was c.if-b-eq0.false,
      omega arith,
      omega (arith, c.requires.1),
      c.requires.2,
    )

pub returns-in_err-e : goal.returns-in_err-e
returns-in_err-e c =
    let a = c.args in
    rw (passed_on c.from_residual-in_err-e.result _ c.from_residual-in_err-e.ensures.1)
    (place_short a.list a.bytes.now a.k a.x a.contexts.now c.requires.0 c.context_bin.result c.context_bin.new.contexts c.context_bin.ensures _ _ c.in_ok-b.was
    c.if-b-eq0.false c.context_bin-2.result c.context_bin-2.new.contexts c.context_bin-2.ensures _ c.in_err-e.was)

pub overflow_add-result : goal.overflow_add-result
overflow_add-result c =
    let a = c.args in
    omega (
      arith,
      place_bit a.list a.bytes.now a.k a.x a.contexts.now c.requires.0 c.context_bin.result c.context_bin.new.contexts c.context_bin.ensures _ _
          c.in_ok-b.was c.if-b-eq0.false c.context_bin-2.result c.context_bin-2.new.contexts c.context_bin-2.ensures _ _
          c.in_ok-e.was,
    )

pub returns : goal.returns
returns c =
    let a = c.args in
    place_got a.list a.bytes.now a.k a.x a.contexts.now c.requires.0 c.context_bin.result c.context_bin.new.contexts c.context_bin.ensures _ _ c.in_ok-b.was
    c.if-b-eq0.false c.context_bin-2.result c.context_bin-2.new.contexts c.context_bin-2.ensures _ _ c.in_ok-e.was
