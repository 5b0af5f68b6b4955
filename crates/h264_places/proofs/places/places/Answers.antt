use native.Mathlib.Omega.{arith}
use Rattle.bins.specs.StepLaws.{passed_on}
use Rattle.h264_places.specs.PlaceCode.{marking_begins, places_refused, places_last, places_again, places_ended}
use Rattle.h264_places.proofs.places.places.Goals as goal

pub loop-k-init : goal.loop-k-init
loop-k-init c = let a = c.args in marking_begins a.list a.bytes.now a.x a.contexts.now a.marks.now c.requires.1 c.requires.0

pub place_flags-requires : goal.place_flags-requires
place_flags-requires c = (c.loop-k.invariant.reads, omega arith, c.requires.2)

pub returns-in_err-v : goal.returns-in_err-v
returns-in_err-v c =
    let a = c.args in
    rw (passed_on c.from_residual.result _ c.from_residual.ensures.1)
    (places_refused a.list a.bytes.now a.x a.contexts.now c.loop-k.y c.loop-k.contexts c.loop-k.marks c.loop-k.k c.loop-k.invariant (λ q. omega arith)
    c.place_flags.result c.place_flags.new.contexts c.place_flags.ensures _ c.in_err-v.was)

pub returns-then-v-eq2 : goal.returns-then-v-eq2
returns-then-v-eq2 c =
    let a = c.args in
    places_last a.list a.bytes.now a.x a.contexts.now c.loop-k.y c.loop-k.contexts c.loop-k.marks c.loop-k.k c.loop-k.invariant (λ q. omega arith)
    c.place_flags.result c.place_flags.new.contexts c.place_flags.ensures _ _ c.in_ok-v.was c.if-v-eq2.true

pub loop-k-preserved : goal.loop-k-preserved
loop-k-preserved c =
    let a = c.args in
    places_again a.list a.bytes.now a.x a.contexts.now c.loop-k.y c.loop-k.contexts c.loop-k.marks c.loop-k.k c.loop-k.invariant (λ q. omega arith)
    c.place_flags.result c.place_flags.new.contexts c.place_flags.ensures _ _ c.in_ok-v.was c.if-v-eq2.false

pub returns : goal.returns
returns c =
    let a = c.args in
    places_ended a.list a.bytes.now a.x a.contexts.now c.loop-k.y c.loop-k.contexts c.loop-k.marks c.loop-k.k c.loop-k.invariant (omega arith)
