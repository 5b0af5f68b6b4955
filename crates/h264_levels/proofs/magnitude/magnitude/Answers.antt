use native.Mathlib.Omega.{arith}
use Rattle.bins.specs.StepLaws.{passed_on}
use Rattle.h264_levels.specs.MagnitudeLaws.{counted_reads, golomb_small, magnitude_refused, magnitude_few, magnitude_short, magnitude_got}
use Rattle.h264_numbers.specs.NumberLaws.{first_below}
use Rattle.h264_levels.proofs.magnitude.magnitude.Goals as goal

pub count-requires : goal.count-requires
count-requires c =
    let a = c.args in
    (c.requires.0, omega (arith, first_below a.ones a.bigs, c.first_number-first.ensures, c.count-arg-1.given.0.1), omega (arith, c.later_number-later.ensures, c.count-arg-1.given.0.1), omega (arith, c.count-arg-1.given.0.1), omega arith, c.requires.1)

pub returns-in_err-q : goal.returns-in_err-q
returns-in_err-q c =
    λ v.
    let a = c.args in
    rw (passed_on c.from_residual.result _ c.from_residual.ensures.1)
    (magnitude_refused a.list a.bytes.now a.ones a.bigs a.x a.contexts.now c.count.result c.count.new.contexts c.first_number-first.result c.later_number-later.result c.first_number-first.ensures
    c.later_number-later.ensures c.count.ensures v _ c.in_err-q.was)

pub returns-then-q-lt14 : goal.returns-then-q-lt14
returns-then-q-lt14 c =
    λ v.
    let a = c.args in
    magnitude_few a.list a.bytes.now a.ones a.bigs a.x a.contexts.now c.count.result c.count.new.contexts c.first_number-first.result c.later_number-later.result c.first_number-first.ensures
    c.later_number-later.ensures c.count.ensures v _ _ c.in_ok-q.was c.if-q-lt14.true

pub exp_golomb-requires : goal.exp_golomb-requires
exp_golomb-requires c =
    let a = c.args in (
      (counted_reads a.list a.bytes.now a.ones a.bigs a.x a.contexts.now c.count.result c.count.new.contexts c.first_number-first.result c.later_number-later.result c.first_number-first.ensures
          c.later_number-later.ensures c.count.ensures _ _ c.in_ok-q.was c.requires.0).0,
      omega arith,
    )

pub returns-in_err-v : goal.returns-in_err-v
returns-in_err-v c =
    λ v.
    let a = c.args in
    rw (passed_on c.from_residual-in_err-v.result _ c.from_residual-in_err-v.ensures.1)
    (magnitude_short a.list a.bytes.now a.ones a.bigs a.x a.contexts.now c.count.result c.count.new.contexts c.first_number-first.result c.later_number-later.result c.first_number-first.ensures
    c.later_number-later.ensures c.count.ensures v _ _ c.in_ok-q.was c.if-q-lt14.false c.exp_golomb.result c.exp_golomb.ensures _ c.in_err-v.was)

pub overflow_add-result : goal.overflow_add-result
overflow_add-result c =
    let a = c.args in
    omega (arith, golomb_small a.list a.bytes.now _ c.exp_golomb.result c.exp_golomb.ensures _ _ c.in_ok-v.was)

pub returns : goal.returns
returns c =
    λ v.
    let a = c.args in
    magnitude_got a.list a.bytes.now a.ones a.bigs a.x a.contexts.now c.count.result c.count.new.contexts c.first_number-first.result c.later_number-later.result c.first_number-first.ensures
    c.later_number-later.ensures c.count.ensures v _ _ c.in_ok-q.was c.if-q-lt14.false c.exp_golomb.result c.exp_golomb.ensures _ _ c.in_ok-v.was
