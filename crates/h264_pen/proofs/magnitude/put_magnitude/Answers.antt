use Rattle.h264_pen.specs.MagnitudePuts.{magnitude_few, magnitude_many}
use Rattle.h264_numbers.specs.NumberLaws.{first_below}
use native.Mathlib.Omega.{arith}
use Rattle.h264_pen.proofs.magnitude.put_magnitude.Goals as goal

pub put_count-requires : goal.put_count-requires
put_count-requires c =
    let a = c.args in
    (omega (arith, c.first_number-first.ensures, first_below a.ones a.bigs), omega (arith, c.later_number-later.ensures), omega (arith, c.if-v-lt14.true))

pub returns-then-v-lt14 : goal.returns-then-v-lt14
returns-then-v-lt14 c = λ want w e. let a = c.args in magnitude_few a.ones a.bigs c.first_number-first.result c.later_number-later.result c.first_number-first.ensures c.later_number-later.ensures a.v want w e c.if-v-lt14.true _ _ c.put_count.ensures

pub put_count-y-requires : goal.put_count-y-requires
put_count-y-requires c =
    let a = c.args in
    (omega (arith, c.first_number-first.ensures, first_below a.ones a.bigs), omega (arith, c.later_number-later.ensures), omega arith)

pub returns : goal.returns
returns c = λ want w e. let a = c.args in magnitude_many a.ones a.bigs c.first_number-first.result c.later_number-later.result c.first_number-first.ensures c.later_number-later.ensures a.v want w e c.if-v-lt14.false _ _ _ c.put_count-y.ensures c.put_suffix.ensures
