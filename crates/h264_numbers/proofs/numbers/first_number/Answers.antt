use Rattle.h264_numbers.specs.NumberLaws.{first_big, first_few, first_many}
use Rattle.h264_numbers.proofs.numbers.first_number.Goals as goal

pub returns-then-bigs-gt0 : goal.returns-then-bigs-gt0
returns-then-bigs-gt0 c = let a = c.args in first_big a.ones a.bigs c.if-bigs-gt0.true

pub returns-then-ones-lt3 : goal.returns-then-ones-lt3
returns-then-ones-lt3 c = let a = c.args in first_few a.ones a.bigs c.if-bigs-gt0.false c.if-ones-lt3.true

pub returns : goal.returns
returns c = let a = c.args in first_many a.ones a.bigs c.if-bigs-gt0.false c.if-ones-lt3.false
