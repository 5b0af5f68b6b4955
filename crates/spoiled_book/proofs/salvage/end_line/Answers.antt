use Rattle.spoiled.specs.CodeLaws.{line_gave, all_below}
use lib.ListN.{take, length-take}
use native.Mathlib.Omega.{arith}
use Rattle.spoiled_book.proofs.salvage.end_line.Goals as goal

pub slice_bounds-put_salvaged-end-2 : goal.slice_bounds-put_salvaged-end-2
slice_bounds-put_salvaged-end-2 c = simp length-take (omega arith)

pub put_salvaged-b-requires : goal.put_salvaged-b-requires
put_salvaged-b-requires c = simp length-take (omega arith)

pub returns : goal.returns
returns c =
    let a = c.args in (
      line_gave a.s.line.number _ _ (take a.s.line.held a.line.now) _ (take a.s.book a.book.now) (take a.s.report a.report.now) _ _
          a.finished a.s.tally _ c.lower_and_look-fate.ensures.0 c.lower_and_look-fate.ensures.1 c.lower_and_look-fate.ensures.2 c.put_salvaged-b.ensures.0 c.put_report-p.ensures.0 c.count_line-tally.ensures.0,
      omega arith,
      omega arith,
      omega (arith, simp length-take at c.put_salvaged-b.ensures.1),
      omega arith,
      all_below a.s.tally c.count_line-tally.result a.s.line.number c.count_line-tally.ensures.1 c.requires.4,
    )
