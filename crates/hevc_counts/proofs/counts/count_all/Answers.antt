use mathlib.Core.Path.{◌∙◌}
use native.Mathlib.Omega.{arith}
use Rattle.hevc_summary.specs.CodeLaws.{subs_grid, filling_begins, filling_on, filling_ends}
use Rattle.hevc_counts.proofs.counts.count_all.Goals as goal

pub loop-s-init : goal.loop-s-init
loop-s-init c =
    let a = c.args in
    let h = c.requires in
    filling_begins a.log2 a.levels.now a.counts.now a.sums.now c.grid-n.result h.0 h.1 (c.grid-n.ensures.0 ∙ subs_grid a.log2 h.0 h.1)

pub loop-s-preserved : goal.loop-s-preserved
loop-s-preserved c =
    let a = c.args in
    filling_on a.log2 a.levels.now a.counts.now a.sums.now c.grid-n.result c.loop-s.counts c.loop-s.sums c.loop-s.s c.loop-s.invariant (omega arith) c.count_in-t.result.count c.count_in-t.result.sum c.count_in-t.ensures.0 c.count_in-t.ensures.1 c.count_in-t.ensures.2

pub returns : goal.returns
returns c =
    let a = c.args in
    let e = filling_ends a.log2 a.levels.now a.counts.now a.sums.now c.grid-n.result c.loop-s.counts c.loop-s.sums c.loop-s.s c.loop-s.invariant (omega arith) in
    (e.0, e.1, c.whole_of.ensures, e.2, omega arith, omega arith)
