use mir.Facts.{to_z-of_z}
use mir.Val.{SFits}
use mir.Syntax.{w32}
use lib.ListN.{get_or}
use lib.IntN.{pos, nat_abs}
use mathlib.Core.Path.{ap, ◌∙◌}
use native.Mathlib.Omega.{arith}
use Rattle.hevc_summary.specs.CodeLaws.{counting_begins, counting_on, counting_ends}
use Rattle.hevc_counts.proofs.counts.count_in.Goals as goal

pub loop-k-init : goal.loop-k-init
loop-k-init c = counting_begins c.args.log2 c.args.levels.now c.args.s

pub loop-k-preserved : goal.loop-k-preserved
loop-k-preserved c =
    let a = c.args in
    let l = a.levels.now in
    let f : SFits w32 (get_or l c.cell-at.result (pos 0)) = record { sfits = c.magnitude-arg-1.given } in
    counting_on a.log2 l a.s c.loop-k.count c.loop-k.sum c.loop-k.k c.cell-at.result c.magnitude-m.result c.min-count.result c.loop-k.invariant (omega arith) c.cell-at.ensures.0 (c.magnitude-m.ensures ∙ ap nat_abs (to_z-of_z f)) (omega arith) (omega arith)

pub returns : goal.returns
returns c =
    let a = c.args in
    counting_ends a.log2 a.levels.now a.s c.loop-k.count c.loop-k.sum c.loop-k.k c.loop-k.invariant (omega arith)
