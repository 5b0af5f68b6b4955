use mathlib.Core.Path.{◌∙◌, subst, sym}
use lib.ListN.{get_or}
use Prim.Native.Nat.{◌+◌, ◌≤◌}
use native.Mathlib.Omega.{arith}
use Rattle.hevc_summary.specs.CodeLaws.{subs_grid, Making, making_begins, making_on, making_ends, map_fits}
use Rattle.hevc_counts.proofs.counts.whole_of.Goals as goal

pub loop-s-init : goal.loop-s-init
loop-s-init c = making_begins c.args.log2 c.args.counts.now c.args.sums.now c.grid-n.result c.requires.0 c.requires.1 (c.grid-n.ensures.0 ∙ subs_grid c.args.log2 c.requires.0 c.requires.1)

pub overflow_add-map : goal.overflow_add-map
overflow_add-map c =
    let a = c.args in
    omega (arith, map_fits a.log2 a.counts.now a.sums.now c.grid-n.result c.loop-s.count c.loop-s.sum c.loop-s.map c.loop-s.s c.loop-s.invariant (omega arith) c.bit_of-map.result c.bit_of-map.ensures)

pub loop-s-preserved : goal.loop-s-preserved
loop-s-preserved c =
    let a = c.args in
    let g : get_or a.counts.now c.loop-s.s 0 ≤ 4294967295 = omega (arith, c.type_inv.counts c.loop-s.s) in
    subst (λ x. Making a.log2 a.counts.now a.sums.now c.grid-n.result (c.loop-s.count + x) c.saturating_add-sum.result (c.loop-s.map + c.bit_of-map.result) (c.loop-s.s + 1)) (sym c.from-count.ensures) (making_on a.log2 a.counts.now a.sums.now c.grid-n.result c.loop-s.count c.loop-s.sum c.loop-s.map c.loop-s.s c.loop-s.invariant (omega arith) c.saturating_add-sum.result c.bit_of-map.result g (omega arith) c.bit_of-map.ensures)

pub returns : goal.returns
returns c =
    let a = c.args in
    making_ends a.log2 a.counts.now a.sums.now c.grid-n.result c.loop-s.count c.loop-s.sum c.loop-s.map c.loop-s.s c.loop-s.invariant (omega arith)
