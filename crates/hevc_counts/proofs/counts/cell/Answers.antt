use native.Mathlib.Omega.{arith}
use Rattle.hevc_summary.specs.CodeLaws.{cell_facts}
use Rattle.hevc_counts.proofs.counts.cell.Goals as goal

pub nonzero_div-result : goal.nonzero_div-result
nonzero_div-result c = let a = c.args in let h = c.requires in let f = cell_facts a.log2 h.0 h.1 c.side_of-n.result c.side_of-n.ensures a.s a.k h.2 h.3 in omega arith

pub overflow_mul-result : goal.overflow_mul-result
overflow_mul-result c = let a = c.args in let h = c.requires in let f = cell_facts a.log2 h.0 h.1 c.side_of-n.result c.side_of-n.ensures a.s a.k h.2 h.3 in omega arith

pub overflow_add-result : goal.overflow_add-result
overflow_add-result c = let a = c.args in let h = c.requires in let f = cell_facts a.log2 h.0 h.1 c.side_of-n.result c.side_of-n.ensures a.s a.k h.2 h.3 in omega arith

pub overflow_mul-result-2 : goal.overflow_mul-result-2
overflow_mul-result-2 c = let a = c.args in let h = c.requires in let f = cell_facts a.log2 h.0 h.1 c.side_of-n.result c.side_of-n.ensures a.s a.k h.2 h.3 in omega arith

pub nonzero_rem-result : goal.nonzero_rem-result
nonzero_rem-result c = let a = c.args in let h = c.requires in let f = cell_facts a.log2 h.0 h.1 c.side_of-n.result c.side_of-n.ensures a.s a.k h.2 h.3 in omega arith

pub overflow_mul-result-3 : goal.overflow_mul-result-3
overflow_mul-result-3 c = let a = c.args in let h = c.requires in let f = cell_facts a.log2 h.0 h.1 c.side_of-n.result c.side_of-n.ensures a.s a.k h.2 h.3 in omega arith

pub overflow_add-result-2 : goal.overflow_add-result-2
overflow_add-result-2 c = let a = c.args in let h = c.requires in let f = cell_facts a.log2 h.0 h.1 c.side_of-n.result c.side_of-n.ensures a.s a.k h.2 h.3 in omega arith

pub overflow_add-result-3 : goal.overflow_add-result-3
overflow_add-result-3 c = let a = c.args in let h = c.requires in let f = cell_facts a.log2 h.0 h.1 c.side_of-n.result c.side_of-n.ensures a.s a.k h.2 h.3 in omega arith

pub returns : goal.returns
returns c = let a = c.args in let h = c.requires in let f = cell_facts a.log2 h.0 h.1 c.side_of-n.result c.side_of-n.ensures a.s a.k h.2 h.3 in (f.is, omega arith)
