use native.Mathlib.Omega.{arith}
use Rattle.hevc_summary.specs.CodeLaws.{sub_facts}
use Rattle.hevc_counts.proofs.counts.sub_of.Goals as goal

pub nonzero_div-result : goal.nonzero_div-result
nonzero_div-result c = let a = c.args in let h = c.requires in let f = sub_facts a.log2 h.0 h.1 c.side_of-n.result c.side_of-n.ensures a.place h.2 in omega arith

pub overflow_mul-result : goal.overflow_mul-result
overflow_mul-result c = let a = c.args in let h = c.requires in let f = sub_facts a.log2 h.0 h.1 c.side_of-n.result c.side_of-n.ensures a.place h.2 in omega arith

pub nonzero_rem-result : goal.nonzero_rem-result
nonzero_rem-result c = let a = c.args in let h = c.requires in let f = sub_facts a.log2 h.0 h.1 c.side_of-n.result c.side_of-n.ensures a.place h.2 in omega arith

pub overflow_add-result : goal.overflow_add-result
overflow_add-result c = let a = c.args in let h = c.requires in let f = sub_facts a.log2 h.0 h.1 c.side_of-n.result c.side_of-n.ensures a.place h.2 in omega arith

pub returns : goal.returns
returns c = let a = c.args in let h = c.requires in let f = sub_facts a.log2 h.0 h.1 c.side_of-n.result c.side_of-n.ensures a.place h.2 in (f.is, omega arith)
