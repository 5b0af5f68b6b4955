use native.Mathlib.Omega.{arith}
use lib.Dec.{leb, ltb}
use Prim.Native.Nat.{◌+◌}
use Rattle.bins.specs.Readers.{odd}
use Rattle.hevc_scans.specs.SigLaws.{map_small, in_luma, in_chroma_lem, sig_map, sig_zero, sig_rest, plus_small, near_small}
use Rattle.hevc_significance.proofs.significance.sig_ctx.Goals as goal

pub overflow_cast-m-then-log2-eq2-2 : goal.overflow_cast-m-then-log2-eq2-2
overflow_cast-m-then-log2-eq2-2 c = let a = c.args in let h = c.requires in omega (arith, map_small a.map.now a.x a.y h.0 h.7 h.8)

pub overflow_add-result : goal.overflow_add-result
overflow_add-result c = let a = c.args in let h = c.requires in omega (arith, map_small a.map.now a.x a.y h.0 h.7 h.8)

pub returns-then-luma : goal.returns-then-luma
returns-then-luma c = let a = c.args in let h = c.requires in in_luma a.luma _ _ c.if-luma.true (sig_map a.log2 a.scan a.xs a.ys a.x a.y a.luma (odd a.neighbours) (leb 2 a.neighbours) h.7 h.8 a.map.now h.0 c.if-log2-eq2.true (h.9 c.if-log2-eq2.true))

pub returns-else-luma : goal.returns-else-luma
returns-else-luma c = let a = c.args in let h = c.requires in in_chroma_lem a.luma _ _ c.if-luma.false (sig_map a.log2 a.scan a.xs a.ys a.x a.y a.luma (odd a.neighbours) (leb 2 a.neighbours) h.7 h.8 a.map.now h.0 c.if-log2-eq2.true (h.9 c.if-log2-eq2.true))

pub returns-then-luma-2 : goal.returns-then-luma-2
returns-then-luma-2 c = let a = c.args in let h = c.requires in in_luma a.luma 0 _ c.if-luma-2.true (sig_zero a.log2 a.scan a.xs a.ys a.x a.y a.luma (odd a.neighbours) (leb 2 a.neighbours) h.7 h.8 c.if-log2-eq2.false c.if-xs-ys-eq0.true)

pub returns-else-luma-2 : goal.returns-else-luma-2
returns-else-luma-2 c = let a = c.args in let h = c.requires in in_chroma_lem a.luma 0 _ c.if-luma-2.false (sig_zero a.log2 a.scan a.xs a.ys a.x a.y a.luma (odd a.neighbours) (leb 2 a.neighbours) h.7 h.8 c.if-log2-eq2.false c.if-xs-ys-eq0.true)

pub overflow_add-result-2 : goal.overflow_add-result-2
overflow_add-result-2 c = let a = c.args in let h = c.requires in omega (arith, c.plus.ensures, c.near.ensures, plus_small a.log2 a.scan a.luma (ltb 0 (a.xs + a.ys)), near_small (odd a.neighbours) (leb 2 a.neighbours) a.x a.y)

pub returns : goal.returns
returns c = let a = c.args in let h = c.requires in sig_rest a.log2 a.scan a.xs a.ys a.x a.y a.luma (odd a.neighbours) (leb 2 a.neighbours) h.7 h.8 c.plus.result c.near.result c.if-log2-eq2.false c.if-xs-ys-eq0.false c.plus.ensures c.near.ensures
