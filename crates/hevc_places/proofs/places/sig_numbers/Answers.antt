use native.Mathlib.Omega.{arith}
use Prim.Native.Nat.{◌+◌}
use lib.Dec.{ltb}
use Rattle.hevc_scans.specs.SigLaws.{plus_small}
use Rattle.hevc_places.specs.PlacesLaws.{numbers_skip, numbers_four, numbers_larger}
use Rattle.hevc_places.proofs.places.sig_numbers.Goals as goal

pub returns-then-single : goal.returns-then-single
returns-then-single c =
    let a = c.args in
    numbers_skip a.p a.single a.neighbours a.xs a.ys c.if-single.true c.skip_number-number.result c.skip_number-number.ensures

pub returns-then-p-eq2 : goal.returns-then-p-eq2
returns-then-p-eq2 c =
    let a = c.args in
    let f = c.if-p-eq2.true in
    numbers_four a.p a.single a.neighbours a.xs a.ys c.if-single.false c.requires.2 c.map_word.result c.least_number-least.result
    c.least_number-least.ensures f (c.requires.6 f) c.map_word.ensures

pub overflow_add-base : goal.overflow_add-base
overflow_add-base c =
    let a = c.args in
    omega (arith, c.plus-base.ensures, plus_small a.p.log2 a.p.scan a.p.luma (ltb 0 (a.xs + a.ys)))

pub overflow_add-base-2 : goal.overflow_add-base-2
overflow_add-base-2 c =
    let a = c.args in
    omega (arith, c.plus-base.ensures, plus_small a.p.log2 a.p.scan a.p.luma (ltb 0 (a.xs + a.ys)))

pub returns : goal.returns
returns c =
    let a = c.args in
    numbers_larger a.p a.single a.neighbours a.xs a.ys c.if-single.false c.requires.2 c.near_word.result c.least_number-least.result
    c.least_number-least.ensures c.if-p-eq2.false c.near_word.ensures c.plus-base.result c.plus-base.ensures c.first_number-first.result
    c.first_number-first.ensures
