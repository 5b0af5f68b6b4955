use native.Mathlib.Omega.{arith}
use Prim.Native.Nat.{◌≤◌}
use mathlib.Core.Path.{sym, subst}
use lib.ListN.{length}
use Rattle.hevc_places.specs.Packing.{unpacked}
use Rattle.hevc_places.specs.PackingLaws.{unpack_length}
use Rattle.hevc_levels_pen.specs.SignsPuts.{signing_begins, signing_small, signing_on, signing_ends}
use Rattle.hevc_levels_pen.proofs.signs.signs_of.Goals as goal

pub loop-j-init : goal.loop-j-init
loop-j-init c = let a = c.args in signing_begins a.levels.now (unpacked a.s) a.n

pub overflow_mul-v : goal.overflow_mul-v
overflow_mul-v c =
    let a = c.args in
    let h = c.requires in
    omega (arith, signing_small a.levels.now (unpacked a.s) a.n c.loop-j.v c.loop-j.j c.loop-j.invariant (omega arith) (omega (arith, h.0.few)))

pub overflow_add-v : goal.overflow_add-v
overflow_add-v c =
    let a = c.args in
    let few = signing_small a.levels.now (unpacked a.s) a.n c.loop-j.v c.loop-j.j c.loop-j.invariant (omega arith)
    (omega (arith, c.requires.0.few)) in
    omega (arith, c.sign_at.ensures.1)

pub loop-j-preserved : goal.loop-j-preserved
loop-j-preserved c =
    let a = c.args in
    let few = c.requires.1 in
    let long : a.n ≤ length (unpacked a.s) = subst (λ i. a.n ≤ i) (sym (unpack_length a.s.count a.s.packed)) few in
    signing_on a.levels.now (unpacked a.s) a.n c.loop-j.v c.loop-j.j c.loop-j.invariant (omega arith) long c.place_at.result c.sign_at.result
    (c.place_at.ensures.1 a.s.count (omega arith)) c.place_at.ensures.0 c.sign_at.ensures.1 c.sign_at.ensures.0

pub returns : goal.returns
returns c =
    let a = c.args in
    signing_ends a.levels.now (unpacked a.s) a.n c.loop-j.v c.loop-j.j c.loop-j.invariant (omega arith)
