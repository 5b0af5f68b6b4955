use native.Mathlib.Omega.{arith}
use mathlib.Core.Path.{◌≡◌, ◌∙◌}
use lib.ListN.{length}
use Rattle.text_fields.specs.OctetsLaws.{writing_begun, writing_more, writing_full, writing_ended, writing_stopped}
use Rattle.text_octets.proofs.octets.put_octets.Goals as goal

pub loop-i-init : goal.loop-i-init
loop-i-init c = writing_begun c.args.s.now c.args.out.now

pub returns-then-s-i : goal.returns-then-s-i
returns-then-s-i c =
    let w = writing_ended _ _ _ _ c.loop-i.invariant (omega arith) in
    record { value = w.0; out_after = w.1.0; result_in_bounds = w.1.1 }

pub returns-in_default : goal.returns-in_default
returns-in_default c =
    let w = writing_stopped _ _ _ _ c.loop-i.invariant _ (omega arith) c.hex_byte.ensures c.in_default.is in
    record { value = w.0; out_after = w.1.0; result_in_bounds = w.1.1 }

pub loop-i-preserved : goal.loop-i-preserved
loop-i-preserved c = writing_more _ _ _ _ c.loop-i.invariant _ _ (omega arith) (omega arith) c.hex_byte.ensures c.in-Some.is

pub returns : goal.returns
returns c =
    let w = writing_full _ _ _ _ c.loop-i.invariant (omega arith) in
    let q : length c.loop-i.out ≡ c.loop-i.i = omega arith in
    record { value = q ∙ w.0; out_after = w.1.0; result_in_bounds = omega (arith, w.1.1) }
