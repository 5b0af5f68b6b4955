use Rattle.hevc_summary.specs.ReadLaws.{other_size, other_range, same_form}
use Rattle.hevc_kept_checks.proofs.checks.other_form.Goals as goal

-- `other_form` meets its contract. Assumes nothing.
pub returns-then-f-p : goal.returns-then-f-p
returns-then-f-p c = let a = c.args in other_size a.f a.p c.if-f-p.true

pub range_bits-bits-requires : goal.range_bits-bits-requires
range_bits-bits-requires c = c.requires

pub returns-then-f-bits : goal.returns-then-f-bits
returns-then-f-bits c =
    let a = c.args in
    other_range a.f a.p c.if-f-p.false c.range_bits-bits.result c.range_bits-bits.ensures c.if-f-bits.true

pub returns : goal.returns
returns c =
    let a = c.args in
    same_form a.f a.p c.if-f-p.false c.range_bits-bits.result c.range_bits-bits.ensures c.if-f-bits.false
