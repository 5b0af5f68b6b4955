use Rattle.bins.specs.StepLaws.{align_entry, align_other, align_none}
use Rattle.list_source.proofs.list.align.Goals as goal

pub returns-then-entry-eq-ALIGNMENT : goal.returns-then-entry-eq-ALIGNMENT
returns-then-entry-eq-ALIGNMENT c =
    let a = c.args in
    align_entry a.bytes.now a.x _ c.in_list-place.ensures _ _ c.if-i-bytes.true c.tag_at-entry.ensures c.if-entry-eq-ALIGNMENT.true c.next_entry-next.ensures

pub returns-else-entry-eq-ALIGNMENT : goal.returns-else-entry-eq-ALIGNMENT
returns-else-entry-eq-ALIGNMENT c =
    let a = c.args in
    align_other a.bytes.now a.x _ c.in_list-place.ensures _ c.if-i-bytes.true c.tag_at-entry.ensures c.if-entry-eq-ALIGNMENT.false

pub returns-else-i-bytes : goal.returns-else-i-bytes
returns-else-i-bytes c =
    let a = c.args in
    align_none a.bytes.now a.x _ c.in_list-place.ensures c.if-i-bytes.false
