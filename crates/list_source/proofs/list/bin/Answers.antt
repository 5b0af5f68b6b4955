use Rattle.bins.specs.StepLaws.{entry_half, entry_other, entry_none}
use Rattle.list_source.proofs.list.bin.Goals as goal

pub returns-then-entry-number : goal.returns-then-entry-number
returns-then-entry-number c =
    let a = c.args in
    entry_half a.bytes.now a.x _ c.in_list-place.ensures a.number _ _ c.if-i-bytes.true c.tag_at-entry.ensures c.if-entry-number.true c.next_entry-next.ensures

pub returns-else-entry-number : goal.returns-else-entry-number
returns-else-entry-number c =
    let a = c.args in
    entry_other a.bytes.now a.x _ c.in_list-place.ensures a.number _ c.if-i-bytes.true c.tag_at-entry.ensures c.if-entry-number.false

pub returns-else-i-bytes : goal.returns-else-i-bytes
returns-else-i-bytes c =
    let a = c.args in
    entry_none a.bytes.now a.x _ c.in_list-place.ensures a.number c.if-i-bytes.false
