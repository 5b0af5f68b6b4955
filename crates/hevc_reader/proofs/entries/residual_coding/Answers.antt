use Rattle.std.proofs.lemmas.Result.{err_from_is_err_and}
use Rattle.cabac.specs.NumberLaws.{checked_ok, checked_err}
use Rattle.hevc_reader.specs.EntriesLaws.{payload_no_lem}
use Rattle.hevc_reader.proofs.entries.residual_coding.Goals as goal

pub returns-in_err-check_payload : goal.returns-in_err-check_payload
returns-in_err-check_payload c =
    let a = c.args in
    let p = err_from_is_err_and c.from_residual.result c.from_residual.ensures.1 in
    let k = checked_err _ _ c.in_err-check_payload.ensures in
    rw (p.1, p.2) (payload_no_lem a.bytes.now a.e a.contexts.now a.stats.now a.p a.block.now _ k.0 k.1)

pub read_checked-requires : goal.read_checked-requires
read_checked-requires c = (c.decision_table-table.ensures, checked_ok _ c.in_ok-check_payload.ensures)
