use Rattle.hevc_plain_checks.specs.Record.{made_says}
use Rattle.bulmegart_plain.specs.Laws.{record_no, record_yes}
use Rattle.bulmegart_plain.proofs.plain.bulmegart_plain_params.Goals as goal

pub returns-then-n-ne0 : goal.returns-then-n-ne0
returns-then-n-ne0 c =
    let a = c.args in
    record_no a.log2 a.scan a.luma a.hiding a.skip_allowed a.lossless a.inter c.record_flags-n.result c.from.result c.record_flags-n.ensures c.if-n-ne0.true c.from.ensures

pub returns : goal.returns
returns c =
    let a = c.args in
    record_yes a.log2 a.scan a.luma a.hiding a.skip_allowed a.lossless a.inter c.record_flags-n.result c.from-2.result
    c.is_set.result c.is_set-2.result c.is_set-3.result c.is_set-4.result c.is_set-5.result (made_says c.plain_params-r.result)
    c.record_flags-n.ensures c.if-n-ne0.false c.is_set.ensures c.is_set-2.ensures c.is_set-3.ensures c.is_set-4.ensures c.is_set-5.ensures c.plain_params-r.ensures c.from-2.ensures
