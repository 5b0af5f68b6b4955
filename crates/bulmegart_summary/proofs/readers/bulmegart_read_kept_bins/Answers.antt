use Rattle.bulmegart_summary.specs.Laws.{list_no_lem, list_yes}
use Rattle.bulmegart_summary.proofs.readers.bulmegart_read_kept_bins.Goals as goal

pub returns-then-n-ne0 : goal.returns-then-n-ne0
returns-then-n-ne0 c =
    let a = c.args in
    list_no_lem a.form a.list.now a.statistics.now a.params a.levels.now a.counts.now a.sums.now a.whole _ _ c.params_flags-n.ensures c.if-n-ne0.true c.from-no.ensures

pub returns : goal.returns
returns c =
    let a = c.args in
    list_yes a.form a.list.now a.statistics.now a.params a.levels.now a.counts.now a.sums.now a.whole _ _ c.read_kept_bins-r.result _ c.read_kept_bins-r.new.stats c.read_kept_bins-r.new.levels c.read_kept_bins-r.new.counts c.read_kept_bins-r.new.sums
    c.params_flags-n.ensures c.if-n-ne0.false c.into.ensures c.read_kept_bins-r.ensures.0 c.from-answer.ensures
