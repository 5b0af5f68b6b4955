use Rattle.hevc_tray_packer.specs.ListCode.{going_begin, going_fine, going_on, going_no, going_end}
use native.Mathlib.Omega.{arith}
use mathlib.Core.Path.{◌≡◌}
use lib.ListN.{length}
use Rattle.hevc_tray_packer.proofs.lists.read_lists.Goals as goal

pub loop-i-init : goal.loop-i-init
loop-i-init c = let a = c.args in let h = c.requires in going_begin a.records.now a.stats.now a.list.now h.0 h.1

pub one_list-requires : goal.one_list-requires
one_list-requires c = let a = c.args in (c.decision_table-table.ensures, going_fine a.records.now a.stats.now a.list.now c.loop-i.i c.loop-i.at c.loop-i.st c.loop-i.invariant (omega arith) c.params_of.result c.params_of.ensures, c.loop-i.invariant.small, c.loop-i.invariant.within)

pub returns-in_default : goal.returns-in_default
returns-in_default c = let a = c.args in going_no a.records.now a.stats.now a.list.now c.loop-i.i c.loop-i.at c.loop-i.st c.loop-i.invariant (omega arith) c.params_of.result c.params_of.ensures c.one_list.new.stats c.in_default.ensures

pub loop-i-preserved : goal.loop-i-preserved
loop-i-preserved c = let a = c.args in going_on a.records.now a.stats.now a.list.now c.loop-i.i c.loop-i.at c.loop-i.st c.loop-i.invariant (omega arith) c.params_of.result c.params_of.ensures c.in-Some.end c.one_list.new.stats c.in-Some.ensures

pub returns : goal.returns
returns c =
    let a = c.args in
    let e : length a.records.now ≡ c.loop-i.i = omega arith in
    rw e (going_end a.records.now a.stats.now a.list.now c.loop-i.i c.loop-i.at c.loop-i.st c.loop-i.invariant (omega arith))
