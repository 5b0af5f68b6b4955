use mathlib.Core.Path.{sym, subst}
use mathlib.Core.Bool.{true, cond}
use Rattle.bins.specs.Syn.{done}
use Rattle.hevc_rules.specs.SubsAgree.{flag_or}
use Rattle.pen.specs.Sheet.{sheet, Wrote}
use Rattle.hevc_block_pen.specs.SubsPuts.{coded_put, coded_left}
use Rattle.hevc_block_pen.proofs.subs.put_coded_flag.Goals as goal

pub returns-then-middle : goal.returns-then-middle
returns-then-middle c =
    λ want w q. let a = c.args in subst
    (Wrote (flag_or a.middle a.number want) (done (cond a.middle a.flag true)) w (sheet a.room.now a.pen))
    (sym c.put_bin.ensures) (coded_put a.middle a.number (sheet a.room.now a.pen) a.flag want w q
    c.if-middle.true)

pub returns : goal.returns
returns c = λ want w q. let a = c.args in coded_left a.middle a.number (sheet a.room.now a.pen) a.flag want w q c.if-middle.false
