use Prim.Native.Nat.{◌-◌}
use Rattle.figures.specs.CodeLaws.{merge_other, merge_small, merge_large, merge_full, merge_fine}
use Rattle.figures_merge.proofs.merge.merge_refusal.Goals as goal

pub returns-then-t-u : goal.returns-then-t-u
returns-then-t-u c = merge_other c.args.t c.args.u c.if-t-u.true

pub returns-then-t-lt2 : goal.returns-then-t-lt2
returns-then-t-lt2 c = merge_small c.args.t c.args.u c.if-t-u.false c.if-t-lt2.true

pub returns-then-t-gt5 : goal.returns-then-t-gt5
returns-then-t-gt5 c = merge_large c.args.t c.args.u c.if-t-u.false c.if-t-lt2.false c.if-t-gt5.true

pub returns-then-wide-gt4096 : goal.returns-then-wide-gt4096
returns-then-wide-gt4096 c =
    merge_full c.args.t c.args.u c.if-t-u.false c.if-t-lt2.false c.if-t-gt5.false c.wide.result
    c.wide-2.result c.wide.ensures.0 c.wide-2.ensures.0 c.if-wide-gt4096.true

pub returns : goal.returns
returns c =
    merge_fine c.args.t c.args.u c.if-t-u.false c.if-t-lt2.false c.if-t-gt5.false c.wide.result
    c.wide-2.result c.wide.ensures.0 c.wide-2.ensures.0 c.if-wide-gt4096.false
