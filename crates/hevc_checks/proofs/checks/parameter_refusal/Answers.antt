use Rattle.hevc_checks.specs.ChecksLaws.{parameter_small, parameter_large, parameter_scan, parameter_shallow, parameter_deep, parameter_short, parameter_fine}
use Rattle.hevc_checks.proofs.checks.parameter_refusal.Goals as goal

pub returns-then-p-lt2 : goal.returns-then-p-lt2
returns-then-p-lt2 c = parameter_small c.args.p c.args.block.now c.if-p-lt2.true

pub returns-then-p-gt5 : goal.returns-then-p-gt5
returns-then-p-gt5 c = parameter_large c.args.p c.args.block.now c.if-p-lt2.false c.if-p-gt5.true

pub returns-then-p-gt2 : goal.returns-then-p-gt2
returns-then-p-gt2 c = parameter_scan c.args.p c.args.block.now c.if-p-lt2.false c.if-p-gt5.false c.if-p-gt2.true

pub returns-then-p-lt8 : goal.returns-then-p-lt8
returns-then-p-lt8 c = parameter_shallow c.args.p c.args.block.now c.if-p-lt2.false c.if-p-gt5.false c.if-p-gt2.false c.if-p-lt8.true

pub returns-then-p-gt16 : goal.returns-then-p-gt16
returns-then-p-gt16 c = parameter_deep c.args.p c.args.block.now c.if-p-lt2.false c.if-p-gt5.false c.if-p-gt2.false c.if-p-lt8.false c.if-p-gt16.true

pub returns-then-block-area_of : goal.returns-then-block-area_of
returns-then-block-area_of c =
    parameter_short c.args.p c.args.block.now c.if-p-lt2.false c.if-p-gt5.false c.if-p-gt2.false c.if-p-lt8.false c.if-p-gt16.false
    c.area_of.result c.area_of.ensures c.if-block-area_of.true

pub returns : goal.returns
returns c =
    parameter_fine c.args.p c.args.block.now c.if-p-lt2.false c.if-p-gt5.false c.if-p-gt2.false c.if-p-lt8.false c.if-p-gt16.false
    c.area_of.result c.area_of.ensures c.if-block-area_of.false
