use Rattle.figures.specs.OutLaws.{place_small, place_large, place_out, place_fine}
use Rattle.figures_read.proofs.out.place_refusal.Goals as goal

-- `place_refusal` meets its contract. Assumes nothing.
pub returns-then-t-lt2 : goal.returns-then-t-lt2
returns-then-t-lt2 c = let a = c.args in place_small a.t a.place c.if-t-lt2.true

pub returns-then-t-gt5 : goal.returns-then-t-gt5
returns-then-t-gt5 c = let a = c.args in place_large a.t a.place c.if-t-lt2.false c.if-t-gt5.true

pub area_of-n-requires : goal.area_of-n-requires
area_of-n-requires c = (c.if-t-lt2.false, c.if-t-gt5.false)

pub returns-then-n-place : goal.returns-then-n-place
returns-then-n-place c =
    let a = c.args in
    place_out a.t a.place c.if-t-lt2.false c.if-t-gt5.false c.area_of-n.result c.area_of-n.ensures c.if-n-place.true

pub returns : goal.returns
returns c =
    let a = c.args in
    place_fine a.t a.place c.if-t-lt2.false c.if-t-gt5.false c.area_of-n.result c.area_of-n.ensures c.if-n-place.false
