use mathlib.Core.Path.{◌∙◌}
use Rattle.hevc_magnitudes.specs.MagnitudeLaws.{rice_stays, rice_persists, rice_grows}
use Rattle.hevc_magnitudes.proofs.magnitudes.rice_next.Goals as goal

pub returns-then-m-rice : goal.returns-then-m-rice
returns-then-m-rice c = let a = c.args in rice_stays a.p a.rice a.m c.requires c.if-m-rice.true

pub returns-then-p : goal.returns-then-p
returns-then-p c = let a = c.args in rice_persists a.p a.rice a.m c.requires c.if-m-rice.false c.if-p.true

pub returns : goal.returns
returns c = let a = c.args in c.min.ensures ∙ rice_grows a.p a.rice a.m c.requires c.if-m-rice.false c.if-p.false
