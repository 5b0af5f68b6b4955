use mathlib.Core.Path.{sym, ◌∙◌}
use Rattle.hevc_summary.specs.CodeLaws.{copy_unformed, copy_other, copy_size, copy_range, copy_fine}
use Rattle.hevc_kept_whole.proofs.whole.copy_refusal.Goals as goal

pub returns-then-n-ne0 : goal.returns-then-n-ne0
returns-then-n-ne0 c =
    let a = c.args in
    copy_unformed a.f a.g a.from.now a.levels.now c.form_refusal-n.result c.form_refusal-n.ensures c.if-n-ne0.true

pub returns-then-m-ne0 : goal.returns-then-m-ne0
returns-then-m-ne0 c =
    let a = c.args in
    copy_other a.f a.g a.from.now a.levels.now (sym c.if-n-ne0.false ∙ c.form_refusal-n.ensures)
    c.form_refusal-m.result c.form_refusal-m.ensures c.if-m-ne0.true

pub returns-then-f-g : goal.returns-then-f-g
returns-then-f-g c =
    let a = c.args in
    copy_size a.f a.g a.from.now a.levels.now (sym c.if-n-ne0.false ∙ c.form_refusal-n.ensures)
    (sym c.if-m-ne0.false ∙ c.form_refusal-m.ensures) c.if-f-g.true

pub returns-then-f-g-2 : goal.returns-then-f-g-2
returns-then-f-g-2 c =
    let a = c.args in
    copy_range a.f a.g a.from.now a.levels.now (sym c.if-n-ne0.false ∙ c.form_refusal-n.ensures)
    (sym c.if-m-ne0.false ∙ c.form_refusal-m.ensures) c.if-f-g.false c.if-f-g-2.true

pub returns : goal.returns
returns c =
    let a = c.args in
    copy_fine a.f a.g a.from.now a.levels.now (sym c.if-n-ne0.false ∙ c.form_refusal-n.ensures)
    (sym c.if-m-ne0.false ∙ c.form_refusal-m.ensures) c.if-f-g.false c.if-f-g-2.false
