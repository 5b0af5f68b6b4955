use Rattle.book_lines.specs.CodeLaws.{in_order}
use Rattle.book_lines.proofs.form.refusal.Goals as goal

pub returns : goal.returns
returns c =
    let a = c.args in
    in_order a.line.now a.finished _ _ _ _ _ c.long_refusal-long.ensures c.spelling_refusal-spelling.ensures c.length_refusal-length.ensures c.first_of-other.ensures c.first_of.ensures
