use Rattle.hevc_wanted.specs.ShownLaws.{bare_found}
use Rattle.hevc_wanted.proofs.sub.is_bare.Goals as goal

pub returns : goal.returns
returns c =
    let a = c.args in
    bare_found a.p a.xs a.ys c.requires.0 a.block.now _ _ _ _ _ _ _ _ _ _ _
    c.row_at.ensures.0 c.row_most-a.ensures c.row_at-2.ensures.0 c.row_most-b.ensures
    c.row_at-3.ensures.0 c.row_most-c.ensures c.row_at-4.ensures.0 c.row_most-d.ensures
    c.max.ensures c.max-2.ensures c.max-3.ensures
