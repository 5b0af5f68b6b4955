use native.Mathlib.Omega.{arith}
use mathlib.Core.List.{[], ◌∷◌}
use lib.ListN.{take}
use Rattle.text_room.specs.Laws.{one_piece, two_pieces}
use Rattle.book_lines.specs.Lines.{line_feed}
use Rattle.spoiled.specs.Salvage.{kept_of}
use Rattle.spoiled.specs.CodeLaws.{kept_both}
use Rattle.spoiled_words.proofs.words.put_salvaged.Goals as goal

pub returns : goal.returns
returns c =
    let a = c.args in
    let t = take a.at a.book.now in
    let first = c.put_kept-a.ensures in
    let second = c.put_kept.ensures in
    let both = two_pieces _ _ t (kept_of a.number a.line.now) (kept_of a.number (line_feed ∷ [])) second.0 first.0 in
    (one_piece _ t _ _ both (kept_both a.number a.line.now), omega (arith, first.1, second.1))
