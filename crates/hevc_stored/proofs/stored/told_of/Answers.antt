use Rattle.hevc_stored.proofs.stored.told_of.Goals as goal

pub returns-then-k : goal.returns-then-k
returns-then-k c = let h = c.requires.2 in (h.row, h.greatest c.if-k.true)
