-- What a writer refuses of a block, in document 01's order: 9, 8. Of 10 and 11 there is nothing to refuse: no skip, no RDPCM, no hidden sign.
use Rattle.std.specs.Prelude.{ℕ, List, cond, ℤ}
use Rattle.trees.specs.Levels.{all_zero, too_far}

-- 0 if nothing is refused. 9 stays: the syntax has no block of zeros, as place 15 is inferred where no other has a level, and a magnitude is at least 1.
-- 8: a level is outside −32768 to 32767
unfoldable pub write_refusal : List ℤ → ℕ
unfolding all_zero too_far
write_refusal w = cond (all_zero w) 9 (cond (too_far 15 w) 8 0)
