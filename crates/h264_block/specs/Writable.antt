-- What can be written, and which lists read as it: BlockLaws and Exact prove that these are one.
use Rattle.std.specs.Prelude.{ℕ, ◌<◌, ◌≡◌, List, [], true, ℤ, nat_abs, length}
use Rattle.bins.specs.Syn.{Out, run, by_list}
use Rattle.trees.specs.Levels.{negative, in_range}
use Rattle.h264_block.specs.Block.{level_at, is_sig, block}

-- what can be written: 16 levels, of which one is not zero, each in range
pub record Writable (w : List ℤ) : Type 0 where
  pub long : length w ≡ 16
  pub some : (k : ℕ) × (k < 16) × (is_sig w k ≡ true)
  pub ranged : (k : ℕ) → k < 16 → in_range 15 (negative (level_at w k)) (nat_abs (level_at w k)) ≡ true

-- the list l is read, to its last bin, by the syntax, and as exactly the levels w
abbrev pub ReadsAs : List ℕ → List ℤ → Type 0
ReadsAs l w = run by_list block l ≡ Out.ok w []
