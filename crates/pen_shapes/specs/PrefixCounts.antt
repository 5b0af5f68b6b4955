-- The prefix of an Exp-Golomb code is as many ones as are wanted. Assumes nothing.
use Rattle.std.specs.Prelude.{ℕ, suc, ◌≡◌, leb}
use Rattle.std.proofs.Common.{le-leb}
use Rattle.std.proofs.lemmas.Bool.{lt-leb}
use Rattle.trees.specs.Shapes.{eg_base}
use Rattle.exp_golomb.specs.PrefixLaws.{Prefixed}
use Rattle.pen.specs.Sheet.{Counts}

module _ (k v most n : ℕ) (c : Prefixed k v most n) where
  pub prefix_counts : {B : Type 0} (want : B → ℕ) (w : B) → want w ≡ v → Counts (λ g t. leb (eg_base k (suc g)) (want t)) w n most
  prefix_counts want w q =
      (λ g h. rw q (le-leb (eg_base k (suc g)) v (c.reached g h)), λ h. rw q (lt-leb (eg_base k (suc n)) v (c.left h)))
