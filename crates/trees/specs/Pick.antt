-- Of two trees the one that a test picks. Assumes nothing.
use Rattle.std.specs.Prelude.{ℕ, ◌≡◌, refl, Bool, true, false}
use Rattle.std.proofs.Common.{arith}
use Rattle.bins.specs.Syn.{Syn}

abbrev pub pick : {B A : Type 0} → Bool → Syn B A → Syn B A → Syn B A
pick b t e = elim b [ true ↦ t | false ↦ e ]

module _ {B A : Type 0} where
  pub picked : (b : Bool) (t e : Syn B A) → b ≡ true → pick b t e ≡ t
  picked true t e q = refl
  picked false t e q = let z : ◌≡◌ {A = ℕ} 0 1 = cc in absurd (omega arith)

  pub passed : (b : Bool) (t e : Syn B A) → b ≡ false → pick b t e ≡ e
  passed true t e q = let z : ◌≡◌ {A = ℕ} 0 1 = cc in absurd (omega arith)
  passed false t e q = refl
