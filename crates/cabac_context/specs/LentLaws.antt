-- What the decision by value says, taken to a bin and the packed byte that is stored.
use Rattle.std.specs.Prelude.{ℕ, ◌≡◌, List, Result, Ok, Err}
use Rattle.std.proofs.Common.{sym, ◌∙◌}
use Rattle.std.proofs.Math.Path.{ap}
use Rattle.bins.specs.declared.state.Engine.{Engine}
use Rattle.bins.specs.Engine.{Decided}
use Rattle.cabac.specs.Numbers.{Answer}
use Rattle.cabac.specs.Entries.{decision, decision_says}
use Rattle.cabac.specs.declared.answers.DecidedBin.{DecidedBin}
use Rattle.cabac_context.specs.Lent.{lent_says, lent_of, on_lent}

module _ (l : List ℕ) (s : Engine) (p : ℕ) (r : Result DecidedBin ℕ) (says : decision_says r ≡ decision l s p) where
  pub bin_stored : (d : DecidedBin) → r ≡ Ok d → lent_says (Ok (record { bin = d.bin; state = d.state })) d.context ≡ on_lent l s p
  unfolding on_lent
  bin_stored d is = ap (λ (a : Answer Decided). lent_of a p) (sym (ap decision_says is) ∙ says)

  pub refusal_kept : (n : ℕ) → r ≡ Err n → lent_says (Err n) p ≡ on_lent l s p
  unfolding on_lent
  refusal_kept n is = ap (λ (a : Answer Decided). lent_of a p) (sym (ap decision_says is) ∙ says)
