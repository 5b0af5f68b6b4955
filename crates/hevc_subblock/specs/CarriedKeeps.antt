-- What is told of the levels stored, behind a sub-block that was read. Assumes nothing.
use Rattle.std.specs.Prelude.{◌≡◌, List, ℤ, Result, Ok, Err}
use Rattle.std.proofs.Common.{subst}
use Rattle.bins.specs.declared.state.Refusal.{Refusal}
use Rattle.hevc_residual.specs.declared.params.Params.{Params}
use Rattle.hevc_subblock.specs.declared.coeffs.Carried.{Carried}
use Rattle.hevc_stored.specs.StoredAgree.{Keeps}

abbrev pub KeepsOn : Params → Result Carried Refusal → List ℤ → Type 0
KeepsOn p (Ok v) levels = Keeps p v.stored levels
KeepsOn p (Err n) levels = Unit {0}

pub keeps_carried : (p : Params) (r : Result Carried Refusal) (v : Carried) (l : List ℤ) → KeepsOn p r l → r ≡ Ok v → Keeps p v.stored l
keeps_carried p r v l h q = subst (λ (z : Result Carried Refusal). KeepsOn p z l) q h
