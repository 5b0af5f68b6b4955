-- The sub-blocks' flags of a block, none set. Assumes nothing.
use Rattle.std.specs.Prelude.{ℕ, zero, suc, ◌-◌, ◌*◌, ◌^◌, ◌≤◌, ◌≡◌, refl, Bool, false, List, ◌∷◌, length, replicate, take}
use Rattle.std.proofs.Common.{sym, ap, ◌∙◌, arith}
use Rattle.std.proofs.lemmas.List.{length-replicate}
use Rattle.hevc_residual.specs.declared.params.Params.{Params}
use Rattle.hevc_residual.specs.Limits.{Accepted}
use Rattle.hevc_residual.specs.Wanted.{width}
use Rattle.hevc_scans.specs.ScanLaws.{square_is}

-- ---- the sub-blocks' flags, none set, in the front of an array
take_replicate : {A : Type 0} (a : A) (n m : ℕ) → n ≤ m → take n (replicate m a) ≡ replicate n a
take_replicate a zero m h = refl
take_replicate a (suc n) zero h = absurd (omega arith)
take_replicate a (suc n) (suc m) h = ap (λ (l : List _). a ∷ l) (take_replicate a n m (omega arith))

module _ (p : Params) (n : ℕ) (h : (n ≡ 4 ^ (p.log2 - 2)) × (n ≤ 64)) where
  pub coded_none : take n (replicate 64 false) ≡ replicate (4 ^ (p.log2 - 2)) false
  coded_none = take_replicate false n 64 h.1 ∙ ap (λ k. replicate k false) h.0

  pub coded_room : n ≡ length (take n (replicate 64 false))
  coded_room = sym (ap (λ (l : List Bool). length l) (take_replicate false n 64 h.1) ∙ length-replicate n false)

  pub coded_long : Accepted p → length (take n (replicate 64 false)) ≡ width p * width p
  coded_long a = sym coded_room ∙ h.0 ∙ sym (square_is (p.log2 - 2) (omega (arith, a.most)))
