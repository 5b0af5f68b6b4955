-- The small choices of a sub-block's code. Assumes nothing.
use Rattle.std.specs.Prelude.{ℕ, ◌≡◌, refl, Bool, true, false, List, ℤ, pos, length, replicate}
use Rattle.std.proofs.Common.{ap, ◌∙◌, arith}
use Rattle.std.proofs.lemmas.List.{length-replicate}
use Rattle.bins.specs.declared.state.Interval.{Interval}
use Rattle.bins.specs.Syn.{done, bin}
use Rattle.hevc_residual.specs.declared.params.Params.{Params}
use Rattle.hevc_residual.specs.Wanted.{Wanted, area}
use Rattle.hevc_elements.specs.Agree.{from, SaysFlag}
use Rattle.hevc_elements.specs.ShapeLaws.{run_done}
use Rattle.hevc_rules.specs.SubsAgree.{flag_or}
use Rattle.bins.specs.Sources.{Step, got}

-- ---- a flag that is 1 where it is not coded
pub flag_or_no : (s : Bool) (l : List ℕ) (k : ℕ) (x : Interval) (cs : List ℕ) (middle : Bool) (w : Wanted → Bool) → middle ≡ false
    → SaysFlag (got 1 x) cs (from s l (flag_or middle k w) x cs)
flag_or_no s l k x cs true w q = let z : ◌≡◌ {A = ℕ} 0 1 = cc in absurd (omega arith)
flag_or_no s l k x cs false w q = (true, refl, run_done s l true x cs)

pub flag_or_yes : (s : Bool) (l : List ℕ) (k : ℕ) (x : Interval) (cs : List ℕ) (middle : Bool) (w : Wanted → Bool) (r : Step) (cs' : List ℕ) → middle ≡ true
    → SaysFlag r cs' (from s l (bin k w done) x cs) → SaysFlag r cs' (from s l (flag_or middle k w) x cs)
flag_or_yes s l k x cs true w r cs' q h = h
flag_or_yes s l k x cs false w r cs' q h = let z : ◌≡◌ {A = ℕ} 0 1 = cc in absurd (omega arith)

-- ---- a block that is all zero has all its places
pub zeros_long : (p : Params) (l : List ℤ) → l ≡ replicate (area p) (pos 0) → length l ≡ area p
zeros_long p l q = ap (λ (l : List ℤ). length l) q ∙ length-replicate (area p) (pos 0)
