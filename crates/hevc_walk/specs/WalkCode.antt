-- The loop over sub-blocks with the last one and its last place as the code finds them. Assumes nothing.
use Rattle.std.specs.Prelude.{ℕ, suc, ◌+◌, ◌-◌, ◌*◌, ◌<◌, ◌≡◌, Bool, List, ℤ, length, Result, Ok, Err}
use Rattle.std.proofs.Common.{sym, subst, ◌∙◌, arith}
use Rattle.bins.specs.declared.state.Refusal.{Refusal}
use Rattle.bins.specs.declared.state.Interval.{Interval}
use Rattle.hevc_residual.specs.declared.params.Params.{Params}
use Rattle.hevc_residual.specs.Wanted.{area, width}
use Rattle.hevc_head_rules.specs.declared.head.Head.{Head}
use Rattle.hevc_elements.specs.Agree.{Reads}
use Rattle.hevc_rules.specs.declared.coeffs.Carry.{Carry}
use Rattle.hevc_subblock.specs.declared.coeffs.Carried.{Carried}
use Rattle.hevc_residual.specs.Limits.{Statistics}
use Rattle.hevc_rules.specs.SubsAgree.{begun, last_of, last_in_of}
use Rattle.hevc_sub_blocks.specs.SubsAgree.{SaysSub, SaysSubs}
use Rattle.hevc_walk.specs.WalkLaws.{Walking, walk_begins, walk_refused, walk_on}

pub as_long : {A : Type 0} (l m : List A) (n : ℕ) → length l ≡ n → length m ≡ n → length l ≡ length m
as_long l m n a b = a ∙ sym b

-- ---- the loop, with n sub-blocks left
module _ (p : Params) (h : Head) (list : Bool) (l : List ℕ) (x : Interval) (cs : List ℕ) (coded₀ : List Bool) (levels₀ : List ℤ) (stats₀ : List ℕ) (last : ℕ)
    (el : last ≡ last_of p h) where
  pub code_begins : Reads list l x cs → length coded₀ ≡ width p * width p → length levels₀ ≡ area p → Statistics stats₀
      → Walking p h list l x cs coded₀ levels₀ stats₀ (last + 1) begun x cs coded₀ levels₀ stats₀
  code_begins r f m s =
      let e : suc (last_of p h) ≡ last + 1 = omega arith in
      subst (λ n. Walking p h list l x cs coded₀ levels₀ stats₀ n begun x cs coded₀ levels₀ stats₀) e (walk_begins p h list l x cs coded₀ levels₀ stats₀ r f m s)

  -- r is what the next one's call answered
  module _ (lastin : ℕ) (ei : lastin ≡ last_in_of p h) (n : ℕ) (c : Carry) (y : Interval) (ds : List ℕ) (coded : List Bool) (levels : List ℤ) (stats : List ℕ)
      (w : Walking p h list l x cs coded₀ levels₀ stats₀ n c y ds coded levels stats) (t : 0 < n)
      (r : Result Carried Refusal) (es : List ℕ) (coded' : List Bool) (levels' : List ℤ) (stats' : List ℕ)
      (e : SaysSub p h list l last lastin (n - 1) c y ds coded levels stats r es coded' levels' stats') where
    said : SaysSub p h list l (last_of p h) (last_in_of p h) (n - 1) c y ds coded levels stats r es coded' levels' stats'
    said =
        subst (λ k. SaysSub p h list l (last_of p h) k (n - 1) c y ds coded levels stats r es coded' levels' stats') ei
        (subst (λ k. SaysSub p h list l k lastin (n - 1) c y ds coded levels stats r es coded' levels' stats') el e)

    next : n ≡ suc (n - 1)
    next = omega arith

    pub code_refused : (k : Refusal) → r ≡ Err k → SaysSubs p h list l x cs coded₀ levels₀ stats₀ (Err k) es coded' levels' stats'
    code_refused k u = walk_refused p h list l x cs coded₀ levels₀ stats₀ n c y ds coded levels stats w (n - 1) next r es coded' levels' stats' said k u

    pub code_on : (v : Carried) → r ≡ Ok v → length coded' ≡ width p * width p → length levels' ≡ area p → Statistics stats'
        → Walking p h list l x cs coded₀ levels₀ stats₀ (n - 1) v.carry v.next es coded' levels' stats'
    code_on v u f m s = walk_on p h list l x cs coded₀ levels₀ stats₀ n c y ds coded levels stats w (n - 1) next r es coded' levels' stats' said v u f m s
