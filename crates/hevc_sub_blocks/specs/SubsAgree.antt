-- What the answers of the sub-block loop say.
use Rattle.std.specs.Prelude.{ℕ, suc, ◌≡◌, Bool, List, ℤ, Result, Ok, Err}
use Rattle.bins.specs.declared.state.Refusal.{Refusal}
use Rattle.bins.specs.declared.state.Interval.{Interval}
use Rattle.bins.specs.Syn.{Out}
use Rattle.bins.specs.Sources.{cursor}
use Rattle.bins.specs.Laws.{RefusedBy}
use Rattle.hevc_residual.specs.declared.params.Params.{Params}
use Rattle.hevc_residual.specs.Wanted.{outer_of, inner_of}
use Rattle.hevc_residual.specs.Residual.{sub_block_s, sub_blocks_s}
use Rattle.hevc_head_rules.specs.declared.head.Head.{Head}
use Rattle.hevc_head_rules.specs.HeadOf.{head_of}
use Rattle.hevc_elements.specs.Agree.{from}
use Rattle.hevc_rules.specs.declared.coeffs.Carry.{Carry}
use Rattle.hevc_subblock.specs.declared.coeffs.Carried.{Carried}
use Rattle.hevc_rules.specs.CoeffsAgree.{Carries, acc_of}
use Rattle.hevc_rules.specs.SubsAgree.{begun, last_of, last_in_of}

-- one sub-block, number i
abbrev pub SaysSub : Params → Head → Bool → List ℕ → ℕ → ℕ → ℕ → Carry → Interval → List ℕ → List Bool → List ℤ → List ℕ → Result Carried Refusal → List ℕ → List Bool → List ℤ → List ℕ → Type 0
SaysSub p h list l last lastin i c x cs coded levels stats (Ok v) cs' coded' levels' stats' =
    Carries v.carry
    × (from list l (sub_block_s p (head_of h) (outer_of p) (inner_of p) last lastin i (acc_of c coded levels stats)) x cs
    ≡ Out.ok (acc_of v.carry coded' levels' stats') (cursor v.next cs'))
SaysSub p h list l last lastin i c x cs coded levels stats (Err n) cs' coded' levels' stats' =
    RefusedBy n (from list l (sub_block_s p (head_of h) (outer_of p) (inner_of p) last lastin i (acc_of c coded levels stats)) x cs)

-- all of them, from the last one down
abbrev pub SaysSubs : Params → Head → Bool → List ℕ → Interval → List ℕ → List Bool → List ℤ → List ℕ → Result Carried Refusal → List ℕ → List Bool → List ℤ → List ℕ → Type 0
SaysSubs p h list l x cs coded levels stats (Ok v) cs' coded' levels' stats' =
    Carries v.carry
    × (from list l (sub_blocks_s p (head_of h) (outer_of p) (inner_of p) (last_of p h) (last_in_of p h) (suc (last_of p h)) (acc_of begun coded levels stats)) x cs
    ≡ Out.ok (acc_of v.carry coded' levels' stats') (cursor v.next cs'))
SaysSubs p h list l x cs coded levels stats (Err n) cs' coded' levels' stats' =
    RefusedBy n (from list l (sub_blocks_s p (head_of h) (outer_of p) (inner_of p) (last_of p h) (last_in_of p h) (suc (last_of p h)) (acc_of begun coded levels stats)) x cs)
