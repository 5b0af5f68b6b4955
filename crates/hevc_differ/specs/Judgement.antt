-- Whether a block can depend on the difference of two payloads l and m, read from one state: the first is read, and held against what it drew.
use Rattle.std.specs.Prelude.{ℕ, zero, suc, cond, List, ltb, ℤ}
use Rattle.bins.specs.declared.state.Engine.{Engine}
use Rattle.bins.specs.Engine.{place}
use Rattle.cabac.specs.Numbers.{payload_refusal}
use Rattle.differs.specs.Differ.{first_difference}
use Rattle.hevc_residual.specs.declared.params.Params.{Params}
use Rattle.hevc_residual.specs.Answers.{payload_checks}
use Rattle.hevc_depends.specs.Reached.{reached, drew_past}
use Rattle.hevc_differ.specs.declared.entries.Judgement.{Judgement}
use Rattle.hevc_differ.specs.declared.entries.Judgement.TheVariants as says

-- d is the first bit at which they differ, r the position reached
unfoldable pub by_place : ℕ → ℕ → Judgement
by_place d r = cond (ltb d r) (says.Here d r) (says.Never d r)

-- by the number of the first call's checks, that of the second payload, and the bits past the end that the first call drew
unfoldable pub judged_by : ℕ → ℕ → ℕ → ℕ → ℕ → Judgement
judged_by (suc n) m k d r = says.Unread (suc n)
judged_by zero (suc m) k d r = says.Unreadable (suc m)
judged_by zero zero (suc k) d r = says.Past (suc k)
judged_by zero zero zero d r = by_place d r

unfoldable pub judgement : List ℕ → List ℕ → Engine → List ℕ → List ℕ → Params → List ℤ → Judgement
judgement l m e contexts stats p block =
    judged_by (payload_checks l e contexts stats p block) (payload_refusal m) (drew_past l e contexts stats p block) (first_difference l m)
    (place (reached l e contexts stats p block))
