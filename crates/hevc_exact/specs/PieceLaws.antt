-- For the writer's code: of a block that its checks let through, writing meets no refusal. As a whole, and by the pieces of the tree:
-- GoesLaws takes the whole to any piece, and writes-holds (TreeLaws) says of a piece's answer what Writes says. Assumes nothing.
use Rattle.std.specs.Prelude.{ℕ, ◌<◌, ◌≡◌, List, true, pos, nat_abs, length, get_or}
use Rattle.std.proofs.Common.{arith}
use Rattle.hevc_residual.specs.declared.params.Params.{Params}
use Rattle.hevc_residual.specs.Wanted.{Wanted, area, outer_of, inner_of, negative}
use Rattle.hevc_residual.specs.Head.{Head, head_s}
use Rattle.hevc_residual.specs.Remainder.{log2_transform_range, in_range}
use Rattle.hevc_residual.specs.Residual.{body_s, residual}
use Rattle.hevc_residual.specs.Refusal.{write_refusal}
use Rattle.hevc_residual.specs.Limits.{Accepted, Statistics}
use Rattle.trees.specs.TreeLaws.{Writes}
use Rattle.trees.specs.GoesLaws.{Goes, goes_of}
use Rattle.hevc_exact.specs.HeadLaws.{HeadIs, head_wanted}
use Rattle.hevc_exact.specs.ResidualLaws.{Says, Writable, head_accepted, body_writes, residual_writes}
use Rattle.hevc_exact.specs.RefusalLaws.{refusal_none, refusal_near}
use Rattle.trees.specs.LevelLaws.{far_false}

module _ (p : Params) (acc : Accepted p) (stats : List ℕ) (small : Statistics stats) (w : Wanted) (long : length w.levels ≡ area p)
    (e : write_refusal p w ≡ 0) where
  writable : Writable p w
  writable = refusal_none p acc.least acc.most acc.scan w long e

  pub accepted_goes : Goes (residual p stats) w
  accepted_goes = goes_of (residual_writes p acc.least acc.most acc.scan w stats acc.depth small writable)

  -- the head comes to the skip, RDPCM and last place that are wanted
  pub accepted_head : Writes (head_s p (outer_of p) (inner_of p)) w (λ h. HeadIs h (head_wanted p (outer_of p) (inner_of p) w))
  accepted_head = head_accepted p acc.least acc.most acc.scan w stats acc.depth small writable

  -- and the sub-blocks behind such a head to the levels that are wanted
  pub accepted_body : (h : Head) → HeadIs h (head_wanted p (outer_of p) (inner_of p) w) → Writes (body_s p stats h) w (λ c. Says c w)
  accepted_body = body_writes p acc.least acc.most acc.scan w stats acc.depth small writable

  -- every level is in range
  pub accepted_range : (c : ℕ) → c < area p
      → in_range (log2_transform_range p) (negative (get_or w.levels c (pos 0))) (nat_abs (get_or w.levels c (pos 0))) ≡ true
  accepted_range c h = far_false (log2_transform_range p) w.levels (refusal_near p w e) c (omega arith)
