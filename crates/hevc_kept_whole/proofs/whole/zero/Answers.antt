use Rattle.std.proofs.Common.{arith, ◌≡◌, List, ◌++◌, drop, replicate, ℤ, pos, ap, ◌∙◌}
use Rattle.std.proofs.lemmas.Grind.{common_steps}
use Rattle.hevc_summary.specs.CodeLaws.{zeros_front}
use Rattle.hevc_kept_whole.proofs.whole.zero.Goals as goal

pub returns : goal.returns
returns c =
    let a = c.args in
    let e : c.fill.new.self ≡ replicate a.n (pos 0) = grind (arith, common_steps) in
    ap (λ (l : List ℤ). l ++ drop a.n a.levels.now) e ∙ zeros_front a.n a.levels.now c.requires
