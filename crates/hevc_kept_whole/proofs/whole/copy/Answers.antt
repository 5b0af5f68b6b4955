use Rattle.std.proofs.Common.{rules, ◌≡◌, List, ◌++◌, drop, take, ℤ, ap, ◌∙◌}
use Rattle.hevc_summary.specs.CodeLaws.{copied_front}
use Rattle.hevc_kept_whole.proofs.whole.copy.Goals as goal

pub returns : goal.returns
returns c =
    let a = c.args in
    let e : c.copy_from_slice.new.self ≡ take a.n a.from.now = search rules in
    ap (λ (l : List ℤ). l ++ drop a.n a.levels.now) e ∙ copied_front a.n a.from.now a.levels.now c.requires.1 c.requires.0
