use borrow.Author.Rules.{rules}
use Rattle.std.specs.Prelude.{◌≡◌, ◌↔◌, IsTrue, EachIndex, pos, nat_abs, get_or}
use Rattle.hevc_write_refusal.specs.RefusalLaws.{zeros_told}
use Rattle.hevc_write_refusal.proofs.refusal.all_zero.Goals as goal

-- `all_zero` meets its contract. Assumes nothing.
pub returns : goal.returns
returns c =
    let l = c.args.block.now in
    let told : IsTrue c.all.result ↔ EachIndex l (λ k. nat_abs (get_or l k (pos 0)) ≡ 0) = search rules in
    zeros_told l c.all.result told
