-- What the answer of the whole block says.
use Rattle.std.specs.Prelude.{ℕ, ◌≡◌, Bool, List, ℤ, Result, Ok, Err}
use Rattle.bins.specs.declared.state.Refusal.{Refusal}
use Rattle.bins.specs.declared.state.Interval.{Interval}
use Rattle.bins.specs.Syn.{Out}
use Rattle.bins.specs.Sources.{cursor}
use Rattle.bins.specs.Laws.{RefusedBy}
use Rattle.hevc_residual.specs.declared.params.Params.{Params}
use Rattle.hevc_residual.specs.Residual.{Block, residual}
use Rattle.hevc_elements.specs.Agree.{from}
use Rattle.hevc_head_rules.specs.declared.head.Head.{Head}
use Rattle.hevc_residual.specs.declared.answers.Found.{Found}
use Rattle.hevc_block.specs.declared.block.Blocked.{Blocked}

-- the syntax's block, of what the code has in several places
abbrev pub block_of : Found → List ℤ → List ℕ → Block
block_of f levels stats =
    record { skip = f.skip; rdpcm = f.rdpcm; column = f.column; row = f.row; greatest = f.greatest; levels = levels; stats = stats }

abbrev pub SaysBlock : Params → Bool → List ℕ → Interval → List ℕ → List ℕ → Result Blocked Refusal → List ℕ → List ℤ → List ℕ → Type 0
SaysBlock p list l x cs stats (Ok b) cs' levels' stats' =
    from list l (residual p stats) x cs ≡ Out.ok (block_of b.found levels' stats') (cursor b.next cs')
SaysBlock p list l x cs stats (Err n) cs' levels' stats' = RefusedBy n (from list l (residual p stats) x cs)

-- what is found of a head
abbrev pub found_at : Head → ℕ → ℕ → ℕ → Found
found_at h column row greatest = record { skip = h.skip; rdpcm = h.rdpcm; column = column; row = row; greatest = greatest }
