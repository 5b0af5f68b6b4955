-- What a reading into lent memory says: the block in its front, or the contexts and statistics as they were and zeros.
use Rattle.std.specs.Prelude.{ℕ, ◌≡◌, Bool, List, ℤ, length, Result, Ok, Err}
use Rattle.bins.specs.declared.state.Refusal.{Refusal}
use Rattle.bins.specs.declared.state.Interval.{Interval}
use Rattle.bins.specs.Syn.{Out}
use Rattle.bins.specs.Sources.{cursor}
use Rattle.bins.specs.Laws.{RefusedBy}
use Rattle.hevc_residual.specs.declared.params.Params.{Params}
use Rattle.hevc_residual.specs.Wanted.{area}
use Rattle.hevc_residual.specs.Residual.{residual}
use Rattle.hevc_residual.specs.Entries.{block_with, cleared}
use Rattle.hevc_elements.specs.Agree.{from}
use Rattle.hevc_block.specs.declared.block.Blocked.{Blocked}
use Rattle.hevc_block.specs.BlockAgree.{block_of}

-- ---- a block read into the front of a lent one; a refused reading leaves contexts and statistics, and zero places
abbrev pub SaysInto : Params → Bool → List ℕ → Interval → List ℕ → List ℕ → List ℤ → Result Blocked Refusal → List ℕ → List ℕ → List ℤ → Type 0
SaysInto p list l x cs stats block (Ok b) cs' stats' block' =
    (levels : List ℤ) × (length levels ≡ area p) × (block' ≡ block_with p levels block)
    × (from list l (residual p stats) x cs ≡ Out.ok (block_of b.found levels stats') (cursor b.next cs'))
SaysInto p list l x cs stats block (Err n) cs' stats' block' =
    RefusedBy n (from list l (residual p stats) x cs) × (cs' ≡ cs) × (stats' ≡ stats) × (block' ≡ cleared p block)
