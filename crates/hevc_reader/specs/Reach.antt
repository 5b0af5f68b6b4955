-- What a transform may leave out (request (iii)): of every block that either reader accepts, from its promise alone. `Extents` (residual/specs/Extent)
-- has the words: nothing but zero beyond the column extent and the row extent, and a level in that column and in that row. Assumes nothing.
use Rattle.std.specs.Prelude.{ℕ, ◌≡◌, List, ℤ, Ok}
use Rattle.std.proofs.Common.{sym, ap, subst}
use Rattle.bins.specs.declared.state.Engine.{Engine}
use Rattle.hevc_residual.specs.declared.params.Params.{Params}
use Rattle.hevc_residual.specs.Extent.{Extents}
use Rattle.hevc_residual.specs.Entries.{PayloadRead, BinsRead, read_payload, read_bins}
use Rattle.hevc_extents.specs.EntryExtents.{payload_extents, list_extents}
use Rattle.hevc_residual.specs.declared.answers.Found.{Found}
use Rattle.hevc_residual.specs.Answers.{found_seen, payload_read, bins_read}

-- `residual_coding` answered with a block: block is what was lent, block' what it holds at the exit
pub block_reach : (l : List ℕ) (e : Engine) (contexts stats : List ℕ) (p : Params) (block : List ℤ)
    (found : Found) (next : Engine) (contexts' stats' : List ℕ) (block' : List ℤ)
    → payload_read (Ok (record { found = found; state = next })) contexts' stats' block' ≡ read_payload l e contexts stats p block
    → Extents p block' found.column found.row
block_reach l e contexts stats p block found next contexts' stats' block' promise =
    subst (λ (b : List ℤ). Extents p b found.column found.row) (sym (ap (λ (r : PayloadRead). r.block) promise))
    (payload_extents l e contexts stats p block (record { found = found_seen found; next = next }) (sym (ap (λ (r : PayloadRead). r.answer) promise)))

-- `read_bins` answered with a block
pub list_reach : (bins stats : List ℕ) (p : Params) (block : List ℤ) (found : Found) (stats' : List ℕ) (block' : List ℤ)
    → bins_read (Ok found) stats' block' ≡ read_bins bins stats p block
    → Extents p block' found.column found.row
list_reach bins stats p block found stats' block' promise =
    subst (λ (b : List ℤ). Extents p b found.column found.row) (sym (ap (λ (r : BinsRead). r.block) promise))
    (list_extents bins stats p block (found_seen found) (sym (ap (λ (r : BinsRead). r.answer) promise)))
