-- Where the reading of a tray ended, behind its last block or where 7 or 8 arose, and how many bits past the end the whole call drew.
use Rattle.std.specs.Prelude.{ℕ, zero, suc, ◌+◌, List, [], ◌∷◌, take, drop, ℤ}
use Rattle.bins.specs.declared.state.Engine.{Engine}
use Rattle.cabac.specs.Numbers.{Answer, accepted, refused}
use Rattle.hevc_residual.specs.declared.params.Params.{Params}
use Rattle.hevc_residual.specs.Wanted.{area}
use Rattle.hevc_residual.specs.Entries.{FoundAt, read_payload}
use Rattle.hevc_tray.specs.Tray.{tray_checks}
use Rattle.hevc_depends.specs.Reached.{reached, drew_past}

-- behind an accepted block the rest, at a refused one s
unfoldable pub onward : {R : Type 0} → R → (Engine → R) → Answer FoundAt → R
onward s next (accepted f) = next f.next
onward s next (refused n) = s

-- block after block, as the tray itself goes
unfoldable pub tray_reached_from : List ℕ → Engine → List ℕ → List ℕ → List Params → List ℤ → Engine
unfolding onward
tray_reached_from l e contexts stats [] levels = e
tray_reached_from l e contexts stats (p ∷ ps) levels =
    let r = read_payload l e contexts stats p (take (area p) levels) in
    onward (reached l e contexts stats p (take (area p) levels)) (λ f. tray_reached_from l f r.contexts r.stats ps (drop (area p) levels)) r.answer

-- of each block that was read, the refused one too
unfoldable pub tray_past_from : List ℕ → Engine → List ℕ → List ℕ → List Params → List ℤ → ℕ
unfolding onward
tray_past_from l e contexts stats [] levels = 0
tray_past_from l e contexts stats (p ∷ ps) levels =
    let r = read_payload l e contexts stats p (take (area p) levels) in
    drew_past l e contexts stats p (take (area p) levels) + onward 0 (λ f. tray_past_from l f r.contexts r.stats ps (drop (area p) levels)) r.answer

-- the number that the checks give; no records pass them
unfoldable pub tray_number : ℕ → List ℕ → Engine → List ℕ → List ℕ → List Params → List ℤ → ℕ → ℕ
tray_number flags l e contexts stats [] levels rooms = 0
tray_number flags l e contexts stats (p ∷ ps) levels rooms = tray_checks l e contexts stats flags (p ∷ ps) levels rooms

unfoldable pub tray_reached_by : ℕ → List ℕ → Engine → List ℕ → List ℕ → List Params → List ℤ → Engine
tray_reached_by zero l e contexts stats ps levels = tray_reached_from l e contexts stats ps levels
tray_reached_by (suc n) l e contexts stats ps levels = e

unfoldable pub tray_past_by : ℕ → List ℕ → Engine → List ℕ → List ℕ → List Params → List ℤ → ℕ
tray_past_by zero l e contexts stats ps levels = tray_past_from l e contexts stats ps levels
tray_past_by (suc n) l e contexts stats ps levels = 0

-- of a whole call, which has `rooms` rows for what is found
unfoldable pub tray_reached : ℕ → List ℕ → Engine → List ℕ → List ℕ → List Params → List ℤ → ℕ → Engine
tray_reached flags l e contexts stats ps levels rooms = tray_reached_by (tray_number flags l e contexts stats ps levels rooms) l e contexts stats ps levels

unfoldable pub tray_drew_past : ℕ → List ℕ → Engine → List ℕ → List ℕ → List Params → List ℤ → ℕ → ℕ
tray_drew_past flags l e contexts stats ps levels rooms = tray_past_by (tray_number flags l e contexts stats ps levels rooms) l e contexts stats ps levels
