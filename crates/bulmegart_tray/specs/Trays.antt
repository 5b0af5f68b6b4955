-- What a tray answers and leaves behind in C's form.
use Rattle.std.specs.Prelude.{ℕ, zero, suc, List, [], ◌∷◌, ℤ}
use Rattle.bins.specs.declared.state.Engine.{Engine}
use Rattle.cabac.specs.Numbers.{◌or_else◌, payload_refusal}
use Rattle.bulmegart.specs.declared.records.EngineState.{EngineState}
use Rattle.bulmegart.specs.Records.{state_flags, engine_of, state_of}
use Rattle.hevc_tray.specs.Tray.{TrayRead, read_rows}
use Rattle.bulmegart_tray.specs.declared.trays.TrayAnswer.{TrayAnswer}

abbrev pub tray_answered : ℕ → ℕ → Engine → TrayAnswer
tray_answered number done e = record { number = number; done = done; state = state_of e }

pub record TrayLeft : Type 0 where
  pub answer : TrayAnswer
  pub contexts : List ℕ
  pub stats : List ℕ
  pub levels : List ℤ
  pub found : List (List ℕ)

abbrev pub tray_left : TrayAnswer → List ℕ → List ℕ → List ℤ → List (List ℕ) → TrayLeft
tray_left answer contexts stats levels found =
    record { answer = answer; contexts = contexts; stats = stats; levels = levels; found = found }

abbrev pub tray_seen : TrayRead → TrayLeft
tray_seen t = tray_left (tray_answered t.number t.done t.engine) t.contexts t.stats t.levels t.found

-- the state s handed in
abbrev pub nothing_done : ℕ → EngineState → List ℕ → List ℕ → List ℤ → List (List ℕ) → TrayLeft
nothing_done n s contexts stats levels found =
    tray_left (record { number = n; done = 0; state = s }) contexts stats levels found

unfoldable pub tray_read_by : ℕ → List ℕ → EngineState → List ℕ → List ℕ → List (List ℕ) → List ℤ → List (List ℕ) → TrayLeft
tray_read_by zero l s contexts stats rows levels found = tray_seen (read_rows l (engine_of s) contexts stats rows levels found)
tray_read_by (suc n) l s contexts stats rows levels found = nothing_done (suc n) s contexts stats levels found

-- no records are accepted whatever else is handed in; else 1, 2, 4 of the state's flag, then as request (iv) has it
unfoldable pub tray_read : List ℕ → EngineState → List ℕ → List ℕ → List (List ℕ) → List ℤ → List (List ℕ) → TrayLeft
tray_read l s contexts stats [] levels found = nothing_done 0 s contexts stats levels found
tray_read l s contexts stats (r ∷ rows) levels found =
    tray_read_by (payload_refusal l or_else state_flags s) l s contexts stats (r ∷ rows) levels found
