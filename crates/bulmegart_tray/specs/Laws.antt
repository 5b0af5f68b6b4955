-- Laws of the exported tray: an answer for each way out; and that a state handed back where nothing was done is the one handed in. Assumes nothing.
use Prim.Native.Nat.{ℕ, zero, suc, ◌≤◌}
use Rattle.std.specs.Prelude.{◌≡◌, Bool, true, false, cond, length, ℤ, ltb}
use Rattle.std.proofs.Math.Path.{refl, ap}
use Rattle.std.proofs.Common.{sym, subst, ◌∙◌, arith}
use mathlib.Core.List.{List, [], ◌∷◌}
use Rattle.bins.specs.declared.state.Engine.{Engine}
use Rattle.cabac.specs.Numbers.{◌or_else◌, payload_refusal}
use Rattle.bulmegart.specs.declared.records.EngineState.{EngineState}
use Rattle.bulmegart.specs.Records.{flag_refusal, state_flags, engine_of, state_of}
use Rattle.bulmegart.specs.RecordLaws.{flag_over}
use Rattle.hevc_tray.specs.declared.entries.Tray.{Tray}
use Rattle.hevc_tray.specs.Seen as code
use Rattle.hevc_tray.specs.Tray.{read_rows}
use Rattle.bulmegart_tray.specs.declared.trays.TrayAnswer.{TrayAnswer}
use Rattle.bulmegart_tray.specs.Trays.{tray_answered, TrayLeft, tray_left, tray_seen, nothing_done, tray_read_by, tray_read}

module _ (l : List ℕ) (s : EngineState) (cs stats : List ℕ) (levels : List ℤ) (found : List (List ℕ)) where
  pub tray_none : (rows : List (List ℕ)) → length rows ≡ 0 → nothing_done 0 s cs stats levels found ≡ tray_read l s cs stats rows levels found
  unfolding tray_read
  tray_none [] z = refl
  tray_none (r ∷ rows) z = absurd (omega arith)

  by_no : (rows : List (List ℕ)) (n k : ℕ) → n ≡ k → (n ≡ 0 → ⊥) → nothing_done n s cs stats levels found ≡ tray_read_by k l s cs stats rows levels found
  unfolding tray_read_by
  by_no rows n zero q h = absurd (h q)
  by_no rows n (suc k) q h = ap (λ (m : ℕ). nothing_done m s cs stats levels found) q

  pub tray_no : (rows : List (List ℕ)) (n : ℕ) → (length rows ≡ 0 → ⊥) → n ≡ (payload_refusal l or_else state_flags s) → (n ≡ 0 → ⊥)
      → nothing_done n s cs stats levels found ≡ tray_read l s cs stats rows levels found
  unfolding tray_read
  tray_no [] n some q h = absurd (some refl)
  tray_no (r ∷ rows) n some q h = by_no (r ∷ rows) n (payload_refusal l or_else state_flags s) q h

  module _ (t : Tray) (e : Engine) (a : TrayAnswer) (cs' stats' : List ℕ) (levels' : List ℤ) (found' : List (List ℕ)) where
    by_yes : (rows : List (List ℕ)) (n k : ℕ) → n ≡ k → n ≡ 0 → e ≡ engine_of s
        → code.tray_seen t cs' stats' levels' found' ≡ read_rows l e cs stats rows levels found
        → a ≡ tray_answered t.number t.done t.state
        → tray_left a cs' stats' levels' found' ≡ tray_read_by k l s cs stats rows levels found
    unfolding tray_read_by
    by_yes rows n zero q z h w g =
        ap (λ (x : TrayAnswer). tray_left x cs' stats' levels' found') g ∙ ap tray_seen w
        ∙ ap (λ (x : Engine). tray_seen (read_rows l x cs stats rows levels found)) h
    by_yes rows n (suc k) q z h w g = absurd (omega arith)

    pub tray_yes : (rows : List (List ℕ)) (n : ℕ) → (length rows ≡ 0 → ⊥) → n ≡ (payload_refusal l or_else state_flags s) → n ≡ 0 → e ≡ engine_of s
        → code.tray_seen t cs' stats' levels' found' ≡ read_rows l e cs stats rows levels found
        → a ≡ tray_answered t.number t.done t.state
        → tray_left a cs' stats' levels' found' ≡ tray_read l s cs stats rows levels found
    unfolding tray_read
    tray_yes [] n some q z h w g = absurd (some refl)
    tray_yes (r ∷ rows) n some q z h w g = by_yes (r ∷ rows) n (payload_refusal l or_else state_flags s) q z h w g

-- ---- a state whose flag is one comes back as it was
flag_back : (b : ℕ) → 0 ≡ flag_refusal b → (state_of (engine_of (record { range = 0; offset = 0; position = 0; ended = b; past = 0 }))).ended ≡ b
flag_back zero q = refl
flag_back (suc zero) q = refl
flag_back (suc (suc b)) q = absurd (omega (arith, q, flag_over (suc (suc b)) (omega arith)))

pub state_back : (s : EngineState) → 0 ≡ state_flags s → state_of (engine_of s) ≡ s
unfolding state_flags
state_back s q = ap (λ (b : ℕ). record { range = s.range; offset = s.offset; position = s.position; ended = b; past = s.past }) (flag_back s.ended q)
