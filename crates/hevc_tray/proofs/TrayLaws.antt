-- Laws of a tray: one list of records and then another; behind the checks only 7 or 8 stops it. Assumes nothing.
use Rattle.std.specs.Prelude.{ℕ, zero, suc, ◌+◌, ◌-◌, ◌≤◌, ◌<◌, ◌≡◌, ℤ, pos, length, take, replicate}
use Rattle.std.proofs.Math.Path.{refl, sym, ap}
use Rattle.std.proofs.Common.{subst, ◌∙◌, arith, length-take, length-append, take-append-drop, drop-drop, length-take-le}
use mathlib.Core.List.{List, [], ◌∷◌, ◌++◌, append_assoc}
use Rattle.std.proofs.Math.ListN.{drop}
use Rattle.bins.specs.declared.state.Engine.{Engine}
use Rattle.cabac.specs.Numbers.{Answer, accepted, refused, ◌or_else◌}
use Rattle.cabac.specs.NumberLaws.{or_else_zero}
use Rattle.hevc_residual.specs.declared.params.Params.{Params}
use Rattle.hevc_residual.specs.Wanted.{area}
use Rattle.hevc_residual.specs.LimitLaws.{parameter_passed, parameter_same}
use Rattle.hevc_residual.specs.Numbers.{parameter_refusal}
use Rattle.hevc_residual.specs.Entries.{Found, FoundAt, PayloadRead, cleared, read_payload}
use Rattle.hevc_tray.specs.Tray.{Tray, behind, on_block, tray, records_refusal}
use Rattle.hevc_tray.specs.AbleLaws.{Able, On, reads_on, refused_some}

-- ---- one tray and then another
-- what n blocks did, with what was found of them and their parts, and then what came behind them
abbrev pub ahead_by : ℕ → List Found → List ℤ → Tray → Tray
ahead_by n found front u =
    record {
      done = n + u.done;
      number = u.number;
      engine = u.engine;
      contexts = u.contexts;
      stats = u.stats;
      found = found ++ u.found;
      front = front ++ u.front;
      left = u.left;
    }

abbrev pub ahead : Tray → Tray → Tray
ahead t u = ahead_by t.done t.found t.front u

pub ahead_none : (u : Tray) → ahead_by 0 [] [] u ≡ u
ahead_none u = let e : 0 + u.done ≡ u.done = omega arith in ap (λ (n : ℕ). record {
  done = n;
  number = u.number;
  engine = u.engine;
  contexts = u.contexts;
  stats = u.stats;
  found = u.found;
  front = u.front;
  left = u.left;
}) e

-- behind n blocks one more
pub ahead_more : (n : ℕ) (found : List Found) (front block : List ℤ) (f : Found) (u : Tray)
    → ahead_by n found front (behind block f u) ≡ ahead_by (n + 1) (found ++ (f ∷ [])) (front ++ block) u
ahead_more n found front block f u =
    let a : n + suc u.done ≡ n + 1 + u.done = omega arith in
    let b : found ++ (f ∷ u.found) ≡ (found ++ (f ∷ [])) ++ u.found = sym (append_assoc found (f ∷ []) u.found) in
    let c : front ++ (block ++ u.front) ≡ (front ++ block) ++ u.front = sym (append_assoc front block u.front) in
    rw (a, b, c)

behind_ahead : (block : List ℤ) (f : Found) (t u : Tray) → behind block f (ahead t u) ≡ ahead (behind block f t) u
behind_ahead block f t u =
    let a : suc (t.done + u.done) ≡ suc t.done + u.done = omega arith in
    let c : block ++ (t.front ++ u.front) ≡ (block ++ t.front) ++ u.front = sym (append_assoc block t.front u.front) in
    rw (a, c)

-- what is left to do behind t
abbrev pub on_from : List ℕ → List Params → Tray → Tray
on_from l b t = ahead t (tray l t.engine t.contexts t.stats b t.left)

module _ (l : List ℕ) (b : List Params) where
  append_block : (e : Engine) (r : PayloadRead) (rest : List ℤ) (k g : Engine → Tray) (x : Answer FoundAt)
      → ((n : ℕ) → x ≡ refused n → n ≡ 0 → ⊥) → ((f : Engine) → (k f).number ≡ 0 → g f ≡ on_from l b (k f))
      → (on_block e r rest k x).number ≡ 0 → on_block e r rest g x ≡ on_from l b (on_block e r rest k x)
  unfolding on_block
  append_block e r rest k g (accepted f) s h z =
      let u = k f.next in
      ap (behind r.block f.found) (h f.next z) ∙ behind_ahead r.block f.found u (tray l u.engine u.contexts u.stats b u.left)
  append_block e r rest k g (refused n) s h z = absurd (s n refl z)

  -- a tray of a ++ b is a tray of a and then, if it stopped nowhere, a tray of b from what it left
  pub tray_append : (a : List Params) (e : Engine) (contexts stats : List ℕ) (levels : List ℤ) → (tray l e contexts stats a levels).number ≡ 0
      → tray l e contexts stats (a ++ b) levels ≡ on_from l b (tray l e contexts stats a levels)
  unfolding tray
  tray_append [] e contexts stats levels z = sym (ahead_none (tray l e contexts stats b levels))
  tray_append (p ∷ a) e contexts stats levels z =
      let r = read_payload l e contexts stats p (take (area p) levels) in
      let rest = drop (area p) levels in
      append_block e r rest (λ f. tray l f r.contexts r.stats a rest) (λ f. tray l f r.contexts r.stats (a ++ b) rest) r.answer
      (λ n q. refused_some l e contexts stats p (take (area p) levels) n q) (λ f y. tray_append a f r.contexts r.stats rest y) z

  stops_block : (e : Engine) (r : PayloadRead) (rest : List ℤ) (k g : Engine → Tray) (x : Answer FoundAt)
      → ((f : Engine) → ((k f).number ≡ 0 → ⊥) → g f ≡ k f) → ((on_block e r rest k x).number ≡ 0 → ⊥) → on_block e r rest g x ≡ on_block e r rest k x
  unfolding on_block
  stops_block e r rest k g (accepted f) h z = ap (behind r.block f.found) (h f.next z)
  stops_block e r rest k g (refused n) h z = refl

  -- and else what the tray of a is
  pub tray_stops : (a : List Params) (e : Engine) (contexts stats : List ℕ) (levels : List ℤ) → ((tray l e contexts stats a levels).number ≡ 0 → ⊥)
      → tray l e contexts stats (a ++ b) levels ≡ tray l e contexts stats a levels
  unfolding tray
  tray_stops [] e contexts stats levels z = absurd (z refl)
  tray_stops (p ∷ a) e contexts stats levels z =
      let r = read_payload l e contexts stats p (take (area p) levels) in
      let rest = drop (area p) levels in
      stops_block e r rest (λ f. tray l f r.contexts r.stats a rest) (λ f. tray l f r.contexts r.stats (a ++ b) rest) r.answer
      (λ f y. tray_stops a f r.contexts r.stats rest y) z
