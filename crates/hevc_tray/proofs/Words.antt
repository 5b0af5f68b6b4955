-- Request (iv) in its words, of a tray that the checks let through: earlier blocks stand, the refused part is all zero, later parts are untouched,
-- state, contexts and statistics are as the last block done left them, and only 7 or 8 stops it. Assumes nothing.
use Rattle.std.specs.Prelude.{ℕ, zero, suc, ◌+◌, ◌-◌, ◌≤◌, ◌<◌, ◌≡◌, ℤ, pos}
use Rattle.std.proofs.Math.Path.{refl, ap, subst}
use Rattle.std.proofs.Common.{sym, ◌∙◌, length-append, length-take, drop-drop}
use mathlib.Core.List.{List, [], ◌∷◌, ◌++◌, append_assoc, append-nil}
use native.Mathlib.Omega.{arith}
use Rattle.std.proofs.Math.ListN.{length, take, drop, replicate, drop_of_length-le}
use Rattle.std.proofs.Math.Seq.{length-take-le}
use Rattle.bins.specs.declared.state.Engine.{Engine}
use Rattle.cabac.specs.Numbers.{Answer, accepted, refused, ◌or_else◌}
use Rattle.cabac.specs.NumberLaws.{or_else_zero}
use Rattle.hevc_residual.specs.declared.params.Params.{Params}
use Rattle.hevc_residual.specs.Wanted.{area}
use Rattle.hevc_residual.specs.LimitLaws.{parameter_passed, parameter_same}
use Rattle.hevc_residual.specs.Numbers.{parameter_refusal}
use Rattle.hevc_residual.specs.Entries.{Found, FoundAt, PayloadRead, cleared, read_payload}
use Rattle.hevc_tray.specs.Tray.{Tray, behind, on_block, tray, records_refusal}
use Rattle.hevc_tray.specs.AbleLaws.{Able, On, reads_on}

-- how many places the parts of the records take
unfoldable pub areas : List Params → ℕ
areas [] = 0
areas (p ∷ ps) = area p + areas ps

-- behind `done` blocks: the part of the next record is zero, and what stands behind it is as it was
abbrev pub Refused : List Params → List ℤ → ℕ → List ℤ → Type 0
Refused ps levels done left =
    (p : Params) × (after : List Params) × (drop done ps ≡ p ∷ after) × (left ≡ replicate (area p) (pos 0) ++ drop (areas (take done ps) + area p) levels)

-- t is a tray of ps, u the tray of the blocks that t did
pub record Told (l : List ℕ) (ps : List Params) (levels : List ℤ) (t u : Tray) : Type 0 where
  pub few : t.done ≤ length ps
  pub counted : length t.found ≡ t.done
  pub ended : t.number ≡ 0 → t.done ≡ length ps
  pub only : (t.number ≡ 0 → ⊥) → (7 ≤ t.number) × (t.number ≤ 8)
  pub able : Able l t.engine t.contexts t.stats
  -- the parts of the blocks done, and what stands behind them
  pub long : length t.front ≡ areas (take t.done ps)
  pub rest : t.number ≡ 0 → t.left ≡ drop (areas ps) levels
  pub zeros : (t.number ≡ 0 → ⊥) → Refused ps levels t.done t.left
  -- as the last block done left them
  pub whole : u.number ≡ 0
  pub engine : t.engine ≡ u.engine
  pub contexts : t.contexts ≡ u.contexts
  pub stats : t.stats ≡ u.stats
  pub found : t.found ≡ u.found
  pub front : t.front ≡ u.front

told_more : (l : List ℕ) (p : Params) (ps : List Params) (levels block : List ℤ) (f : Found) (t u : Tray) → length block ≡ area p → Told l ps (drop (area p) levels) t u
    → Told l (p ∷ ps) levels (behind block f t) (behind block f u)
unfolding areas
told_more l p ps levels block f t u h w =
    record {
      few = omega (arith, w.few);
      counted = ap suc w.counted;
      ended = λ z. ap suc (w.ended z);
      only = w.only;
      able = w.able;
      long = length-append block t.front ∙ omega (arith, h, w.long);
      rest = λ z. w.rest z ∙ drop-drop (areas ps) (area p) levels;
      zeros = λ z.
          let g = w.zeros z in
          let e : area p + (areas (take t.done ps) + area g.0) ≡ area p + areas (take t.done ps) + area g.0 = omega arith in
          (g.0, g.1, g.2, g.3 ∙ ap (λ (v : List ℤ). replicate (area g.0) (pos 0) ++ v) (drop-drop (areas (take t.done ps) + area g.0) (area p) levels ∙ ap (λ (n : ℕ). drop n levels) e));
      whole = w.whole;
      engine = w.engine;
      contexts = w.contexts;
      stats = w.stats;
      found = ap (λ (v : List Found). f ∷ v) w.found;
      front = ap (λ (v : List ℤ). block ++ v) w.front;
    }

-- one record more; r is what the reader gave of it
module _ (l : List ℕ) (e : Engine) (cs st : List ℕ) (p : Params) (ps : List Params) (levels : List ℤ) (many : length (take (area p) levels) ≡ area p) where
  abbrev part : List ℤ
  part = take (area p) levels

  abbrev r : PayloadRead
  r = read_payload l e cs st p part

  abbrev on_for : Engine → List Params → Tray
  on_for f qs = tray l f r.contexts r.stats qs (drop (area p) levels)

  block_done : (qs : List Params) (x : Answer FoundAt) → r.answer ≡ x → tray l e cs st (p ∷ qs) levels ≡ on_block e r (drop (area p) levels) (λ f. on_for f qs) x
  unfolding tray
  block_done qs x y = ap (on_block e r (drop (area p) levels) (λ f. on_for f qs)) y

  told_block : (x : Answer FoundAt) → r.answer ≡ x → Able l e cs st → On l p cs st part r x
      → ((f : Engine) → Able l f r.contexts r.stats → Told l ps (drop (area p) levels) (on_for f ps) (on_for f (take (on_for f ps).done ps)))
      → Told l (p ∷ ps) levels (tray l e cs st (p ∷ ps) levels) (tray l e cs st (take (tray l e cs st (p ∷ ps) levels).done (p ∷ ps)) levels)
  unfolding on_block
  told_block (accepted f) y a on ih =
      let t = on_for f.next ps in
      let u = on_for f.next (take t.done ps) in
      subst (λ (z : Tray). Told l (p ∷ ps) levels z (tray l e cs st (take z.done (p ∷ ps)) levels)) (sym (block_done ps (accepted f) y))
      (subst (λ (z : Tray). Told l (p ∷ ps) levels (behind r.block f.found t) z) (sym (block_done (take t.done ps) (accepted f) y))
      (told_more l p ps levels r.block f.found t u (on.1 ∙ many) (ih f.next on.0)))
  told_block (refused n) y a on ih =
      subst (λ (z : Tray). Told l (p ∷ ps) levels z (tray l e cs st (take z.done (p ∷ ps)) levels)) (sym (block_done ps (refused n) y))
      (unfold tray areas in record {
        few = omega arith;
        counted = refl;
        ended = λ z. absurd (omega (arith, on.0));
        only = λ z. (on.0, on.1);
        able = subst (λ (v : List ℕ). Able l e v r.stats) (sym on.2) (subst (λ (v : List ℕ). Able l e cs v) (sym on.3) a);
        long = refl;
        rest = λ z. absurd (omega (arith, on.0));
        zeros = λ z. (p, ps, refl, left);
        whole = refl;
        engine = refl;
        contexts = on.2;
        stats = on.3;
        found = refl;
        front = refl;
      })
    where
      left : r.block ++ drop (area p) levels ≡ replicate (area p) (pos 0) ++ drop (0 + area p) levels
      left =
          let d : drop (area p) part ≡ [] = drop_of_length-le part {i = area p} (omega (arith, many)) in
          let b : r.block ≡ replicate (area p) (pos 0) = on.4 ∙ ap (λ (v : List ℤ). replicate (area p) (pos 0) ++ v) d ∙ append-nil (replicate (area p) (pos 0)) in
          let e : area p ≡ 0 + area p = omega arith in
          ap (λ (v : List ℤ). v ++ drop (area p) levels) b ∙ ap (λ (n : ℕ). replicate (area p) (pos 0) ++ drop n levels) e

module _ (l : List ℕ) where
  pub told : (ps : List Params) (e : Engine) (cs st : List ℕ) (levels : List ℤ) → Able l e cs st → 0 ≡ records_refusal ps levels
      → Told l ps levels (tray l e cs st ps levels) (tray l e cs st (take (tray l e cs st ps levels).done ps) levels)
  unfolding tray records_refusal areas
  told [] e cs st levels a q =
      record {
        few = omega arith;
        counted = refl;
        ended = λ z. refl;
        only = λ z. absurd (z refl);
        able = a;
        long = refl;
        rest = λ z. refl;
        zeros = λ z. absurd (z refl);
        whole = refl;
        engine = refl;
        contexts = refl;
        stats = refl;
        found = refl;
        front = refl;
      }
  told (p ∷ ps) e cs st levels a q =
      let z = or_else_zero (parameter_refusal p levels) (records_refusal ps (drop (area p) levels)) q in
      let room = (parameter_passed p levels z.0).1 in
      let part = take (area p) levels in
      let many : length part ≡ area p = length-take-le (area p) levels room in
      let r = read_payload l e cs st p part in
      let on = reads_on l e cs st p part a (parameter_same p levels part z.0 (omega arith)) in
      told_block l e cs st p ps levels many r.answer refl a on (λ f b. told ps f r.contexts r.stats (drop (area p) levels) b z.1)
