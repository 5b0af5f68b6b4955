-- What the block reader asks of state, contexts and statistics, a block that it accepts keeps; behind the checks it refuses by 7 or 8 alone.
-- Assumes nothing.
use Rattle.std.specs.Prelude.{ℕ, zero, suc, ◌+◌, ◌-◌, ◌≤◌, ◌<◌, ◌≡◌, Bool, true, cond, List, [], ◌∷◌, ◌++◌, ℤ, pos, length, get_or, drop, ltb}
use Rattle.std.proofs.Math.Path.{refl, ap}
use Rattle.std.proofs.Common.{sym, subst, ◌∙◌, arith, length-append, length-drop, le-ltb}
use Rattle.std.proofs.Math.Bool.{false}
use Rattle.bins.specs.declared.state.Engine.{Engine}
use Rattle.bins.specs.Interval.{opened, settled}
use Rattle.bins.specs.Syn.{Syn, Out, Reading, run, by_engine}
use Rattle.bins.specs.Sources.{Cursor, cursor, by_code}
use Rattle.bins.specs.Laws.{Ends, map_out}
use Rattle.bins.specs.CodeLaws.{Packed}
use Rattle.bins.specs.EngineRuns.{Runs, Running, run_running}
use Rattle.bins.specs.Settled.{seen, run_opened}
use Rattle.cabac.specs.Numbers.{Answer, accepted, refused, ◌or_else◌, payload_refusal, state_refusal, context_refusal, ended_refusal}
use Rattle.cabac.specs.NumberLaws.{or_else_rest, or_else_zero, state_fits, state_counts, state_fine, state_runs, context_fine, ended_not}
use Rattle.trees.specs.Every.{Each}
use Rattle.trees.specs.Reached.{Why, ByEngine, each_run, each_refused}
use Rattle.hevc_residual.specs.declared.params.Params.{Params}
use Rattle.hevc_residual.specs.Wanted.{area}
use Rattle.hevc_residual.specs.Residual.{Block, residual}
use Rattle.hevc_residual.specs.Limits.{Accepted, Statistics}
use Rattle.hevc_residual.specs.LimitLaws.{parameter_passed, statistics_passed}
use Rattle.hevc_residual.specs.Numbers.{parameter_refusal, contexts_refusal, statistic_refusal, statistics_refusal}
use Rattle.hevc_residual.specs.Entries.{FoundAt, PayloadRead, block_with, cleared, found_of, read_by_engine, read_payload_by, read_payload}
use Rattle.hevc_bounds.specs.Pieces.{bins_most, residual_bounds}
use Rattle.hevc_bounds.specs.ResidualBounds.{Whole, kept_none, residual_each}
use Rattle.hevc_residual.specs.Answers.{payload_checks}
use Rattle.hevc_checks.specs.ChecksLaws.{contexts_packed}

-- ---- the checks that do not look at a block
pub record Able (l : List ℕ) (e : Engine) (contexts stats : List ℕ) : Type 0 where
  pub payload : 0 ≡ payload_refusal l
  pub state : 0 ≡ state_refusal l e
  pub packed : 0 ≡ contexts_refusal contexts
  pub small : 0 ≡ statistics_refusal stats
  pub runs : 0 ≡ ended_refusal e

pub able_checks : (l : List ℕ) (e : Engine) (contexts stats : List ℕ) (p : Params) (block : List ℤ) → Able l e contexts stats → 0 ≡ parameter_refusal p block
    → 0 ≡ payload_checks l e contexts stats p block
able_checks l e contexts stats p block a q =
    or_else_rest 0 (payload_refusal l) _ a.payload (or_else_rest 0 (parameter_refusal p block) _ q (or_else_rest 0 (state_refusal l e) _ a.state
    (or_else_rest 0 (contexts_refusal contexts) _ a.packed (or_else_rest 0 (statistics_refusal stats) _ a.small a.runs))))

packed_fine : (cs : List ℕ) → Packed cs → 0 ≡ contexts_refusal cs
unfolding contexts_refusal
packed_fine [] h = refl
packed_fine (c ∷ cs) h = or_else_rest 0 (context_refusal c) (contexts_refusal cs) (context_fine c (omega (arith, h 0))) (packed_fine cs (λ i. h (suc i)))

statistics_fine : (stats : List ℕ) → Statistics stats → 0 ≡ statistics_refusal stats
unfolding statistics_refusal statistic_refusal
statistics_fine [] h = refl
statistics_fine (s ∷ stats) h =
    or_else_rest 0 (cond (ltb 84 s) 3 0) (statistics_refusal stats) (rw (le-ltb 84 s (h 0))) (statistics_fine stats (λ i. h (suc i)))

pub not_ended : (e : Engine) (b : Bool) → e.ended ≡ b → 0 ≡ ended_refusal e → e.ended ≡ false
unfolding ended_refusal
not_ended e true u z = let y : ◌≡◌ {A = ℕ} 0 6 = rw u at z in absurd (omega arith)
not_ended e false u z = u

-- a run neither ends the engine nor takes an end back
abbrev Same : Engine → Reading → Type 0
Same e r = r.engine.ended ≡ e.ended

seen_ended : {A : Type 0} (l : List ℕ) (e : Engine) (o : Out Cursor A) → Ends (Same e) (map_out (seen l e) o)
unfolding settled
seen_ended l e (Out.ok a r) = refl
seen_ended l e (Out.no n r) = refl

run_ended : {B A : Type 0} (l : List ℕ) (e : Engine) (t : Syn B A) (cs : List ℕ) → 0 ≡ state_refusal l e
    → Ends (Same e) (run (by_engine l) t (record { engine = e; contexts = cs }))
run_ended l e t cs q =
    subst (Ends (Same e)) (sym (run_opened l e t cs (state_fits l e q) (state_counts l e q))) (seen_ended l e (run (by_code false l) t (cursor (opened e) cs)))

-- ---- what the reader gave: accepted, it can be asked again; refused, it was 7 or 8, and the n·n places are zero
abbrev pub On : List ℕ → Params → List ℕ → List ℕ → List ℤ → PayloadRead → Answer FoundAt → Type 0
On l p contexts stats block r (accepted f) = Able l f.next r.contexts r.stats × (length r.block ≡ length block)
On l p contexts stats block r (refused n) = (7 ≤ n) × (n ≤ 8) × (r.contexts ≡ contexts) × (r.stats ≡ stats) × (r.block ≡ cleared p block)

module _ (l : List ℕ) (e : Engine) (contexts stats : List ℕ) (p : Params) (block : List ℤ) (a : Able l e contexts stats) (q : 0 ≡ parameter_refusal p block) where
  abbrev reading : Out Reading Block
  reading = run (by_engine l) (residual p stats) (record { engine = e; contexts = contexts })

  runs : Runs l e
  runs = state_runs l e a.payload a.state (not_ended e e.ended refl a.runs)

  pub read_is : read_payload l e contexts stats p block ≡ read_by_engine p contexts stats block reading
  unfolding read_payload
  read_is = ap (λ n. read_payload_by n l e contexts stats p block) (sym (able_checks l e contexts stats p block a q)) ∙ unfold read_payload_by in refl

  long : (levels : List ℤ) → length levels ≡ area p → length (block_with p levels block) ≡ length block
  long levels h = length-append levels (drop (area p) block) ∙ omega (arith, h, length-drop (area p) block, (parameter_passed p block q).1)

  -- read from the bounds of the residual tree: a block has n·n levels and statistics within 84; a refusal is 7 or 8
  abbrev Bounded : Out Reading Block → Type 0
  Bounded (Out.ok b r) = (length b.levels ≡ area p) × Statistics b.stats
  Bounded (Out.no n r) = (7 ≤ n) × (n ≤ 8)

  bounds : Each (residual_bounds p bins_most) (Whole p (λ l c. Unit {0}) stats bins_most) 0 (residual p stats)
  bounds = residual_each p (parameter_passed p block q).0 (kept_none p) stats (statistics_passed stats a.small)

  seven_or_eight : (n m : ℕ) → ByEngine (residual_bounds p bins_most) n m → (7 ≤ n) × (n ≤ 8)
  seven_or_eight n m (Why.stopped h) = (omega (arith, h.0), omega (arith, h.0))
  seven_or_eight n m (Why.missed h) = absurd h
  seven_or_eight n m (Why.unaligned h g) = (omega (arith, g), omega (arith, g))

  bounded : (o : Out Reading Block) → reading ≡ o → Bounded o
  bounded (Out.ok b r) y = let w = (each_run (by_engine l) bounds _ b r y).1 in (w.long, w.small)
  bounded (Out.no n r) y = let w = each_refused l bounds _ n r y in seven_or_eight n w.0 w.1

  on_out : (o : Out Reading Block) → Ends (Running l (length contexts)) o → Ends (Same e) o → Bounded o
      → On l p contexts stats block (read_by_engine p contexts stats block o) (read_by_engine p contexts stats block o).answer
  unfolding read_by_engine
  on_out (Out.ok b r) h s w =
      let n : r.engine.ended ≡ false = s ∙ not_ended e e.ended refl a.runs in (
        record {
          payload = a.payload;
          state = state_fine l r.engine h.0.fits h.0.counts n h.0.least h.0.most h.0.below;
          packed = packed_fine r.contexts h.1;
          small = statistics_fine b.stats w.1;
          runs = ended_not r.engine n;
        },
        long b.levels w.0,
      )
  on_out (Out.no n r) h s w = (w.0, w.1, refl, refl, refl)

  pub reads_on : On l p contexts stats block (read_payload l e contexts stats p block) (read_payload l e contexts stats p block).answer
  reads_on =
      subst (λ (r : PayloadRead). On l p contexts stats block r r.answer) (sym read_is)
      (on_out reading
      (run_running l (length contexts) (residual p stats) e contexts (runs, contexts_packed contexts a.packed, refl))
      (run_ended l e (residual p stats) contexts a.state)
      (bounded reading refl))

-- ---- a refusal is no 0, whatever is handed in
pub number_of : Answer FoundAt → ℕ
number_of (accepted f) = 0
number_of (refused n) = n

pub checks_able : (l : List ℕ) (e : Engine) (contexts stats : List ℕ) (p : Params) (block : List ℤ) → 0 ≡ payload_checks l e contexts stats p block
    → Able l e contexts stats × (0 ≡ parameter_refusal p block)
checks_able l e contexts stats p block q =
    let a = or_else_zero (payload_refusal l) _ q in
    let b = or_else_zero (parameter_refusal p block) _ a.1 in
    let c = or_else_zero (state_refusal l e) _ b.1 in
    let d = or_else_zero (contexts_refusal contexts) _ c.1 in
    let f = or_else_zero (statistics_refusal stats) (ended_refusal e) d.1 in
    (record { payload = a.0; state = c.0; packed = d.0; small = f.0; runs = f.1 }, b.0)

on_some : (l : List ℕ) (p : Params) (contexts stats : List ℕ) (block : List ℤ) (r : PayloadRead) (x : Answer FoundAt) → On l p contexts stats block r x
    → (n : ℕ) → x ≡ refused n → n ≡ 0 → ⊥
unfolding number_of
on_some l p contexts stats block r (accepted f) h n q z = let y : ◌≡◌ {A = ℕ} 0 1 = cc in absurd (omega arith)
on_some l p contexts stats block r (refused m) h n q z = let y : m ≡ n = ap number_of q in absurd (omega (arith, h.0))

pub refused_some : (l : List ℕ) (e : Engine) (contexts stats : List ℕ) (p : Params) (block : List ℤ) (n : ℕ)
    → (read_payload l e contexts stats p block).answer ≡ refused n → n ≡ 0 → ⊥
unfolding read_payload read_payload_by number_of
refused_some l e contexts stats p block n q z = go (payload_checks l e contexts stats p block) refl
  where
    go : (k : ℕ) → payload_checks l e contexts stats p block ≡ k → ⊥
    go zero u =
        let a = checks_able l e contexts stats p block (sym u) in
        on_some l p contexts stats block (read_payload l e contexts stats p block) (read_payload l e contexts stats p block).answer
        (reads_on l e contexts stats p block a.0 a.1) n q z
    go (suc k) u =
        let y : suc k ≡ n = ap (λ m. number_of (read_payload_by m l e contexts stats p block).answer) (sym u) ∙ ap number_of q in
        absurd (omega arith)
