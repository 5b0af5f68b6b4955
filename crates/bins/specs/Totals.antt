-- How far past the end a run went: its bits are counted beside it, with no end in mind, and the total is what of them lies past the end.
-- Assumes nothing.
use Rattle.std.specs.Prelude.{ℕ, ◌+◌, ◌-◌, ◌*◌, ◌^◌, ◌≤◌, min, ◌≡◌, refl, Bool, true, false, cond, List, length, get_or, ltb}
use Rattle.std.proofs.Common.{sym, ap, subst, ◌∙◌, zero-add}
use native.Mathlib.Omega.{arith}
use Rattle.std.specs.Int.Count.{count_leading_zeros}
use Rattle.bins.specs.declared.state.Engine.{Engine}
use Rattle.bins.specs.Bits.{ends, past_most, added}
use Rattle.bins.specs.BitLaws.{after_run, over_run}
use Rattle.bins.specs.Engine.{place, fetched, started, decided, bypassed, range_aligned, split}
use Rattle.bins.specs.Syn.{Syn, Took, took, refused, Source, Out, run, Reading, engine_bin, engine_bypass, engine_align, by_engine}
use Rattle.bins.specs.Laws.{After, Keeps, run_keeps, Follows, Any, keeps_any, map_took, map_out, run_follows}
use Rattle.bins.specs.EngineRuns.{state_of, ends_state}

-- ---- the engine with a count of the bits drawn
pub record Counting : Type 0 where
  pub reading : Reading
  pub drawn : ℕ

-- the bits that renormalising draws behind a decision
abbrev pub decision_bits : Engine → ℕ → ℕ
decision_bits e ctx = count_leading_zeros 9 (split e.range e.offset ctx).range

abbrev pub with_drawn : ℕ → Took Reading → Took Counting
with_drawn n (took b r) = took b (record { reading = r; drawn = n })
with_drawn n (refused k) = refused k

unfoldable pub by_counted : List ℕ → Source Counting
by_counted l =
    record {
      on_bin = λ c s. with_drawn (s.drawn + decision_bits s.reading.engine (get_or s.reading.contexts c 0)) (engine_bin l c s.reading);
      on_bypass = λ s. with_drawn (s.drawn + 1) (engine_bypass l s.reading);
      on_align = λ s. with_drawn s.drawn (engine_align s.reading);
    }

-- the bits that reading a tree draws from a reading
unfoldable pub drawn_by : {B A : Type 0} → List ℕ → Syn B A → Reading → ℕ
drawn_by l t r = (state_of (run (by_counted l) t (record { reading = r; drawn = 0 }))).drawn

-- ---- counting changes nothing
forgets : (n : ℕ) (t : Took Reading) → t ≡ map_took (λ (s : Counting). s.reading) (with_drawn n t)
forgets n (took b r) = refl
forgets n (refused k) = refl

counted_follows : (l : List ℕ) → Follows (by_counted l) (by_engine l) (λ (s : Counting). s.reading) Any
unfolding by_counted by_engine
counted_follows l =
    record {
      keeps = keeps_any (by_counted l);
      at_bin = λ c s p. forgets (s.drawn + decision_bits s.reading.engine (get_or s.reading.contexts c 0)) (engine_bin l c s.reading);
      at_bypass = λ s p. forgets (s.drawn + 1) (engine_bypass l s.reading);
      at_align = λ s p. forgets s.drawn (engine_align s.reading);
    }

-- ---- where a run that began at p with the total n stands, having drawn so many bits
pub record Stands (l : List ℕ) (p n : ℕ) (e : Engine) (drawn : ℕ) : Type 0 where
  pub at : place e ≡ min (p + drawn) (ends l)
  pub total : e.past ≡ added n (p + drawn - ends l)

abbrev StandsAt : List ℕ → ℕ → ℕ → Counting → Type 0
StandsAt l p n s = Stands l p n s.reading.engine s.drawn

fetched_stands : (l : List ℕ) (p n d : ℕ) (e : Engine) (r o c : ℕ) → Stands l p n e d → Stands l p n (fetched l e r o c) (d + c)
unfolding fetched
fetched_stands l p n d e r o c h =
    let a : p + d + c ≡ p + (d + c) = omega arith in
    record {
      at = rw h.at (after_run l (p + d) c ∙ ap (λ k. min k (ends l)) a);
      total = rw (h.at, h.total) (over_run l (p + d) c n ∙ ap (λ k. added n (k - ends l)) a);
    }

decided_stands : (l : List ℕ) (p n d : ℕ) (e : Engine) (ctx : ℕ) → Stands l p n e d → Stands l p n (decided l e ctx).next (d + decision_bits e ctx)
unfolding decided
decided_stands l p n d e ctx h =
    let s = split e.range e.offset ctx in
    let c = count_leading_zeros 9 s.range in
    fetched_stands l p n d e (s.range * 2 ^ c) s.offset c h

bypassed_stands : (l : List ℕ) (p n d : ℕ) (e : Engine) (c : ℕ) → Stands l p n e d → Stands l p n (bypassed l e c).next (d + c)
unfolding bypassed
bypassed_stands l p n d e c h = let f = fetched_stands l p n d e e.range e.offset c h in record { at = f.at; total = f.total }

align_stands : (l : List ℕ) (p n : ℕ) (s : Counting) (b : Bool) → StandsAt l p n s
    → After (StandsAt l p n) (with_drawn s.drawn (cond b (took false (record { engine = range_aligned s.reading.engine; contexts = s.reading.contexts })) (refused 7)))
unfolding range_aligned
align_stands l p n s true h = record { at = h.at; total = h.total }
align_stands l p n s false h = tt

counted_stands : (l : List ℕ) (p n : ℕ) → Keeps (by_counted l) (StandsAt l p n)
unfolding by_counted engine_bin engine_bypass engine_align
counted_stands l p n =
    record {
      at_bin = λ c s h. decided_stands l p n s.drawn s.reading.engine (get_or s.reading.contexts c 0) h;
      at_bypass = λ s h. bypassed_stands l p n s.drawn s.reading.engine 1 h;
      at_align = λ s h. align_stands l p n s (ltb s.reading.engine.offset 256) h;
    }

state_map : {A S R : Type 0} (f : S → R) (o : Out S A) → state_of (map_out f o) ≡ f (state_of o)
unfolding state_of
state_map f (Out.ok a s) = refl
state_map f (Out.no n s) = refl

-- ---- a run, accepted or refused: from where it began, and how many bits it drew, follow its position and its total
pub run_total : {B A : Type 0} (l : List ℕ) (t : Syn B A) (r : Reading) → place r.engine ≤ ends l → r.engine.past ≤ past_most
    → Stands l (place r.engine) r.engine.past (state_of (run (by_engine l) t r)).engine (drawn_by l t r)
unfolding drawn_by
run_total l t r h k =
    let p = place r.engine in
    let n = r.engine.past in
    let s : Counting = record { reading = r; drawn = 0 } in
    let o = run (by_counted l) t s in
    let first : StandsAt l p n s = record { at = omega arith; total = omega arith } in
    let g : StandsAt l p n (state_of o) = ends_state (StandsAt l p n) o (run_keeps (by_counted l) (StandsAt l p n) (counted_stands l p n) t s first) in
    let e : state_of (run (by_engine l) t r) ≡ (state_of o).reading =
    ap state_of (run_follows (by_counted l) (by_engine l) (λ (s : Counting). s.reading) Any (counted_follows l) t s tt) ∙ state_map (λ (s : Counting). s.reading) o in
    subst (λ (z : Reading). Stands l p n z.engine (state_of o).drawn) (sym e) g

-- ---- from a fresh start, which drew nine bits
module _ {B A : Type 0} (l : List ℕ) (t : Syn B A) (cs : List ℕ) where
  abbrev begun : Reading
  begun = record { engine = started l; contexts = cs }

  -- all bits drawn since the start
  abbrev pub drew_in : ℕ
  drew_in = 9 + drawn_by l t begun

  -- the total behind the run
  abbrev pub total_of : ℕ
  total_of = (state_of (run (by_engine l) t begun)).engine.past

  started_stands : 2 ≤ length l → (place (started l) ≡ 9) × ((started l).past ≡ 0)
  unfolding started fetched
  started_stands h = (omega arith, omega arith)

  -- it is the number of bits drawn beyond the payload, to 65,535
  pub total_is : 2 ≤ length l → total_of ≡ min 65535 (drew_in - 8 * length l)
  total_is h =
      let z = started_stands h in
      let s = run_total l t begun (omega (arith, z.0)) (omega (arith, z.1)) in
      s.total ∙ ap (λ n. added n (place (started l) + drawn_by l t begun - ends l)) z.1 ∙ ap (λ k. added 0 (k + drawn_by l t begun - ends l)) z.0
      ∙ ap (min 65535) (zero-add (drew_in - 8 * length l))

  -- and 0 exactly where none was
  pub total_none : 2 ≤ length l → total_of ≡ 0 → drew_in ≤ 8 * length l
  total_none h q = let s : min 65535 (drew_in - 8 * length l) ≡ 0 = sym (total_is h) ∙ q in omega arith

  pub none_total : 2 ≤ length l → drew_in ≤ 8 * length l → total_of ≡ 0
  none_total h q = total_is h ∙ (let s : drew_in - 8 * length l ≡ 0 = omega arith in rw s)
