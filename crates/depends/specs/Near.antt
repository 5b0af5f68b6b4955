-- A run depends on no bit before the position that it starts at and on none behind those that it drew, whatever total past the end was handed in. For every tree,
-- so for every syntax; bins/EngineRuns has it with agreement from bit 0 on. Assumes nothing.
use Rattle.std.specs.Prelude.{ℕ, zero, suc, ◌+◌, ◌-◌, ◌*◌, ◌/◌, ◌%◌, ◌^◌, ◌≤◌, ◌<◌, min, ◌≡◌, refl, Bool, true, false, cond, List, length, get_or, set, ltb, leb}
use Rattle.std.proofs.Common.{sym, ap, ap₂, subst, ◌∙◌, arith}
use Rattle.std.specs.Int.Count.{count_leading_zeros}
use Rattle.bins.specs.declared.state.Engine.{Engine}
use Rattle.bins.specs.Bits.{bit_at, bits, ends, after, over, past_most, added}
use Rattle.bins.specs.BitLaws.{none_over, over_none}
use Rattle.bins.specs.Engine.{place, fetched, Decided, decided, Drawn, bypassed, range_aligned, split}
use Rattle.bins.specs.Syn.{Syn, done, stop, bin, bypass, align, Took, took, refused, Source, Out, onward, run, Reading, engine_bin, engine_bypass, engine_align, by_engine}
use Rattle.bins.specs.Laws.{map_out}
use Rattle.bins.specs.EngineRuns.{Grows, state_of, run_grows}
use Rattle.bins.specs.Raised.{raised, raised_reading, unmarked, run_raised}

-- ---- two payloads that agree from bit p on, up to and without bit q
abbrev pub Alike : List ℕ → List ℕ → ℕ → ℕ → Type 0
Alike l m p q = (i : ℕ) → p ≤ i → i < q → bit_at l i ≡ bit_at m i

bits_alike : (l m : List ℕ) (p c : ℕ) → Alike l m p (p + c) → bits l p c ≡ bits m p c
unfolding bits
bits_alike l m p zero a = refl
bits_alike l m p (suc c) a =
    ap₂ (λ x y. x * 2 + y) (bits_alike l m p c (λ i h k. a i h (omega arith))) (a (p + c) (omega arith) (omega arith))

-- what payload m must have of a run on l that started at p with no total and reached f, to give the same run
pub record Near (l m : List ℕ) (p : ℕ) (f : Engine) : Type 0 where
  pub has : place f ≤ ends m
  pub same : Alike l m p (place f)
  pub drew : f.past ≡ 0

near_before : (l m : List ℕ) (p : ℕ) (e f : Engine) → Grows l e f → Near l m p f → Near l m p e
near_before l m p e f g s =
    record { has = omega (arith, g.up, s.has); same = λ i h k. s.same i h (omega (arith, g.up)); drew = g.clean s.drew }

fetched_grows : (l : List ℕ) (e : Engine) (r o c : ℕ) → place e ≤ ends l → Grows l e (fetched l e r o c)
unfolding fetched
fetched_grows l e r o c h = record { up = omega arith; fits = omega arith; clean = λ q. omega arith }

decided_grows : (l : List ℕ) (e : Engine) (ctx : ℕ) → place e ≤ ends l → Grows l e (decided l e ctx).next
unfolding decided
decided_grows l e ctx h =
    let s = split e.range e.offset ctx in
    let c = count_leading_zeros 9 s.range in
    fetched_grows l e (s.range * 2 ^ c) s.offset c h

bypassed_grows : (l : List ℕ) (e : Engine) (c : ℕ) → place e ≤ ends l → Grows l e (bypassed l e c).next
unfolding bypassed
bypassed_grows l e c h = let g = fetched_grows l e e.range e.offset c h in record { up = g.up; fits = g.fits; clean = g.clean }

fetched_near : (l m : List ℕ) (p : ℕ) (e : Engine) (r o c : ℕ) → place e ≤ ends l → p ≤ place e → Near l m p (fetched l e r o c) → fetched l e r o c ≡ fetched m e r o c
unfolding fetched
fetched_near l m p e r o c h from s =
    let fit : place e + c ≤ ends l = none_over l (place e) c e.past h s.drew in
    let here : after l (place e) c ≡ place e + c = omega arith in
    let fit' : place e + c ≤ ends m = omega (arith, here, s.has) in
    let there : after m (place e) c ≡ place e + c = omega arith in
    let none : over l (place e) c ≡ 0 = over_none l (place e) c fit in
    let none' : over m (place e) c ≡ 0 = over_none m (place e) c fit' in
    let same : bits l (place e) c ≡ bits m (place e) c = bits_alike l m (place e) c (λ i h k. s.same i (omega arith) (omega (arith, here))) in
    cc

decided_near : (l m : List ℕ) (p : ℕ) (e : Engine) (ctx : ℕ) → place e ≤ ends l → p ≤ place e → Near l m p (decided l e ctx).next → decided l e ctx ≡ decided m e ctx
unfolding decided
decided_near l m p e ctx h from s =
    let q = split e.range e.offset ctx in
    let c = count_leading_zeros 9 q.range in
    ap (λ (n : Engine). record { bit = q.bit; ctx = q.ctx; next = n }) (fetched_near l m p e (q.range * 2 ^ c) q.offset c h from s)

bypassed_near : (l m : List ℕ) (p : ℕ) (e : Engine) (c : ℕ) → place e ≤ ends l → p ≤ place e → Near l m p (bypassed l e c).next → bypassed l e c ≡ bypassed m e c
unfolding bypassed
bypassed_near l m p e c h from s =
    let q = fetched_near l m p e e.range e.offset c h from (record { has = s.has; same = s.same; drew = s.drew }) in
    ap (λ (f : Engine). record { value = f.offset / e.range; next = record { range = e.range; offset = f.offset % e.range; position = f.position; ended = e.ended; past = f.past } }) q

align_near : {A : Type 0} (l m : List ℕ) (p : ℕ) (r r' : Reading) (b : Bool) (k g : Bool → Reading → Out Reading A)
    → (Near l m p (state_of (k false r')).engine → k false r' ≡ g false r')
    → Near l m p (state_of (onward (cond b (took false r') (refused 7)) r k)).engine
    → onward (cond b (took false r') (refused 7)) r k ≡ onward (cond b (took false r') (refused 7)) r g
unfolding onward
align_near l m p r r' true k g f s = f s
align_near l m p r r' false k g f s = refl

-- where no total was handed in
pub run_near : {B A : Type 0} (l m : List ℕ) (p : ℕ) (t : Syn B A) (r : Reading) → place r.engine ≤ ends l → p ≤ place r.engine
    → Near l m p (state_of (run (by_engine l) t r)).engine → run (by_engine l) t r ≡ run (by_engine m) t r
unfolding run state_of by_engine engine_bin engine_bypass engine_align onward
run_near l m p (done a) r h from s = refl
run_near l m p (stop n) r h from s = refl
run_near l m p (bin c w k) r h from s =
    let d = decided l r.engine (get_or r.contexts c 0) in
    let g = decided_grows l r.engine (get_or r.contexts c 0) h in
    let r' : Reading = record { engine = d.next; contexts = set r.contexts c d.ctx } in
    let rest = run_grows l (k d.bit) r' g.fits in
    let step = decided_near l m p r.engine (get_or r.contexts c 0) h from (near_before l m p d.next (state_of (run (by_engine l) (k d.bit) r')).engine rest s) in
    run_near l m p (k d.bit) r' g.fits (omega (arith, from, g.up)) s
    ∙ ap (λ (z : Decided). run (by_engine m) (k z.bit) (record { engine = z.next; contexts = set r.contexts c z.ctx })) step
run_near l m p (bypass w k) r h from s =
    let d = bypassed l r.engine 1 in
    let g = bypassed_grows l r.engine 1 h in
    let r' : Reading = record { engine = d.next; contexts = r.contexts } in
    let rest = run_grows l (k (leb 1 d.value)) r' g.fits in
    let step = bypassed_near l m p r.engine 1 h from (near_before l m p d.next (state_of (run (by_engine l) (k (leb 1 d.value)) r')).engine rest s) in
    run_near l m p (k (leb 1 d.value)) r' g.fits (omega (arith, from, g.up)) s
    ∙ ap (λ (z : Drawn). run (by_engine m) (k (leb 1 z.value)) (record { engine = z.next; contexts = r.contexts })) step
run_near l m p (align t) r h from s =
    let r' : Reading = record { engine = range_aligned r.engine; contexts = r.contexts } in
    let fits : place (range_aligned r.engine) ≤ ends l = unfold range_aligned in h in
    let from' : p ≤ place (range_aligned r.engine) = unfold range_aligned in from in
    align_near l m p r r' (ltb r.engine.offset 256) (λ b s'. run (by_engine l) t s') (λ b s'. run (by_engine m) t s')
    (run_near l m p t r' fits from') s

-- ---- whatever total was handed in: it changes nothing but the total handed back
abbrev pub unmarked_reading : Reading → Reading
unmarked_reading r = record { engine = unmarked r.engine; contexts = r.contexts }

raised_again : (r : Reading) → r.engine.past ≤ past_most → raised_reading r.engine.past (unmarked_reading r) ≡ r
raised_again r h =
    let q : added r.engine.past 0 ≡ r.engine.past = omega arith in
    ap (λ (k : ℕ). record {
      engine = record { range = r.engine.range; offset = r.engine.offset; position = r.engine.position; ended = r.engine.ended; past = k };
      contexts = r.contexts;
    }) q

run_from_none : {B A : Type 0} (l : List ℕ) (t : Syn B A) (r : Reading) → r.engine.past ≤ past_most
    → run (by_engine l) t r ≡ map_out (raised_reading r.engine.past) (run (by_engine l) t (unmarked_reading r))
run_from_none l t r h = ap (run (by_engine l) t) (sym (raised_again r h)) ∙ run_raised l r.engine.past t (unmarked_reading r)

-- two payloads that agree from the position handed in to the position reached, which the second has, and none drawn past the end by this run: the same run
pub run_local_from : {B A : Type 0} (l m : List ℕ) (t : Syn B A) (r : Reading) → place r.engine ≤ ends l → r.engine.past ≤ past_most
    → Near l m (place r.engine) (state_of (run (by_engine l) t (unmarked_reading r))).engine → run (by_engine l) t r ≡ run (by_engine m) t r
run_local_from l m t r h k s =
    let b = r.engine.past in
    run_from_none l t r k ∙ ap (map_out (raised_reading b)) (run_near l m (place r.engine) t (unmarked_reading r) h (omega arith) s) ∙ sym (run_from_none m t r k)

state_mapped : {R S A : Type 0} (f : S → R) (o : Out S A) → state_of (map_out f o) ≡ f (state_of o)
unfolding state_of
state_mapped f (Out.ok a s) = refl
state_mapped f (Out.no n s) = refl

-- the position reached does not look at the total
pub place_from_none : {B A : Type 0} (l : List ℕ) (t : Syn B A) (r : Reading) → r.engine.past ≤ past_most
    → place (state_of (run (by_engine l) t r)).engine ≡ place (state_of (run (by_engine l) t (unmarked_reading r))).engine
place_from_none l t r h =
    ap (λ (z : Reading). place z.engine) (ap state_of (run_from_none l t r h) ∙ state_mapped (raised_reading r.engine.past) (run (by_engine l) t (unmarked_reading r)))
