-- Runs of document 01's engine: it stays possible, its contexts packed, its position grows, and a run depends on no bit behind those that it drew.
-- Assumes nothing.
use Rattle.std.specs.Prelude.{ℕ, zero, suc, ◌+◌, ◌-◌, ◌*◌, ◌/◌, ◌%◌, ◌^◌, ◌≤◌, ◌<◌, min, ◌≡◌, refl, Bool, true, false, cond, List, length, get_or, set, ltb, leb}
use Rattle.std.proofs.Common.{sym, ap, ap₂, subst, ◌∙◌, arith, length-set}
use Rattle.std.specs.Int.Count.{count_leading_zeros}
use Rattle.bins.specs.declared.state.Engine.{Engine}
use Rattle.bins.specs.Bits.{bit_at, bits, ends, after, over, past_most, added}
use Rattle.bins.specs.BitLaws.{none_over, over_none}
use Rattle.bins.specs.Engine.{place, fetched, Decided, decided, Drawn, bypassed, range_aligned, split}
use Rattle.bins.specs.Interval.{Goes, opened, settled}
use Rattle.bins.specs.Syn.{Syn, done, stop, bin, bypass, align, Took, took, refused, Source, Out, onward, run, Reading, engine_bin, engine_bypass, engine_align, by_engine}
use Rattle.bins.specs.Sources.{Cursor, cursor, by_code}
use Rattle.bins.specs.Laws.{Ends, After, Keeps, run_keeps, map_out}
use Rattle.bins.specs.CodeLaws.{Packed, Ready, code_keeps}
use Rattle.bins.specs.Settled.{settled_opened, seen, run_opened}

-- ---- a state that the engine can be in while it runs, over a payload of admitted length
pub record Runs (l : List ℕ) (e : Engine) : Type 0 where
  pub short : length l ≤ 16777216
  pub fits : place e ≤ ends l
  pub counts : e.past ≤ past_most
  pub least : 256 ≤ e.range
  pub most : e.range ≤ 510
  pub below : e.offset < e.range

pub runs_goes : (l : List ℕ) (e : Engine) → Runs l e → Goes l (opened e)
runs_goes l e h = record { short = h.short; fits = omega (arith, h.fits); least = h.least; most = h.most; below = h.below }

-- a running engine keeps running, with n packed contexts
abbrev pub Running : List ℕ → ℕ → Reading → Type 0
Running l n r = Runs l r.engine × Packed r.contexts × (length r.contexts ≡ n)

seen_running : {A : Type 0} (l : List ℕ) (n : ℕ) (e : Engine) (o : Out Cursor A) → Ends (Ready false l n) o → Ends (Running l n) (map_out (seen l e) o)
unfolding settled
seen_running l n e (Out.ok a r) h =
    (record { short = h.readable.short; fits = omega arith; counts = omega arith; least = h.readable.least; most = h.readable.most; below = h.readable.below }, h.packed, h.many)
seen_running l n e (Out.no m r) h =
    (record { short = h.readable.short; fits = omega arith; counts = omega arith; least = h.readable.least; most = h.readable.most; below = h.readable.below }, h.packed, h.many)

pub run_running : {B A : Type 0} (l : List ℕ) (n : ℕ) (t : Syn B A) (e : Engine) (cs : List ℕ) → Running l n (record { engine = e; contexts = cs })
    → Ends (Running l n) (run (by_engine l) t (record { engine = e; contexts = cs }))
run_running l n t e cs h =
    let k = run_keeps (by_code false l) (Ready false l n) (code_keeps false l n) t (cursor (opened e) cs)
    (record { readable = runs_goes l e h.0; packed = h.1; many = h.2 }) in
    subst (Ends (Running l n)) (sym (run_opened l e t cs h.0.fits h.0.counts)) (seen_running l n e (run (by_code false l) t (cursor (opened e) cs)) k)

-- ---- the position only grows, and stays within the payload
-- from e to f: the position has grown within l, and the total was not taken back
pub record Grows (l : List ℕ) (e f : Engine) : Type 0 where
  pub up : place e ≤ place f
  pub fits : place f ≤ ends l
  pub clean : f.past ≡ 0 → e.past ≡ 0

grows_refl : (l : List ℕ) (e : Engine) → place e ≤ ends l → Grows l e e
grows_refl l e h = record { up = omega arith; fits = h; clean = λ q. q }

grows_trans : (l : List ℕ) (e f g : Engine) → Grows l e f → Grows l f g → Grows l e g
grows_trans l e f g a b = record { up = omega arith; fits = b.fits; clean = λ q. a.clean (b.clean q) }

fetched_grows : (l : List ℕ) (e : Engine) (r o c : ℕ) → place e ≤ ends l → Grows l e (fetched l e r o c)
unfolding fetched
fetched_grows l e r o c h = record { up = omega arith; fits = omega arith; clean = λ q. omega arith }

decided_grows : (l : List ℕ) (e : Engine) (ctx : ℕ) → place e ≤ ends l → Grows l e (decided l e ctx).next
unfolding decided
decided_grows l e ctx h =
    let s = split e.range e.offset ctx in
    let c = count_leading_zeros 9 s.range in
    fetched_grows l e (s.range * 2 ^ c) s.offset c h

bypassed_grows : (l : List ℕ) (e : Engine) (c : ℕ) → place e ≤ ends l → Grows l e (bypassed l e c).next
unfolding bypassed
bypassed_grows l e c h = let g = fetched_grows l e e.range e.offset c h in record { up = g.up; fits = g.fits; clean = g.clean }

align_grows : (l : List ℕ) (e : Engine) (r : Reading) (b : Bool) → Grows l e r.engine
    → After (λ (z : Reading). Grows l e z.engine) (cond b (took false (record { engine = range_aligned r.engine; contexts = r.contexts })) (refused 7))
unfolding range_aligned
align_grows l e r true g = record { up = g.up; fits = g.fits; clean = g.clean }
align_grows l e r false g = tt

engine_grows : (l : List ℕ) (e : Engine) → Keeps (by_engine l) (λ (r : Reading). Grows l e r.engine)
unfolding by_engine engine_bin engine_bypass engine_align
engine_grows l e =
    record {
      at_bin = λ c r g. grows_trans l e r.engine (decided l r.engine (get_or r.contexts c 0)).next g (decided_grows l r.engine (get_or r.contexts c 0) g.fits);
      at_bypass = λ r g. grows_trans l e r.engine (bypassed l r.engine 1).next g (bypassed_grows l r.engine 1 g.fits);
      at_align = λ r g. align_grows l e r (ltb r.engine.offset 256) g;
    }

unfoldable pub state_of : {S A : Type 0} → Out S A → S
state_of (Out.ok a s) = s
state_of (Out.no n s) = s

pub ends_state : {S A : Type 0} (P : S → Type 0) (o : Out S A) → Ends P o → P (state_of o)
unfolding state_of
ends_state P (Out.ok a s) h = h
ends_state P (Out.no n s) h = h

pub run_grows : {B A : Type 0} (l : List ℕ) (t : Syn B A) (r : Reading) → place r.engine ≤ ends l
    → Grows l r.engine (state_of (run (by_engine l) t r)).engine
run_grows l t r h =
    ends_state (λ (z : Reading). Grows l r.engine z.engine) (run (by_engine l) t r)
    (run_keeps (by_engine l) (λ (z : Reading). Grows l r.engine z.engine) (engine_grows l r.engine) t r (grows_refl l r.engine h))

-- ---- a run depends on no bit behind those it drew
-- the two payloads agree in every bit before q
abbrev pub Agree : List ℕ → List ℕ → ℕ → Type 0
Agree l m q = (i : ℕ) → i < q → bit_at l i ≡ bit_at m i

agree_less : (l m : List ℕ) (p q : ℕ) → p ≤ q → Agree l m q → Agree l m p
agree_less l m p q h a i k = a i (omega arith)

bits_agree : (l m : List ℕ) (p c : ℕ) → Agree l m (p + c) → bits l p c ≡ bits m p c
unfolding bits
bits_agree l m p zero a = refl
bits_agree l m p (suc c) a =
    ap₂ (λ x y. x * 2 + y) (bits_agree l m p c (agree_less l m (p + c) (p + suc c) (omega arith) a)) (a (p + c) (omega arith))

-- what a step needs of the state f behind it, for the payload m to give the same
pub record Inside (l m : List ℕ) (f : Engine) : Type 0 where
  pub room : place f ≤ ends m
  pub same : Agree l m (place f)
  pub drew : f.past ≡ 0

inside_before : (l m : List ℕ) (e f : Engine) → Grows l e f → Inside l m f → Inside l m e
inside_before l m e f g s =
    record { room = omega (arith, g.up, s.room); same = agree_less l m (place e) (place f) g.up s.same; drew = g.clean s.drew }

fetched_local : (l m : List ℕ) (e : Engine) (r o c : ℕ) → place e ≤ ends l → Inside l m (fetched l e r o c) → fetched l e r o c ≡ fetched m e r o c
unfolding fetched
fetched_local l m e r o c h s =
    let fit : place e + c ≤ ends l = none_over l (place e) c e.past h s.drew in
    let here : after l (place e) c ≡ place e + c = omega arith in
    let fit' : place e + c ≤ ends m = omega (arith, here, s.room) in
    let there : after m (place e) c ≡ place e + c = omega arith in
    let none : over l (place e) c ≡ 0 = over_none l (place e) c fit in
    let none' : over m (place e) c ≡ 0 = over_none m (place e) c fit' in
    let same : bits l (place e) c ≡ bits m (place e) c = bits_agree l m (place e) c (rw here at s.same) in
    cc

decided_local : (l m : List ℕ) (e : Engine) (ctx : ℕ) → place e ≤ ends l → Inside l m (decided l e ctx).next → decided l e ctx ≡ decided m e ctx
unfolding decided
decided_local l m e ctx h s =
    let p = split e.range e.offset ctx in
    let c = count_leading_zeros 9 p.range in
    ap (λ (n : Engine). record { bit = p.bit; ctx = p.ctx; next = n }) (fetched_local l m e (p.range * 2 ^ c) p.offset c h s)

bypassed_local : (l m : List ℕ) (e : Engine) (c : ℕ) → place e ≤ ends l → Inside l m (bypassed l e c).next → bypassed l e c ≡ bypassed m e c
unfolding bypassed
bypassed_local l m e c h s =
    let q = fetched_local l m e e.range e.offset c h (record { room = s.room; same = s.same; drew = s.drew }) in
    ap (λ (f : Engine). record { value = f.offset / e.range; next = record { range = e.range; offset = f.offset % e.range; position = f.position; ended = e.ended; past = f.past } }) q

-- an alignment that both refuse, or neither
align_local : {A : Type 0} (l m : List ℕ) (r r' : Reading) (b : Bool) (k g : Bool → Reading → Out Reading A)
    → (Inside l m (state_of (k false r')).engine → k false r' ≡ g false r')
    → Inside l m (state_of (onward (cond b (took false r') (refused 7)) r k)).engine
    → onward (cond b (took false r') (refused 7)) r k ≡ onward (cond b (took false r') (refused 7)) r g
unfolding onward
align_local l m r r' true k g f s = f s
align_local l m r r' false k g f s = refl

-- two payloads that agree in every bit before the position which a run on the first reaches, having drawn none past the end,
-- give the same run: answer or refusal, state, contexts
pub run_local : {B A : Type 0} (l m : List ℕ) (t : Syn B A) (r : Reading) → place r.engine ≤ ends l
    → Inside l m (state_of (run (by_engine l) t r)).engine → run (by_engine l) t r ≡ run (by_engine m) t r
unfolding run state_of by_engine engine_bin engine_bypass engine_align onward
run_local l m (done a) r h s = refl
run_local l m (stop n) r h s = refl
run_local l m (bin c w k) r h s =
    let d = decided l r.engine (get_or r.contexts c 0) in
    let g = decided_grows l r.engine (get_or r.contexts c 0) h in
    let r' : Reading = record { engine = d.next; contexts = set r.contexts c d.ctx } in
    let rest = run_grows l (k d.bit) r' g.fits in
    let step = decided_local l m r.engine (get_or r.contexts c 0) h (inside_before l m d.next (state_of (run (by_engine l) (k d.bit) r')).engine rest s) in
    run_local l m (k d.bit) r' g.fits s
    ∙ ap (λ (z : Decided). run (by_engine m) (k z.bit) (record { engine = z.next; contexts = set r.contexts c z.ctx })) step
run_local l m (bypass w k) r h s =
    let d = bypassed l r.engine 1 in
    let g = bypassed_grows l r.engine 1 h in
    let r' : Reading = record { engine = d.next; contexts = r.contexts } in
    let rest = run_grows l (k (leb 1 d.value)) r' g.fits in
    let step = bypassed_local l m r.engine 1 h (inside_before l m d.next (state_of (run (by_engine l) (k (leb 1 d.value)) r')).engine rest s) in
    run_local l m (k (leb 1 d.value)) r' g.fits s
    ∙ ap (λ (z : Drawn). run (by_engine m) (k (leb 1 z.value)) (record { engine = z.next; contexts = r.contexts })) step
run_local l m (align t) r h s =
    let r' : Reading = record { engine = range_aligned r.engine; contexts = r.contexts } in
    let fits : place (range_aligned r.engine) ≤ ends l = unfold range_aligned in h in
    align_local l m r r' (ltb r.engine.offset 256) (λ b s'. run (by_engine l) t s') (λ b s'. run (by_engine m) t s')
    (run_local l m t r' fits) s
