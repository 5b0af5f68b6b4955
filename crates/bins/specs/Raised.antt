-- A total that comes in is carried along and changes nothing else: a run from a state with a total is the run from the same state with none, its
-- total added. So what holds of runs from a total of 0 holds of all. Assumes nothing.
use Rattle.std.specs.Prelude.{ℕ, ◌+◌, ◌*◌, ◌/◌, ◌%◌, ◌^◌, ◌≤◌, min, ◌≡◌, refl, Bool, true, false, cond, List, get_or, set, ltb, leb}
use Rattle.std.proofs.Common.{sym, ap, ◌∙◌, arith}
use Rattle.std.specs.Int.Count.{count_leading_zeros}
use Rattle.bins.specs.declared.state.Engine.{Engine}
use Rattle.bins.specs.Bits.{bits, ends, after, over, past_most, added}
use Rattle.bins.specs.BitLaws.{added_add}
use Rattle.bins.specs.Engine.{place, fetched, Decided, decided, Drawn, bypassed, range_aligned, split}
use Rattle.bins.specs.Syn.{Syn, took, refused, run, Reading, engine_bin, engine_bypass, engine_align, by_engine}
use Rattle.bins.specs.Laws.{Follows, Any, keeps_any, map_took, map_out, run_follows}
use Rattle.bins.specs.EngineRuns.{state_of, Inside, run_local}

-- the state with n added to its total
abbrev pub raised : ℕ → Engine → Engine
raised n e = record { range = e.range; offset = e.offset; position = e.position; ended = e.ended; past = added n e.past }

abbrev pub raised_reading : ℕ → Reading → Reading
raised_reading n r = record { engine = raised n r.engine; contexts = r.contexts }

-- the state with no total
abbrev pub unmarked : Engine → Engine
unmarked e = record { range = e.range; offset = e.offset; position = e.position; ended = e.ended; past = 0 }

added_under : (n a b : ℕ) → added (added n a) b ≡ added n (added a b)
added_under n a b = added_add n a b ∙ stops (a + b)
  where
    stops : (k : ℕ) → added n k ≡ added n (min past_most k)
    stops k = omega arith

fetched_raised : (l : List ℕ) (n : ℕ) (e : Engine) (r o c : ℕ) → fetched l (raised n e) r o c ≡ raised n (fetched l e r o c)
unfolding fetched
fetched_raised l n e r o c =
    ap
    (λ (k : ℕ). record { range = r; offset = o * 2 ^ c + bits l (place e) c; position = record { 0 = after l (place e) c }; ended = e.ended; past = k })
    (added_under n e.past (over l (place e) c))

decided_raised : (l : List ℕ) (n : ℕ) (e : Engine) (ctx : ℕ)
    → decided l (raised n e) ctx ≡ record { bit = (decided l e ctx).bit; ctx = (decided l e ctx).ctx; next = raised n (decided l e ctx).next }
unfolding decided
decided_raised l n e ctx =
    let s = split e.range e.offset ctx in
    let c = count_leading_zeros 9 s.range in
    ap (λ (z : Engine). record { bit = s.bit; ctx = s.ctx; next = z }) (fetched_raised l n e (s.range * 2 ^ c) s.offset c)

bypassed_raised : (l : List ℕ) (n : ℕ) (e : Engine) (c : ℕ)
    → bypassed l (raised n e) c ≡ record { value = (bypassed l e c).value; next = raised n (bypassed l e c).next }
unfolding bypassed
bypassed_raised l n e c =
    ap (λ (f : Engine). record { value = f.offset / e.range; next = record { range = e.range; offset = f.offset % e.range; position = f.position; ended = e.ended; past = f.past } })
    (fetched_raised l n e e.range e.offset c)

align_raised : (n : ℕ) (r : Reading) (b : Bool)
    → cond b (took false (record { engine = range_aligned (raised n r.engine); contexts = r.contexts })) (refused 7)
    ≡ map_took (raised_reading n) (cond b (took false (record { engine = range_aligned r.engine; contexts = r.contexts })) (refused 7))
unfolding range_aligned
align_raised n r true = refl
align_raised n r false = refl

engine_raised : (l : List ℕ) (n : ℕ) → Follows (by_engine l) (by_engine l) (raised_reading n) Any
unfolding by_engine engine_bin engine_bypass engine_align
engine_raised l n =
    record {
      keeps = keeps_any (by_engine l);
      at_bin = λ c s p.
          ap (λ (d : Decided). took d.bit (record { engine = d.next; contexts = set s.contexts c d.ctx }))
          (decided_raised l n s.engine (get_or s.contexts c 0));
      at_bypass = λ s p. ap (λ (d : Drawn). took (leb 1 d.value) (record { engine = d.next; contexts = s.contexts })) (bypassed_raised l n s.engine 1);
      at_align = λ s p. align_raised n s (ltb s.engine.offset 256);
    }

pub run_raised : {B A : Type 0} (l : List ℕ) (n : ℕ) (t : Syn B A) (r : Reading)
    → run (by_engine l) t (raised_reading n r) ≡ map_out (raised_reading n) (run (by_engine l) t r)
run_raised l n t r = run_follows (by_engine l) (by_engine l) (raised_reading n) Any (engine_raised l n) t r tt

raised_back : (e : Engine) → e.past ≤ past_most → raised e.past (unmarked e) ≡ e
raised_back e h =
    let q : added e.past 0 ≡ e.past = omega arith in
    let w : raised e.past (unmarked e) ≡ record { range = e.range; offset = e.offset; position = e.position; ended = e.ended; past = e.past } =
    ap (λ (k : ℕ). record { range = e.range; offset = e.offset; position = e.position; ended = e.ended; past = k }) q in
    w

-- ---- a run depends on no bit behind those that it drew, whatever the total was: the run on l, from no total, drew none past the end
pub run_local_any : {B A : Type 0} (l m : List ℕ) (t : Syn B A) (e : Engine) (cs : List ℕ) → place e ≤ ends l → e.past ≤ past_most
    → Inside l m (state_of (run (by_engine l) t (record { engine = unmarked e; contexts = cs }))).engine
    → run (by_engine l) t (record { engine = e; contexts = cs }) ≡ run (by_engine m) t (record { engine = e; contexts = cs })
run_local_any l m t e cs h k s =
    let r : Reading = record { engine = unmarked e; contexts = cs } in
    let b : raised_reading e.past r ≡ record { engine = e; contexts = cs } = ap (λ (z : Engine). record { engine = z; contexts = cs }) (raised_back e k) in
    ap (run (by_engine l) t) (sym b)
    ∙ run_raised l e.past t r
    ∙ ap (map_out (raised_reading e.past)) (run_local l m t r h s)
    ∙ sym (run_raised m e.past t r)
    ∙ ap (run (by_engine m) t) b
