-- Cut to the end once, or at each fetch: the same. What a run of the code's source leaves, settled, is what document 01's engine gives.
-- Assumes nothing.
use Rattle.std.specs.Prelude.{ℕ, zero, suc, ◌+◌, ◌-◌, ◌*◌, ◌/◌, ◌%◌, ◌^◌, ◌≤◌, ◌<◌, min, ◌≡◌, refl, Bool, true, false, cond, List, length, get_or, set, ltb, leb}
use Rattle.std.proofs.Common.{sym, ap, ◌∙◌, arith, ltb-true, ltb-false}
use Rattle.std.specs.Int.Count.{count_leading_zeros}
use Rattle.bins.specs.declared.state.Engine.{Engine}
use Rattle.bins.specs.declared.state.Interval.{Interval}
use Rattle.bins.specs.declared.state.Taken.{Taken}
use Rattle.bins.specs.Bits.{bits, ends, after, over, past_most, added}
use Rattle.bins.specs.BitLaws.{bits_past, over_run}
use Rattle.bins.specs.Engine.{place, fetched, renormed, Split, split, Decided, decided, Drawn, bypassed, range_aligned}
use Rattle.bins.specs.Interval.{place_of, ran_on, fetched_on, renormed_on, DecidedOn, decided_on, bypassed_on, opened, settled}
use Rattle.bins.specs.Syn.{Syn, Took, took, refused, Source, Out, run, Reading, engine_bin, engine_bypass, engine_align, by_engine}
use Rattle.bins.specs.Sources.{Cursor, cursor, with_contexts, by_code, bin_from, context_from, bypass_from, align_from}
use Rattle.bins.specs.Laws.{Follows, Any, keeps_any, map_took, map_out, run_follows}

-- a state that stands within its payload, with a total that counts, is what opening and settling gives
pub settled_opened : (l : List ℕ) (e : Engine) → place e ≤ ends l → e.past ≤ past_most → settled l e (opened e) ≡ e
unfolding settled
settled_opened l e h k =
    let a : min (place e) (ends l) ≡ place e = omega arith in
    let p : added e.past (place e - ends l) ≡ e.past = omega arith in
    let q : settled l e (opened e) ≡ record { range = e.range; offset = e.offset; position = record { 0 = place e }; ended = e.ended; past = e.past } = cc in
    q

-- ---- one fetch
bits_cut : (l : List ℕ) (p c : ℕ) → bits l (min p (ends l)) c ≡ bits l p c
bits_cut l p c = go (ltb (ends l) p) refl
  where
    go : (b : Bool) → ltb (ends l) p ≡ b → bits l (min p (ends l)) c ≡ bits l p c
    go true q =
        let h : ends l < p = ltb-true (ends l) p q in bits_past l (min p (ends l)) p c (omega arith) (omega arith)
    go false q =
        let h : p ≤ ends l = ltb-false (ends l) p q in
        let s : min p (ends l) ≡ p = omega arith in
        ap (λ x. bits l x c) s

-- bits past the end are counted by the fetch, or by the place that ran on: the same, whatever the total n was
over_cut : (l : List ℕ) (p c n : ℕ) → added (added n (p - ends l)) (over l (min p (ends l)) c) ≡ added n (ran_on l p c - ends l)
over_cut l p c n = over_run l p c n ∙ stops (p + c - ends l) (ran_on l p c - ends l) (omega arith)
  where
    stops : (j k : ℕ) → k ≡ min j past_most → added n j ≡ added n k
    stops j k h = omega arith

pub settled_fetched : (l : List ℕ) (e : Engine) (x : Interval) (r o c : ℕ)
    → fetched l (settled l e x) r o c ≡ settled l e (fetched_on l x r o c)
unfolding settled fetched fetched_on
settled_fetched l e x r o c =
    let b = bits_cut l (place_of x) c in
    let a : after l (min (place_of x) (ends l)) c ≡ min (ran_on l (place_of x) c) (ends l) = omega arith in
    let v = over_cut l (place_of x) c e.past in
    cc

-- ---- the steps
pub settled_decided : (l : List ℕ) (e : Engine) (x : Interval) (ctx : ℕ)
    → decided l (settled l e x) ctx ≡ record { bit = (decided_on l x ctx).bit; ctx = (decided_on l x ctx).ctx; next = settled l e (decided_on l x ctx).next }
unfolding decided decided_on settled
settled_decided l e x ctx =
    let s = split x.range x.offset ctx in
    let c = count_leading_zeros 9 s.range in
    ap (λ (n : Engine). record { bit = s.bit; ctx = s.ctx; next = n }) (settled_fetched l e x (s.range * 2 ^ c) s.offset c)

pub settled_bypassed : (l : List ℕ) (e : Engine) (x : Interval) (c : ℕ)
    → bypassed l (settled l e x) c ≡ record { value = (bypassed_on l x c).value; next = settled l e (bypassed_on l x c).next }
unfolding bypassed bypassed_on settled
settled_bypassed l e x c =
    ap (λ (f : Engine). record { value = f.offset / x.range; next = record { range = x.range; offset = f.offset % x.range; position = f.position; ended = e.ended; past = f.past } })
    (settled_fetched l e x x.range x.offset c)

-- ---- the runs
-- what the caller sees of a cursor, e being the state that the reading began from
abbrev pub seen : List ℕ → Engine → Cursor → Reading
seen l e r = record { engine = settled l e r.interval; contexts = r.contexts }

align_seen : (l : List ℕ) (e : Engine) (r : Cursor)
    → engine_align (seen l e r) ≡ map_took (seen l e) (with_contexts r.contexts (align_from false l r.interval))
unfolding engine_align align_from settled range_aligned
align_seen l e r = go (ltb r.interval.offset 256)
  where
    go : (b : Bool) → cond b (took false (record { engine = range_aligned (settled l e r.interval); contexts = r.contexts })) (refused 7)
        ≡ map_took (seen l e) (with_contexts r.contexts (cond b (took false (record { range = 256; offset = r.interval.offset; position = r.interval.position })) (refused 7)))
    go true = refl
    go false = refl

engine_follows : (l : List ℕ) (e : Engine) → Follows (by_code false l) (by_engine l) (seen l e) Any
unfolding by_code by_engine engine_bin engine_bypass bin_from context_from bypass_from
engine_follows l e =
    record {
      keeps = keeps_any (by_code false l);
      at_bin = λ c s p.
          ap (λ (d : Decided). took d.bit (record { engine = d.next; contexts = set s.contexts c d.ctx }))
          (settled_decided l e s.interval (get_or s.contexts c 0));
      at_bypass = λ s p.
          ap (λ (d : Drawn). took (leb 1 d.value) (record { engine = d.next; contexts = s.contexts }))
          (settled_bypassed l e s.interval 1);
      at_align = λ s p. align_seen l e s;
    }

-- a tree read by document 01's engine is the tree read by the code's source, settled at its end
pub run_settled : {B A : Type 0} (l : List ℕ) (e : Engine) (t : Syn B A) (x : Interval) (cs : List ℕ)
    → run (by_engine l) t (record { engine = settled l e x; contexts = cs }) ≡ map_out (seen l e) (run (by_code false l) t (cursor x cs))
run_settled l e t x cs = run_follows (by_code false l) (by_engine l) (seen l e) Any (engine_follows l e) t (cursor x cs) tt

pub run_opened : {B A : Type 0} (l : List ℕ) (e : Engine) (t : Syn B A) (cs : List ℕ) → place e ≤ ends l → e.past ≤ past_most
    → run (by_engine l) t (record { engine = e; contexts = cs }) ≡ map_out (seen l e) (run (by_code false l) t (cursor (opened e) cs))
run_opened l e t cs h k =
    ap (λ (f : Engine). run (by_engine l) t (record { engine = f; contexts = cs })) (sym (settled_opened l e h k)) ∙ run_settled l e t (opened e) cs
