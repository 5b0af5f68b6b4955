-- The entry points as their code comes to its answers. Assumes nothing.
use Rattle.std.specs.Prelude.{ℕ, zero, suc, ◌+◌, ◌-◌, ◌*◌, ◌/◌, ◌%◌, ◌^◌, ◌≤◌, ◌<◌, min, max, Bool, cond, List, [], ◌∷◌, ◌++◌, map, length, get_or, set, take, drop, leb}
use Rattle.std.proofs.Math.Path.{◌≡◌, refl, sym, ap}
use Rattle.std.proofs.Common.{ap₂, subst, ◌∙◌, add-one, mul-le-mul_right, mul-le-mul_left, length-set, length-drop, take_all, take-suc, take-suc-set, drop-set-lt, drop-cons, length-take-le, get_or-set_same, ltb-true, ltb-false, lt-ltb, le-ltb, eq-eqb, ne_eqb, le-leb}
use Rattle.std.proofs.Math.Bool.{true, false}
use native.Mathlib.Omega.{arith}
use Rattle.std.proofs.lemmas.List.{length-map}
use Rattle.std.proofs.Math.ListN.{get_or-map}
use Rattle.std.proofs.Math.Seq.{take-nil, drop-length}
use Rattle.std.proofs.Math.Dec.{ltb, eqb}
use Rattle.std.specs.Int.Count.{count_leading_zeros}
use Rattle.std.proofs.lemmas.Bool.{lt-leb}
use Rattle.bins.specs.declared.state.Engine.{Engine}
use Rattle.bins.specs.declared.state.Interval.{Interval}
use Rattle.bins.specs.declared.state.Taken.{Taken}
use Rattle.bins.specs.declared.places.BitPlace.{BitPlace}
use Rattle.bins.specs.declared.fetch.Drawn as fetch
use Rattle.bins.specs.Bits.{bits, ends, after, past_most, added}
use Rattle.bins.specs.Tags.{context_count}
use Rattle.cabac.specs.Contexts.{slope_raised, pre_raised, held, packed, initial, initial_all}
use Rattle.bins.specs.Engine.{bit_no, place, fetched, renormed, started, Decided, decided, Drawn, bypassed, terminated_by, terminated, range_aligned, aligned_byte, byte_aligned, restarted, raw_bits}
use Rattle.bins.specs.Interval.{place_of, ran_on, supplied, Goes, Renorms, renormed_on, decided_on, decided_value, bypassed_on, opened, settled}
use Rattle.bins.specs.EngineRuns.{Runs, runs_goes}
use Rattle.cabac.specs.Numbers.{Answer, accepted, refused, ◌or_else◌, unless, payload_refusal, state_refusal, context_refusal, count_refusal, offset_refusal, ended_refusal, alignment_refusal}
use Rattle.cabac.specs.NumberLaws.{or_else_assoc, or_else_first, or_else_rest, or_else_zero, unless_no, unless_yes, payload_passed, state_fits, state_counts, state_runs, context_high, context_fine, count_high, count_fine, count_passed, offset_high, offset_fine, ended_is, ended_not, alignment_high, alignment_fine}
use Rattle.bins.specs.Syn.{Took, took, Reading, engine_align}
use Rattle.bins.specs.Settled.{settled_opened, settled_fetched, settled_decided, settled_bypassed}
use Rattle.cabac.specs.Entries.{drawn_at, behind_fetch, started_at, start, decision, bypass_bits, terminate, align_bypass, byte_align, rest_of, restart, raw, values_refusal, contexts_after, statistics_after}

-- ---- initialisation
pub slope_small : (v q : ℕ) → v ≤ 255 → q ≤ 51 → 5 * (v / 16) * q ≤ 3825
slope_small v q h k =
    let a : 5 * (v / 16) * q ≤ 5 * (v / 16) * 51 = mul-le-mul_left (5 * (v / 16)) k in omega arith

pub initial_code : (v q qq s p r : ℕ) → qq ≡ min q 51 → s ≡ slope_raised v qq / 16 → p ≡ held (s + 8 * (v % 16)) → r ≡ packed p → r ≡ initial v q
unfolding initial pre_raised
initial_code v q qq s p r a b d e = cc

pub pack_high : (p : ℕ) → 64 ≤ p → p ≡ packed p
pack_high p h = rw (le-leb 64 p h)

pub pack_low : (p : ℕ) → p < 64 → 63 - p ≡ packed p
pack_low p h = rw (lt-leb 64 p h)

-- the contexts of the first i values are there
pub record Inited (values : List ℕ) (q i : ℕ) (cs : List ℕ) : Type 0 where
  pub few : i ≤ context_count
  pub many : length cs ≡ context_count
  pub made : take i cs ≡ take i (initial_all q values)

pub inited_again : (values : List ℕ) (q i : ℕ) (cs : List ℕ) (v : ℕ) → Inited values q i cs → i < context_count → length values ≡ context_count
    → v ≡ initial (get_or values i 0) q → Inited values q (i + 1) (set cs i v)
unfolding initial_all
inited_again values q i cs v h k n e =
    let f : ℕ → ℕ = λ v. initial v q in
    let m : i < length (map f values) = rw length-map (omega arith) in
    let a : take (suc i) (set cs i v) ≡ take i cs ++ (v ∷ []) = take-suc-set cs i v (omega (arith, h.many)) in
    let b : take (suc i) (map f values) ≡ take i (map f values) ++ (get_or (map f values) i (f 0) ∷ []) = take-suc (map f values) i (f 0) m in
    let d : get_or (map f values) i (f 0) ≡ f (get_or values i 0) = get_or-map f values i 0 in
    let w = h.made in
    record { few = omega arith; many = length-set cs i v ∙ h.many; made = rw (add-one i) (a ∙ cc) }

pub inited_all : (values cs : List ℕ) (q i : ℕ) → Inited values q i cs → context_count ≤ i → length values ≡ context_count → cs ≡ initial_all q values
unfolding initial_all
inited_all values cs q i h g n =
    let f : ℕ → ℕ = λ v. initial v q in
    let m : length (map f values) ≡ context_count = length-map values f ∙ n in
    let a : take i cs ≡ cs = take_all i cs (omega (arith, h.many)) in
    let b : take i (map f values) ≡ map f values = take_all i (map f values) (omega arith) in
    let w = h.made in
    cc

-- ---- cut to the end
pub settle_code : (l : List ℕ) (e : Engine) (x : Interval) (at : BitPlace) (n : ℕ) → at.0 ≡ min (place_of x) (ends l) → n ≡ added e.past (place_of x - ends l)
    → ◌≡◌ {A = Engine} (record { range = x.range; offset = x.offset; position = at; ended = e.ended; past = n }) (settled l e x)
unfolding settled
settle_code l e x at n p q =
    let w : at ≡ record { 0 = min (place_of x) (ends l) } = ap (λ (k : ℕ). record { 0 = k }) p in cc

pub behind_code : (l : List ℕ) (e : Engine) (r o : ℕ) (d : fetch.Drawn) (at : BitPlace) (n : ℕ) → at.0 ≡ min d.next.0 (ends l) → n ≡ added e.past d.past
    → ◌≡◌ {A = Engine} (record { range = r; offset = o; position = at; ended = e.ended; past = n }) (behind_fetch l e r o d)
behind_code l e r o d at n p q =
    let w : at ≡ record { 0 = min d.next.0 (ends l) } = ap (λ (k : ℕ). record { 0 = k }) p in cc

-- the place that ran on, cut, is where document 01's fetch leaves it
cut_ran : (l : List ℕ) (p c : ℕ) → min (ran_on l p c) (ends l) ≡ after l p c
cut_ran l p c = omega arith

-- what a step of a tree by the engine answers
abbrev pub step_says : Took Reading → Answer Engine
step_says (took b r) = accepted r.engine
step_says (Took.refused n) = refused n

-- ---- the numbers, as the code finds them one after the other
module _ (l : List ℕ) (e : Engine) where
  pub first_no : (n : ℕ) (b : ℕ) → n ≡ (payload_refusal l or_else state_refusal l e) → (n ≡ 0 → ⊥) → n ≡ (payload_refusal l or_else state_refusal l e or_else b)
  first_no n b q h = or_else_first n (payload_refusal l or_else state_refusal l e) b q h ∙ or_else_assoc (payload_refusal l) (state_refusal l e) b

  pub first_passed : (n b : ℕ) → 0 ≡ (payload_refusal l or_else state_refusal l e) → n ≡ b → n ≡ (payload_refusal l or_else state_refusal l e or_else b)
  first_passed n b q h = or_else_rest n (payload_refusal l or_else state_refusal l e) b q h ∙ or_else_assoc (payload_refusal l) (state_refusal l e) b

  pub passed_runs : 0 ≡ (payload_refusal l or_else state_refusal l e) → e.ended ≡ false → Runs l e
  passed_runs q h = let z = or_else_zero (payload_refusal l) (state_refusal l e) q in state_runs l e z.0 z.1 h

  pub passed_fits : 0 ≡ (payload_refusal l or_else state_refusal l e) → (length l ≤ 16777216) × (place e ≤ ends l) × (e.past ≤ past_most)
  passed_fits q =
      let z = or_else_zero (payload_refusal l) (state_refusal l e) q in (payload_passed l z.0, state_fits l e z.1, state_counts l e z.1)

  -- a state that passed is what opening and settling gives
  passed_opened : 0 ≡ (payload_refusal l or_else state_refusal l e) → settled l e (opened e) ≡ e
  passed_opened q = let p = passed_fits q in settled_opened l e p.1 p.2

  -- ---- alignment of the range
  pub align_bypass_no : (n : ℕ) → n ≡ (payload_refusal l or_else state_refusal l e) → (n ≡ 0 → ⊥) → refused n ≡ align_bypass l e
  unfolding align_bypass
  align_bypass_no n q h = unless_no n _ (range_aligned e) (first_no n (ended_refusal e or_else alignment_refusal e) q h) h

  pub align_bypass_ended : 0 ≡ (payload_refusal l or_else state_refusal l e) → e.ended ≡ true → refused 6 ≡ align_bypass l e
  unfolding align_bypass
  align_bypass_ended q k =
      unless_no 6 _ (range_aligned e) (first_passed 6 (ended_refusal e or_else alignment_refusal e) q
      (or_else_first 6 (ended_refusal e) (alignment_refusal e) (ended_is e k) (λ z. omega arith))) (λ z. omega arith)

  pub align_bypass_high : 0 ≡ (payload_refusal l or_else state_refusal l e) → e.ended ≡ false → 256 ≤ e.offset → refused 7 ≡ align_bypass l e
  unfolding align_bypass
  align_bypass_high q k h =
      unless_no 7 _ (range_aligned e) (first_passed 7 (ended_refusal e or_else alignment_refusal e) q
      (or_else_rest 7 (ended_refusal e) (alignment_refusal e) (ended_not e k) (alignment_high e h))) (λ z. omega arith)

  pub align_bypass_yes : 0 ≡ (payload_refusal l or_else state_refusal l e) → e.ended ≡ false → e.offset < 256
      → accepted (record { range = 256; offset = e.offset; position = e.position; ended = e.ended; past = e.past }) ≡ align_bypass l e
  unfolding align_bypass range_aligned
  align_bypass_yes q k h =
      unless_yes _ _ (range_aligned e) (first_passed 0 (ended_refusal e or_else alignment_refusal e) q
      (or_else_rest 0 (ended_refusal e) (alignment_refusal e) (ended_not e k) (alignment_fine e h))) refl

  -- the same as where a block's tree aligns
  pub aligned_step : (contexts : List ℕ) → 0 ≡ (payload_refusal l or_else state_refusal l e) → e.ended ≡ false
      → step_says (engine_align (record { engine = e; contexts = contexts })) ≡ align_bypass l e
  unfolding engine_align range_aligned
  aligned_step contexts q k = go (ltb e.offset 256) refl
    where
      go : (d : Bool) → ltb e.offset 256 ≡ d
          → step_says (cond d (took false (record { engine = range_aligned e; contexts = contexts })) (Took.refused 7)) ≡ align_bypass l e
      go true h = align_bypass_yes q k (ltb-true e.offset 256 h)
      go false h = align_bypass_high q k (ltb-false e.offset 256 h)

  -- ---- byte alignment
  pub byte_align_no : (n : ℕ) → n ≡ (payload_refusal l or_else state_refusal l e) → (n ≡ 0 → ⊥) → refused n ≡ byte_align l e
  unfolding byte_align
  byte_align_no n q h = unless_no n _ (byte_aligned e) q h

  pub byte_align_yes : (p : BitPlace) → 0 ≡ (payload_refusal l or_else state_refusal l e) → p.0 ≡ aligned_byte e * 8
      → accepted (record { range = e.range; offset = e.offset; position = p; ended = e.ended; past = e.past }) ≡ byte_align l e
  unfolding byte_align byte_aligned
  byte_align_yes p q h =
      let w : p ≡ record { 0 = aligned_byte e * 8 } = ap (λ (k : ℕ). record { 0 = k }) h in
      unless_yes (payload_refusal l or_else state_refusal l e) _ (byte_aligned e) q (cc)

  pub rest_no : (n : ℕ) → n ≡ (payload_refusal l or_else state_refusal l e) → (n ≡ 0 → ⊥) → [] ≡ rest_of l e
  unfolding rest_of
  rest_no n q h = rw (ne_eqb (payload_refusal l or_else state_refusal l e) 0 (λ z. h (q ∙ z)))

  pub rest_yes : 0 ≡ (payload_refusal l or_else state_refusal l e) → drop (aligned_byte e) l ≡ rest_of l e
  unfolding rest_of
  rest_yes q = rw (eq-eqb (payload_refusal l or_else state_refusal l e) 0 (sym q))

  -- ---- nine bits
  pub started_no : (o : ℕ) → o ≡ bits l (place e) 9 → 510 ≤ o → refused 5 ≡ started_at l e
  unfolding started_at fetched
  started_no o q h = unless_no 5 _ _ (offset_high _ (omega arith)) (λ z. omega arith)

  nine_behind : behind_fetch l e 510 (bits l (place e) 9) (supplied l (place e) 9) ≡ fetched l e 510 0 9
  unfolding fetched
  nine_behind =
      let o : bits l (place e) 9 ≡ 0 * 2 ^ 9 + bits l (place e) 9 = omega arith in
      let a = cut_ran l (place e) 9 in
      cc

  pub started_yes : (d : fetch.Drawn) (f : Engine) → d ≡ supplied l (place e) 9 → d.bits < 510 → f ≡ behind_fetch l e 510 d.bits d → accepted f ≡ started_at l e
  unfolding started_at
  started_yes d f q h r =
      let o : d.bits ≡ bits l (place e) 9 = ap (λ (k : fetch.Drawn). k.bits) q in
      let s : f ≡ fetched l e 510 0 9 = r ∙ ap (λ (k : fetch.Drawn). behind_fetch l e 510 k.bits k) q ∙ nine_behind in
      let t : (fetched l e 510 0 9).offset < 510 = omega (arith, ap (λ (z : Engine). z.offset) nine_behind) in
      unless_yes (offset_refusal (fetched l e 510 0 9)) f (fetched l e 510 0 9) (offset_fine (fetched l e 510 0 9) t) s

  -- ---- restart
  pub restart_no : (n : ℕ) → n ≡ (payload_refusal l or_else state_refusal l e) → (n ≡ 0 → ⊥) → refused n ≡ restart l e
  unfolding restart
  restart_no n q h = unless_no n _ (restarted l e) (first_no n (offset_refusal (restarted l e)) q h) h

  -- x is where it starts, and o what that answers
  pub restart_yes : (o : Answer Engine) (x : Engine) → 0 ≡ (payload_refusal l or_else state_refusal l e)
      → x ≡ record { range = 510; offset = 0; position = record { 0 = aligned_byte e * 8 }; ended = false; past = e.past }
      → o ≡ started_at l x → o ≡ restart l e
  unfolding restart restarted started_at
  restart_yes o x q w r =
      let f = restarted l e in
      let k : offset_refusal f ≡ (payload_refusal l or_else state_refusal l e or_else offset_refusal f) = first_passed (offset_refusal f) (offset_refusal f) q refl in
      let s : fetched l x 510 0 9 ≡ f = ap (λ (z : Engine). fetched l z 510 0 9) w in
      r ∙ ap (λ (z : Engine). unless (offset_refusal z) z) s ∙ ap (λ n. unless n f) k

  -- ---- a decision
  pub decision_no : (ctx n : ℕ) → n ≡ (payload_refusal l or_else state_refusal l e) → (n ≡ 0 → ⊥) → refused n ≡ decision l e ctx
  unfolding decision
  decision_no ctx n q h = unless_no n _ (decided l e ctx) (first_no n (context_refusal ctx or_else ended_refusal e) q h) h

  pub decision_context : (ctx : ℕ) → 0 ≡ (payload_refusal l or_else state_refusal l e) → 127 < ctx → refused 3 ≡ decision l e ctx
  unfolding decision
  decision_context ctx q h =
      unless_no 3 _ (decided l e ctx)
      (first_passed 3 (context_refusal ctx or_else ended_refusal e) q (or_else_first 3 (context_refusal ctx) (ended_refusal e) (context_high ctx h) (λ z. omega arith))) (λ z. omega arith)

  pub decision_ended : (ctx : ℕ) → 0 ≡ (payload_refusal l or_else state_refusal l e) → ctx ≤ 127 → e.ended ≡ true → refused 6 ≡ decision l e ctx
  unfolding decision
  decision_ended ctx q h k =
      unless_no 6 _ (decided l e ctx)
      (first_passed 6 (context_refusal ctx or_else ended_refusal e) q (or_else_rest 6 (context_refusal ctx) (ended_refusal e) (context_fine ctx h) (ended_is e k))) (λ z. omega arith)

  pub decision_yes : (ctx : ℕ) (t : Taken) (c : ℕ) (f : Engine) → 0 ≡ (payload_refusal l or_else state_refusal l e) → ctx ≤ 127 → e.ended ≡ false
      → t ≡ decided_value l (opened e) ctx → c ≡ (decided_on l (opened e) ctx).ctx → f ≡ settled l e t.next
      → accepted (record { bit = eqb t.value 1; ctx = c; next = f }) ≡ decision l e ctx
  unfolding decision
  decision_yes ctx t c f q h k p r s =
      let d = decided_on l (opened e) ctx in
      let n : 0 ≡ (payload_refusal l or_else state_refusal l e or_else context_refusal ctx or_else ended_refusal e) =
      first_passed 0 (context_refusal ctx or_else ended_refusal e) q (or_else_rest 0 (context_refusal ctx) (ended_refusal e) (context_fine ctx h) (ended_not e k)) in
      let o = passed_opened q in
      let m = settled_decided l e (opened e) ctx in
      let b : eqb t.value 1 ≡ d.bit = ap (λ (u : Taken). eqb u.value 1) p ∙ is-bit d.bit in
      let g : f ≡ settled l e d.next = s ∙ ap (λ (u : Taken). settled l e u.next) p in
      let w : ◌≡◌ {A = Decided} (record { bit = eqb t.value 1; ctx = c; next = f }) (decided l e ctx) =
      let v : decided l e ctx ≡ record { bit = d.bit; ctx = d.ctx; next = settled l e d.next } = ap (λ (u : Engine). decided l u ctx) (sym o) ∙ m in
      cc in
      unless_yes _ _ (decided l e ctx) n w
    where
      is-bit : (b : Bool) → eqb (bit_no b) 1 ≡ b
      is-bit true = refl
      is-bit false = refl

  -- ---- bypass
  pub bypass_no_lem : (c n : ℕ) → n ≡ (payload_refusal l or_else count_refusal c or_else state_refusal l e) → (n ≡ 0 → ⊥) → refused n ≡ bypass_bits l e c
  unfolding bypass_bits
  bypass_no_lem c n q h = unless_no n _ (bypassed l e c) (counted-no c n (ended_refusal e) q h) h
    where
      counted-no : (c n b : ℕ) → n ≡ (payload_refusal l or_else count_refusal c or_else state_refusal l e) → (n ≡ 0 → ⊥)
          → n ≡ (payload_refusal l or_else count_refusal c or_else state_refusal l e or_else b)
      counted-no c n b q h =
          or_else_first n (payload_refusal l or_else count_refusal c or_else state_refusal l e) b q h
          ∙ or_else_assoc (payload_refusal l) (count_refusal c or_else state_refusal l e) b
          ∙ ap (λ z. payload_refusal l or_else z) (or_else_assoc (count_refusal c) (state_refusal l e) b)

  counted_passed : (c n b : ℕ) → 0 ≡ (payload_refusal l or_else count_refusal c or_else state_refusal l e) → n ≡ b
      → n ≡ (payload_refusal l or_else count_refusal c or_else state_refusal l e or_else b)
  counted_passed c n b q h =
      or_else_rest n (payload_refusal l or_else count_refusal c or_else state_refusal l e) b q h
      ∙ or_else_assoc (payload_refusal l) (count_refusal c or_else state_refusal l e) b
      ∙ ap (λ z. payload_refusal l or_else z) (or_else_assoc (count_refusal c) (state_refusal l e) b)

  -- what passing says
  pub counted : (c : ℕ) → 0 ≡ (payload_refusal l or_else count_refusal c or_else state_refusal l e)
      → (0 ≡ (payload_refusal l or_else state_refusal l e)) × (c ≤ 32)
  counted c q =
      let z = or_else_zero (payload_refusal l) (count_refusal c or_else state_refusal l e) q in
      let y = or_else_zero (count_refusal c) (state_refusal l e) z.1 in
      (or_else_rest 0 (payload_refusal l) (state_refusal l e) z.0 y.1, count_passed c y.0)

  pub counted_one : (n c : ℕ) → c ≤ 32 → n ≡ (payload_refusal l or_else state_refusal l e) → n ≡ (payload_refusal l or_else count_refusal c or_else state_refusal l e)
  counted_one n c h q = q ∙ ap (λ z. payload_refusal l or_else z) (or_else_rest (state_refusal l e) (count_refusal c) (state_refusal l e) (count_fine c h) refl)

  pub bypass_ended : (c : ℕ) → 0 ≡ (payload_refusal l or_else count_refusal c or_else state_refusal l e) → e.ended ≡ true → refused 6 ≡ bypass_bits l e c
  unfolding bypass_bits
  bypass_ended c q k = unless_no 6 _ (bypassed l e c) (counted_passed c 6 (ended_refusal e) q (ended_is e k)) (λ z. omega arith)

  pub bypass_yes : (c : ℕ) (t : Taken) (a : Answer Drawn) → 0 ≡ (payload_refusal l or_else count_refusal c or_else state_refusal l e) → e.ended ≡ false
      → t ≡ bypassed_on l (opened e) c → a ≡ drawn_at l e t → a ≡ bypass_bits l e c
  unfolding bypass_bits
  bypass_yes c t a q k p r =
      let z = counted c q in
      let o = passed_opened z.0 in
      let v : bypassed l e c ≡ record { value = (bypassed_on l (opened e) c).value; next = settled l e (bypassed_on l (opened e) c).next } =
      ap (λ (u : Engine). bypassed l u c) (sym o) ∙ settled_bypassed l e (opened e) c in
      let w : ◌≡◌ {A = Drawn} (record { value = t.value; next = settled l e t.next }) (bypassed l e c) = cc in
      r ∙ unless_yes _ _ (bypassed l e c) (counted_passed c 0 (ended_refusal e) q (ended_not e k)) w

  -- ---- terminate
  pub terminate_no : (n : ℕ) → n ≡ (payload_refusal l or_else state_refusal l e) → (n ≡ 0 → ⊥) → refused n ≡ terminate l e
  unfolding terminate
  terminate_no n q h = unless_no n _ (terminated l e) (first_no n (ended_refusal e) q h) h

  pub terminate_ended : 0 ≡ (payload_refusal l or_else state_refusal l e) → e.ended ≡ true → refused 6 ≡ terminate l e
  unfolding terminate
  terminate_ended q k = unless_no 6 _ (terminated l e) (first_passed 6 (ended_refusal e) q (ended_is e k)) (λ z. omega arith)

  pub terminate_one : 0 ≡ (payload_refusal l or_else state_refusal l e) → e.ended ≡ false → e.range - 2 ≤ e.offset
      → accepted (record { value = 1; next = record { range = e.range - 2; offset = e.offset; position = e.position; ended = true; past = e.past } }) ≡ terminate l e
  unfolding terminate terminated
  terminate_one q k h =
      unless_yes _ _ (terminated l e) (first_passed 0 (ended_refusal e) q (ended_not e k)) (rw (le-ltb e.offset (e.range - 2) h) (unfold terminated_by in refl))

  pub terminate_renorms : 0 ≡ (payload_refusal l or_else state_refusal l e) → e.ended ≡ false → e.offset < e.range - 2 → Renorms l (opened e) (e.range - 2) e.offset
  terminate_renorms q k h =
      let r = passed_runs q k in
      record { short = r.short; fits = omega (arith, r.fits); some = omega arith; nine = omega (arith, r.most); below = h }

  pub terminate_zero : (x : Interval) (f : Engine) → 0 ≡ (payload_refusal l or_else state_refusal l e) → e.ended ≡ false → e.offset < e.range - 2
      → x ≡ renormed_on l (opened e) (e.range - 2) e.offset → f ≡ settled l e x → accepted (record { value = 0; next = f }) ≡ terminate l e
  unfolding terminate terminated terminated_by
  terminate_zero x f q k h p s =
      let c = count_leading_zeros 9 (e.range - 2) in
      let o = passed_opened q in
      let v : renormed l e (e.range - 2) e.offset ≡ settled l e (renormed_on l (opened e) (e.range - 2) e.offset) =
      ap (λ (u : Engine). fetched l u ((e.range - 2) * 2 ^ c) e.offset c) (sym o) ∙ settled_fetched l e (opened e) ((e.range - 2) * 2 ^ c) e.offset c in
      let w : f ≡ renormed l e (e.range - 2) e.offset = s ∙ ap (settled l e) p ∙ sym v in
      unless_yes _ _ (terminated l e) (first_passed 0 (ended_refusal e) q (ended_not e k))
      (ap (λ (u : Engine). record { value = 0; next = u }) w ∙ ap (λ b. terminated_by b l e) (sym (lt-ltb e.offset (e.range - 2) h)))

  -- ---- raw bits
  pub raw_no : (c n : ℕ) → n ≡ (payload_refusal l or_else count_refusal c or_else state_refusal l e) → (n ≡ 0 → ⊥) → refused n ≡ raw l e c
  unfolding raw
  raw_no c n q h = unless_no n _ (raw_bits l e c) q h

  pub raw_yes : (c : ℕ) (d : fetch.Drawn) (f : Engine) → 0 ≡ (payload_refusal l or_else count_refusal c or_else state_refusal l e)
      → d ≡ supplied l (place e) c → f ≡ behind_fetch l e e.range e.offset d → accepted (record { value = d.bits; next = f }) ≡ raw l e c
  unfolding raw raw_bits
  raw_yes c d f q p s =
      let v : d.bits ≡ bits l (place e) c = ap (λ (k : fetch.Drawn). k.bits) p in
      let a = cut_ran l (place e) c in
      let g : f ≡ (raw_bits l e c).next = s ∙ ap (behind_fetch l e e.range e.offset) p ∙ (cc) in
      unless_yes _ _ (raw_bits l e c) q (ap₂ (λ (k : ℕ) (z : Engine). record { value = k; next = z }) v g)

-- ---- start
pub start_no : (l : List ℕ) (n : ℕ) → n ≡ payload_refusal l → (n ≡ 0 → ⊥) → refused n ≡ start l
unfolding start
start_no l n q h = unless_no n _ (started l) (or_else_first n (payload_refusal l) (offset_refusal (started l)) q h) h

pub start_yes : (l : List ℕ) (o : Answer Engine) → 0 ≡ payload_refusal l
    → o ≡ started_at l (record { range = 510; offset = 0; position = record { 0 = 0 }; ended = false; past = 0 }) → o ≡ start l
unfolding start started started_at
start_yes l o q r =
    r ∙ ap (λ n. unless n (started l)) (or_else_rest (offset_refusal (started l)) (payload_refusal l) (offset_refusal (started l)) q refl)

-- ---- from the checks to what the steps need
module _ (l : List ℕ) (e : Engine) (x : Interval) (o : x ≡ opened e) (q : 0 ≡ (payload_refusal l or_else state_refusal l e)) (k : e.ended ≡ false) where
  pub opened_goes : Goes l x
  opened_goes = subst (Goes l) (sym o) (runs_goes l e (passed_runs l e q k))

  pub opened_renorms : e.offset < e.range - 2 → Renorms l x (e.range - 2) e.offset
  opened_renorms h = subst (λ (z : Interval). Renorms l z (e.range - 2) e.offset) (sym o) (terminate_renorms l e q k h)

-- ---- the parts of the payload that `rest` lends
pub rest_none : (l : List ℕ) → take (length l - length l) (drop (length l) l) ≡ []
rest_none l = rw (drop-length l) (take-nil (length l - length l))

pub rest_part : (l : List ℕ) (b k : ℕ) → b ≡ k → k ≤ length l → take (length l - b) (drop b l) ≡ drop k l
rest_part l b k q h = rw q (take_all (length l - k) (drop k l) (omega (arith, length-drop k l)))
