-- What the code's functions need, a run of the code's source keeps; and several bypass bins at once are bins one after the other.
-- Assumes nothing.
use Rattle.std.specs.Prelude.{ℕ, zero, suc, ◌+◌, ◌-◌, ◌*◌, ◌/◌, ◌%◌, ◌^◌, ◌≤◌, ◌<◌, min, ◌≡◌, refl, Bool, true, false, cond, List, [], ◌∷◌, length, get_or, set, ltb, leb, eqb}
use Rattle.std.proofs.Common.{sym, ap, subst, ◌∙◌, arith, pow-suc, mod-eq_of_lt, length-set, ltb-true}
use Rattle.std.proofs.Math.Nat.{div-eq_of_lt}
use Rattle.bins.specs.declared.state.Interval.{Interval}
use Rattle.bins.specs.declared.state.Taken.{Taken}
use Rattle.bins.specs.Bits.{bits, ends, past_most}
use Rattle.bins.specs.Engine.{bit_no}
use Rattle.bins.specs.Tags.{tag, bypass_no, align_tag, is_entry}
use Rattle.bins.specs.Interval.{place_of, ran_on, Goes, fetched_on, decided_on, bypassed_on}
use Rattle.bins.specs.IntervalLaws.{decided_goes, decided_packed, bypassed_goes, bypassed_lt}
use Rattle.bins.specs.BypassLaws.{bypassed_add, bypassed_add_next}
use Rattle.bins.specs.Syn.{Syn, Took, took, refused, Source, Out, run, onward, pick_bin, bin_of}
use Rattle.bins.specs.Readers.{bits_s}
use Rattle.bins.specs.Sources.{Cursor, cursor, with_contexts, behind, entry_bin, entry_align, by_code, bin_from, context_from, bypass_from, align_from, by_entries, entries_on, bits_from, Readable}
use Rattle.bins.specs.Laws.{After, Keeps, map_took, map_out, Follows, Any, keeps_any, run_follows, run_keeps, Ends}

-- contexts that are packed contexts
abbrev pub Packed : List ℕ → Type 0
Packed cs = (i : ℕ) → get_or cs i 0 < 128

pub packed_set : (cs : List ℕ) (i v : ℕ) → Packed cs → v < 128 → Packed (set cs i v)
packed_set [] i v p h j = p j
packed_set (c ∷ cs) zero v p h zero = h
packed_set (c ∷ cs) zero v p h (suc j) = p (suc j)
packed_set (c ∷ cs) (suc i) v p h zero = p zero
packed_set (c ∷ cs) (suc i) v p h (suc j) = packed_set cs i v (λ k. p (suc k)) h j

-- what the steps need of a cursor
pub record Ready (s : Bool) (l : List ℕ) (n : ℕ) (r : Cursor) : Type 0 where
  pub readable : Readable s l r.interval
  pub packed : Packed r.contexts
  pub many : length r.contexts ≡ n

-- ---- one step
entry_ready : (l : List ℕ) (x : Interval) (t : Took Interval) → (b : Bool) → ltb (place_of x + 1) (length l) ≡ b
    → (b ≡ true → After (λ y. place_of y ≤ length l) t) → After (λ y. place_of y ≤ length l) (cond b t (refused 13))
entry_ready l x t true q h = h refl
entry_ready l x t false q h = tt

pick_ready : (l : List ℕ) (x : Interval) (u v : Bool) → place_of x + 1 < length l
    → After (λ y. place_of y ≤ length l) (pick_bin u v (refused 13) (λ b. took b (behind x)))
unfolding pick_bin
pick_ready l x true v h = omega arith
pick_ready l x false true h = omega arith
pick_ready l x false false h = tt

align_ready : (l : List ℕ) (x : Interval) (u : Bool) → place_of x + 1 < length l
    → After (λ y. place_of y ≤ length l) (cond u (took false (behind x)) (refused 13))
align_ready l x true h = omega arith
align_ready l x false h = tt

pub bin_readable : (l : List ℕ) (c : ℕ) (x : Interval) → After (λ y. place_of y ≤ length l) (entry_bin l c x)
unfolding entry_bin bin_of
bin_readable l c x =
    entry_ready l x (bin_of c (get_or l (place_of x) 0) (get_or l (place_of x + 1) 0) (refused 13) (λ b. took b (behind x))) (ltb (place_of x + 1) (length l)) refl
    (λ q. pick_ready l x (is_entry (get_or l (place_of x) 0) (get_or l (place_of x + 1) 0) (tag c false)) (is_entry (get_or l (place_of x) 0) (get_or l (place_of x + 1) 0) (tag c true)) (ltb-true _ _ q))

align_readable : (l : List ℕ) (x : Interval) → After (λ y. place_of y ≤ length l) (entry_align l x)
unfolding entry_align
align_readable l x =
    entry_ready l x (cond (is_entry (get_or l (place_of x) 0) (get_or l (place_of x + 1) 0) align_tag) (took false (behind x)) (refused 13)) (ltb (place_of x + 1) (length l)) refl
    (λ q. align_ready l x (is_entry (get_or l (place_of x) 0) (get_or l (place_of x + 1) 0) align_tag) (ltb-true _ _ q))

with_ready : (s : Bool) (l : List ℕ) (n : ℕ) (cs : List ℕ) (t : Took Interval) → Packed cs → length cs ≡ n → After (Readable s l) t
    → After (Ready s l n) (with_contexts cs t)
with_ready s l n cs (took b x) p q h = record { readable = h; packed = p; many = q }
with_ready s l n cs (refused m) p q h = tt

pub from_bin : (s : Bool) (l : List ℕ) (c ctx : ℕ) (x : Interval) → Readable s l x → After (Readable s l) (bin_from s l c ctx x)
unfolding bin_from
from_bin true l c ctx x h = bin_readable l c x
from_bin false l c ctx x h = decided_goes l x ctx h

pub from_context : (s : Bool) (l : List ℕ) (ctx : ℕ) (x : Interval) → ctx < 128 → context_from s l ctx x < 128
unfolding context_from
from_context true l ctx x h = h
from_context false l ctx x h = decided_packed l x ctx h

pub from_bypass : (s : Bool) (l : List ℕ) (x : Interval) → Readable s l x → After (Readable s l) (bypass_from s l x)
unfolding bypass_from
from_bypass true l x h = bin_readable l bypass_no x
from_bypass false l x h = bypassed_goes l x 1 h

align_goes : (l : List ℕ) (x : Interval) (b : Bool) → ltb x.offset 256 ≡ b → Goes l x
    → After (Readable false l) (cond b (took false (record { range = 256; offset = x.offset; position = x.position })) (refused 7))
align_goes l x true q h =
    record { short = h.short; fits = h.fits; least = omega arith; most = omega arith; below = ltb-true x.offset 256 q }
align_goes l x false q h = tt

pub from_align : (s : Bool) (l : List ℕ) (x : Interval) → Readable s l x → After (Readable s l) (align_from s l x)
unfolding align_from
from_align true l x h = align_readable l x
from_align false l x h = align_goes l x (ltb x.offset 256) refl h

pub code_keeps : (s : Bool) (l : List ℕ) (n : ℕ) → Keeps (by_code s l) (Ready s l n)
unfolding by_code
code_keeps s l n =
    record {
      at_bin = λ c r h.
          let ctx = get_or r.contexts c 0 in
          with_ready s l n (set r.contexts c (context_from s l ctx r.interval)) (bin_from s l c ctx r.interval)
          (packed_set r.contexts c (context_from s l ctx r.interval) h.packed (from_context s l ctx r.interval (h.packed c)))
          (length-set r.contexts c (context_from s l ctx r.interval) ∙ h.many)
          (from_bin s l c ctx r.interval h.readable);
      at_bypass = λ r h. with_ready s l n r.contexts (bypass_from s l r.interval) h.packed h.many (from_bypass s l r.interval h.readable);
      at_align = λ r h. with_ready s l n r.contexts (align_from s l r.interval) h.packed h.many (from_align s l r.interval h.readable);
    }

-- ---- several bypass bins: by the engine one division
none_next : (l : List ℕ) (x : Interval) → Goes l x → (bypassed_on l x 0).next ≡ x
unfolding bypassed_on fetched_on bits
none_next l x g =
    let s : x.offset * 1 + 0 ≡ x.offset = omega arith in
    let o : (x.offset * 1 + 0) % x.range ≡ x.offset = rw s (mod-eq_of_lt g.below) in
    let a : ran_on l (place_of x) 0 ≡ place_of x = omega (arith, g.fits) in
    let q : (bypassed_on l x 0).next ≡ record { range = x.range; offset = x.offset; position = record { 0 = place_of x } } = cc in
    q

pub bit_of : (v : ℕ) → v < 2 → bit_no (leb 1 v) ≡ v
bit_of zero h = refl
bit_of (suc zero) h = refl
bit_of (suc (suc v)) h = absurd (omega arith)

pub bits_run : {B : Type 0} (l : List ℕ) (n v : ℕ) (w : B → ℕ) (x : Interval) (cs : List ℕ) → Goes l x
    → run (by_code false l) (bits_s n v w) (cursor x cs) ≡ Out.ok (v * 2 ^ n + (bypassed_on l x n).value) (cursor (bypassed_on l x n).next cs)
unfolding run bits_s by_code bypass_from onward
bits_run l zero v w x cs g =
    let a : v * 1 + (bypassed_on l x 0).value ≡ v = omega (arith, bypassed_lt l x 0 g) in
    let b = none_next l x g in
    cc
bits_run l (suc n) v w x cs g =
    let d = bypassed_on l x 1 in
    let ih = bits_run l n (v * 2 + bit_no (leb 1 d.value)) w d.next cs (bypassed_goes l x 1 g) in
    let s : 1 + n ≡ suc n = omega arith in
    let val : (bypassed_on l x (suc n)).value ≡ d.value * 2 ^ n + (bypassed_on l d.next n).value =
    rw s at (bypassed_add l x 1 n (omega (arith, g.least))) in
    let nxt : (bypassed_on l x (suc n)).next ≡ (bypassed_on l d.next n).next = rw s at (bypassed_add_next l x 1 n) in
    let bit = bit_of d.value (bypassed_lt l x 1 g) in
    let sum : v * 2 ^ suc n + (bypassed_on l x (suc n)).value ≡ (v * 2 + bit_no (leb 1 d.value)) * 2 ^ n + (bypassed_on l d.next n).value =
    rw (bit, pow-suc) (omega (arith, val)) in
    ih ∙ cc

-- ---- and from a list entry after entry, whatever is wanted there
onward_same : (cs : List ℕ) (t : Took Interval) (x : Interval) (k : Bool → Cursor → Out Cursor ℕ) (g : Bool → Interval → Out Interval ℕ)
    → ((b : Bool) (y : Interval) → k b (cursor y cs) ≡ map_out (λ y. cursor y cs) (g b y))
    → onward (with_contexts cs t) (cursor x cs) k ≡ map_out (λ y. cursor y cs) (onward t x g)
unfolding onward
onward_same cs (took b y) x k g h = h b y
onward_same cs (refused n) x k g h = refl

entries_same : {B C : Type 0} (l : List ℕ) (n v : ℕ) (w : B → ℕ) (u : C → ℕ) (x : Interval) (cs : List ℕ)
    → run (by_code true l) (bits_s n v w) (cursor x cs) ≡ map_out (λ y. cursor y cs) (run (by_entries l) (bits_s n v u) x)
unfolding run bits_s by_code by_entries bypass_from
entries_same l zero v w u x cs = refl
entries_same l (suc n) v w u x cs =
    onward_same cs (entry_bin l bypass_no x) x (λ b r. run (by_code true l) (bits_s n (v * 2 + bit_no b) w) r) (λ b y. run (by_entries l) (bits_s n (v * 2 + bit_no b) u) y)
    (λ b y. entries_same l n (v * 2 + bit_no b) w u y cs)

-- several bypass bins, from either source
pub bits_from_lem : {B : Type 0} (s : Bool) (l : List ℕ) (n : ℕ) (w : B → ℕ) (x : Interval) (cs : List ℕ) → Readable s l x
    → run (by_code s l) (bits_s n 0 w) (cursor x cs) ≡ map_out (λ y. cursor y cs) (bits_from s l n x)
unfolding bits_from
bits_from_lem true l n w x cs h = unfold entries_on in entries_same l n 0 w (λ t. t) x cs
bits_from_lem false l n w x cs h =
    let e : 0 * 2 ^ n + (bypassed_on l x n).value ≡ (bypassed_on l x n).value = omega arith in
    bits_run l n 0 w x cs h ∙ ap (λ v. Out.ok v (cursor (bypassed_on l x n).next cs)) e
