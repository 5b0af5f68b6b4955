-- The source that a reader's code reads: a bin list or a payload, by a Bool, from an interval and the contexts.
use Rattle.std.specs.Prelude.{ℕ, ◌+◌, ◌*◌, ◌≤◌, ◌<◌, ◌≡◌, List, Bool, true, false, cond, length, get_or, set, ltb, leb, Result, Ok, Err}
use Rattle.bins.specs.declared.state.Interval.{Interval}
use Rattle.bins.specs.declared.state.Refusal.{Refusal}
use Rattle.bins.specs.declared.state.Taken.{Taken}
use Rattle.bins.specs.Engine.{bit_no}
use Rattle.bins.specs.Tags.{bypass_no, align_tag, is_entry}
use Rattle.bins.specs.Syn.{Took, took, refused, Source, Out, bin_of, run}
use Rattle.bins.specs.Readers.{bits_s}
use Rattle.bins.specs.Interval.{place_of, Goes, decided_on, bypassed_on}

-- ---- what the code's steps say
abbrev pub Step : Type 0
Step = Result Taken Refusal

abbrev pub got : ℕ → Interval → Step
got v y = Ok (record { value = v; next = y })

-- a refusal by its number and the interval at which it arose
abbrev pub refused_at : ℕ → Interval → Refusal
refused_at n x = record { number = n; at = x }

abbrev pub stopped : Refusal → Step
stopped r = Err r

-- x is the interval before the step: where it is refused, it is so there
abbrev pub step_of : Interval → Took Interval → Step
step_of x (took b y) = got (bit_no b) y
step_of x (refused n) = stopped (refused_at n x)

abbrev pub step_of_bits : Out Interval ℕ → Step
step_of_bits (Out.ok v x) = got v x
step_of_bits (Out.no n x) = stopped (refused_at n x)

-- ---- a list, by the place of its next byte: an entry is two
abbrev pub behind : Interval → Interval
behind x = record { range = x.range; offset = x.offset; position = record { 0 = place_of x + 2 } }

-- an entry as the code has it: the two bytes at place i as a number
pub record Tagged (l : List ℕ) (i t : ℕ) : Type 0 where
  pub is : t ≡ get_or l i 0 + 256 * get_or l (i + 1) 0
  pub low_byte : get_or l i 0 < 256
  pub high_byte : get_or l (i + 1) 0 < 256

unfoldable pub entry_bin : List ℕ → ℕ → Interval → Took Interval
entry_bin l c x =
    cond (ltb (place_of x + 1) (length l)) (bin_of c (get_or l (place_of x) 0) (get_or l (place_of x + 1) 0) (refused 13) (λ b. took b (behind x))) (refused 13)

unfoldable pub entry_align : List ℕ → Interval → Took Interval
entry_align l x =
    cond (ltb (place_of x + 1) (length l)) (cond (is_entry (get_or l (place_of x) 0) (get_or l (place_of x + 1) 0) align_tag) (took false (behind x)) (refused 13)) (refused 13)

-- ---- one step of either source
unfoldable pub bin_from : Bool → List ℕ → ℕ → ℕ → Interval → Took Interval
unfolding entry_bin
bin_from true l c ctx x = entry_bin l c x
bin_from false l c ctx x = let d = decided_on l x ctx in took d.bit d.next

-- the context behind it: a list changes none
unfoldable pub context_from : Bool → List ℕ → ℕ → Interval → ℕ
context_from true l ctx x = ctx
context_from false l ctx x = (decided_on l x ctx).ctx

unfoldable pub bypass_from : Bool → List ℕ → Interval → Took Interval
unfolding entry_bin
bypass_from true l x = entry_bin l bypass_no x
bypass_from false l x = let d = bypassed_on l x 1 in took (leb 1 d.value) d.next

unfoldable pub align_from : Bool → List ℕ → Interval → Took Interval
unfolding entry_align
align_from true l x = entry_align l x
align_from false l x =
    cond (ltb x.offset 256) (took false (record { range = 256; offset = x.offset; position = x.position })) (refused 7)

-- ---- the source
pub record Cursor : Type 0 where
  pub interval : Interval
  pub contexts : List ℕ

abbrev pub cursor : Interval → List ℕ → Cursor
cursor x cs = record { interval = x; contexts = cs }

-- a step's outcome with the contexts behind it
abbrev pub with_contexts : List ℕ → Took Interval → Took Cursor
with_contexts cs (took b x) = took b (cursor x cs)
with_contexts cs (refused n) = refused n

unfoldable pub by_code : Bool → List ℕ → Source Cursor
unfolding bin_from context_from bypass_from align_from
by_code s l =
    record {
      on_bin = λ c r.
          let ctx = get_or r.contexts c 0 in
          with_contexts (set r.contexts c (context_from s l ctx r.interval)) (bin_from s l c ctx r.interval);
      on_bypass = λ r. with_contexts r.contexts (bypass_from s l r.interval);
      on_align = λ r. with_contexts r.contexts (align_from s l r.interval);
    }

-- ---- several bypass bins
-- a list's entries, read one after the other behind v
unfoldable pub by_entries : List ℕ → Source Interval
unfolding entry_bin entry_align
by_entries l = record { on_bin = entry_bin l; on_bypass = entry_bin l bypass_no; on_align = entry_align l }

unfoldable pub entries_on : List ℕ → ℕ → ℕ → Interval → Out Interval ℕ
entries_on l n v x = run (by_entries l) (bits_s {B = ℕ} n v (λ t. t)) x

unfoldable pub bits_from : Bool → List ℕ → ℕ → Interval → Out Interval ℕ
unfolding entries_on
bits_from true l n x = entries_on l n 0 x
bits_from false l n x = let d = bypassed_on l x n in Out.ok d.value d.next

-- ---- what the steps need: in a payload a running engine, in a list a place of it
abbrev pub Readable : Bool → List ℕ → Interval → Type 0
Readable true l x = place_of x ≤ length l
Readable false l x = Goes l x
