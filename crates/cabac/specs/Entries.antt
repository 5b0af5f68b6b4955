-- What each entry point of the engine answers, for everything that it can be handed. Refusals come in document 01's order.
use Rattle.std.specs.Prelude.{ℕ, zero, suc, min, List, [], cond, length, drop, replicate, eqb, Result, Ok, Err}
use Rattle.bins.specs.declared.state.Engine.{Engine}
use Rattle.cabac.specs.declared.answers.DecidedBin.{DecidedBin}
use Rattle.cabac.specs.declared.answers.ReadBins.{ReadBins}
use Rattle.bins.specs.declared.state.Taken.{Taken}
use Rattle.bins.specs.declared.fetch.Drawn as fetch
use Rattle.bins.specs.Bits.{ends, added}
use Rattle.bins.specs.Interval.{settled}
use Rattle.bins.specs.Tags.{context_count}
use Rattle.cabac.specs.Contexts.{initial_all}
use Rattle.bins.specs.Engine.{Decided, Drawn, fetched, started, decided, bypassed, terminated, range_aligned, byte_aligned, restarted, raw_bits, aligned_byte}
use Rattle.cabac.specs.Numbers.{Answer, accepted, refused, ◌or_else◌, unless, payload_refusal, state_refusal, context_refusal, count_refusal, offset_refusal, ended_refusal, alignment_refusal}

-- ---- what the code's answers say: document 01's number, 0 with the values
abbrev pub state_says : Result Engine ℕ → Answer Engine
state_says (Ok e) = accepted e
state_says (Err n) = refused n

abbrev pub decision_says : Result DecidedBin ℕ → Answer Decided
decision_says (Ok d) = accepted (record { bit = d.bin; ctx = d.context; next = d.state })
decision_says (Err n) = refused n

abbrev pub bins_say : Result ReadBins ℕ → Answer Drawn
bins_say (Ok r) = accepted (record { value = r.value; next = r.state })
bins_say (Err n) = refused n

-- what a step took, seen from the state e that it was opened from
abbrev pub drawn_at : List ℕ → Engine → Taken → Answer Drawn
drawn_at l e t = accepted (record { value = t.value; next = settled l e t.next })

-- the state e behind a fetch at its place that answered d, with range r and offset o
abbrev pub behind_fetch : List ℕ → Engine → ℕ → ℕ → fetch.Drawn → Engine
behind_fetch l e r o d =
    record {
      range = r;
      offset = o;
      position = record { 0 = min d.next.0 (ends l) };
      ended = e.ended;
      past = added e.past d.past;
    }

-- ---- the entry points
-- nine bits at the place of a state are its offset: 5
unfoldable pub started_at : List ℕ → Engine → Answer Engine
started_at l e = let f = fetched l e 510 0 9 in unless (offset_refusal f) f

-- start: 1, 2, 5
unfoldable pub start : List ℕ → Answer Engine
start l = unless (payload_refusal l or_else offset_refusal (started l)) (started l)

-- a decision on one packed context: 1, 2, 3, 6
unfoldable pub decision : List ℕ → Engine → ℕ → Answer Decided
decision l e ctx =
    unless (payload_refusal l or_else state_refusal l e or_else context_refusal ctx or_else ended_refusal e) (decided l e ctx)

-- c bypass bins: 1, 2, 4, 3, 6
unfoldable pub bypass_bits : List ℕ → Engine → ℕ → Answer Drawn
bypass_bits l e c =
    unless (payload_refusal l or_else count_refusal c or_else state_refusal l e or_else ended_refusal e) (bypassed l e c)

-- terminate: 1, 2, 3, 6
unfoldable pub terminate : List ℕ → Engine → Answer Drawn
terminate l e = unless (payload_refusal l or_else state_refusal l e or_else ended_refusal e) (terminated l e)

-- alignment of the range, as before escape data: 1, 2, 3, 6, 7
unfoldable pub align_bypass : List ℕ → Engine → Answer Engine
align_bypass l e =
    unless (payload_refusal l or_else state_refusal l e or_else ended_refusal e or_else alignment_refusal e) (range_aligned e)

-- byte alignment: 1, 2, 3
unfoldable pub byte_align : List ℕ → Engine → Answer Engine
byte_align l e = unless (payload_refusal l or_else state_refusal l e) (byte_aligned e)

-- the rest of the payload from there; nothing where byte alignment refuses
unfoldable pub rest_of : List ℕ → Engine → List ℕ
rest_of l e = cond (eqb (payload_refusal l or_else state_refusal l e) 0) (drop (aligned_byte e) l) []

-- restart: 1, 2, 3, 5
unfoldable pub restart : List ℕ → Engine → Answer Engine
restart l e =
    unless (payload_refusal l or_else state_refusal l e or_else offset_refusal (restarted l e)) (restarted l e)

-- c raw bits: 1, 2, 4, 3
unfoldable pub raw : List ℕ → Engine → ℕ → Answer Drawn
raw l e c = unless (payload_refusal l or_else count_refusal c or_else state_refusal l e) (raw_bits l e c)

-- ---- initialisation of the lent contexts and statistics: 4 unless there is a value for each context
unfoldable pub values_refusal : List ℕ → ℕ
values_refusal values = cond (eqb (length values) context_count) 0 4

-- the contexts, and the statistics, behind a call that gave the number n
unfoldable pub contexts_after : ℕ → List ℕ → List ℕ → ℕ → List ℕ
contexts_after zero cs values q = initial_all q values
contexts_after (suc n) cs values q = cs

unfoldable pub statistics_after : ℕ → List ℕ → List ℕ
statistics_after zero stats = replicate 4 0
statistics_after (suc n) stats = stats
