-- The engine inside a block: range, offset and a place that runs on past the end. What the caller sees of it is cut to the end
-- once, where the block is done; that this is what document 01's engine gives, cut at each fetch, is proved in `Settled`.
use Rattle.std.specs.Prelude.{ℕ, ◌+◌, ◌-◌, ◌*◌, ◌/◌, ◌%◌, ◌^◌, ◌≤◌, ◌<◌, min, List, Bool, length}
use Rattle.std.specs.Int.Count.{count_leading_zeros}
use Rattle.bins.specs.declared.state.Engine.{Engine}
use Rattle.bins.specs.declared.state.Interval.{Interval}
use Rattle.bins.specs.declared.state.Taken.{Taken}
use Rattle.bins.specs.declared.fetch.Drawn.{Drawn}
use Rattle.bins.specs.Bits.{bits, ends, over, past_most, added}
use Rattle.bins.specs.Engine.{bit_no, split}

abbrev pub place_of : Interval → ℕ
place_of x = x.position.0

abbrev pub ran_on : List ℕ → ℕ → ℕ → ℕ
ran_on l p c = min (p + c) (ends l + past_most)

-- what the fetch of c bits at p answers: the bits, the place behind them, and how many of them it supplied past the end
abbrev pub supplied : List ℕ → ℕ → ℕ → Drawn
supplied l p c = record { bits = bits l p c; next = record { 0 = ran_on l p c }; past = over l p c }

-- an interval that the engine can have while it runs, over a payload of admitted length
pub record Goes (l : List ℕ) (x : Interval) : Type 0 where
  pub short : length l ≤ 16777216
  pub fits : place_of x ≤ ends l + past_most
  pub least : 256 ≤ x.range
  pub most : x.range ≤ 510
  pub below : x.offset < x.range

-- what renormalising needs
pub record Renorms (l : List ℕ) (x : Interval) (r o : ℕ) : Type 0 where
  pub short : length l ≤ 16777216
  pub fits : place_of x ≤ ends l + past_most
  pub some : 0 < r
  pub nine : r ≤ 510
  pub below : o < r

-- ---- the steps of `Engine`, on an interval
unfoldable pub fetched_on : List ℕ → Interval → ℕ → ℕ → ℕ → Interval
fetched_on l x r o c =
    record { range = r; offset = o * 2 ^ c + bits l (place_of x) c; position = record { 0 = ran_on l (place_of x) c } }

abbrev pub renormed_on : List ℕ → Interval → ℕ → ℕ → Interval
renormed_on l x r o = let c = count_leading_zeros 9 r in fetched_on l x (r * 2 ^ c) o c

pub record DecidedOn : Type 0 where
  pub bit : Bool
  pub ctx : ℕ
  pub next : Interval

unfoldable pub decided_on : List ℕ → Interval → ℕ → DecidedOn
decided_on l x ctx =
    let s = split x.range x.offset ctx in
    record { bit = s.bit; ctx = s.ctx; next = renormed_on l x s.range s.offset }

-- the same as the code's step says it
abbrev pub decided_value : List ℕ → Interval → ℕ → Taken
decided_value l x ctx = let d = decided_on l x ctx in record { value = bit_no d.bit; next = d.next }

unfoldable pub bypassed_on : List ℕ → Interval → ℕ → Taken
bypassed_on l x c =
    let f = fetched_on l x x.range x.offset c in
    record {
      value = f.offset / x.range;
      next = record { range = x.range; offset = f.offset % x.range; position = f.position };
    }

-- ---- from a state to an interval and back
abbrev pub opened : Engine → Interval
opened e = record { range = e.range; offset = e.offset; position = record { 0 = e.position.0 } }

-- e is the state that the interval was opened from; the place has run on past the end by as many bits as were drawn there
unfoldable pub settled : List ℕ → Engine → Interval → Engine
settled l e x =
    record {
      range = x.range;
      offset = x.offset;
      position = record { 0 = min (place_of x) (ends l) };
      ended = e.ended;
      past = added e.past (place_of x - ends l);
    }
