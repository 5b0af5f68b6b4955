-- The arithmetic engine of document 01 (H.265 9.3.2.5 and 9.3.4.3), as functions on its state.
use Rattle.std.specs.Prelude.{ℕ, ◌+◌, ◌-◌, ◌*◌, ◌/◌, ◌%◌, ◌^◌, List, Bool, true, false, not, cond, ltb, leb}
use Rattle.std.specs.Int.Count.{count_leading_zeros}
use Rattle.bins.specs.declared.state.Engine.{Engine}
use Rattle.bins.specs.Bits.{bits, after, over, added}
use Rattle.tables.specs.Tables.{val_mps, lps_of, on_mps, on_lps}

abbrev pub bit_no : Bool → ℕ
bit_no b = cond b 1 0

-- the position of an engine
abbrev pub place : Engine → ℕ
place e = e.position.0

-- ---- bits drawn
-- range r, and o with the next c bits behind it for the offset. Past the end the position stays there, and the bits are counted
unfoldable pub fetched : List ℕ → Engine → ℕ → ℕ → ℕ → Engine
fetched l e r o c =
    record {
      range = r;
      offset = o * 2 ^ c + bits l (place e) c;
      position = record { 0 = after l (place e) c };
      ended = e.ended;
      past = added e.past (over l (place e) c);
    }

-- renormalise (9.3.4.3.3): the shift is the number of leading zeros of the range above nine bits
abbrev pub renormed : List ℕ → Engine → ℕ → ℕ → Engine
renormed l e r o = let c = count_leading_zeros 9 r in fetched l e (r * 2 ^ c) o c

-- start (9.3.2.5): range 510, offset the first 9 bits
unfoldable pub started : List ℕ → Engine
started l =
    fetched l (record { range = 510; offset = 0; position = record { 0 = 0 }; ended = false; past = 0 }) 510 0 9

-- ---- a decision (9.3.4.3.2)
-- what it comes to before renormalising: the bin, the packed context behind it, range and offset
pub record Split : Type 0 where
  pub bit : Bool
  pub ctx : ℕ
  pub range : ℕ
  pub offset : ℕ

-- by whether the offset is below the range less rangeLPS (the favoured bin) or not
unfoldable pub split_by : Bool → ℕ → ℕ → ℕ → ℕ → Split
split_by true r o ctx lps = record { bit = val_mps ctx; ctx = on_mps ctx; range = r - lps; offset = o }
split_by false r o ctx lps = record { bit = not (val_mps ctx); ctx = on_lps ctx; range = lps; offset = o - (r - lps) }

unfoldable pub split : ℕ → ℕ → ℕ → Split
split r o ctx = let lps = lps_of ctx r in split_by (ltb o (r - lps)) r o ctx lps

-- a bin, the packed context behind it, and the state behind it
pub record Decided : Type 0 where
  pub bit : Bool
  pub ctx : ℕ
  pub next : Engine

unfoldable pub decided : List ℕ → Engine → ℕ → Decided
decided l e ctx =
    let s = split e.range e.offset ctx in
    record { bit = s.bit; ctx = s.ctx; next = renormed l e s.range s.offset }

-- ---- bypass (9.3.4.3.4), count c
-- bins as a number, and the state behind them
pub record Drawn : Type 0 where
  pub value : ℕ
  pub next : Engine

-- (offset·2^c + the next c bits) divided by range: the quotient is the answer, the remainder the new offset
unfoldable pub bypassed : List ℕ → Engine → ℕ → Drawn
bypassed l e c =
    let f = fetched l e e.range e.offset c in
    record {
      value = f.offset / e.range;
      next = record { range = e.range; offset = f.offset % e.range; position = f.position; ended = e.ended; past = f.past };
    }

-- ---- terminate (9.3.4.3.5): range less 2; offset at or above it answers 1 and ends the engine, with no renormalising
unfoldable pub terminated_by : Bool → List ℕ → Engine → Drawn
terminated_by true l e = record { value = 0; next = renormed l e (e.range - 2) e.offset }
terminated_by false l e =
    record {
      value = 1;
      next = record { range = e.range - 2; offset = e.offset; position = e.position; ended = true; past = e.past };
    }

unfoldable pub terminated : List ℕ → Engine → Drawn
terminated l e = terminated_by (ltb e.offset (e.range - 2)) l e

-- ---- alignment of the range before escape data (9.3.4.3.6)
unfoldable pub range_aligned : Engine → Engine
range_aligned e = record { range = 256; offset = e.offset; position = e.position; ended = e.ended; past = e.past }

-- ---- byte alignment: position rounded up to a whole byte; restart: align, range 510, 9 bits; ended cleared, the total past the end kept, and added to
abbrev pub aligned_byte : Engine → ℕ
aligned_byte e = (place e + 7) / 8

unfoldable pub byte_aligned : Engine → Engine
byte_aligned e =
    record { range = e.range; offset = e.offset; position = record { 0 = aligned_byte e * 8 }; ended = e.ended; past = e.past }

unfoldable pub restarted : List ℕ → Engine → Engine
restarted l e =
    fetched l (record { range = 510; offset = 0; position = record { 0 = aligned_byte e * 8 }; ended = false; past = e.past }) 510 0 9

-- ---- raw bits: range and offset stay
unfoldable pub raw_bits : List ℕ → Engine → ℕ → Drawn
raw_bits l e c =
    record {
      value = bits l (place e) c;
      next = record {
        range = e.range;
        offset = e.offset;
        position = record { 0 = after l (place e) c };
        ended = e.ended;
        past = added e.past (over l (place e) c);
      };
    }
