-- Arithmetic writing (H.265 9.3.5, informative) of a bin list, as an interval of whole numbers. low is as long as it needs to be, so nothing
-- is carried and nothing is outstanding; that H.265's own steps, with a low of ten bits and outstanding ones, write the same bits is proved (PutBits).
use Rattle.std.specs.Prelude.{ℕ, zero, suc, ◌+◌, ◌-◌, ◌*◌, ◌/◌, ◌%◌, ◌^◌, Bool, true, false, cond, List, [], ◌∷◌, length, get_or, set, ltb, eqb}
use Rattle.std.specs.Bool.{beq}
use Rattle.std.specs.Int.Count.{count_leading_zeros}
use Rattle.bins.specs.Engine.{bit_no}
use Rattle.bins.specs.Readers.{odd}
use Rattle.bins.specs.Tags.{context_count, align_tag}
use Rattle.tables.specs.Tables.{val_mps, lps_of, on_mps, on_lps}

-- ---- the interval
-- from low, range wide, of numbers that have n bits; the reader stands behind n bits where the writer stands here
pub record Enc : Type 0 where
  pub low : ℕ
  pub range : ℕ
  pub n : ℕ

-- at the start range 510, and the reader's nine bits (9.3.5.1)
abbrev pub begun : Enc
begun = record { low = 0; range = 510; n = 9 }

-- renormalise (9.3.5.3): the range has nine bits again
abbrev pub widened : ℕ → ℕ → ℕ → Enc
widened low r n = let c = count_leading_zeros 9 r in record { low = low * 2 ^ c; range = r * 2 ^ c; n = n + c }

-- a decision (9.3.5.2), by whether the bin is the favoured one: it has the lower part of the interval
unfoldable pub encoded : Bool → ℕ → Enc → Enc
encoded true ctx s = widened s.low (s.range - lps_of ctx s.range) s.n
encoded false ctx s = widened (s.low + (s.range - lps_of ctx s.range)) (lps_of ctx s.range) s.n

-- a bypass bin (9.3.5.4)
abbrev pub bypass_enc : Bool → Enc → Enc
bypass_enc b s = record { low = s.low * 2 + bit_no b * s.range; range = s.range; n = s.n + 1 }

-- an alignment entry sets the range to 256
abbrev pub align_enc : Enc → Enc
align_enc s = record { low = s.low; range = 256; n = s.n }

-- terminate with bin 1, and the flush (9.3.5.5, 9.3.5.6): the upper two numbers of the interval are left; of these the one whose last bit is 1
unfoldable pub flushed : Enc → ℕ
flushed s = let v = s.low + s.range - 2 in v + (1 - v % 2)

-- ---- a list of entries
pub data Entry : Type 0 where
  of_context : ℕ → Bool → Entry
  of_bypass : Bool → Entry
  of_align : Entry

-- what the number of an entry says
unfoldable pub kind_of : ℕ → Entry
kind_of x = cond (ltb x (2 * context_count)) (of_context (x / 2) (odd x)) (cond (eqb x align_tag) of_align (of_bypass (odd x)))

-- the entries of a list's bytes: the one place that knows how an entry is spelled. A byte left over is none; the syntax refuses such a list
unfoldable pub entries_of : List ℕ → List Entry
unfolding kind_of
entries_of [] = []
entries_of (x ∷ []) = []
entries_of (x ∷ y ∷ l) = kind_of (x + 256 * y) ∷ entries_of l

-- interval and contexts
pub record Writing : Type 0 where
  pub enc : Enc
  pub contexts : List ℕ

abbrev pub writing : Enc → List ℕ → Writing
writing s cs = record { enc = s; contexts = cs }

-- whether a bin is the favoured one, and the context behind it
abbrev pub favoured : ℕ → Bool → Bool
favoured ctx b = beq b (val_mps ctx)

unfoldable pub ctx_after : Bool → ℕ → ℕ
ctx_after true ctx = on_mps ctx
ctx_after false ctx = on_lps ctx

unfoldable pub packed_bin : ℕ → Bool → Writing → Writing
packed_bin c b w =
    let ctx = get_or w.contexts c 0 in
    let v = favoured ctx b in
    writing (encoded v ctx w.enc) (set w.contexts c (ctx_after v ctx))

unfoldable pub packed_entry : Entry → Writing → Writing
unfolding packed_bin
packed_entry (of_context c b) w = packed_bin c b w
packed_entry (of_bypass b) w = writing (bypass_enc b w.enc) w.contexts
packed_entry of_align w = writing (align_enc w.enc) w.contexts

unfoldable pub packed : List Entry → Writing → Writing
unfolding packed_entry
packed [] w = w
packed (x ∷ l) w = packed l (packed_entry x w)

-- ---- the payload
-- the low m bytes of a number, the high one first
unfoldable pub octets : ℕ → ℕ → List ℕ
octets zero v = []
octets (suc m) v = v / 2 ^ (8 * m) % 256 ∷ octets m v

-- n bits, the number v, as bytes: zero bits fill the last one
unfoldable pub filled : ℕ → ℕ → List ℕ
unfolding octets
filled n v = let m = (n + 7) / 8 in octets m (v * 2 ^ (8 * m - n))

-- of an interval: the n bits of the number that the flush picks
unfoldable pub payload_of : Enc → List ℕ
unfolding filled flushed
payload_of s = filled s.n (flushed s)

-- a list's bytes packed from contexts: the interval, and the contexts behind it
abbrev pub packed_from : List ℕ → List ℕ → Writing
packed_from cs bins = packed (entries_of bins) (writing begun cs)
