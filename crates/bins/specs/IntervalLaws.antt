-- A running interval keeps running, and what the code of its steps comes to. Assumes nothing.
use Rattle.std.specs.Prelude.{ℕ, zero, suc, ◌+◌, ◌-◌, ◌*◌, ◌/◌, ◌%◌, ◌^◌, ◌≤◌, ◌<◌, min, ◌≡◌, refl, Bool, true, false, cond, List, get_or, ltb, leb}
use Rattle.std.proofs.Common.{sym, ◌∙◌, arith, mod-lt, mul-le-mul_right, div-lt_iff_lt-mul, div-add-mod', pow_mono, pow-add, ltb-true, ltb-false}
use Rattle.std.proofs.Math.Path.{ap}
use Rattle.std.proofs.Math.Nat.{mod-eq_of_lt, div-eq_of_lt, add-mul-div_right, mul-add-mod_self_right}
use Rattle.tables.specs.Decisions.{decisions, decisions_rule}
use Rattle.std.specs.Int.Count.{count_leading_zeros}
use Rattle.bins.specs.declared.state.Interval.{Interval}
use Rattle.bins.specs.declared.state.Taken.{Taken}
use Rattle.bins.specs.declared.places.SourcePlace.{SourcePlace}
use Rattle.bins.specs.Bits.{bit_at, bits, ends, past_most}
use Rattle.bins.specs.BitLaws.{bits_lt, bits_past, bits_add, bit_lt}
use Rattle.tables.specs.Tables.{entry_of}
use Rattle.bins.specs.Engine.{bit_no, split}
use Rattle.bins.specs.EngineLaws.{shifted, splits, split_packed, SplitIs, split_is}
use Rattle.bins.specs.Interval.{place_of, ran_on, Goes, Renorms, fetched_on, renormed_on, DecidedOn, decided_on, decided_value, bypassed_on}

-- ---- renormalising
pub renormed_goes : (l : List ℕ) (x : Interval) (r o : ℕ) → Renorms l x r o → Goes l (renormed_on l x r o)
unfolding fetched_on
renormed_goes l x r o h =
    let s = shifted r h.some h.nine in
    let c = count_leading_zeros 9 r in
    record {
      short = h.short;
      fits = omega arith;
      least = s.least;
      most = s.most;
      below = omega (arith, bits_lt l (place_of x) c, mul-le-mul_right (2 ^ c) h.below);
    }

-- as the code does it, with 32 bits: v and at are what fetching the bits of the shift gave
module _ (l : List ℕ) (x : Interval) (r o : ℕ) (h : Renorms l x r o) where
  abbrev pub shift : ℕ
  shift = count_leading_zeros 32 r - 23

  pub shift_is : shift ≡ count_leading_zeros 9 r
  shift_is = omega (arith, (shifted r h.some h.nine).same)

  pub shift_few : shift ≤ 8
  shift_few = omega (arith, shift_is, (shifted r h.some h.nine).few)

  range_small : r * 2 ^ shift ≤ 510
  range_small = rw shift_is (shifted r h.some h.nine).most

  pub offset_small : o * 2 ^ shift ≤ 510
  offset_small = omega (arith, range_small, mul-le-mul_right (2 ^ shift) h.below)

  pub renormed_code : (v : ℕ) (at : SourcePlace) → v ≡ bits l (place_of x) shift → at.0 ≡ ran_on l (place_of x) shift
      → ◌≡◌ {A = Interval} (record { range = (r * 2 ^ shift) % 4294967296; offset = (o * 2 ^ shift) % 4294967296 + v; position = at }) (renormed_on l x r o)
  unfolding fetched_on
  renormed_code v at p q =
      let s = shift_is in
      let a : (r * 2 ^ shift) % 4294967296 ≡ r * 2 ^ shift = mod-eq_of_lt (omega (arith, range_small)) in
      let b : (o * 2 ^ shift) % 4294967296 ≡ o * 2 ^ shift = mod-eq_of_lt (omega (arith, offset_small)) in
      let w : at ≡ record { 0 = ran_on l (place_of x) shift } = ap (λ (k : ℕ). record { 0 = k }) q in
      cc

-- ---- a decision
pub decided_renorms : (l : List ℕ) (x : Interval) (ctx : ℕ) → Goes l x
    → Renorms l x (split x.range x.offset ctx).range (split x.range x.offset ctx).offset
decided_renorms l x ctx h =
    let s = splits x.range x.offset ctx h.least h.most h.below in
    record { short = h.short; fits = h.fits; some = s.some; nine = s.nine; below = s.below }

pub decided_goes : (l : List ℕ) (x : Interval) (ctx : ℕ) → Goes l x → Goes l (decided_on l x ctx).next
unfolding decided_on
decided_goes l x ctx h = renormed_goes l x _ _ (decided_renorms l x ctx h)

pub decided_packed : (l : List ℕ) (x : Interval) (ctx : ℕ) → ctx < 128 → (decided_on l x ctx).ctx < 128
unfolding decided_on
decided_packed l x ctx h = split_packed x.range x.offset ctx h

-- ---- bypass
pub bypassed_goes : (l : List ℕ) (x : Interval) (c : ℕ) → Goes l x → Goes l (bypassed_on l x c).next
unfolding bypassed_on fetched_on
bypassed_goes l x c h =
    record {
      short = h.short;
      fits = omega arith;
      least = h.least;
      most = h.most;
      below = mod-lt (x.offset * 2 ^ c + bits l (place_of x) c) (omega (arith, h.least));
    }

-- the quotient has c bits
pub bypassed_lt : (l : List ℕ) (x : Interval) (c : ℕ) → Goes l x → (bypassed_on l x c).value < 2 ^ c
unfolding bypassed_on fetched_on
bypassed_lt l x c h =
    let y = x.offset * 2 ^ c + bits l (place_of x) c in
    let pos : 0 < x.range = omega (arith, h.least) in
    let up : suc x.offset * 2 ^ c ≤ x.range * 2 ^ c = mul-le-mul_right (2 ^ c) h.below in
    let less : y < 2 ^ c * x.range = omega (arith, bits_lt l (place_of x) c) in
    (div-lt_iff_lt-mul {x = y} {y = 2 ^ c} pos).1 less

-- ---- a decision as the code makes it: by its entry of the decision table, and each part is picked by whether the favoured bin is read
module _ (l : List ℕ) (x : Interval) (ctx : ℕ) (entry : ℕ) (g : Goes l x) (h : ctx < 128) (t : entry ≡ get_or decisions (ctx * 4 + x.range / 64 % 4) 0) where
  abbrev favoured : Bool
  favoured = ltb x.offset (x.range - entry % 256)

  by_rule : entry ≡ entry_of ctx (x.range / 64 % 4)
  by_rule = t ∙ decisions_rule ctx (x.range / 64 % 4) h (omega arith)

  parts_are : SplitIs favoured x.range x.offset ctx entry
  parts_are = split_is favoured x.range x.offset ctx entry h by_rule refl

  pub decide_small : (n : ℕ) → n ≡ cond favoured (entry / 256 % 256) (entry / 65536) → n < 128
  decide_small n q = omega (arith, q ∙ parts_are.context, split_packed x.range x.offset ctx h)

  pub decide_renorms : (r o : ℕ) → r ≡ cond favoured (x.range - entry % 256) (entry % 256) → o ≡ cond favoured x.offset (x.offset - (x.range - entry % 256))
      → Renorms l x r o
  decide_renorms r o p q =
      let a : r ≡ (split x.range x.offset ctx).range = p ∙ parts_are.range in
      let b : o ≡ (split x.range x.offset ctx).offset = q ∙ parts_are.offset in
      let s = decided_renorms l x ctx g in
      record { short = s.short; fits = s.fits; some = omega (arith, s.some); nine = omega (arith, s.nine); below = omega (arith, s.below) }

  pub decide_code : (r o v n : ℕ) (y : Interval) → r ≡ cond favoured (x.range - entry % 256) (entry % 256)
      → o ≡ cond favoured x.offset (x.offset - (x.range - entry % 256)) → v ≡ cond favoured (ctx / 64) (1 - ctx / 64)
      → n ≡ cond favoured (entry / 256 % 256) (entry / 65536) → y ≡ renormed_on l x r o
      → (◌≡◌ {A = Taken} (record { value = v; next = y }) (decided_value l x ctx)) × (n ≡ (decided_on l x ctx).ctx)
  unfolding decided_on
  decide_code r o v n y p q u w e =
      let a : r ≡ (split x.range x.offset ctx).range = p ∙ parts_are.range in
      let b : o ≡ (split x.range x.offset ctx).offset = q ∙ parts_are.offset in
      let d : v ≡ bit_no (split x.range x.offset ctx).bit = u ∙ parts_are.bit in
      (cc, w ∙ parts_are.context)
