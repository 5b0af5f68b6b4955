-- The code's state beside the definition's interval: the number of the bytes and the register make its low. Every step keeps it. Assumes nothing.
use Rattle.std.specs.Prelude.{ℕ, ◌+◌, ◌-◌, ◌*◌, ◌/◌, ◌%◌, ◌^◌, ◌≤◌, ◌<◌, ◌≡◌, refl, Bool, true, false, cond, List, [], ◌∷◌, ◌++◌, length, drop, ltb}
use Rattle.std.proofs.Common.{sym, ap, ap₂, subst, ◌∙◌, arith, pow-add, pow_mono, mod-lt, ltb-true, ltb-false}
use Rattle.std.proofs.Math.Pow.{split}
use Rattle.std.specs.Int.Count.{count_leading_zeros}
use Rattle.bins.specs.Engine.{bit_no}
use Rattle.tables.specs.Tables.{lps_of}
use Rattle.packing.specs.Pack.{Enc, begun, widened, encoded, bypass_enc, align_enc, Entry, of_context, of_bypass, of_align, Writing, writing, packed_bin, packed_entry, packed, octets, filled, flushed, payload_of}
use Rattle.packing.specs.FollowLaws.{Wide}
use Rattle.packing.proofs.TreeLaws.{entry_wide}
use Rattle.packing.proofs.PacksLaws.{packed_n}
use Rattle.packer_steps.specs.declared.coder.Coder.{Coder}
use Rattle.packer_steps.specs.Register.{register_of, Steady, Grown, spared, PutOut, inked, last_two, last_of}
use Rattle.packer_steps.specs.RoomLaws.{placed_is, inked_length}
use Rattle.packer_steps.specs.RegisterLaws.{nine_few, last_few}

-- ---- an interval above another: low has the number v above its b bits
pub record Above (v at b : ℕ) (small big : Enc) : Type 0 where
  pub bits : small.n ≡ b + 1
  pub place : big.n ≡ 8 * at + b
  pub wide : big.range ≡ small.range
  pub low : big.low ≡ v * 2 ^ b + small.low

-- behind a step, with more bits
pub record Goes (v at b : ℕ) (small big : Enc) : Type 0 where
  pub more : ℕ
  pub above : Above v at (b + more) small big

widened_goes : (v at b l L r n N : ℕ) → n ≡ b + 1 → N ≡ 8 * at + b → L ≡ v * 2 ^ b + l → Goes v at b (widened l r n) (widened L r N)
widened_goes v at b l L r n N p q e =
    let c = count_leading_zeros 9 r in
    record {
      more = c;
      above = record {
        bits = omega arith;
        place = omega arith;
        wide = refl;
        low = omega (arith, ap (λ z. z * 2 ^ c) e, ap (λ z. v * z) (pow-add 2 b c));
      };
    }

encoded_goes : (v at b : ℕ) (w : Bool) (ctx : ℕ) (small big : Enc) → Above v at b small big → Goes v at b (encoded w ctx small) (encoded w ctx big)
unfolding encoded
encoded_goes v at b true ctx small big a =
    subst (λ (z : ℕ). Goes v at b (widened small.low (small.range - lps_of ctx small.range) small.n) (widened big.low (z - lps_of ctx z) big.n)) (sym a.wide)
    (widened_goes v at b small.low big.low (small.range - lps_of ctx small.range) small.n big.n a.bits a.place a.low)
encoded_goes v at b false ctx small big a =
    subst (λ (z : ℕ). Goes v at b (widened (small.low + (small.range - lps_of ctx small.range)) (lps_of ctx small.range) small.n) (widened (big.low + (z - lps_of ctx z)) (lps_of ctx z) big.n)) (sym a.wide)
    (widened_goes v at b (small.low + (small.range - lps_of ctx small.range)) (big.low + (small.range - lps_of ctx small.range)) (lps_of ctx small.range) small.n big.n a.bits a.place (omega (arith, a.low)))

bypass_goes : (v at b : ℕ) (w : Bool) (small big : Enc) → Above v at b small big → Goes v at b (bypass_enc w small) (bypass_enc w big)
bypass_goes v at b w small big a =
    let t : bit_no w * big.range ≡ bit_no w * small.range = ap (λ z. bit_no w * z) a.wide in
    record {
      more = 1;
      above = record {
        bits = omega (arith, a.bits);
        place = omega (arith, a.place);
        wide = a.wide;
        low = omega (arith, a.low, ap (λ z. v * z) (pow-add 2 b 1));
      };
    }

align_goes : (v at b : ℕ) (small big : Enc) → Above v at b small big → Goes v at b (align_enc small) (align_enc big)
align_goes v at b small big a =
    let e : b + 0 ≡ b = omega arith in
    record { more = 0; above = subst (λ (z : ℕ). Above v at z (align_enc small) (align_enc big)) (sym e) (record { bits = a.bits; place = a.place; wide = refl; low = a.low }) }

entry_goes : (v at b : ℕ) (x : Entry) (cs : List ℕ) (small big : Enc) → Above v at b small big
    → Goes v at b (packed_entry x (writing small cs)).enc (packed_entry x (writing big cs)).enc
unfolding packed_entry packed_bin
entry_goes v at b (of_context c w) cs small big a = encoded_goes v at b _ _ small big a
entry_goes v at b (of_bypass w) cs small big a = bypass_goes v at b w small big a
entry_goes v at b of_align cs small big a = align_goes v at b small big a

-- contexts do not know of the interval
entry_contexts : (x : Entry) (cs : List ℕ) (small big : Enc) → (packed_entry x (writing small cs)).contexts ≡ (packed_entry x (writing big cs)).contexts
unfolding packed_entry packed_bin
entry_contexts (of_context c w) cs small big = refl
entry_contexts (of_bypass w) cs small big = refl
entry_contexts of_align cs small big = refl

-- ---- the code's state: o is the room as it was lent, wr whether anything is stored, s the interval
pub record Stands (o : List ℕ) (wr : Bool) (room : List ℕ) (c : Coder) (s : Enc) : Type 0 where
  pub value : ℕ
  pub above : Above value c.at c.bits (register_of c) s
  pub wide : Wide (register_of c)
  pub nine : 9 ≤ c.bits
  pub long : length room ≡ length o
  pub ink : wr ≡ true → c.at ≤ length o → room ≡ octets c.at value ++ drop c.at o
  pub dry : wr ≡ false → room ≡ o

abbrev pub coder_begun : Coder
coder_begun = record { low = 0; range = 510; bits = 9; at = 0 }

pub stands_begin : (o : List ℕ) (wr : Bool) → Stands o wr o coder_begun begun
stands_begin o wr =
    record {
      value = 0;
      above = record { bits = refl; place = refl; wide = refl; low = refl };
      wide = record { least = omega arith; most = omega arith; nine = omega arith; fits = omega arith };
      nine = omega arith;
      long = refl;
      ink = λ e h. unfold octets in refl;
      dry = λ e. refl;
    }

-- behind an entry, before a byte goes to the room
module _ (o : List ℕ) (wr : Bool) (room : List ℕ) (c r : Coder) (x : Entry) (s : Enc) (cs cs' : List ℕ) (h : Stands o wr room c s)
    (e : writing (register_of r) cs' ≡ packed_entry x (writing (register_of c) cs)) (at : r.at ≡ c.at) where
  register_is : register_of r ≡ (packed_entry x (writing (register_of c) cs)).enc
  register_is = ap (λ (w : Writing). w.enc) e

  goes : Goes h.value c.at c.bits (register_of r) (packed_entry x (writing s cs)).enc
  goes = subst (λ (z : Enc). Goes h.value c.at c.bits z (packed_entry x (writing s cs)).enc) (sym register_is) (entry_goes h.value c.at c.bits x cs (register_of c) s h.above)

  pub stands_wide : Wide (register_of r)
  stands_wide = subst Wide (sym register_is) (entry_wide x (writing (register_of c) cs) h.wide)

  pub stands_few : r.bits ≤ c.bits + 7
  stands_few = omega (arith, ap (λ (z : Enc). z.n) register_is, one)
    where
      one : (packed_entry x (writing (register_of c) cs)).enc.n ≤ c.bits + 1 + 7 * 1
      one = unfold packed in packed_n (x ∷ []) (writing (register_of c) cs) h.wide

  pub stands_contexts : cs' ≡ (packed_entry x (writing s cs)).contexts
  stands_contexts = ap (λ (w : Writing). w.contexts) e ∙ entry_contexts x cs (register_of c) s

  pub stands_more : Stands o wr room r (packed_entry x (writing s cs)).enc
  stands_more =
      let g = goes in
      let b : c.bits + g.more ≡ r.bits = omega (arith, g.above.bits) in
      record {
        value = h.value;
        above = subst (λ (z : ℕ). Above h.value z r.bits (register_of r) (packed_entry x (writing s cs)).enc) (sym at)
            (subst (λ (z : ℕ). Above h.value c.at z (register_of r) (packed_entry x (writing s cs)).enc) b g.above);
        wide = stands_wide;
        nine = omega (arith, h.nine);
        long = h.long;
        ink = λ p q. h.ink p (omega arith) ∙ ap (λ z. octets z h.value ++ drop z o) (sym at);
        dry = h.dry;
      }

-- ---- a byte to the room
-- what is only counted leaves it, what is written stands behind the bytes
inked_is : (wr : Bool) (nine at v : ℕ) (o room : List ℕ) → nine < 512 → (wr ≡ true → at ≤ length o → room ≡ octets at v ++ drop at o) → (wr ≡ false → room ≡ o)
    → (wr ≡ true → at + 1 ≤ length o → inked wr nine at room ≡ octets (at + 1) (v * 256 + nine) ++ drop (at + 1) o) × (wr ≡ false → inked wr nine at room ≡ o)
inked_is true nine at v o room k h d = (λ e f. ap (λ z. inked true nine at z) (h refl (omega arith)) ∙ placed_is nine at v o k (omega arith), λ e. absurd (let z : ◌≡◌ {A = ℕ} 0 1 = cc in omega arith))
inked_is false nine at v o room k h d = (λ e f. absurd (let z : ◌≡◌ {A = ℕ} 0 1 = cc in omega arith), λ e. d refl)

out_stands : (o : List ℕ) (wr : Bool) (room : List ℕ) (c : Coder) (s : Enc) → Stands o wr room c s → Grown c → 17 ≤ c.bits
    → Stands o wr (inked wr (c.low / 2 ^ (c.bits - 8)) c.at room) (spared c) s
out_stands o wr room c s h g k =
    let b = c.bits - 8 in
    let nine = c.low / 2 ^ b in
    let low = c.low % 2 ^ b in
    let p = split c.low b in
    let e : c.bits ≡ 8 + b = omega arith in
    let two : 2 ^ c.bits ≡ 256 * 2 ^ b = ap (λ z. 2 ^ z) e ∙ pow-add 2 8 b in
    let one : 2 ^ (b + 1) ≡ 2 ^ b * 2 = pow-add 2 b 1 in
    let nought : 512 ≤ 2 ^ b = pow_mono {i = 9} {j = b} (omega arith) in
    let less : low < 2 ^ b = mod-lt c.low (omega arith) in
    let i = inked_is wr nine c.at h.value o room (nine_few c g k) h.ink h.dry in
    record {
      value = h.value * 256 + nine;
      above = record {
        bits = refl;
        place = omega (arith, h.above.place);
        wide = h.above.wide;
        low = omega (arith, h.above.low, ap (λ z. h.value * z) two);
      };
      wide = record { least = h.wide.least; most = h.wide.most; nine = omega arith; fits = omega (arith, h.wide.most) };
      nine = omega arith;
      long = inked_length wr nine c.at room ∙ h.long;
      ink = i.0;
      dry = i.1;
    }

pub stands_out : (o : List ℕ) (wr : Bool) (room room' : List ℕ) (c r : Coder) (s : Enc) → Stands o wr room c s → Grown c → PutOut wr room c room' r
    → Stands o wr room' r s × (r.bits ≤ 16)
stands_out o wr room room' c r s h g p = go (ltb c.bits 17) refl p.coder p.bytes
  where
    go : (b : Bool) → ltb c.bits 17 ≡ b → r ≡ cond b c (spared c) → room' ≡ cond b room (inked wr (c.low / 2 ^ (c.bits - 8)) c.at room) → Stands o wr room' r s × (r.bits ≤ 16)
    go true q e f =
        let z = ltb-true c.bits 17 q in
        let k : c.bits ≤ 16 = omega arith in
        subst (λ (y : Coder). Stands o wr room' y s × (y.bits ≤ 16)) (sym e) (subst (λ (l : List ℕ). Stands o wr l c s × (c.bits ≤ 16)) (sym f) (h, k))
    go false q e f =
        let z = ltb-false c.bits 17 q in
        let k : c.bits - 8 ≤ 16 = omega (arith, g.few) in
        subst (λ (y : Coder). Stands o wr room' y s × (y.bits ≤ 16)) (sym e)
        (subst (λ (l : List ℕ). Stands o wr l (spared c) s × (c.bits - 8 ≤ 16)) (sym f) (out_stands o wr room c s h g z, k))

-- ---- the flush
pub record Closed (o : List ℕ) (wr : Bool) (s : Enc) (r : ℕ) (room : List ℕ) : Type 0 where
  pub told : r ≡ (s.n + 7) / 8
  pub long : length room ≡ length o
  pub ink : wr ≡ true → r ≤ length o → room ≡ payload_of s ++ drop r o
  pub dry : wr ≡ false → room ≡ o

flushed_above : (s : Enc) (c : Coder) (v : ℕ) → Above v c.at c.bits (register_of c) s → Steady c
    → flushed s * 2 ^ (16 - c.bits) ≡ (v * 256 + last_two c / 256) * 256 + last_two c % 256
unfolding flushed
flushed_above s c v a h =
    let w = c.low + (c.range - 2) in
    let d = w + (1 - w % 2) in
    let e : c.bits + (16 - c.bits) ≡ 16 = omega (arith, h.few) in
    let p : 2 ^ c.bits * 2 ^ (16 - c.bits) ≡ 65536 = sym (pow-add 2 c.bits (16 - c.bits)) ∙ ap (λ z. 2 ^ z) e in
    let f : 1 + (c.bits - 1) ≡ c.bits = omega (arith, h.nine) in
    let t : 2 ^ c.bits ≡ 2 * 2 ^ (c.bits - 1) = ap (λ z. 2 ^ z) (sym f) ∙ pow-add 2 1 (c.bits - 1) in
    let even : v * 2 ^ c.bits ≡ 2 * (v * 2 ^ (c.bits - 1)) = ap (λ z. v * z) t ∙ omega arith in
    let m : s.low + s.range - 2 ≡ v * 2 ^ c.bits + w = omega (arith, a.low, a.wide, h.wide.least) in
    let odd : (v * 2 ^ c.bits + w) % 2 ≡ w % 2 = omega arith in
    let all : s.low + s.range - 2 + (1 - (s.low + s.range - 2) % 2) ≡ v * 2 ^ c.bits + d = ap (λ z. z + (1 - z % 2)) m ∙ ap (λ z. v * 2 ^ c.bits + w + (1 - z)) odd ∙ omega arith in
    ap (λ z. z * 2 ^ (16 - c.bits)) all ∙ omega (arith, ap (λ z. v * z) p)

pub stands_flush : (o : List ℕ) (wr : Bool) (room room' : List ℕ) (c : Coder) (s : Enc) (r : ℕ) → Stands o wr room c s → Steady c → r ≡ c.at + 2 → room' ≡ last_of wr c room
    → Closed o wr s r room'
unfolding payload_of filled
stands_flush o wr room room' c s r h g e p =
    let m = (s.n + 7) / 8 in
    let a = h.above in
    let L = last_two c in
    let told : r ≡ m = omega (arith, a.place, h.nine, g.few) in
    let two : c.at + 1 + 1 ≡ m = omega arith in
    let left : 16 - c.bits ≡ 8 * m - s.n = omega (arith, a.place, h.nine, g.few) in
    let small = last_few c g (c.low + (c.range - 2)) refl in
    let i = inked_is wr (L / 256) c.at h.value o room (omega arith) h.ink h.dry in
    let j = inked_is wr (L % 256) (c.at + 1) (h.value * 256 + L / 256) o (inked wr (L / 256) c.at room) (omega arith) i.0 i.1 in
    let number : (h.value * 256 + L / 256) * 256 + L % 256 ≡ flushed s * 2 ^ (8 * m - s.n) = sym (flushed_above s c h.value a g) ∙ ap (λ z. flushed s * 2 ^ z) left in
    record {
      told = told;
      long = ap length p ∙ inked_length wr (L % 256) (c.at + 1) (inked wr (L / 256) c.at room) ∙ inked_length wr (L / 256) c.at room ∙ h.long;
      ink = λ x y. p ∙ j.0 x (omega arith) ∙ ap₂ (λ k u. octets k u ++ drop k o) two number ∙ ap (λ k. octets m (flushed s * 2 ^ (8 * m - s.n)) ++ drop k o) (sym told);
      dry = λ x. p ∙ j.1 x;
    }
