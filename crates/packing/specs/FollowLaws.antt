-- A reader follows a writer: on any payload whose first n bits lie in the interval, each step of the engine reads the bin that was written.
-- Assumes nothing.
use Rattle.std.specs.Prelude.{ℕ, zero, suc, ◌+◌, ◌-◌, ◌*◌, ◌/◌, ◌%◌, ◌^◌, ◌≤◌, ◌<◌, min, ◌≡◌, refl, Bool, true, false, not, cond, List, [], ◌∷◌, ltb, leb}
use Rattle.std.proofs.Common.{sym, ap, ap₂, subst, ◌∙◌, arith, lt_of_mul-lt-mul_right, mul-le-mul_right, div-add-mod', pow-add, lt-ltb, le-ltb}
use Rattle.std.specs.Bool.{beq}
use Rattle.std.proofs.Math.Nat.{div-eq_of_lt-le}
use Rattle.std.specs.Int.Count.{count_leading_zeros}
use Rattle.bins.specs.declared.state.Engine.{Engine}
use Rattle.bins.specs.Bits.{bits, ends, after, over, added}
use Rattle.bins.specs.BitLaws.{bits_add, bits_lt}
use Rattle.bins.specs.Engine.{bit_no, place, fetched, renormed, Split, split, split_by, Decided, decided, bypassed, range_aligned}
use Rattle.bins.specs.EngineLaws.{shifted}
use Rattle.tables.specs.Tables.{val_mps, lps_of, on_mps, on_lps}
use Rattle.tables.specs.Bounds.{lps_bounds}
use Rattle.packing.specs.Pack.{Enc, widened, encoded, bypass_enc, align_enc, favoured, ctx_after}

-- the first n bits of a payload lie in the interval
pub record In (l : List ℕ) (s : Enc) : Type 0 where
  pub least : s.low ≤ bits l 0 s.n
  pub most : bits l 0 s.n < s.low + s.range

-- the reader stands where the writer stood: its offset is what the payload has above low; it has neither ended nor run past the end
pub record Follows (l : List ℕ) (s : Enc) (e : Engine) : Type 0 where
  pub at : place e ≡ s.n
  pub wide : e.range ≡ s.range
  pub above : e.offset + s.low ≡ bits l 0 s.n
  pub clean : e.past ≡ 0
  pub live : e.ended ≡ false

-- what every interval of a writer is
pub record Wide (s : Enc) : Type 0 where
  pub least : 256 ≤ s.range
  pub most : s.range ≤ 510
  pub nine : 9 ≤ s.n
  pub fits : s.low + s.range ≤ 2 ^ s.n

-- ---- numbers
below_shifted : (v b x c : ℕ) → v * 2 ^ c + b < x * 2 ^ c → v < x
below_shifted v b x c h = lt_of_mul-lt-mul_right (2 ^ c) (omega arith)

above_shifted : (v b x c : ℕ) → b < 2 ^ c → x * 2 ^ c ≤ v * 2 ^ c + b → x ≤ v
above_shifted v b x c k h =
    let p : x * 2 ^ c < suc v * 2 ^ c = omega arith in
    let q : x < suc v = lt_of_mul-lt-mul_right (2 ^ c) p in
    omega arith

pub first_bits : (l : List ℕ) (n c : ℕ) → bits l 0 (n + c) ≡ bits l 0 n * 2 ^ c + bits l n c
first_bits l n c = let z : 0 + n ≡ n = omega arith in rw z at (bits_add l 0 n c)

-- ---- bits drawn within the payload
none_over : (l : List ℕ) (e : Engine) (c : ℕ) → e.past ≡ 0 → place e + c ≤ ends l → added e.past (over l (place e) c) ≡ 0
none_over l e c p h = omega arith

-- ---- renormalising both
follows_widened : (l : List ℕ) (low r n o : ℕ) (e : Engine) → place e ≡ n → o + low ≡ bits l 0 n → e.past ≡ 0 → e.ended ≡ false
    → n + count_leading_zeros 9 r ≤ ends l → Follows l (widened low r n) (renormed l e r o)
unfolding fetched
follows_widened l low r n o e p q u v h =
    let c = count_leading_zeros 9 r in
    let b : bits l (place e) c ≡ bits l n c = ap (λ x. bits l x c) p in
    let m : (o + low) * 2 ^ c ≡ bits l 0 n * 2 ^ c = ap (λ x. x * 2 ^ c) q in
    record { at = omega arith; wide = refl; above = omega (arith, first_bits l n c, b, m); clean = none_over l e c u (omega arith); live = v }

-- the interval that was widened held the payload before
pub in_narrow : (l : List ℕ) (low r n : ℕ) → In l (widened low r n) → (low ≤ bits l 0 n) × (bits l 0 n < low + r)
in_narrow l low r n i =
    let c = count_leading_zeros 9 r in
    let f = first_bits l n c in (
      above_shifted (bits l 0 n) (bits l n c) low c (bits_lt l n c) (omega (arith, f, i.least)),
      below_shifted (bits l 0 n) (bits l n c) (low + r) c (omega (arith, f, i.most)),
    )

-- ---- the interval stays a writer's
widened_wide : (low r n : ℕ) → 0 < r → r ≤ 510 → 9 ≤ n → low + r ≤ 2 ^ n → Wide (widened low r n)
widened_wide low r n p h k f =
    let z = shifted r p h in
    let c = count_leading_zeros 9 r in
    let m : (low + r) * 2 ^ c ≤ 2 ^ n * 2 ^ c = mul-le-mul_right (2 ^ c) f in
    let w : 2 ^ (n + c) ≡ 2 ^ n * 2 ^ c = pow-add 2 n c in
    record { least = z.least; most = z.most; nine = omega arith; fits = rw w (omega arith) }

pub encoded_wide : (b : Bool) (ctx : ℕ) (s : Enc) → Wide s → Wide (encoded b ctx s)
unfolding encoded
encoded_wide true ctx s h =
    let q = lps_bounds ctx s.range in
    widened_wide s.low (s.range - lps_of ctx s.range) s.n (omega (arith, h.least)) (omega (arith, h.most)) h.nine (omega (arith, h.fits))
encoded_wide false ctx s h =
    let q = lps_bounds ctx s.range in
    widened_wide (s.low + (s.range - lps_of ctx s.range)) (lps_of ctx s.range) s.n (omega arith) (omega arith) h.nine (omega (arith, h.fits, h.least))

pub bypass_wide : (b : Bool) (s : Enc) → Wide s → Wide (bypass_enc b s)
bypass_wide b s h = record { least = h.least; most = h.most; nine = omega (arith, h.nine); fits = go b }
  where
    go : (b : Bool) → s.low * 2 + bit_no b * s.range + s.range ≤ 2 ^ (s.n + 1)
    go true = omega (arith, h.fits, pow-add 2 s.n 1)
    go false = omega (arith, h.fits, pow-add 2 s.n 1)

pub align_wide : (s : Enc) → Wide s → Wide (align_enc s)
align_wide s h = record { least = omega arith; most = omega arith; nine = h.nine; fits = omega (arith, h.fits, h.least) }

-- ---- the interval only narrows: what lies in it behind a step lay in it before, and the payload is as long
pub record Held (l : List ℕ) (s u : Enc) : Type 0 where
  pub held : In l s
  pub short : s.n ≤ u.n

pub encoded_held : (l : List ℕ) (b : Bool) (ctx : ℕ) (s : Enc) → Wide s → In l (encoded b ctx s) → Held l s (encoded b ctx s)
unfolding encoded
encoded_held l true ctx s h i =
    let q = in_narrow l s.low (s.range - lps_of ctx s.range) s.n i in
    record { held = record { least = q.0; most = omega (arith, q.1) }; short = omega arith }
encoded_held l false ctx s h i =
    let b = lps_bounds ctx s.range in
    let q = in_narrow l (s.low + (s.range - lps_of ctx s.range)) (lps_of ctx s.range) s.n i in
    record { held = record { least = omega (arith, q.0); most = omega (arith, q.1, h.least) }; short = omega arith }

pub bypass_held : (l : List ℕ) (b : Bool) (s : Enc) → In l (bypass_enc b s) → Held l s (bypass_enc b s)
bypass_held l true s i =
    let f = first_bits l s.n 1 in
    let g = bits_lt l s.n 1 in
    record { held = record { least = omega (arith, i.least); most = omega (arith, i.most) }; short = omega arith }
bypass_held l false s i =
    let f = first_bits l s.n 1 in
    let g = bits_lt l s.n 1 in
    record { held = record { least = omega (arith, i.least); most = omega (arith, i.most) }; short = omega arith }

pub align_held : (l : List ℕ) (s : Enc) → Wide s → In l (align_enc s) → Held l s (align_enc s)
align_held l s h i = record { held = record { least = i.least; most = omega (arith, i.most, h.least) }; short = omega arith }

pub held_trans : (l : List ℕ) (s u v : Enc) → Held l s u → Held l u v → Held l s v
held_trans l s u v a b = record { held = a.held; short = omega (arith, a.short, b.short) }

-- ---- one bin: the reader reads what was written, and follows on
bit_back : (b m : Bool) → cond (beq b m) m (not m) ≡ b
bit_back true true = refl
bit_back true false = refl
bit_back false true = refl
bit_back false false = refl

split_way : (v : Bool) (r o ctx : ℕ) → ltb o (r - lps_of ctx r) ≡ v → split r o ctx ≡ split_by v r o ctx (lps_of ctx r)
unfolding split
split_way v r o ctx q = ap (λ z. split_by z r o ctx (lps_of ctx r)) q

split_bit : (v : Bool) (r o ctx lps : ℕ) → (split_by v r o ctx lps).bit ≡ cond v (val_mps ctx) (not (val_mps ctx))
unfolding split_by
split_bit true r o ctx lps = refl
split_bit false r o ctx lps = refl

split_ctx : (v : Bool) (r o ctx lps : ℕ) → (split_by v r o ctx lps).ctx ≡ ctx_after v ctx
unfolding split_by ctx_after
split_ctx true r o ctx lps = refl
split_ctx false r o ctx lps = refl

-- on the way that the reader takes
way_of : (l : List ℕ) (s : Enc) (v : Bool) (ctx : ℕ) (e : Engine) → Wide s → Follows l s e → In l (encoded v ctx s)
    → ltb e.offset (e.range - lps_of ctx e.range) ≡ v
unfolding encoded
way_of l s true ctx e h f i =
    let q = in_narrow l s.low (s.range - lps_of ctx s.range) s.n i in
    let w : e.range - lps_of ctx e.range ≡ s.range - lps_of ctx s.range = ap (λ x. x - lps_of ctx x) f.wide in
    lt-ltb e.offset (e.range - lps_of ctx e.range) (omega (arith, f.above, q.1, w))
way_of l s false ctx e h f i =
    let q = in_narrow l (s.low + (s.range - lps_of ctx s.range)) (lps_of ctx s.range) s.n i in
    let w : e.range - lps_of ctx e.range ≡ s.range - lps_of ctx s.range = ap (λ x. x - lps_of ctx x) f.wide in
    le-ltb e.offset (e.range - lps_of ctx e.range) (omega (arith, f.above, q.0, w))

next_of : (l : List ℕ) (s : Enc) (v : Bool) (ctx : ℕ) (e : Engine) → Wide s → Follows l s e → In l (encoded v ctx s) → (encoded v ctx s).n ≤ ends l
    → Follows l (encoded v ctx s)
    (renormed l e (split_by v s.range e.offset ctx (lps_of ctx s.range)).range (split_by v s.range e.offset ctx (lps_of ctx s.range)).offset)
unfolding encoded split_by
next_of l s true ctx e h f i k =
    follows_widened l s.low (s.range - lps_of ctx s.range) s.n e.offset e f.at f.above f.clean f.live k
next_of l s false ctx e h f i k =
    let lps = lps_of ctx s.range in
    let q = in_narrow l (s.low + (s.range - lps)) lps s.n i in
    follows_widened l (s.low + (s.range - lps)) lps s.n (e.offset - (s.range - lps)) e f.at (omega (arith, f.above, q.0)) f.clean f.live k

pub record Goes (l : List ℕ) (s : Enc) (b : Bool) (ctx : ℕ) (e : Engine) : Type 0 where
  pub bit : (decided l e ctx).bit ≡ b
  pub kept : (decided l e ctx).ctx ≡ ctx_after (favoured ctx b) ctx
  pub next : Follows l (encoded (favoured ctx b) ctx s) (decided l e ctx).next

pub bin_goes : (l : List ℕ) (s : Enc) (b : Bool) (ctx : ℕ) (e : Engine) → Wide s → Follows l s e
    → In l (encoded (favoured ctx b) ctx s) → (encoded (favoured ctx b) ctx s).n ≤ ends l → Goes l s b ctx e
unfolding decided
bin_goes l s b ctx e h f i k =
    let v = favoured ctx b in
    let d : split e.range e.offset ctx ≡ split_by v e.range e.offset ctx (lps_of ctx e.range) =
    split_way v e.range e.offset ctx (way_of l s v ctx e h f i) in
    let g : split e.range e.offset ctx ≡ split_by v s.range e.offset ctx (lps_of ctx s.range) =
    d ∙ ap (λ r. split_by v r e.offset ctx (lps_of ctx r)) f.wide in
    record {
      bit = ap (λ (z : Split). z.bit) g ∙ split_bit v s.range e.offset ctx (lps_of ctx s.range) ∙ bit_back b (val_mps ctx);
      kept = ap (λ (z : Split). z.ctx) g ∙ split_ctx v s.range e.offset ctx (lps_of ctx s.range);
      next = subst (λ (z : Split). Follows l (encoded v ctx s) (renormed l e z.range z.offset)) (sym g) (next_of l s v ctx e h f i k);
    }

-- ---- one bypass bin
pub bypass_goes : (l : List ℕ) (s : Enc) (b : Bool) (e : Engine) → Wide s → Follows l s e → In l (bypass_enc b s) → s.n + 1 ≤ ends l
    → (leb 1 (bypassed l e 1).value ≡ b) × Follows l (bypass_enc b s) (bypassed l e 1).next
unfolding bypassed fetched
bypass_goes l s b e h f i k =
    let x = e.offset * 2 ^ 1 + bits l (place e) 1 in
    let r = e.range in
    let z : bits l (place e) 1 ≡ bits l s.n 1 = ap (λ p. bits l p 1) f.at in
    let g = first_bits l s.n 1 in
    let w : bit_no b * r ≡ bit_no b * s.range = ap (λ y. bit_no b * y) f.wide in
    let sum : x + s.low * 2 ≡ bits l 0 (s.n + 1) = omega (arith, f.above) in
    let lo : bit_no b * r ≤ x = omega (arith, i.least) in
    let hi : x < (bit_no b + 1) * r = omega (arith, i.most, f.wide) in
    let q : x / r ≡ bit_no b = div-eq_of_lt-le r lo hi in
    let rem : x % r + bit_no b * r ≡ x = omega (arith, div-add-mod' x r, ap (λ y. y * r) q) in (
      ap (leb 1) q ∙ one b,
      record {
        at = omega (arith, f.at);
        wide = f.wide;
        above = omega (arith, sum, rem, w);
        clean = none_over l e 1 f.clean (omega (arith, f.at));
        live = f.live;
      },
    )
  where
    one : (b : Bool) → leb 1 (bit_no b) ≡ b
    one true = refl
    one false = refl

-- ---- an alignment
pub align_goes : (l : List ℕ) (s : Enc) (e : Engine) → Follows l s e → In l (align_enc s)
    → (ltb e.offset 256 ≡ true) × Follows l (align_enc s) (range_aligned e)
unfolding range_aligned
align_goes l s e f i =
    (lt-ltb e.offset 256 (omega (arith, i.most, f.above)), record { at = f.at; wide = refl; above = f.above; clean = f.clean; live = f.live })
