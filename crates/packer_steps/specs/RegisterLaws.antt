-- The code of a step in the register: what each needs and what comes of it. Assumes nothing.
use Rattle.std.specs.Prelude.{ℕ, zero, suc, ◌+◌, ◌-◌, ◌*◌, ◌/◌, ◌%◌, ◌^◌, ◌≤◌, ◌<◌, ◌≡◌, refl, Bool, cond, List, [], ◌∷◌, get_or, ltb, leb, eqb}
use Rattle.std.proofs.Common.{sym, ap₂, subst, ◌∙◌, arith, mod-eq_of_lt, mul-le-mul_right, mul-le-mul_left, pow-add, pow_mono, shr_lt, lt-ltb, le-ltb, leb-true, leb-false, eqb-true}
use Rattle.std.proofs.Math.Path.{ap}
use Rattle.std.proofs.Math.Bool.{true, false}
use Rattle.std.specs.Bool.{beq}
use Rattle.std.proofs.Math.Pow.{split}
use Rattle.std.specs.Int.Count.{count_leading_zeros}
use Rattle.std.proofs.lemmas.Bool.{eqb-false}
use Rattle.tables.specs.Tables.{val_mps, lps_of, on_mps, on_lps}
use Rattle.tables.specs.Decisions.{decisions, decisions_rule}
use Rattle.tables.specs.Bounds.{lps_bounds, mps_small, lps_small}
use Rattle.bins.specs.Engine.{bit_no}
use Rattle.bins.specs.EngineLaws.{Parts, parts, shifted}
use Rattle.packing.specs.Pack.{Enc, widened, encoded, bypass_enc, favoured, ctx_after}
use Rattle.packing.specs.FollowLaws.{Wide}
use Rattle.packer_steps.specs.declared.coder.Coder.{Coder}
use Rattle.packer_steps.specs.Register.{register_of, Steady, Grown, spared, PutOut, inked, last_two, last_of}

same_enc : (a b c d e f : ℕ) → a ≡ b → c ≡ d → e ≡ f → ◌≡◌ {A = Enc} (record { low = a; range = c; n = e }) (record { low = b; range = d; n = f })
same_enc a b c d e f p q r = cc

-- low and range are numbers of 17 bits
pub steady_few : (c : Coder) → Steady c → c.low + c.range ≤ 131072
steady_few c h = omega (arith, h.wide.fits, pow_mono {i = c.bits + 1} {j = 17} (omega (arith, h.few)))

-- ---- all shifts at once
module _ (c : Coder) (low range : ℕ) (h : Steady c) (some : 0 < range) (within : low + range ≤ c.low + c.range) (most : range ≤ 510) where
  pub shift_is : (23 ≤ count_leading_zeros 32 range) × (count_leading_zeros 32 range - 23 ≡ count_leading_zeros 9 range) × (count_leading_zeros 9 range ≤ 8)
  shift_is = let z = shifted range some most in (omega (arith, z.same), omega (arith, z.same), z.few)

  grown_small : (x : ℕ) → x ≤ 131072 → x * 2 ^ count_leading_zeros 9 range ≤ 33554432
  grown_small x q =
      let a : 2 ^ count_leading_zeros 9 range ≤ 256 = pow_mono {i = count_leading_zeros 9 range} {j = 8} shift_is.2 in
      omega (arith, mul-le-mul_right (2 ^ count_leading_zeros 9 range) q, a)

  pub widen_code : (s : ℕ) → s ≡ count_leading_zeros 32 range - 23
      → register_of (record { low = (low * 2 ^ s) % 4294967296; range = (range * 2 ^ s) % 4294967296; bits = c.bits + s; at = c.at }) ≡ widened low range (c.bits + 1)
  widen_code s e =
      let k = shift_is in
      let z = count_leading_zeros 9 range in
      let t : s ≡ z = e ∙ k.1 in
      let a : (low * 2 ^ s) % 4294967296 ≡ low * 2 ^ z = ap (λ y. (low * 2 ^ y) % 4294967296) t ∙ mod-eq_of_lt (omega (arith, grown_small low (omega (arith, steady_few c h)))) in
      let b : (range * 2 ^ s) % 4294967296 ≡ range * 2 ^ z = ap (λ y. (range * 2 ^ y) % 4294967296) t ∙ mod-eq_of_lt (omega (arith, grown_small range (omega (arith, steady_few c h)))) in
      same_enc _ _ _ _ _ _ a b (omega arith)

-- ---- a decision
-- the code's test says whether the bin is the favoured one
pub favoured_is : (ctx bin : ℕ) → ctx < 128 → bin ≤ 1 → eqb bin (ctx / 64) ≡ favoured ctx (eqb bin 1)
favoured_is ctx bin h b = go (eqb bin (ctx / 64)) refl (eqb bin 1) refl (leb 64 ctx) refl
  where
    go : (t : Bool) → eqb bin (ctx / 64) ≡ t → (u : Bool) → eqb bin 1 ≡ u → (v : Bool) → leb 64 ctx ≡ v → t ≡ beq u v
    go true r true p true q = refl
    go true r true p false q = absurd (omega (arith, eqb-true bin 1 p, leb-false 64 ctx q, eqb-true bin (ctx / 64) r))
    go true r false p true q = absurd (eqb-false bin 1 p (omega (arith, leb-true 64 ctx q, eqb-true bin (ctx / 64) r)))
    go true r false p false q = refl
    go false r true p true q = absurd (eqb-false bin (ctx / 64) r (omega (arith, eqb-true bin 1 p, leb-true 64 ctx q)))
    go false r true p false q = refl
    go false r false p true q = refl
    go false r false p false q = absurd (eqb-false bin (ctx / 64) r (omega (arith, leb-false 64 ctx q, nought bin b (eqb-false bin 1 p))))
      where
        nought : (n : ℕ) → n ≤ 1 → (n ≡ 1 → ⊥) → n ≡ 0
        nought zero b k = refl
        nought (suc zero) b k = absurd (k refl)
        nought (suc (suc n)) b k = absurd (omega arith)

module _ (c : Coder) (ctx bin x : ℕ) (table : List ℕ) (h : Steady c) (k : ctx < 128) (b : bin ≤ 1)
    (t : table ≡ decisions) (q : x ≡ get_or table (ctx * 4 + c.range / 64 % 4) 0) where
  pub entry_is : Parts ctx c.range x
  entry_is = parts ctx c.range x k (q ∙ ap (λ z. get_or z (ctx * 4 + c.range / 64 % 4) 0) t ∙ decisions_rule ctx (c.range / 64 % 4) k (omega arith))

  pub lps_few : (2 ≤ x % 256) × (x % 256 ≤ 240)
  lps_few = let l = lps_bounds ctx c.range in let e = entry_is.lps in (omega arith, omega arith)

  pub next_few : (v : Bool) → cond v (x / 256 % 256) (x / 65536) < 128
  next_few true = omega (arith, mps_small ctx k, entry_is.mps)
  next_few false = omega (arith, lps_small ctx k, entry_is.other)

  -- what is left of the interval lies in it
  pub left_within : (v : Bool) → (0 < cond v (c.range - x % 256) (x % 256)) × (c.low + cond v 0 (c.range - x % 256) + cond v (c.range - x % 256) (x % 256) ≤ c.low + c.range)
      × (cond v (c.range - x % 256) (x % 256) ≤ 510) × (c.low + cond v 0 (c.range - x % 256) ≤ 131072)
  left_within true = let l = lps_few in (omega (arith, h.wide.least), omega arith, omega (arith, h.wide.most), omega (arith, steady_few c h))
  left_within false = let l = lps_few in (omega arith, omega (arith, h.wide.least), omega arith, omega (arith, steady_few c h))

  decided_as : (v : Bool) → widened (c.low + cond v 0 (c.range - x % 256)) (cond v (c.range - x % 256) (x % 256)) (c.bits + 1) ≡ encoded v ctx (register_of c)
  unfolding encoded
  decided_as true = ap (λ z. widened (c.low + 0) (c.range - z) (c.bits + 1)) entry_is.lps ∙ ap (λ z. widened z (c.range - lps_of ctx c.range) (c.bits + 1)) (omega arith)
  decided_as false = ap (λ z. widened (c.low + (c.range - z)) z (c.bits + 1)) entry_is.lps

  next_as : (v : Bool) → cond v (x / 256 % 256) (x / 65536) ≡ ctx_after v ctx
  unfolding ctx_after
  next_as true = entry_is.mps
  next_as false = entry_is.other

  pub decision_code : (v : Bool) → v ≡ eqb bin (ctx / 64) → (e : Enc)
      → e ≡ widened (c.low + cond v 0 (c.range - x % 256)) (cond v (c.range - x % 256) (x % 256)) (c.bits + 1)
      → (e ≡ encoded (favoured ctx (eqb bin 1)) ctx (register_of c)) × (cond v (x / 256 % 256) (x / 65536) ≡ ctx_after (favoured ctx (eqb bin 1)) ctx)
  decision_code v p e r =
      let f : v ≡ favoured ctx (eqb bin 1) = p ∙ favoured_is ctx bin k b in (
        r ∙ decided_as v ∙ ap (λ z. encoded z ctx (register_of c)) f,
        next_as v ∙ ap (λ z. ctx_after z ctx) f,
      )

-- ---- a bypass bin
bit_no_lem : (bin : ℕ) → bin ≤ 1 → bin ≡ bit_no (eqb bin 1)
bit_no_lem zero b = refl
bit_no_lem (suc zero) b = refl
bit_no_lem (suc (suc n)) b = absurd (omega arith)

pub bypass_few : (c : Coder) (bin : ℕ) → Steady c → bin ≤ 1 → (bin * c.range ≤ 131072) × (c.low * 2 + bin * c.range ≤ 393216)
bypass_few c zero h b = (omega arith, omega (arith, steady_few c h))
bypass_few c (suc zero) h b = (omega (arith, steady_few c h), omega (arith, steady_few c h))
bypass_few c (suc (suc n)) h b = absurd (omega arith)

pub bypass_code : (c : Coder) (bin : ℕ) → bin ≤ 1
    → register_of (record { low = c.low * 2 + bin * c.range; range = c.range; bits = c.bits + 1; at = c.at }) ≡ bypass_enc (eqb bin 1) (register_of c)
bypass_code c bin b = same_enc _ _ _ _ _ _ (ap (λ z. c.low * 2 + z * c.range) (bit_no_lem bin b)) refl refl

-- ---- a byte for the room
module _ (c : Coder) (h : Grown c) (long : 17 ≤ c.bits) where
  pub nine_few : c.low / 2 ^ (c.bits - 8) < 512
  nine_few =
      let e : c.bits + 1 ≡ 9 + (c.bits - 8) = omega arith in
      shr_lt 9 (c.bits - 8) (omega (arith, h.wide.fits, h.wide.least, ap (λ z. 2 ^ z) e))

  -- shifted back it is what low has above
  pub nine_back : ((c.low / 2 ^ (c.bits - 8)) * 2 ^ (c.bits - 8)) % 4294967296 ≡ c.low - c.low % 2 ^ (c.bits - 8)
  nine_back =
      let s = split c.low (c.bits - 8) in
      let p : 2 ^ (c.bits + 1) ≤ 2 ^ 24 = pow_mono {i = c.bits + 1} {j = 24} (omega (arith, h.few)) in
      mod-eq_of_lt (omega (arith, h.wide.fits)) ∙ omega arith

  pub low_left : c.low - ((c.low / 2 ^ (c.bits - 8)) * 2 ^ (c.bits - 8)) % 4294967296 ≡ c.low % 2 ^ (c.bits - 8)
  low_left = omega (arith, nine_back, split c.low (c.bits - 8))

pub out_none : (wr : Bool) (room : List ℕ) (c : Coder) → c.bits < 17 → PutOut wr room c room c
out_none wr room c h = record { coder = rw (lt-ltb c.bits 17 h); bytes = rw (lt-ltb c.bits 17 h) }

pub out_some : (wr : Bool) (room room' : List ℕ) (c : Coder) → 17 ≤ c.bits → (low : ℕ) → low ≡ c.low % 2 ^ (c.bits - 8)
    → room' ≡ inked wr (c.low / 2 ^ (c.bits - 8)) c.at room
    → PutOut wr room c room' (record { low = low; range = c.range; bits = c.bits - 8; at = c.at + 1 })
out_some wr room room' c h low e p =
    record {
      coder = rw (le-ltb c.bits 17 h) (ap (λ z. record { low = z; range = c.range; bits = c.bits - 8; at = c.at + 1 }) e);
      bytes = rw (le-ltb c.bits 17 h) p;
    }

-- ---- the flush
pub last_few : (c : Coder) → Steady c → (v : ℕ) → v ≡ c.low + (c.range - 2) → (v + (1 - v % 2)) * 2 ^ (16 - c.bits) < 131072
last_few c h v e =
    let s : c.bits + 1 + (16 - c.bits) ≡ 17 = omega (arith, h.few) in
    let p : 2 ^ (c.bits + 1) * 2 ^ (16 - c.bits) ≡ 131072 = sym (pow-add 2 (c.bits + 1) (16 - c.bits)) ∙ ap (λ z. 2 ^ z) s in
    let m : (v + (1 - v % 2) + 1) * 2 ^ (16 - c.bits) ≤ 2 ^ (c.bits + 1) * 2 ^ (16 - c.bits) = mul-le-mul_right (2 ^ (16 - c.bits)) (omega (arith, h.wide.fits, h.wide.least)) in
    let z : 1 ≤ 2 ^ (16 - c.bits) = pow_mono {i = 0} {j = 16 - c.bits} (omega arith) in
    omega arith

pub last_small : (c : Coder) → Steady c → (l : ℕ) → l ≡ last_two c % 4294967296 → (l ≡ last_two c) × (l < 131072)
last_small c h l e =
    let k = last_few c h (c.low + (c.range - 2)) refl in
    let p : l ≡ last_two c = e ∙ mod-eq_of_lt (omega arith) in
    (p, omega arith)

pub flush_code : (wr : Bool) (room room₁ room₂ : List ℕ) (c : Coder) → Steady c → (l : ℕ) → l ≡ last_two c % 4294967296
    → room₁ ≡ inked wr (l / 256) c.at room → room₂ ≡ inked wr (l % 256) (c.at + 1) room₁ → room₂ ≡ last_of wr c room
flush_code wr room room₁ room₂ c h l e p q =
    q ∙ ap (inked wr (l % 256) (c.at + 1)) p ∙ ap (λ z. inked wr (z % 256) (c.at + 1) (inked wr (z / 256) c.at room)) (last_small c h l e).0
