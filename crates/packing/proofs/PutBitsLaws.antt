-- H.265's steps write the bits of the interval: what is written, what is outstanding and the ten bits of low make up the interval's low.
-- Assumes nothing.
use Prim.Native.Nat.{ℕ, zero, suc, ◌+◌, ◌-◌, ◌*◌, ◌/◌, ◌%◌, ◌^◌, ◌≤◌, ◌<◌}
use Rattle.std.proofs.Math.Path.{◌≡◌, ap, subst}
use Rattle.std.specs.Prelude.{refl, Bool, true, List, [], ◌∷◌, get_or, set, ltb}
use Rattle.std.proofs.Common.{sym, ap₂, ◌∙◌, arith, mul-le-mul_right, add-one, pow-add}
use Rattle.std.proofs.Math.Bool.{false, cond}
use Rattle.std.proofs.Math.Nat.{pow-suc}
use Rattle.std.specs.Int.Count.{count_leading_zeros}
use borrow.Author.Tests.{ltb-true, ltb-false}
use Rattle.bins.specs.Engine.{bit_no}
use Rattle.tables.specs.Tables.{lps_of}
use Rattle.tables.specs.Bounds.{lps_bounds}
use Rattle.tables.specs.Table.{eq_below}
use Rattle.packing.specs.Pack.{Enc, begun, widened, encoded, bypass_enc, align_enc, flushed, Entry, of_context, of_bypass, of_align, entries_of, Writing, writing, favoured, ctx_after, packed_bin, packed_entry, packed, filled, payload_of, packed_from}
use Rattle.packing.specs.FollowLaws.{Wide}
use Rattle.packing.proofs.TreeLaws.{entry_wide, packed_wide}
use Rattle.packing.specs.PayloadLaws.{begun_wide}
use Rattle.packing.specs.PutBits.{Bits, no_bits, wrote, repeated, Steps, steps_begun, at, put_bit, one_more, renorm_once, renorm_for, renorm_e, step_decision, bypass_by, step_bypass, step_flush, Stepping, stepping, step_bin, step_entry, step_all}

-- ---- the relation
-- nine bits before the first bit is dealt with, ten after
abbrev pub window : Bool → ℕ
window true = 9
window false = 10

-- low : the whole low, from the bits written, the outstanding ones (a 0 and ones, until a carry) and ten bits
pub record Same (s : Steps Bits) (u : Enc) : Type 0 where
  pub wide : s.range ≡ u.range
  pub some : 0 < u.range
  pub ten : s.low + s.range ≤ 1024
  pub low : u.low + 512 ≡ 1024 * (s.out.value * 2 ^ s.outstanding) + 512 * 2 ^ s.outstanding + s.low
  pub many : s.out.count + s.outstanding + window s.first ≡ u.n
  pub none : s.first ≡ true → (s.out.value ≡ 0) × (s.out.count ≡ 0)
  pub fits : u.low + u.range ≤ 2 ^ u.n

-- ---- bits written
pub repeated_is : (n b : ℕ) (w : Bits) → b ≤ 1
    → ((repeated wrote n b w).value + b ≡ w.value * 2 ^ n + b * 2 ^ n) × ((repeated wrote n b w).count ≡ w.count + n)
unfolding repeated
repeated_is zero b w h = (omega arith, omega arith)
repeated_is (suc n) b w h =
    let r = repeated_is n b (wrote b w) h in
    (rw pow-suc (omega (arith, r.0)), omega (arith, r.1))

-- one bit put: b, and then the outstanding ones, each 1 - b
put_zero : (f : Bool) (o : ℕ) (w : Bits) → (f ≡ true → (w.value ≡ 0) × (w.count ≡ 0))
    → ((repeated wrote o 1 (cond f w (wrote 0 w))).value + 1 ≡ 2 * (w.value * 2 ^ o) + 2 ^ o)
    × ((repeated wrote o 1 (cond f w (wrote 0 w))).count + 10 ≡ w.count + o + window f + 1)
put_zero true o w h =
    let r = repeated_is o 1 w (omega arith) in
    let z : w.value * 2 ^ o ≡ 0 * 2 ^ o = ap (λ x. x * 2 ^ o) (h refl).0 in
    (omega (arith, r.0), omega (arith, r.1))
put_zero false o w h =
    let r = repeated_is o 1 (wrote 0 w) (omega arith) in
    (omega (arith, r.0), omega (arith, r.1))

put_one : (o : ℕ) (w : Bits)
    → ((repeated wrote o 0 (wrote 1 w)).value ≡ 2 * (w.value * 2 ^ o) + 2 ^ o)
    × ((repeated wrote o 0 (wrote 1 w)).count ≡ w.count + o + 1)
put_one o w =
    let r = repeated_is o 0 (wrote 1 w) (omega arith) in
    (omega (arith, r.0), omega (arith, r.1))

-- ---- one more bit, of which the interval is twice as fine: low' is twice low and a part of the range
module _ (s : Steps Bits) (u : Enc) (h : Same s u) (r d : ℕ) (p : 0 < r) (x : ℕ) (e : x ≡ s.low * 2 + d) (t : x + r ≤ 2048) (m : u.low * 2 + d + r ≤ 2 ^ (u.n + 1)) where
  abbrev next : Enc
  next = record { low = u.low * 2 + d; range = r; n = u.n + 1 }

  bit_zero : x < 512 → x + r ≤ 1024 → Same (put_bit wrote 0 (at x r s)) next
  unfolding put_bit
  bit_zero k c =
      let z = put_zero s.first s.outstanding s.out h.none in
      record {
        wide = refl;
        some = p;
        ten = c;
        low = omega (arith, h.low, z.0);
        many = omega (arith, h.many, z.1);
        none = λ q. let y : ◌≡◌ {A = ℕ} 0 1 = ap (λ f. cond f 1 0) q in absurd (omega arith);
        fits = m;
      }

  bit_more : 512 ≤ x → x + r ≤ 1536 → Same (one_more (at (x - 512) r s)) next
  bit_more k c =
      let w : 2 ^ (s.outstanding + 1) ≡ 2 ^ s.outstanding * 2 = rw (add-one s.outstanding) (pow-suc 2 s.outstanding) in
      let v : s.out.value * 2 ^ (s.outstanding + 1) ≡ s.out.value * (2 ^ s.outstanding * 2) = ap (λ y. s.out.value * y) w in
      record {
        wide = refl;
        some = p;
        ten = omega arith;
        low = omega (arith, h.low, w, v);
        many = omega (arith, h.many);
        none = h.none;
        fits = m;
      }

  -- the first bit is never 1: low would not fit
  first_fits : 1024 ≤ x → s.first ≡ false
  first_fits k = go s.first refl
    where
      go : (b : Bool) → s.first ≡ b → b ≡ false
      go false q = refl
      go true q =
          let z = h.none q in
          let w : s.out.count + s.outstanding + 9 ≡ u.n = subst (λ (f : Bool). s.out.count + s.outstanding + window f ≡ u.n) q h.many in
          let n : 10 + s.outstanding ≡ u.n + 1 = omega (arith, z.1) in
          let f : 2 ^ (u.n + 1) ≡ 1024 * 2 ^ s.outstanding = ap (λ x. 2 ^ x) (sym n) ∙ pow-add 2 10 s.outstanding in
          let v : s.out.value * 2 ^ s.outstanding ≡ 0 * 2 ^ s.outstanding = ap (λ x. x * 2 ^ s.outstanding) z.0 in
          absurd (omega (arith, h.low))

  bit_one : 1024 ≤ x → Same (put_bit wrote 1 (at (x - 1024) r s)) next
  unfolding put_bit
  bit_one k =
      let c = first_fits k in
      let z = put_one s.outstanding s.out in
      let f : cond s.first s.out (wrote 1 s.out) ≡ wrote 1 s.out = ap (λ y. cond y s.out (wrote 1 s.out)) c in
      let a : repeated wrote s.outstanding 0 (cond s.first s.out (wrote 1 s.out)) ≡ repeated wrote s.outstanding 0 (wrote 1 s.out) = ap (repeated wrote s.outstanding 0) f in
      let v = ap (λ (y : Bits). y.value) a in
      let n = ap (λ (y : Bits). y.count) a in
      let g : s.out.count + s.outstanding + 10 ≡ u.n = subst (λ (f : Bool). s.out.count + s.outstanding + window f ≡ u.n) c h.many in
      record {
        wide = refl;
        some = p;
        ten = omega arith;
        low = omega (arith, h.low, z.0, v);
        many = omega (arith, g, z.1, n);
        none = λ q. let y : ◌≡◌ {A = ℕ} 0 1 = ap (λ f. cond f 1 0) q in absurd (omega arith);
        fits = m;
      }

-- ---- RenormE
doubled : Enc → Enc
doubled u = record { low = u.low * 2 + 0; range = u.range * 2; n = u.n + 1 }

once_same : (s : Steps Bits) (u : Enc) → Same s u → s.range < 256 → Same (renorm_once wrote s) (doubled u)
unfolding renorm_once doubled
once_same s u h k = go (ltb s.low 256) (ltb s.low 512) refl refl
  where
    r : ℕ
    r = s.range * 2

    same-range : s.range * 2 ≡ u.range * 2
    same-range = ap (λ x. x * 2) h.wide

    fit : u.low * 2 + 0 + s.range * 2 ≤ 2 ^ (u.n + 1)
    fit = rw (add-one u.n, pow-suc) (omega (arith, h.fits, h.wide))

    back : (z : Steps Bits) → Same z (record { low = u.low * 2 + 0; range = s.range * 2; n = u.n + 1 }) → Same z (record { low = u.low * 2 + 0; range = u.range * 2; n = u.n + 1 })
    back z y = subst (λ (x : ℕ). Same z (record { low = u.low * 2 + 0; range = x; n = u.n + 1 })) same-range y

    go : (a b : Bool) → ltb s.low 256 ≡ a → ltb s.low 512 ≡ b
        → Same (cond a (put_bit wrote 0 (at (s.low * 2) (s.range * 2) s)) (cond b (one_more (at ((s.low - 256) * 2) (s.range * 2) s)) (put_bit wrote 1 (at ((s.low - 512) * 2) (s.range * 2) s))))
        (record { low = u.low * 2 + 0; range = u.range * 2; n = u.n + 1 })
    go true b p q =
        let l = ltb-true s.low 256 p in
        back _ (bit_zero s u h (s.range * 2) 0 (omega (arith, h.some, h.wide)) (s.low * 2) (omega arith) (omega (arith, h.ten)) fit (omega arith) (omega arith))
    go false true p q =
        let l = ltb-true s.low 512 q in
        let m = ltb-false s.low 256 p in
        let e : (s.low - 256) * 2 ≡ s.low * 2 - 512 = omega arith in
        back _ (rw e (bit_more s u h (s.range * 2) 0 (omega (arith, h.some, h.wide)) (s.low * 2) (omega arith) (omega (arith, h.ten)) fit (omega arith) (omega arith)))
    go false false p q =
        let l = ltb-false s.low 512 q in
        let e : (s.low - 512) * 2 ≡ s.low * 2 - 1024 = omega arith in
        back _ (rw e (bit_one s u h (s.range * 2) 0 (omega (arith, h.some, h.wide)) (s.low * 2) (omega arith) (omega (arith, h.ten)) fit (omega arith)))

zeros_twice : (r : ℕ) → 0 < r → r < 256 → count_leading_zeros 9 r ≡ count_leading_zeros 9 (r * 2) + 1
unfolding count_leading_zeros
zeros_twice zero p h = absurd (omega arith)
zeros_twice (suc k) p h = eq_below (λ i. count_leading_zeros 9 (suc i)) (λ i. count_leading_zeros 9 (suc i * 2) + 1) 255 tt k (omega arith)

zeros_none : (r : ℕ) → 256 ≤ r → r ≤ 510 → count_leading_zeros 9 r ≡ 0
unfolding count_leading_zeros
zeros_none r h k =
    let e : 256 + (r - 256) ≡ r = omega arith in
    subst (λ (z : ℕ). count_leading_zeros 9 z ≡ 0) e (eq_below (λ i. count_leading_zeros 9 (256 + i)) (λ i. 0) 255 tt (r - 256) (omega arith))

widened_twice : (low r n : ℕ) → 0 < r → r < 256 → widened (low * 2 + 0) (r * 2) (n + 1) ≡ widened low r n
widened_twice low r n p h =
    let c = count_leading_zeros 9 (r * 2) in
    let z = zeros_twice r p h in
    let w : 2 ^ count_leading_zeros 9 r ≡ 2 ^ c * 2 = ap (λ x. 2 ^ x) z ∙ rw (add-one c) (pow-suc 2 c) in
    let a : (low * 2 + 0) * 2 ^ c ≡ low * 2 ^ count_leading_zeros 9 r = omega (arith, ap (λ x. low * x) w) in
    let b : r * 2 * 2 ^ c ≡ r * 2 ^ count_leading_zeros 9 r = omega (arith, ap (λ x. r * x) w) in
    let d : n + 1 + c ≡ n + count_leading_zeros 9 r = omega arith in
    cc

widened_once : (low r n : ℕ) → 256 ≤ r → r ≤ 510 → ◌≡◌ {A = Enc} (record { low = low; range = r; n = n }) (widened low r n)
widened_once low r n p h =
    let z = zeros_none r p h in
    let w : 2 ^ count_leading_zeros 9 r ≡ 1 = ap (λ x. 2 ^ x) z in
    let a : low ≡ low * 2 ^ count_leading_zeros 9 r = omega (arith, ap (λ x. low * x) w) in
    let b : r ≡ r * 2 ^ count_leading_zeros 9 r = omega (arith, ap (λ x. r * x) w) in
    let d : n ≡ n + count_leading_zeros 9 r = omega arith in
    cc

for_same : (k : ℕ) (s : Steps Bits) (u : Enc) → Same s u → u.range ≤ 510 → 256 ≤ u.range * 2 ^ k
    → Same (renorm_for wrote k s) (widened u.low u.range u.n)
unfolding renorm_for
for_same zero s u h m f = subst (Same s) (widened_once u.low u.range u.n (omega arith) m) h
for_same (suc k) s u h m f = go (ltb s.range 256) refl (λ y a b. for_same k (renorm_once wrote s) (record { low = u.low * 2 + 0; range = u.range * 2; n = u.n + 1 }) y a b)
  where
    Later : Type 0
    Later =
        Same (renorm_once wrote s) (record { low = u.low * 2 + 0; range = u.range * 2; n = u.n + 1 }) → u.range * 2 ≤ 510 → 256 ≤ u.range * 2 * 2 ^ k
        → Same (renorm_for wrote k (renorm_once wrote s)) (widened (u.low * 2 + 0) (u.range * 2) (u.n + 1))

    go : (b : Bool) → ltb s.range 256 ≡ b → Later → Same (cond b (renorm_for wrote k (renorm_once wrote s)) s) (widened u.low u.range u.n)
    go true q later =
        let b = ltb-true s.range 256 q in
        let y : Same (renorm_once wrote s) (record { low = u.low * 2 + 0; range = u.range * 2; n = u.n + 1 }) = unfold doubled in once_same s u h b in
        let e : u.range * 2 ^ suc k ≡ u.range * 2 * 2 ^ k = rw pow-suc (omega arith) in
        subst (Same (renorm_for wrote k (renorm_once wrote s))) (widened_twice u.low u.range u.n h.some (omega (arith, h.wide)))
        (later y (omega (arith, h.wide)) (omega arith))
    go false q later =
        let l = ltb-false s.range 256 q in
        subst (Same s) (widened_once u.low u.range u.n (omega (arith, h.wide)) m) h

pub renorm_same : (s : Steps Bits) (u : Enc) → Same s u → u.range ≤ 510 → Same (renorm_e wrote s) (widened u.low u.range u.n)
renorm_same s u h m = for_same 8 s u h m (omega (arith, h.some))

-- ---- a part of the interval
part_same : (s : Steps Bits) (u : Enc) (d e r q : ℕ) → Same s u → d ≡ e → r ≡ q → 0 < q → e + q ≤ u.range
    → Same (at (s.low + d) r s) (record { low = u.low + e; range = q; n = u.n })
part_same s u d e r q h a b p k =
    record {
      wide = b;
      some = p;
      ten = omega (arith, h.ten, h.wide);
      low = omega (arith, h.low);
      many = h.many;
      none = h.none;
      fits = omega (arith, h.fits);
    }

low_same : (s : Steps Bits) (u : Enc) (r q : ℕ) → Same s u → r ≡ q → 0 < q → q ≤ u.range
    → Same (at s.low r s) (record { low = u.low; range = q; n = u.n })
low_same s u r q h b p k =
    record {
      wide = b;
      some = p;
      ten = omega (arith, h.ten, h.wide);
      low = h.low;
      many = h.many;
      none = h.none;
      fits = omega (arith, h.fits);
    }

-- ---- the steps
pub decision_same : (v : Bool) (ctx : ℕ) (s : Steps Bits) (u : Enc) → Wide u → Same s u → Same (step_decision wrote v ctx s) (encoded v ctx u)
unfolding step_decision encoded
decision_same true ctx s u w h =
    let b = lps_bounds ctx u.range in
    let e : s.range - lps_of ctx s.range ≡ u.range - lps_of ctx u.range = ap (λ x. x - lps_of ctx x) h.wide in
    renorm_same (at s.low (s.range - lps_of ctx s.range) s) (record { low = u.low; range = u.range - lps_of ctx u.range; n = u.n })
    (low_same s u (s.range - lps_of ctx s.range) (u.range - lps_of ctx u.range) h e (omega (arith, w.least)) (omega arith)) (omega (arith, w.most))
decision_same false ctx s u w h =
    let b = lps_bounds ctx u.range in
    let e : s.range - lps_of ctx s.range ≡ u.range - lps_of ctx u.range = ap (λ x. x - lps_of ctx x) h.wide in
    let f : lps_of ctx s.range ≡ lps_of ctx u.range = ap (λ x. lps_of ctx x) h.wide in
    renorm_same (at (s.low + (s.range - lps_of ctx s.range)) (lps_of ctx s.range) s) (record { low = u.low + (u.range - lps_of ctx u.range); range = lps_of ctx u.range; n = u.n })
    (part_same s u (s.range - lps_of ctx s.range) (u.range - lps_of ctx u.range) (lps_of ctx s.range) (lps_of ctx u.range) h e f (omega arith) (omega (arith, w.least))) (omega arith)

bit_le : (v : Bool) (r : ℕ) → bit_no v * r ≤ r
bit_le true r = omega arith
bit_le false r = omega arith

by_same : (x d : ℕ) (s : Steps Bits) (u : Enc) → Wide u → Same s u → x ≡ s.low * 2 + d → d ≤ u.range
    → Same (bypass_by wrote x s) (record { low = u.low * 2 + d; range = u.range; n = u.n + 1 })
unfolding bypass_by
by_same x d s u w h e k = back (bypass_by wrote x s) (go (ltb x 512) (ltb x 1024) refl refl)
  where
    back : (z : Steps Bits) → Same z (record { low = u.low * 2 + d; range = s.range; n = u.n + 1 }) → Same z (record { low = u.low * 2 + d; range = u.range; n = u.n + 1 })
    back z y = subst (λ (x : ℕ). Same z (record { low = u.low * 2 + d; range = x; n = u.n + 1 })) h.wide y

    fit : u.low * 2 + d + s.range ≤ 2 ^ (u.n + 1)
    fit = rw (add-one u.n, pow-suc) (omega (arith, h.fits, h.wide))

    go : (a b : Bool) → ltb x 512 ≡ a → ltb x 1024 ≡ b
        → Same (cond a (put_bit wrote 0 (at x s.range s)) (cond b (one_more (at (x - 512) s.range s)) (put_bit wrote 1 (at (x - 1024) s.range s))))
        (record { low = u.low * 2 + d; range = s.range; n = u.n + 1 })
    go true b p q =
        let l = ltb-true x 512 p in
        bit_zero s u h s.range d (omega (arith, h.some, h.wide)) x e (omega (arith, h.ten, h.wide)) fit l (omega (arith, h.wide, w.most))
    go false true p q =
        let l = ltb-true x 1024 q in
        let m = ltb-false x 512 p in
        bit_more s u h s.range d (omega (arith, h.some, h.wide)) x e (omega (arith, h.ten, h.wide)) fit m (omega (arith, h.wide, w.most))
    go false false p q =
        let l = ltb-false x 1024 q in
        bit_one s u h s.range d (omega (arith, h.some, h.wide)) x e (omega (arith, h.ten, h.wide)) fit l

pub bypass_same : (v : Bool) (s : Steps Bits) (u : Enc) → Wide u → Same s u → Same (step_bypass wrote v s) (bypass_enc v u)
unfolding step_bypass
bypass_same v s u w h =
    let q : bit_no v * s.range ≡ bit_no v * u.range = ap (λ x. bit_no v * x) h.wide in
    by_same (s.low * 2 + bit_no v * s.range) (bit_no v * u.range) s u w h (omega arith) (bit_le v u.range)

pub align_same : (s : Steps Bits) (u : Enc) → Wide u → Same s u → Same (at s.low 256 s) (align_enc u)
align_same s u w h = low_same s u 256 256 h refl (omega arith) w.least

-- ---- the flush: the bits of the number that it picks
last_two_lem : (v l x : ℕ) → x ≡ v * 4 + l / 128 % 4 → (v * 2 + l / 256 % 2) * 2 + 1 ≡ x + (1 - x % 2)
last_two_lem v l x q =
    let a : l / 128 % 4 ≡ l / 256 % 2 * 2 + l / 128 % 2 = omega arith in
    let b : x % 2 ≡ l / 128 % 2 = omega arith in
    omega arith

module _ (f : Steps Bits) (x n : ℕ) (h : Same f (record { low = x * 128; range = 256; n = n + 7 })) where
  not_first : 512 ≤ f.low → f.first ≡ false
  not_first k = go f.first refl
    where
      go : (b : Bool) → f.first ≡ b → b ≡ false
      go false q = refl
      go true q =
          let z = h.none q in
          let w : f.out.count + f.outstanding + 9 ≡ n + 7 = subst (λ (y : Bool). f.out.count + f.outstanding + window y ≡ n + 7) q h.many in
          let m : 9 + f.outstanding ≡ n + 7 = omega (arith, z.1) in
          let p : 2 ^ (n + 7) ≡ 512 * 2 ^ f.outstanding = ap (λ y. 2 ^ y) (sym m) ∙ pow-add 2 9 f.outstanding in
          let v : f.out.value * 2 ^ f.outstanding ≡ 0 * 2 ^ f.outstanding = ap (λ y. y * 2 ^ f.outstanding) z.0 in
          absurd (omega (arith, h.low, h.fits))

  flush_is : (((put_bit wrote (f.low / 512 % 2) f).out.value * 2 + f.low / 256 % 2) * 2 + 1 ≡ x + (1 - x % 2))
      × ((put_bit wrote (f.low / 512 % 2) f).out.count + 1 + 1 ≡ n)
  flush_is = go (ltb f.low 512) refl
    where
      go : (b : Bool) → ltb f.low 512 ≡ b
          → (((put_bit wrote (f.low / 512 % 2) f).out.value * 2 + f.low / 256 % 2) * 2 + 1 ≡ x + (1 - x % 2))
          × ((put_bit wrote (f.low / 512 % 2) f).out.count + 1 + 1 ≡ n)
      go true q =
          let k = ltb-true f.low 512 q in
          let e : f.low / 512 % 2 ≡ 0 = omega arith in
          let z = put_zero f.first f.outstanding f.out h.none in
          let v : (put_bit wrote (f.low / 512 % 2) f).out.value + 1 ≡ 2 * (f.out.value * 2 ^ f.outstanding) + 2 ^ f.outstanding =
          rw e (unfold put_bit in z.0) in
          let m : (put_bit wrote (f.low / 512 % 2) f).out.count + 10 ≡ f.out.count + f.outstanding + window f.first + 1 = rw e (unfold put_bit in z.1) in
          let y : x ≡ (put_bit wrote (f.low / 512 % 2) f).out.value * 4 + f.low / 128 % 4 = omega (arith, h.low) in
          (last_two_lem _ f.low x y, omega (arith, h.many))
      go false q =
          let k = ltb-false f.low 512 q in
          let t = h.ten in
          let e : f.low / 512 % 2 ≡ 1 = omega (arith, h.ten, h.wide) in
          let c = not_first k in
          let z = put_one f.outstanding f.out in
          let a : (put_bit wrote (f.low / 512 % 2) f).out ≡ repeated wrote f.outstanding 0 (wrote 1 f.out) =
          rw e (unfold put_bit in ap (λ y. repeated wrote f.outstanding 0 (cond y f.out (wrote 1 f.out))) c) in
          let v : (put_bit wrote (f.low / 512 % 2) f).out.value ≡ 2 * (f.out.value * 2 ^ f.outstanding) + 2 ^ f.outstanding = ap (λ (y : Bits). y.value) a ∙ z.0 in
          let m : (put_bit wrote (f.low / 512 % 2) f).out.count ≡ f.out.count + f.outstanding + 1 = ap (λ (y : Bits). y.count) a ∙ z.1 in
          let g : f.out.count + f.outstanding + 10 ≡ n + 7 = subst (λ (y : Bool). f.out.count + f.outstanding + window y ≡ n + 7) c h.many in
          let y : x ≡ (put_bit wrote (f.low / 512 % 2) f).out.value * 4 + f.low / 128 % 4 = omega (arith, h.low, h.ten, h.wide) in
          (last_two_lem _ f.low x y, omega arith)

widened_two : (low n : ℕ) → widened low 2 n ≡ record { low = low * 128; range = 256; n = n + 7 }
unfolding count_leading_zeros
widened_two low n = refl

pub flush_same : (s : Steps Bits) (u : Enc) → Wide u → Same s u → step_flush wrote s ≡ record { value = flushed u; count = u.n }
unfolding step_flush flushed
flush_same s u w h =
    let x = u.low + (u.range - 2) in
    let e : s.range - 2 ≡ u.range - 2 = ap (λ y. y - 2) h.wide in
    let f = renorm_e wrote (at (s.low + (s.range - 2)) 2 s) in
    let g : Same f (widened x 2 u.n) = renorm_same (at (s.low + (s.range - 2)) 2 s) (record { low = x; range = 2; n = u.n })
    (part_same s u (s.range - 2) (u.range - 2) 2 2 h e refl (omega arith) (omega (arith, w.least))) (omega arith) in
    let r = flush_is f x u.n (subst (Same f) (widened_two x u.n) g) in
    let t : x ≡ u.low + u.range - 2 = omega (arith, w.least) in
    let v : ((put_bit wrote (f.low / 512 % 2) f).out.value * 2 + f.low / 256 % 2) * 2 + 1 ≡ u.low + u.range - 2 + (1 - (u.low + u.range - 2) % 2) =
    r.0 ∙ ap (λ y. y + (1 - y % 2)) t in
    ap₂ (λ a b. record { value = a; count = b }) v r.1

-- ---- a list
pub record SameAt (w : Stepping Bits) (v : Writing) : Type 0 where
  pub steps : Same w.steps v.enc
  pub contexts : w.contexts ≡ v.contexts

pub begun_same : Same (steps_begun no_bits) begun
begun_same =
    record {
      wide = refl;
      some = omega arith;
      ten = omega arith;
      low = omega arith;
      many = refl;
      none = λ q. (refl, refl);
      fits = omega arith;
    }

pub bin_same : (c : ℕ) (b : Bool) (w : Stepping Bits) (v : Writing) → Wide v.enc → SameAt w v → SameAt (step_bin wrote c b w) (packed_bin c b v)
unfolding step_bin packed_bin
bin_same c b w v f h =
    let ctx = get_or w.contexts c 0 in
    let go : (cs : List ℕ) → w.contexts ≡ cs
    → SameAt (stepping (step_decision wrote (favoured (get_or w.contexts c 0) b) (get_or w.contexts c 0) w.steps) (set w.contexts c (ctx_after (favoured (get_or w.contexts c 0) b) (get_or w.contexts c 0))))
    (writing (encoded (favoured (get_or cs c 0) b) (get_or cs c 0) v.enc) (set cs c (ctx_after (favoured (get_or cs c 0) b) (get_or cs c 0)))) =
    λ cs q. subst (λ (z : List ℕ). SameAt (stepping (step_decision wrote (favoured ctx b) ctx w.steps) (set w.contexts c (ctx_after (favoured ctx b) ctx)))
    (writing (encoded (favoured (get_or z c 0) b) (get_or z c 0) v.enc) (set z c (ctx_after (favoured (get_or z c 0) b) (get_or z c 0))))) q
    (record { steps = decision_same (favoured ctx b) ctx w.steps v.enc f h.steps; contexts = refl }) in
    go v.contexts h.contexts

pub entry_same : (x : Entry) (w : Stepping Bits) (v : Writing) → Wide v.enc → SameAt w v → SameAt (step_entry wrote x w) (packed_entry x v)
unfolding step_entry packed_entry
entry_same (of_context c b) w v f h = bin_same c b w v f h
entry_same (of_bypass b) w v f h = record { steps = bypass_same b w.steps v.enc f h.steps; contexts = h.contexts }
entry_same of_align w v f h = record { steps = align_same w.steps v.enc f h.steps; contexts = h.contexts }

pub all_same : (l : List Entry) (w : Stepping Bits) (v : Writing) → Wide v.enc → SameAt w v → SameAt (step_all wrote l w) (packed l v)
unfolding step_all packed
all_same [] w v f h = h
all_same (x ∷ l) w v f h =
    all_same l (step_entry wrote x w) (packed_entry x v) (entry_wide x v f) (entry_same x w v f h)

-- H.265's steps, from their start to their flush, write the n bits of the number that the interval's flush picks, and leave the same contexts
pub put_bits : (cs : List ℕ) (es : List Entry)
    → (step_flush wrote (step_all wrote es (stepping (steps_begun no_bits) cs)).steps ≡ record { value = flushed (packed es (writing begun cs)).enc; count = (packed es (writing begun cs)).enc.n })
    × ((step_all wrote es (stepping (steps_begun no_bits) cs)).contexts ≡ (packed es (writing begun cs)).contexts)
put_bits cs es =
    let r = all_same es (stepping (steps_begun no_bits) cs) (writing begun cs) begun_wide (record { steps = begun_same; contexts = refl }) in
    (flush_same _ _ (packed_wide es (writing begun cs) begun_wide) r.steps, r.contexts)

-- so the payload is what they write, in bytes
pub put_payload : (cs bins : List ℕ) (w : Bits) → w ≡ step_flush wrote (step_all wrote (entries_of bins) (stepping (steps_begun no_bits) cs)).steps
    → filled w.count w.value ≡ payload_of (packed_from cs bins).enc
unfolding payload_of
put_payload cs bins w q = ap (λ (z : Bits). filled z.count z.value) (q ∙ (put_bits cs (entries_of bins)).0)
