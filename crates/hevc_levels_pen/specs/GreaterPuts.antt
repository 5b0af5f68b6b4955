-- The greater1 loop as its code puts it: what is left to write; and the place of the first bin that is 1. Assumes nothing.
use Prim.Native.Nat.{ℕ, zero, suc, ◌+◌, ◌-◌, ◌*◌, ◌/◌, ◌%◌, ◌^◌, ◌≤◌, ◌<◌, min}
use Rattle.std.specs.Prelude.{◌≡◌, refl, Bool, true, false, List, [], ◌∷◌, ◌++◌, ltb, eqb, ℤ, pos, nat_abs, get_or, drop}
use Rattle.std.proofs.Math.Path.{sym, ap, subst}
use Rattle.std.proofs.Common.{◌∙◌, mod-lt, add-one, drop_of_length-le, drop-cons, lt-ltb, le-ltb, ltb-true, ltb-false}
use native.Mathlib.Omega.{arith}
use Rattle.std.proofs.Math.Nat.{pow-zero}
use Rattle.std.specs.Int.Count.{count_trailing_zeros, under}
use Rattle.std.proofs.Math.ListN.{length}
use Rattle.bins.specs.Engine.{bit_no}
use Rattle.bins.specs.Tags.{tag}
use Rattle.bins.specs.Syn.{done, bin, ◌>>=◌}
use Rattle.hevc_residual.specs.Wanted.{Wanted, S, is_big}
use Rattle.hevc_residual.specs.SubBlock.{Greater1, greater1_s, greater1_ctx_next, first_greater1}
use Rattle.hevc_places.specs.declared.places.Places.{Places}
use Rattle.hevc_places.specs.Packing.{unpack, unpacked, unmask}
use Rattle.hevc_places.specs.PackingLaws.{bit_back, sixteen_pow, unpack_at, unpack_length, unmask_small, mask_with, mask_small, mask_fits, mask_is}
use Rattle.hevc_rules.specs.GreaterAgree.{none}
use Rattle.hevc_rules.specs.GreaterLaws.{greater_end, greater_out, greater_more, on_from, marked}
use Rattle.pen.specs.Sheet.{Sheet, entered, Wrote}
use Rattle.pen.specs.SheetLaws.{entered_long, wrote_none, wrote_bin, wrote_call}
use Rattle.hevc_wanted.specs.Shown.{Shows}

-- ---- a place by its number, as the code shifts it out
pub place_is : (v j n : ℕ) → j < n → v / 2 ^ (4 * j) % 16 ≡ get_or (unpack v n) j 0
place_is v j n h = ap (λ z. v / z % 16) (sym (sixteen_pow j)) ∙ sym (unpack_at n v j h)

-- ---- whether a level is above 1, by its magnitude m
pub big_one : (v : ℤ) (m : ℕ) → m ≡ nat_abs v → 1 < m → 1 ≡ bit_no (ltb 1 (nat_abs v))
big_one v m q h = rw (lt-ltb 1 (nat_abs v) (omega arith))

pub big_none : (v : ℤ) (m : ℕ) → m ≡ nat_abs v → m ≤ 1 → 0 ≡ bit_no (ltb 1 (nat_abs v))
big_none v m q h = rw (le-ltb 1 (nat_abs v) (omega arith))

-- ---- how many bins, by the packed places
pub bins_most_lem : (n : ℕ) (s : Places) → n ≡ min 8 s.count → n ≡ min 8 (length (unpacked s))
bins_most_lem n s q = q ∙ ap (λ i. min 8 i) (sym (unpack_length s.count s.packed))

-- ---- the loop, at bin j of n; ks are the places, s the sheet before it
module _ (levels : List ℤ) (ks : List ℕ) (base n : ℕ) (s : Sheet) where
  pub record Putting (mask carry j : ℕ) (s' : Sheet) : Type 0 where
    pub few : j ≤ n
    pub long : length s'.room ≡ length s.room
    pub small : mask < 2 ^ j
    pub low : carry ≤ 3
    pub left : (lv : ℕ → Wanted → ℤ) (w : Wanted) → Shows lv w levels
        → Wrote (greater1_s lv base 8 ks none) (greater1_s lv base (8 - j) (drop j ks) (marked mask j carry)) w s s'

  pub putting_begins : Putting 0 1 0 s
  unfolding unmask
  putting_begins =
      record {
        few = omega arith;
        long = refl;
        small = omega arith;
        low = omega arith;
        left = λ lv w h. wrote_none w (greater1_s lv base 8 ks none) s;
      }

  module _ (mask carry j : ℕ) (s' : Sheet) (h : Putting mask carry j s') (most : n ≡ min 8 (length ks)) where
    all_put : n ≤ j → (lv : ℕ → Wanted → ℤ) → greater1_s lv base (8 - j) (drop j ks) (marked mask j carry) ≡ done (marked mask n carry)
    all_put e lv =
        let q : j ≡ n = omega (arith, h.few) in
        go (ltb (length ks) 8) refl ∙ ap (λ z. done (marked mask z carry)) q
      where
        go : (b : Bool) → ltb (length ks) 8 ≡ b → greater1_s lv base (8 - j) (drop j ks) (marked mask j carry) ≡ done (marked mask j carry)
        go true q =
            let i : length ks ≤ j = omega (arith, ltb-true (length ks) 8 q) in
            ap (λ z. greater1_s lv base (8 - j) z (marked mask j carry)) (drop_of_length-le ks i) ∙ greater_end lv base (8 - j) (marked mask j carry)
        go false q =
            let i : 8 - j ≡ 0 = omega (arith, ltb-false (length ks) 8 q) in
            ap (λ z. greater1_s lv base z (drop j ks) (marked mask j carry)) i ∙ greater_out lv base (drop j ks) (marked mask j carry)

    -- all n were put
    pub putting_ends : n ≤ j → (mask < 2 ^ n) × (carry ≤ 3)
        × ((lv : ℕ → Wanted → ℤ) (w : Wanted) → Shows lv w levels → Wrote (greater1_s lv base 8 ks none) (done (marked mask n carry)) w s s')
    putting_ends e =
        let q : j ≡ n = omega (arith, h.few) in (
          subst (λ z. mask < 2 ^ z) q h.small,
          h.low,
          λ lv w g. subst (λ t. Wrote (greater1_s lv base 8 ks none) t w s s') (all_put e lv) (h.left lv w g),
        )

    module _ (more : j < n) where
      next : (lv : ℕ → Wanted → ℤ) → Bool → S Greater1
      next lv = on_from lv base (8 - suc j) (drop (suc j) ks) (marked mask j carry)

      next_left : (lv : ℕ → Wanted → ℤ) → greater1_s lv base (8 - j) (drop j ks) (marked mask j carry)
          ≡ (bin (base + carry) (λ t. is_big lv t (get_or ks j 0)) done >>= next lv)
      unfolding next
      next_left lv =
          let e : 8 - j ≡ suc (8 - suc j) = omega arith in
          let i : j < length ks = omega arith in
          let c : min carry 3 ≡ carry = omega (arith, h.low) in
          ap (λ z. greater1_s lv base z (drop j ks) (marked mask j carry)) e
          ∙ ap (λ z. greater1_s lv base (suc (8 - suc j)) z (marked mask j carry)) (drop-cons ks j 0 i)
          ∙ greater_more lv base (8 - suc j) (get_or ks j 0) (drop (suc j) ks) (marked mask j carry)
          ∙ ap (λ z. bin (base + z) (λ t. is_big lv t (get_or ks j 0)) done >>= on_from lv base (8 - suc j) (drop (suc j) ks) (marked mask j carry)) c

      one_put : (lv : ℕ → Wanted → ℤ) (w : Wanted) → Shows lv w levels → (b : Bool) → is_big lv w (get_or ks j 0) ≡ b
          → Wrote (greater1_s lv base 8 ks none) (next lv b) w s (entered (tag (base + carry) b) s')
      one_put lv w g b q =
          let v : Wanted → Bool = λ t. is_big lv t (get_or ks j 0) in
          let f = subst (λ t. Wrote (greater1_s lv base 8 ks none) t w s s') (next_left lv) (h.left lv w g) in
          let p =
          subst (λ z. Wrote (bin (base + carry) v done) (done z) w s' (entered (tag (base + carry) z) s')) q (wrote_bin w (base + carry) v done s') in
          wrote_call w (greater1_s lv base 8 ks none) (bin (base + carry) v done) (next lv) b s s' (entered (tag (base + carry) b) s') f p

      on_bin_lem : (b : Bool) → ((lv : ℕ → Wanted → ℤ) (w : Wanted) → Shows lv w levels → is_big lv w (get_or ks j 0) ≡ b)
          → (c : ℕ) → c ≡ greater1_ctx_next b carry → c ≤ 3 → Putting (mask_with mask j (bit_no b)) c (j + 1) (entered (tag (base + carry) b) s')
      unfolding next
      on_bin_lem b q c e l =
          let few : j ≤ 7 = omega arith in
          record {
            few = omega arith;
            long = entered_long (tag (base + carry) b) s' ∙ h.long;
            small = subst (λ i. mask_with mask j (bit_no b) < 2 ^ i) (sym (add-one j)) (mask_small mask j b h.small few);
            low = l;
            left = λ lv w g.
                let bs : unmask mask j ++ (b ∷ []) ≡ unmask (mask_with mask j (bit_no b)) (suc j) = sym (mask_is mask j b h.small few) in
                let t : next lv b ≡ greater1_s lv base (8 - (j + 1)) (drop (j + 1) ks) (marked (mask_with mask j (bit_no b)) (j + 1) c) =
                ap (λ u. greater1_s lv base (8 - suc j) (drop (suc j) ks) (record { bins = u; greater1_ctx = greater1_ctx_next b carry })) bs
                ∙ ap (λ u. greater1_s lv base (8 - suc j) (drop (suc j) ks) (marked (mask_with mask j (bit_no b)) (suc j) u)) (sym e)
                ∙ ap (λ i. greater1_s lv base (8 - i) (drop i ks) (marked (mask_with mask j (bit_no b)) i c)) (sym (add-one j)) in
                subst (λ u. Wrote (greater1_s lv base 8 ks none) u w s (entered (tag (base + carry) b) s')) t (one_put lv w g b (q lv w g));
          }

      -- the bin b at place k, as the code has it
      module _ (k b : ℕ) (at : k ≡ get_or ks j 0) (inside : k < 16) (bit : b ≡ bit_no (ltb 1 (nat_abs (get_or levels k (pos 0))))) where
        pub putting_fits : mask_with mask j b < 4294967296
        putting_fits =
            subst (λ u. mask_with mask j u < 4294967296) (sym bit) (mask_fits mask j (ltb 1 (nat_abs (get_or levels k (pos 0)))) h.small (omega arith))

        pub putting_on : (c : ℕ) → (c ≡ greater1_ctx_next (eqb b 1) carry) × (c ≤ 3)
            → Putting (mask_with mask j b) c (j + 1) (entered (tag (base + carry) (eqb b 1)) s')
        putting_on c d =
            let q : eqb b 1 ≡ ltb 1 (nat_abs (get_or levels k (pos 0))) = ap (λ u. eqb u 1) bit ∙ bit_back (ltb 1 (nat_abs (get_or levels k (pos 0)))) in
            let big : (lv : ℕ → Wanted → ℤ) (w : Wanted) → Shows lv w levels → is_big lv w (get_or ks j 0) ≡ eqb b 1 =
            λ lv w g. ap (λ i. is_big lv w i) (sym at) ∙ ap (λ (z : ℤ). ltb 1 (nat_abs z)) (sym (g k inside)) ∙ sym q in
            let back : bit_no (eqb b 1) ≡ b = ap bit_no q ∙ sym bit in
            subst (λ u. Putting (mask_with mask j u) c (j + 1) (entered (tag (base + carry) (eqb b 1)) s')) back (on_bin_lem (eqb b 1) big c d.0 d.1)

-- ---- the first bin that is 1
first_step : (d z n k : ℕ) (ks : List ℕ) (bs : List Bool) → d < 2 → (d ≡ 0 → (z < n) × (get_or ks z 0 ≡ first_greater1 ks bs))
    → (under d z < suc n) × (get_or (k ∷ ks) (under d z) 0 ≡ first_greater1 (k ∷ ks) (eqb d 1 ∷ bs))
unfolding first_greater1
first_step zero z n k ks bs h f = let g = f refl in (omega (arith, g.0), g.1)
first_step (suc zero) z n k ks bs h f = (omega arith, refl)
first_step (suc (suc d)) z n k ks bs h f = absurd (omega arith)

-- of n bins at c places in v, by the zeros below the lowest set bit of the mask m
pub first_is_lem : (n m c v width : ℕ) → 0 < m → m < 2 ^ n → n ≤ c → n ≤ width
    → (count_trailing_zeros width m < n) × (get_or (unpack v c) (count_trailing_zeros width m) 0 ≡ first_greater1 (unpack v c) (unmask m n))
unfolding unpack unmask count_trailing_zeros
first_is_lem zero m c v width p h k l = absurd (omega (arith, pow-zero 2))
first_is_lem (suc n) m zero v width p h k l = absurd (omega arith)
first_is_lem (suc n) m (suc c) v zero p h k l = absurd (omega arith)
first_is_lem (suc n) m (suc c) v (suc width) p h k l =
    first_step (m % 2) (count_trailing_zeros width (m / 2)) n (v % 16) (unpack (v / 16) c) (unmask (m / 2) n) (mod-lt m (omega arith))
    (λ e. first_is_lem n (m / 2) c (v / 16) width (omega arith) (unmask_small m n h) (omega arith) (omega arith))

-- whether the level there is above 2, by its magnitude m
pub greater2_is : (levels : List ℤ) (k first m : ℕ) → k < 16 → k ≡ first → m ≡ nat_abs (get_or levels k (pos 0))
    → (lv : ℕ → Wanted → ℤ) (w : Wanted) → Shows lv w levels → ltb 2 m ≡ ltb 2 (nat_abs (lv first w))
greater2_is levels k first m h e q lv w g =
    ap (λ i. ltb 2 i) q ∙ ap (λ (z : ℤ). ltb 2 (nat_abs z)) (g k h) ∙ ap (λ i. ltb 2 (nat_abs (lv i w))) e
