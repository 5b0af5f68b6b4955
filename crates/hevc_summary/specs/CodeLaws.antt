-- The code's loops and looks: places of a sub-block, a sub-block's count, the whole from its records, refusals. Assumes nothing.
use Prim.Native.Nat.{ℕ, zero, suc, ◌+◌, ◌-◌, ◌*◌, ◌/◌, ◌%◌, ◌^◌, ◌≤◌, ◌<◌, min}
use Rattle.std.specs.Prelude.{◌≡◌, Bool, ◌&&◌, cond, leb, ltb, eqb, ℤ, pos}
use Rattle.std.proofs.Math.Path.{refl, sym, ap, ap₂}
use Rattle.std.proofs.Common.{subst, ◌∙◌, add-one, append_assoc, drop-cons, length-take-le, take-suc, div-le_self, mul-zero, pow_mono, length-set}
use Rattle.std.proofs.Math.Bool.{true, false}
use mathlib.Core.List.{List, [], ◌∷◌, ◌++◌}
use Rattle.std.proofs.lemmas.List.{length-replicate}
use Rattle.std.proofs.lemmas.Grind.{replicate_next}
use Rattle.std.proofs.Math.Seq.{set-append_seam}
use native.Mathlib.Omega.{arith}
use Rattle.std.proofs.Math.Nat.{mod-le}
use Rattle.std.proofs.Math.IntN.{nat_abs}
use Rattle.std.proofs.Math.ListN.{length, get_or, set, take, drop, replicate}
use borrow.Author.Tests.{lt-leb, le-leb, le-ltb, lt-ltb, eq-eqb, ne_eqb, eqb-true, eqb-false}
use Rattle.counting.specs.Count.{nonzero, sum_to, updated}
use Rattle.counting.specs.SumLaws.{sum_step, sum_zero}
use Rattle.counting.specs.UpdateLaws.{updated_none, updated_step, updated_length}
use Rattle.counting.specs.MapLaws.{bit, bits_below}
use Rattle.cabac.specs.Numbers.{◌or_else◌}
use Rattle.cabac.specs.NumberLaws.{or_else_first, or_else_rest}
use Rattle.hevc_residual.specs.Wanted.{negative}
use Rattle.hevc_residual.specs.Remainder.{in_range}
use Rattle.hevc_summary.specs.declared.kept.Form.{Form}
use Rattle.hevc_summary.specs.declared.kept.Whole.{Whole}
use Rattle.hevc_summary.specs.declared.kept.Changed.{Changed}
use Rattle.hevc_summary.specs.Summary.{Kept, Small, sub_most, side, area, width, subs, cell, sub_of, level_at, count_in, sum_in, map_of}
use Rattle.hevc_summary.specs.CellLaws.{by_size, cell_inside, sub_few, subs_few}
use Rattle.hevc_summary.specs.Entries.{most, is_form, form_refusal, place_refusal, level_refusal, whole_from, fresh_counts, fresh_sums, counted, After, unless_refused, recount, zeros, copied, clear, set_at, set_refusal, set_level, copy_refusal, copy_in}
use Rattle.hevc_summary.specs.Agree.{kept_of, after_of}

-- ---- the four sizes
module _ (f : ℕ → ℕ) (n : ℕ) where
  pub at_two : n ≡ 2 → f 2 ≡ f n
  at_two q = ap f (sym q)

  pub at_three : n ≡ 3 → f 3 ≡ f n
  at_three q = ap f (sym q)

  pub at_four : n ≡ 4 → f 4 ≡ f n
  at_four q = ap f (sym q)

  pub at_five : (2 ≤ n) × (n ≤ 5) → (n ≡ 2 → ⊥) → (n ≡ 3 → ⊥) → (n ≡ 4 → ⊥) → f 5 ≡ f n
  at_five h a b c = let q : 5 ≡ n = omega arith in ap f q

pub side_shl : (log2 : ℕ) → 2 ≤ log2 → log2 ≤ 5 → (1 * 2 ^ log2) % 18446744073709551616 ≡ side log2
side_shl = by_size (λ log2. (1 * 2 ^ log2) % 18446744073709551616 ≡ side log2) refl refl refl refl

pub subs_grid : (log2 : ℕ) → 2 ≤ log2 → log2 ≤ 5 → 4 ^ (log2 - 2) ≡ subs log2
subs_grid = by_size (λ log2. 4 ^ (log2 - 2) ≡ subs log2) refl refl refl refl

pub area_most : (log2 : ℕ) → 2 ≤ log2 → log2 ≤ 5 → area log2 ≤ 1024
area_most = by_size (λ log2. area log2 ≤ 1024) (omega arith) (omega arith) (omega arith) (omega arith)

width_some : (log2 : ℕ) → 2 ≤ log2 → log2 ≤ 5 → 0 < 2 ^ log2 / 4
width_some = by_size (λ log2. 0 < 2 ^ log2 / 4) (omega arith) (omega arith) (omega arith) (omega arith)

-- ---- places
module _ (log2 : ℕ) (a : 2 ≤ log2) (b : log2 ≤ 5) (n : ℕ) (e : n ≡ 2 ^ log2) where
  pub record CellFacts (s k : ℕ) : Type 0 where
    pub some : 0 < n / 4
    pub row : s / (n / 4) ≤ 64
    pub column : s % (n / 4) ≤ 64
    pub is : (4 * (s / (n / 4)) + k / 4) * n + (4 * (s % (n / 4)) + k % 4) ≡ cell log2 s k
    pub inside : cell log2 s k < area log2
    pub few : area log2 ≤ 1024

  pub cell_facts : (s k : ℕ) → s < subs log2 → k < 16 → CellFacts s k
  cell_facts s k h u =
      let m = subs_few log2 a b in
      record {
        some = subst (λ (x : ℕ). 0 < x / 4) (sym e) (width_some log2 a b);
        row = omega (arith, div-le_self s (n / 4));
        column = omega (arith, mod-le s (n / 4));
        is = ap (λ (x : ℕ). (4 * (s / (x / 4)) + k / 4) * x + (4 * (s % (x / 4)) + k % 4)) e;
        inside = cell_inside s k log2 a b h u;
        few = area_most log2 a b;
      }

  pub record SubFacts (place : ℕ) : Type 0 where
    pub some : 0 < n
    pub is : place / n / 4 * (n / 4) + place % n / 4 ≡ sub_of log2 place
    pub inside : sub_of log2 place < subs log2
    pub few : subs log2 ≤ 64

  pub sub_facts : (place : ℕ) → place < area log2 → SubFacts place
  sub_facts place h =
      record {
        some = (let w : 0 < n / 4 = subst (λ (x : ℕ). 0 < x / 4) (sym e) (width_some log2 a b) in omega arith);
        is = ap (λ (x : ℕ). place / x / 4 * (x / 4) + place % x / 4) e;
        inside = sub_few place log2 a b h;
        few = subs_few log2 a b;
      }

-- ---- the count of a sub-block
pub record Counting (log2 : ℕ) (levels : List ℤ) (s count sum k : ℕ) : Type 0 where
  pub few : k ≤ 16
  pub counts : count ≡ sum_to k (λ i. nonzero (level_at levels (cell log2 s i)))
  pub small : count ≤ k
  pub sums : sum ≡ sum_to k (λ i. nat_abs (level_at levels (cell log2 s i)))
  pub low : sum ≤ k * 4294967295

module _ (log2 : ℕ) (levels : List ℤ) (s : ℕ) where
  pub counting_begins : Counting log2 levels s 0 0 0
  counting_begins = record { few = omega arith; counts = sym (sum_zero _); small = omega arith; sums = sym (sum_zero _); low = omega arith }

  pub counting_on : (count sum k at m one : ℕ) → Counting log2 levels s count sum k → k < 16 → at ≡ cell log2 s k
      → m ≡ nat_abs (level_at levels at) → m ≤ 4294967295 → one ≡ min 1 m → Counting log2 levels s (count + one) (sum + m) (k + 1)
  counting_on count sum k at m one c h q r f o =
      let g : m ≡ nat_abs (level_at levels (cell log2 s k)) = r ∙ ap (λ (x : ℕ). nat_abs (level_at levels x)) q in
      record {
        few = omega arith;
        counts = omega (arith, c.counts, sum_step k (λ i. nonzero (level_at levels (cell log2 s i))));
        small = omega (arith, c.small);
        sums = omega (arith, c.sums, sum_step k (λ i. nat_abs (level_at levels (cell log2 s i))));
        low = omega (arith, c.low);
      }

  pub counting_ends : (count sum k : ℕ) → Counting log2 levels s count sum k → 16 ≤ k
      → (count ≡ count_in log2 levels s) × (sum ≡ sum_in log2 levels s) × (sum ≤ sub_most)
  unfolding count_in sum_in
  counting_ends count sum k c h =
      let e : k ≡ 16 = omega (arith, c.few) in (
        c.counts ∙ ap (λ (x : ℕ). sum_to x (λ i. nonzero (level_at levels (cell log2 s i)))) e,
        c.sums ∙ ap (λ (x : ℕ). sum_to x (λ i. nat_abs (level_at levels (cell log2 s i)))) e,
        omega (arith, c.low, e),
      )

-- ---- the whole
pub bit_none : (s count : ℕ) → count ≡ 0 → 0 ≡ 2 ^ s * min 1 count
bit_none s count q = let e : min 1 count ≡ 0 = omega arith in sym (ap (λ (x : ℕ). 2 ^ s * x) e ∙ mul-zero (2 ^ s))

pub bit_some : (s count : ℕ) → s < 64 → (count ≡ 0 → ⊥) → 1 * 2 ^ s % 18446744073709551616 ≡ 2 ^ s * min 1 count
bit_some s count h q =
    let m : 2 ^ s ≤ 2 ^ 63 = pow_mono {i = s} {j = 63} (omega arith) in
    let e : min 1 count ≡ 1 = omega arith in
    let g : 2 ^ s * min 1 count ≡ 2 ^ s * 1 = ap (λ (x : ℕ). 2 ^ s * x) e in
    omega arith

pub record Making (log2 : ℕ) (counts sums : List ℕ) (n count sum map s : ℕ) : Type 0 where
  pub all : n ≡ subs log2
  pub least : n ≤ 64
  pub few : s ≤ n
  pub counted : count ≡ sum_to s (λ i. get_or counts i 0)
  pub low : count ≤ s * 4294967295
  pub summed : sum ≡ min most (sum_to s (λ i. get_or sums i 0))
  pub mapped : map ≡ sum_to s (bit (λ i. get_or counts i 0))

module _ (log2 : ℕ) (counts sums : List ℕ) where
  pub making_begins : (n : ℕ) → 2 ≤ log2 → log2 ≤ 5 → n ≡ subs log2 → Making log2 counts sums n 0 0 0 0
  making_begins n a b e =
      record {
        all = e;
        least = omega (arith, subs_few log2 a b);
        few = omega arith;
        counted = sym (sum_zero _);
        low = omega arith;
        summed = omega (arith, sum_zero (λ i. get_or sums i 0));
        mapped = sym (sum_zero _);
      }

  module _ (n count sum map s : ℕ) (m : Making log2 counts sums n count sum map s) (h : s < n) where
    pub map_fits : (b : ℕ) → b ≡ 2 ^ s * min 1 (get_or counts s 0) → map + b < 2 ^ 64
    map_fits b e =
        let p : 2 ^ (s + 1) ≤ 2 ^ 64 = pow_mono {i = s + 1} {j = 64} (omega (arith, m.least)) in
        omega (arith, m.mapped, sum_step s (bit (λ i. get_or counts i 0)), bits_below (s + 1) (λ i. get_or counts i 0))

    pub making_on : (t b : ℕ) → get_or counts s 0 ≤ 4294967295 → t ≡ min most (sum + get_or sums s 0) → b ≡ 2 ^ s * min 1 (get_or counts s 0)
        → Making log2 counts sums n (count + get_or counts s 0) t (map + b) (s + 1)
    making_on t b f q e =
        record {
          all = m.all;
          least = m.least;
          few = omega arith;
          counted = omega (arith, m.counted, sum_step s (λ i. get_or counts i 0));
          low = omega (arith, m.low);
          summed = omega (arith, m.summed, sum_step s (λ i. get_or sums i 0));
          mapped = omega (arith, m.mapped, sum_step s (bit (λ i. get_or counts i 0)));
        }

  pub making_ends : (n count sum map s : ℕ) → Making log2 counts sums n count sum map s → n ≤ s
      → record { count = count; sum = sum; map = map } ≡ whole_from log2 counts sums
  unfolding whole_from map_of
  making_ends n count sum map s m h =
      let e : s ≡ subs log2 = omega (arith, m.few, m.all) in
      let p = m.counted ∙ ap (λ (x : ℕ). sum_to x (λ i. get_or counts i 0)) e in
      let q = m.summed ∙ ap (λ (x : ℕ). min most (sum_to x (λ i. get_or sums i 0))) e in
      let r = m.mapped ∙ ap (λ (x : ℕ). sum_to x (bit (λ i. get_or counts i 0))) e in
      cc

-- ---- refusals
module _ (f : Form) (levels : List ℤ) where
  pub form_small : f.log2 < 2 → 4 ≡ form_refusal f levels
  unfolding form_refusal is_form
  form_small h = rw (lt-leb 2 f.log2 h)

  pub form_large : 2 ≤ f.log2 → 5 < f.log2 → 4 ≡ form_refusal f levels
  unfolding form_refusal is_form
  form_large a h = rw (le-leb 2 f.log2 a, lt-leb f.log2 5 h)

  module _ (a : 2 ≤ f.log2) (b : f.log2 ≤ 5) where
    pub form_narrow : f.bits < 15 → 4 ≡ form_refusal f levels
    unfolding form_refusal is_form
    form_narrow h = rw (le-leb 2 f.log2 a, le-leb f.log2 5 b, lt-leb 15 f.bits h)

    pub form_wide : 15 ≤ f.bits → 22 < f.bits → 4 ≡ form_refusal f levels
    unfolding form_refusal is_form
    form_wide c h = rw (le-leb 2 f.log2 a, le-leb f.log2 5 b, le-leb 15 f.bits c, lt-leb f.bits 22 h)

    module _ (c : 15 ≤ f.bits) (d : f.bits ≤ 22) (n : ℕ) (e : n ≡ area f.log2) where
      pub form_short : length levels < n → 4 ≡ form_refusal f levels
      unfolding form_refusal is_form
      form_short h =
          let g : length levels < area f.log2 = omega arith in
          rw (le-leb 2 f.log2 a, le-leb f.log2 5 b, le-leb 15 f.bits c, le-leb f.bits 22 d, lt-leb (area f.log2) (length levels) g)

      pub form_fine : n ≤ length levels → 0 ≡ form_refusal f levels
      unfolding form_refusal is_form
      form_fine h =
          let g : area f.log2 ≤ length levels = omega arith in
          rw (le-leb 2 f.log2 a, le-leb f.log2 5 b, le-leb 15 f.bits c, le-leb f.bits 22 d, le-leb (area f.log2) (length levels) g)

module _ (f : Form) (v : ℤ) (r : Bool) (s : Bool) (m : ℕ) (q : r ≡ in_range f.bits s m) (p : s ≡ negative v) (g : m ≡ nat_abs v) where
  pub level_in : r ≡ true → 0 ≡ level_refusal f v
  unfolding level_refusal
  level_in h =
      let e : in_range f.bits (negative v) (nat_abs v) ≡ true = sym (ap₂ (λ (x : Bool) (y : ℕ). in_range f.bits x y) p g) ∙ sym q ∙ h in
      rw e

  pub level_out : r ≡ false → 8 ≡ level_refusal f v
  unfolding level_refusal
  level_out h =
      let e : in_range f.bits (negative v) (nat_abs v) ≡ false = sym (ap₂ (λ (x : Bool) (y : ℕ). in_range f.bits x y) p g) ∙ sym q ∙ h in
      rw e

-- ---- clearing
pub record Zeroing (before : List ℤ) (n : ℕ) (levels : List ℤ) (i : ℕ) : Type 0 where
  pub few : i ≤ n
  pub long : length levels ≡ length before
  pub is : levels ≡ updated (pos 0) i (λ _ _. pos 0) before

pub zero_begins : (before : List ℤ) (n : ℕ) → Zeroing before n before 0
zero_begins before n = record { few = omega arith; long = refl; is = updated_none (pos 0) (λ _ _. pos 0) before }

pub zero_on : (before : List ℤ) (n : ℕ) (levels : List ℤ) (i : ℕ) → Zeroing before n levels i → i < n → Zeroing before n (set levels i (pos 0)) (i + 1)
zero_on before n levels i z h =
    let q : set levels i (pos 0) ≡ updated (pos 0) (i + 1) (λ _ _. pos 0) before =
    ap (λ (l : List ℤ). set l i (pos 0)) z.is ∙ updated_step (pos 0) i (λ _ _. pos 0) before in
    record { few = omega arith; long = length-set levels i (pos 0) ∙ z.long; is = q }

pub zero_ends : (before : List ℤ) (n : ℕ) (levels : List ℤ) (i : ℕ) → Zeroing before n levels i → n ≤ i → levels ≡ zeros n before
unfolding zeros
zero_ends before n levels i z h =
    let e : i ≡ n = omega (arith, z.few) in
    z.is ∙ ap (λ (m : ℕ). updated (pos 0) m (λ _ _. pos 0) before) e

-- a first part of n places, and the nth place over what stands behind it
front_more : (front l : List ℤ) (n : ℕ) (v : ℤ) → length front ≡ n → n < length l → set (front ++ drop n l) n v ≡ (front ++ (v ∷ [])) ++ drop (suc n) l
front_more front l n v q h =
    let y = get_or l n (pos 0) in
    let r = drop (suc n) l in
    let d : drop n l ≡ y ∷ r = drop-cons l n (pos 0) h in
    let s : set (front ++ (y ∷ r)) n v ≡ front ++ (v ∷ r) = subst (λ k. set (front ++ (y ∷ r)) k v ≡ front ++ (v ∷ r)) q (set-append_seam front y r v) in
    ap (λ (t : List ℤ). set (front ++ t) n v) d ∙ s ∙ sym (append_assoc front (v ∷ []) r)

pub zeros_front : (n : ℕ) (levels : List ℤ) → n ≤ length levels → replicate n (pos 0) ++ drop n levels ≡ zeros n levels
unfolding zeros updated
zeros_front zero levels h = refl
zeros_front (suc n) levels h =
    ap (λ (t : List ℤ). t ++ drop (suc n) levels) (ap (λ k. replicate k (pos 0)) (sym (add-one n)) ∙ replicate_next n (pos 0))
    ∙ sym (front_more (replicate n (pos 0)) levels n (pos 0) (length-replicate n (pos 0)) (omega arith))
    ∙ ap (λ (t : List ℤ). set t n (pos 0)) (zeros_front n levels (omega arith))

-- ---- every record anew
pub record Filling (log2 : ℕ) (levels : List ℤ) (before before' : List ℕ) (n : ℕ) (counts sums : List ℕ) (s : ℕ) : Type 0 where
  pub all : n ≡ subs log2
  pub least : n ≤ 64
  pub few : s ≤ n
  pub counted : counts ≡ updated 0 s (λ s _. count_in log2 levels s) before
  pub summed : sums ≡ updated 0 s (λ s _. sum_in log2 levels s) before'
  pub small : (i : ℕ) → i < s → sum_in log2 levels i ≤ sub_most

module _ (log2 : ℕ) (levels : List ℤ) (before before' : List ℕ) where
  pub filling_begins : (n : ℕ) → 2 ≤ log2 → log2 ≤ 5 → n ≡ subs log2 → Filling log2 levels before before' n before before' 0
  filling_begins n a b e =
      record {
        all = e;
        least = omega (arith, subs_few log2 a b);
        few = omega arith;
        counted = updated_none 0 (λ s _. count_in log2 levels s) before;
        summed = updated_none 0 (λ s _. sum_in log2 levels s) before';
        small = λ i u. absurd (omega arith);
      }

  pub filling_on : (n : ℕ) (counts sums : List ℕ) (s : ℕ) → Filling log2 levels before before' n counts sums s → s < n
      → (count sum : ℕ) → count ≡ count_in log2 levels s → sum ≡ sum_in log2 levels s → sum ≤ sub_most
      → Filling log2 levels before before' n (set counts s count) (set sums s sum) (s + 1)
  filling_on n counts sums s f h count sum p q low =
      let c : set counts s count ≡ updated 0 (s + 1) (λ s _. count_in log2 levels s) before =
      ap₂ (λ (l : List ℕ) (x : ℕ). set l s x) f.counted p ∙ updated_step 0 s (λ s _. count_in log2 levels s) before in
      let d : set sums s sum ≡ updated 0 (s + 1) (λ s _. sum_in log2 levels s) before' =
      ap₂ (λ (l : List ℕ) (x : ℕ). set l s x) f.summed q ∙ updated_step 0 s (λ s _. sum_in log2 levels s) before' in
      record { all = f.all; least = f.least; few = omega arith; counted = c; summed = d; small = λ i u. go i u (eqb i s) refl }
    where
      go : (i : ℕ) → i < s + 1 → (e : Bool) → eqb i s ≡ e → sum_in log2 levels i ≤ sub_most
      go i u true r = subst (λ (x : ℕ). sum_in log2 levels x ≤ sub_most) (sym (eqb-true i s r)) (omega (arith, q, low))
      go i u false r = f.small i (omega (arith, u, eqb-false i s r))

  pub filling_ends : (n : ℕ) (counts sums : List ℕ) (s : ℕ) → Filling log2 levels before before' n counts sums s → n ≤ s
      → (counts ≡ fresh_counts log2 levels before) × (sums ≡ fresh_sums log2 levels before') × Small log2 levels
  unfolding fresh_counts fresh_sums
  filling_ends n counts sums s f h =
      let e : s ≡ subs log2 = omega (arith, f.few, f.all) in (
        f.counted ∙ ap (λ (m : ℕ). updated 0 m (λ s _. count_in log2 levels s) before) e,
        f.summed ∙ ap (λ (m : ℕ). updated 0 m (λ s _. sum_in log2 levels s) before') e,
        λ i u. f.small i (omega (arith, e, u)),
      )

-- ---- the ways out of each change
pub zero_ne : (n : ℕ) → n ≡ 4 → n ≡ 0 → ⊥
zero_ne n a b = omega arith

pub refused_is : (n m : ℕ) (levels : List ℤ) (counts sums : List ℕ) (w : Whole) (k' : Kept) → n ≡ m → (n ≡ 0 → ⊥)
    → after_of (record { number = n; whole = w }) levels counts sums ≡ unless_refused m (kept_of levels counts sums w) k'
unfolding unless_refused
refused_is n zero levels counts sums w k' e h = absurd (h e)
refused_is n (suc m) levels counts sums w k' e h =
    ap (λ (x : ℕ). after_of (record { number = x; whole = w }) levels counts sums) e

pub done_is : (m : ℕ) (k : Kept) (levels levels' : List ℤ) (counts counts' sums sums' : List ℕ) (w w' : Whole) → 0 ≡ m
    → levels ≡ levels' → counts ≡ counts' → sums ≡ sums' → w ≡ w'
    → after_of (record { number = 0; whole = w }) levels counts sums ≡ unless_refused m k (kept_of levels' counts' sums' w')
unfolding unless_refused
done_is zero k levels levels' counts counts' sums sums' w w' z a b c d = cc
done_is (suc m) k levels levels' counts counts' sums sums' w w' z a b c d = absurd (omega arith)

-- ---- setting a level
module _ (f : Form) (levels : List ℤ) (counts sums : List ℕ) (w : Whole) (place : ℕ) (v : ℤ) where
  pub set_unformed : (n : ℕ) → n ≡ form_refusal f levels → (n ≡ 0 → ⊥)
      → after_of (record { number = n; whole = w }) levels counts sums ≡ set_level f place v (kept_of levels counts sums w)
  unfolding set_level set_refusal
  set_unformed n e h =
      refused_is n (set_refusal f (kept_of levels counts sums w) place v) levels counts sums w (set_at f.log2 place v (kept_of levels counts sums w))
      (or_else_first n (form_refusal f levels) (place_refusal f place or_else level_refusal f v) e h) h

  module _ (formed : 0 ≡ form_refusal f levels) (area' : ℕ) (is : area' ≡ area f.log2) where
    place_out : area' ≤ place → 4 ≡ place_refusal f place
    unfolding place_refusal
    place_out h = let g : area f.log2 ≤ place = omega arith in rw (le-ltb place (area f.log2) g)

    place_in : place < area' → 0 ≡ place_refusal f place
    unfolding place_refusal
    place_in h = let g : place < area f.log2 = omega arith in rw (lt-ltb place (area f.log2) g)

    pub set_outside : area' ≤ place
        → after_of (record { number = 4; whole = w }) levels counts sums ≡ set_level f place v (kept_of levels counts sums w)
    unfolding set_level set_refusal
    set_outside h =
        refused_is 4 (set_refusal f (kept_of levels counts sums w) place v) levels counts sums w (set_at f.log2 place v (kept_of levels counts sums w))
        (or_else_rest 4 (form_refusal f levels) (place_refusal f place or_else level_refusal f v) formed
        (or_else_first 4 (place_refusal f place) (level_refusal f v) (place_out h) (λ q. omega arith))) (λ q. omega arith)

    pub set_far : place < area' → (n : ℕ) → n ≡ level_refusal f v → (n ≡ 0 → ⊥)
        → after_of (record { number = n; whole = w }) levels counts sums ≡ set_level f place v (kept_of levels counts sums w)
    unfolding set_level set_refusal
    set_far i n e h =
        refused_is n (set_refusal f (kept_of levels counts sums w) place v) levels counts sums w (set_at f.log2 place v (kept_of levels counts sums w))
        (or_else_rest n (form_refusal f levels) (place_refusal f place or_else level_refusal f v) formed
        (or_else_rest n (place_refusal f place) (level_refusal f v) (place_in i) e)) h

    pub set_passes : place < area' → 0 ≡ level_refusal f v → 0 ≡ set_refusal f (kept_of levels counts sums w) place v
    unfolding set_refusal
    set_passes i l =
        or_else_rest 0 (form_refusal f levels) (place_refusal f place or_else level_refusal f v) formed
        (or_else_rest 0 (place_refusal f place) (level_refusal f v) (place_in i) l)

    pub set_done : place < area' → 0 ≡ level_refusal f v → (v' : ℤ) → v' ≡ v → (s count sum : ℕ) → s ≡ sub_of f.log2 place
        → count ≡ count_in f.log2 (set levels place v') s → sum ≡ sum_in f.log2 (set levels place v') s
        → (r : Whole) → r ≡ whole_from f.log2 (set counts s count) (set sums s sum)
        → after_of (record { number = 0; whole = r }) (set levels place v') (set counts s count) (set sums s sum)
        ≡ set_level f place v (kept_of levels counts sums w)
    unfolding set_level set_refusal set_at
    set_done i l v' q s count sum e p g r o =
        let a : set levels place v' ≡ set levels place v = ap (λ (z : ℤ). set levels place z) q in
        let c : count ≡ count_in f.log2 (set levels place v) (sub_of f.log2 place) =
        p ∙ ap₂ (λ (x : List ℤ) (y : ℕ). count_in f.log2 x y) a e in
        let d : sum ≡ sum_in f.log2 (set levels place v) (sub_of f.log2 place) =
        g ∙ ap₂ (λ (x : List ℤ) (y : ℕ). sum_in f.log2 x y) a e in
        let m = ap₂ (λ (x y : ℕ). set counts x y) e c in
        let n = ap₂ (λ (x y : ℕ). set sums x y) e d in
        done_is (set_refusal f (kept_of levels counts sums w) place v) (kept_of levels counts sums w) (set levels place v') (set levels place v)
        (set counts s count) _ (set sums s sum) _ r _
        (or_else_rest 0 (form_refusal f levels) (place_refusal f place or_else level_refusal f v) formed
        (or_else_rest 0 (place_refusal f place) (level_refusal f v) (place_in i) l))
        a m n (o ∙ ap₂ (λ (x y : List ℕ). whole_from f.log2 x y) m n)

-- the sub-block's sum, as it was counted
pub set_own : (log2 : ℕ) (levels : List ℤ) (place : ℕ) (v v' : ℤ) (s sum : ℕ) → v' ≡ v → s ≡ sub_of log2 place → sum ≡ sum_in log2 (set levels place v') s
    → sum ≤ sub_most → sum_in log2 (set levels place v) (sub_of log2 place) ≤ sub_most
set_own log2 levels place v v' s sum q e g h =
    let d : sum ≡ sum_in log2 (set levels place v) (sub_of log2 place) = g ∙ ap₂ (λ (x : ℤ) (y : ℕ). sum_in log2 (set levels place x) y) q e in
    omega (arith, d, h)

-- ---- a fresh count of other levels
counted_is : (f : Form) (m : ℕ) (k : Kept) (levels levels' : List ℤ) (counts sums : List ℕ) (r : Whole) → 0 ≡ m → levels ≡ levels'
    → counts ≡ fresh_counts f.log2 levels k.counts → sums ≡ fresh_sums f.log2 levels k.sums → r ≡ whole_from f.log2 counts sums
    → after_of (record { number = 0; whole = r }) levels counts sums ≡ unless_refused m k (counted f.log2 levels' k)
unfolding counted
counted_is f m k levels levels' counts sums r z a c d o =
    let p : counts ≡ fresh_counts f.log2 levels' k.counts = c ∙ ap (λ (x : List ℤ). fresh_counts f.log2 x k.counts) a in
    let q : sums ≡ fresh_sums f.log2 levels' k.sums = d ∙ ap (λ (x : List ℤ). fresh_sums f.log2 x k.sums) a in
    done_is m k levels levels' counts _ sums _ r _ z a p q (o ∙ ap₂ (λ (x y : List ℕ). whole_from f.log2 x y) p q)

module _ (f : Form) (levels : List ℤ) (counts sums : List ℕ) (w : Whole) where
  abbrev kept : Kept
  kept = kept_of levels counts sums w

  pub recount_refused : (n : ℕ) → n ≡ form_refusal f levels → (n ≡ 0 → ⊥)
      → after_of (record { number = n; whole = w }) levels counts sums ≡ recount f (kept_of levels counts sums w)
  unfolding recount
  recount_refused n e h = refused_is n (form_refusal f levels) levels counts sums w (counted f.log2 levels kept) e h

  pub recount_done : 0 ≡ form_refusal f levels → (counts' sums' : List ℕ) (r : Whole) → counts' ≡ fresh_counts f.log2 levels counts
      → sums' ≡ fresh_sums f.log2 levels sums → r ≡ whole_from f.log2 counts' sums'
      → after_of (record { number = 0; whole = r }) levels counts' sums' ≡ recount f (kept_of levels counts sums w)
  unfolding recount
  recount_done z counts' sums' r c d o = counted_is f (form_refusal f levels) kept levels levels counts' sums' r z refl c d o

  pub clear_refused : (n : ℕ) → n ≡ form_refusal f levels → (n ≡ 0 → ⊥)
      → after_of (record { number = n; whole = w }) levels counts sums ≡ clear f (kept_of levels counts sums w)
  unfolding clear
  clear_refused n e h = refused_is n (form_refusal f levels) levels counts sums w (counted f.log2 (zeros (area f.log2) levels) kept) e h

  pub clear_done : 0 ≡ form_refusal f levels → (n : ℕ) → n ≡ area f.log2 → (levels' : List ℤ) → levels' ≡ zeros n levels
      → (counts' sums' : List ℕ) (r : Whole) → counts' ≡ fresh_counts f.log2 levels' counts
      → sums' ≡ fresh_sums f.log2 levels' sums → r ≡ whole_from f.log2 counts' sums'
      → after_of (record { number = 0; whole = r }) levels' counts' sums' ≡ clear f (kept_of levels counts sums w)
  unfolding clear
  clear_done z n e levels' q counts' sums' r c d o =
      counted_is f (form_refusal f levels) kept levels' (zeros (area f.log2) levels) counts' sums' r z
      (q ∙ ap (λ (m : ℕ). zeros m levels) e) c d o

pub zeros_length : (n : ℕ) (levels levels' : List ℤ) → levels' ≡ zeros n levels → length levels' ≡ length levels
unfolding zeros
zeros_length n levels levels' q = ap (λ (l : List ℤ). length l) q ∙ updated_length (pos 0) n (λ _ _. pos 0) levels

pub sub_size : (f : Form) → 2 ≤ f.log2 → f.log2 ≤ 5 → subs f.log2 ≤ 64
sub_size f a b = subs_few f.log2 a b

-- ---- copying in
pub record Copying (before from : List ℤ) (n : ℕ) (levels : List ℤ) (i : ℕ) : Type 0 where
  pub few : i ≤ n
  pub long : length levels ≡ length before
  pub is : levels ≡ updated (pos 0) i (λ place _. level_at from place) before

pub copy_begins : (before from : List ℤ) (n : ℕ) → Copying before from n before 0
copy_begins before from n = record { few = omega arith; long = refl; is = updated_none (pos 0) (λ place _. level_at from place) before }

pub copy_on : (before from : List ℤ) (n : ℕ) (levels : List ℤ) (i : ℕ) → Copying before from n levels i → i < n → (v : ℤ) → v ≡ level_at from i
    → Copying before from n (set levels i v) (i + 1)
copy_on before from n levels i z h v e =
    let q : set levels i v ≡ updated (pos 0) (i + 1) (λ place _. level_at from place) before =
    ap₂ (λ (l : List ℤ) (x : ℤ). set l i x) z.is e ∙ updated_step (pos 0) i (λ place _. level_at from place) before in
    record { few = omega arith; long = length-set levels i v ∙ z.long; is = q }

pub copy_ends : (before from : List ℤ) (n : ℕ) (levels : List ℤ) (i : ℕ) → Copying before from n levels i → n ≤ i → levels ≡ copied n from before
unfolding copied
copy_ends before from n levels i z h =
    let e : i ≡ n = omega (arith, z.few) in
    z.is ∙ ap (λ (m : ℕ). updated (pos 0) m (λ place _. level_at from place) before) e

pub copied_front : (n : ℕ) (from levels : List ℤ) → n ≤ length from → n ≤ length levels → take n from ++ drop n levels ≡ copied n from levels
unfolding copied updated
copied_front zero from levels g h = refl
copied_front (suc n) from levels g h =
    let v = get_or from n (pos 0) in
    ap (λ (t : List ℤ). t ++ drop (suc n) levels) (take-suc from n (pos 0) (omega arith))
    ∙ sym (front_more (take n from) levels n v (length-take-le n from (omega arith)) (omega arith))
    ∙ ap (λ (t : List ℤ). set t n v) (copied_front n from levels (omega arith) (omega arith))

pub copied_length : (n : ℕ) (from levels levels' : List ℤ) → levels' ≡ copied n from levels → length levels' ≡ length levels
unfolding copied
copied_length n from levels levels' q = ap (λ (l : List ℤ). length l) q ∙ updated_length (pos 0) n (λ place _. level_at from place) levels

module _ (f g : Form) (from levels : List ℤ) where
  last : ℕ
  last = cond (eqb f.log2 g.log2 && eqb f.bits g.bits) 0 4

  pub copy_unformed : (n : ℕ) → n ≡ form_refusal f levels → (n ≡ 0 → ⊥) → n ≡ copy_refusal f g from levels
  unfolding copy_refusal
  copy_unformed n e h = or_else_first n (form_refusal f levels) _ e h

  module _ (z : 0 ≡ form_refusal f levels) where
    pub copy_other : (n : ℕ) → n ≡ form_refusal g from → (n ≡ 0 → ⊥) → n ≡ copy_refusal f g from levels
    unfolding copy_refusal
    copy_other n e h = or_else_rest n (form_refusal f levels) _ z (or_else_first n (form_refusal g from) _ e h)

    module _ (y : 0 ≡ form_refusal g from) where
      rest : (n : ℕ) → n ≡ last → n ≡ copy_refusal f g from levels
      unfolding copy_refusal last
      rest n e = or_else_rest n (form_refusal f levels) _ z (or_else_rest n (form_refusal g from) _ y e)

      pub copy_size : (f.log2 ≡ g.log2 → ⊥) → 4 ≡ copy_refusal f g from levels
      unfolding last
      copy_size h = rest 4 (rw (ne_eqb f.log2 g.log2 h))

      pub copy_range : f.log2 ≡ g.log2 → (f.bits ≡ g.bits → ⊥) → 4 ≡ copy_refusal f g from levels
      unfolding last
      copy_range a h = rest 4 (rw (eq-eqb f.log2 g.log2 a, ne_eqb f.bits g.bits h))

      pub copy_fine : f.log2 ≡ g.log2 → f.bits ≡ g.bits → 0 ≡ copy_refusal f g from levels
      unfolding last
      copy_fine a h = rest 0 (rw (eq-eqb f.log2 g.log2 a, eq-eqb f.bits g.bits h))

module _ (f g : Form) (from levels : List ℤ) (counts sums : List ℕ) (w : Whole) where
  pub copy_refused : (n : ℕ) → n ≡ copy_refusal f g from levels → (n ≡ 0 → ⊥)
      → after_of (record { number = n; whole = w }) levels counts sums ≡ copy_in f g from (kept_of levels counts sums w)
  unfolding copy_in
  copy_refused n e h =
      refused_is n (copy_refusal f g from levels) levels counts sums w
      (counted f.log2 (copied (area f.log2) from levels) (kept_of levels counts sums w)) e h

  pub copy_done : 0 ≡ copy_refusal f g from levels → (n : ℕ) → n ≡ area f.log2 → (levels' : List ℤ) → levels' ≡ copied n from levels
      → (counts' sums' : List ℕ) (r : Whole) → counts' ≡ fresh_counts f.log2 levels' counts
      → sums' ≡ fresh_sums f.log2 levels' sums → r ≡ whole_from f.log2 counts' sums'
      → after_of (record { number = 0; whole = r }) levels' counts' sums' ≡ copy_in f g from (kept_of levels counts sums w)
  unfolding copy_in
  copy_done z n e levels' q counts' sums' r c d o =
      counted_is f (copy_refusal f g from levels) (kept_of levels counts sums w) levels' (copied (area f.log2) from levels) counts' sums' r z
      (q ∙ ap (λ (m : ℕ). copied m from levels) e) c d o
