-- What is kept stays true: after a fresh count always, after setting one level if it was true before; and what setting leaves alone.
-- Assumes nothing.
use Prim.Native.Nat.{ℕ, zero, suc, ◌+◌, ◌-◌, ◌*◌, ◌/◌, ◌%◌, ◌^◌, ◌≤◌, ◌<◌, min}
use Rattle.std.specs.Prelude.{◌≡◌, refl, Bool, true, false, ◌&&◌, cond, leb, ltb, eqb, ℤ, pos, set, take, drop, replicate}
use Rattle.std.proofs.Math.Path.{sym, ap}
use Rattle.std.proofs.Common.{ap₂, subst, ◌∙◌, arith, length-set, get_or-set_same, get_or-set_other, leb-true, ltb-true, ltb-false, eqb-true}
use mathlib.Core.List.{List, [], ◌∷◌, ◌++◌}
use Rattle.std.proofs.Math.IntN.{nat_abs}
use Rattle.std.proofs.Math.ListN.{length, get_or}
use Rattle.std.proofs.lemmas.List.{length-replicate}
use Rattle.std.proofs.lemmas.Bool.{eqb-false}
use Rattle.counting.specs.Count.{nonzero, sum_to, updated}
use Rattle.counting.specs.SumLaws.{sum_ext, sum_bound}
use Rattle.counting.specs.UpdateLaws.{updated_in, updated_length}
use Rattle.counting.specs.MapLaws.{bits_at}
use Rattle.cabac.specs.Numbers.{◌or_else◌}
use Rattle.cabac.specs.NumberLaws.{or_else_zero}
use Rattle.hevc_summary.specs.declared.kept.Form.{Form}
use Rattle.hevc_summary.specs.declared.kept.Whole.{Whole}
use Rattle.hevc_summary.specs.Summary.{Kept, True, Small, sub_most, Frame, area, subs, sub_of, cell, level_at, count_in, sum_in, map_of, fresh_whole}
use Rattle.hevc_summary.specs.CellLaws.{by_size, sum_subs, sub_of_cell, sub_few, subs_few}
use Rattle.hevc_summary.specs.Entries.{is_form, form_refusal, place_refusal, level_refusal, most, whole_from, fresh_counts, fresh_sums, counted, After, unless_refused, recount, zeros, clear, set_at, set_refusal, set_level, copy_refusal, copy_in}

-- ---- bit s of the map says whether sub-block s holds a level
pub map_at : (n : ℕ) (counts : ℕ → ℕ) (s : ℕ) → s < n → map_of n counts / 2 ^ s % 2 ≡ min 1 (counts s)
unfolding map_of
map_at n counts s h = bits_at n counts s h

map_ext : (n : ℕ) (c d : ℕ → ℕ) → ((s : ℕ) → s < n → c s ≡ d s) → map_of n c ≡ map_of n d
unfolding map_of
map_ext n c d h = sum_ext n _ _ (λ s u. ap (λ (x : ℕ). 2 ^ s * min 1 x) (h s u))

module _ (log2 : ℕ) (a : 2 ≤ log2) (b : log2 ≤ 5) where
  -- any levels of 32 bits are small
  pub fit_small : (levels : List ℤ) → ((place : ℕ) → nat_abs (level_at levels place) ≤ 2 ^ 31) → Small log2 levels
  unfolding sum_in
  fit_small levels fit s h =
      omega (arith, sum_bound 16 (2 ^ 31) (λ k. nat_abs (level_at levels (cell log2 s k))) (λ k u. fit (cell log2 s k)))

  sums_most : (levels : List ℤ) → Small log2 levels → sum_to (subs log2) (λ s. sum_in log2 levels s) ≤ 2 ^ 42
  sums_most levels small =
      let m = sum_bound (subs log2) sub_most (λ s. sum_in log2 levels s) small in
      by_size (λ n. sum_to (subs n) (λ s. sum_in n levels s) ≤ subs n * sub_most → sum_to (subs n) (λ s. sum_in n levels s) ≤ 2 ^ 42)
      (λ h. omega arith) (λ h. omega arith) (λ h. omega arith) (λ h. omega arith) log2 a b m

  records_most : (levels : List ℤ) (sums : List ℕ) → Small log2 levels → ((s : ℕ) → s < subs log2 → get_or sums s 0 ≡ sum_in log2 levels s)
      → sum_to (subs log2) (λ s. get_or sums s 0) ≤ 2 ^ 42
  records_most levels sums small d =
      omega (arith, sum_ext (subs log2) (λ s. get_or sums s 0) (λ s. sum_in log2 levels s) d, sums_most levels small)

  -- the whole record, from true records of the sub-blocks
  whole_by : (levels : List ℤ) (counts sums : List ℕ) → sum_to (subs log2) (λ s. get_or sums s 0) ≤ 2 ^ 42
      → ((s : ℕ) → s < subs log2 → get_or counts s 0 ≡ count_in log2 levels s)
      → ((s : ℕ) → s < subs log2 → get_or sums s 0 ≡ sum_in log2 levels s) → whole_from log2 counts sums ≡ fresh_whole log2 levels
  unfolding whole_from fresh_whole count_in sum_in
  whole_by levels counts sums few c d =
      let p : sum_to (subs log2) (λ s. get_or counts s 0) ≡ sum_to (area log2) (λ place. nonzero (level_at levels place)) =
      sum_ext (subs log2) _ _ c ∙ sym (sum_subs (λ place. nonzero (level_at levels place)) log2 a b) in
      let q : sum_to (subs log2) (λ s. get_or sums s 0) ≡ sum_to (area log2) (λ place. nat_abs (level_at levels place)) =
      sum_ext (subs log2) _ _ d ∙ sym (sum_subs (λ place. nat_abs (level_at levels place)) log2 a b) in
      let r : min most (sum_to (subs log2) (λ s. get_or sums s 0)) ≡ sum_to (area log2) (λ place. nat_abs (level_at levels place)) =
      omega (arith, few, q) in
      let m = map_ext (subs log2) (λ s. get_or counts s 0) (count_in log2 levels) c in
      cc

  pub whole_is : (levels : List ℤ) (counts sums : List ℕ) → Small log2 levels
      → ((s : ℕ) → s < subs log2 → get_or counts s 0 ≡ count_in log2 levels s)
      → ((s : ℕ) → s < subs log2 → get_or sums s 0 ≡ sum_in log2 levels s) → whole_from log2 counts sums ≡ fresh_whole log2 levels
  whole_is levels counts sums small c d = whole_by levels counts sums (records_most levels sums small d) c d

  -- ---- a fresh count is true, whatever stood in the records
  module _ (levels : List ℤ) (counts₀ sums₀ : List ℕ) (small : Small log2 levels) where
    pub fresh_true : (counts sums : List ℕ) (w : Whole) → counts ≡ fresh_counts log2 levels counts₀ → sums ≡ fresh_sums log2 levels sums₀
        → w ≡ whole_from log2 counts sums → 64 ≤ length counts → 64 ≤ length sums
        → True log2 (record { levels = levels; counts = counts; sums = sums; whole = w })
    unfolding fresh_counts fresh_sums
    fresh_true counts sums w p q o h g =
        let n = subs_few log2 a b in
        let l : length counts ≡ length counts₀ = ap (λ (x : List ℕ). length x) p ∙ updated_length 0 (subs log2) (λ s _. count_in log2 levels s) counts₀ in
        let m : length sums ≡ length sums₀ = ap (λ (x : List ℕ). length x) q ∙ updated_length 0 (subs log2) (λ s _. sum_in log2 levels s) sums₀ in
        let c : (s : ℕ) → s < subs log2 → get_or counts s 0 ≡ count_in log2 levels s =
        λ s u. ap (λ (x : List ℕ). get_or x s 0) p ∙ updated_in 0 (subs log2) (λ s _. count_in log2 levels s) counts₀ s u (omega (arith, n, l, h)) in
        let d : (s : ℕ) → s < subs log2 → get_or sums s 0 ≡ sum_in log2 levels s =
        λ s u. ap (λ (x : List ℕ). get_or x s 0) q ∙ updated_in 0 (subs log2) (λ s _. sum_in log2 levels s) sums₀ s u (omega (arith, n, m, g)) in
        record { counted = c; summed = d; all = o ∙ whole_is levels counts sums small c d; small = small }

  -- ---- setting one level
  -- another sub-block does not see it
  module _ (levels : List ℤ) (place : ℕ) (v : ℤ) (s : ℕ) (h : s < subs log2) (other : s ≡ sub_of log2 place → ⊥) where
    not_there : (k : ℕ) → k < 16 → level_at (set levels place v) (cell log2 s k) ≡ level_at levels (cell log2 s k)
    not_there k u =
        get_or-set_other levels place (cell log2 s k) v (pos 0)
        (λ e. other (sym (sub_of_cell s k log2 a b h u) ∙ ap (λ (p : ℕ). sub_of log2 p) e))

    pub other_count : count_in log2 (set levels place v) s ≡ count_in log2 levels s
    unfolding count_in
    other_count = sum_ext 16 _ _ (λ k u. ap nonzero (not_there k u))

    pub other_sum : sum_in log2 (set levels place v) s ≡ sum_in log2 levels s
    unfolding sum_in
    other_sum = sum_ext 16 _ _ (λ k u. ap nat_abs (not_there k u))

  -- a record of each sub-block, true before, with that of the place's counted anew
  kept_at : (counts : List ℕ) (before after : ℕ → ℕ) (m : ℕ) → m < length counts
      → ((s : ℕ) → s < subs log2 → get_or counts s 0 ≡ before s)
      → ((s : ℕ) → s < subs log2 → (s ≡ m → ⊥) → after s ≡ before s)
      → (s : ℕ) → s < subs log2 → get_or (set counts m (after m)) s 0 ≡ after s
  kept_at counts before after m l t o s h = go (eqb s m) refl
    where
      go : (e : Bool) → eqb s m ≡ e → get_or (set counts m (after m)) s 0 ≡ after s
      go true q =
          subst (λ (x : ℕ). get_or (set counts m (after m)) x 0 ≡ after x) (sym (eqb-true s m q)) (get_or-set_same counts m (after m) 0 l)
      go false q =
          get_or-set_other counts m s (after m) 0 (eqb-false s m q) ∙ t s h ∙ sym (o s h (eqb-false s m q))

  small_on : (levels : List ℤ) (place : ℕ) (v : ℤ) → Small log2 levels → sum_in log2 (set levels place v) (sub_of log2 place) ≤ sub_most
      → Small log2 (set levels place v)
  small_on levels place v small own s h = go (eqb s (sub_of log2 place)) refl
    where
      go : (e : Bool) → eqb s (sub_of log2 place) ≡ e → sum_in log2 (set levels place v) s ≤ sub_most
      go true q = subst (λ (x : ℕ). sum_in log2 (set levels place v) x ≤ sub_most) (sym (eqb-true s (sub_of log2 place) q)) own
      go false q = omega (arith, other_sum levels place v s h (eqb-false s (sub_of log2 place) q), small s h)

  pub set_true : (place : ℕ) (v : ℤ) (k : Kept) → place < area log2 → sum_in log2 (set k.levels place v) (sub_of log2 place) ≤ sub_most
      → 64 ≤ length k.counts → 64 ≤ length k.sums → True log2 k → True log2 (set_at log2 place v k)
  unfolding set_at
  set_true place v k p own h g t =
      let n = subs_few log2 a b in
      let m = sub_few place log2 a b p in
      let c = kept_at k.counts (count_in log2 k.levels) (count_in log2 (set k.levels place v)) (sub_of log2 place) (omega (arith, n, m, h))
      t.counted (λ s u o. other_count k.levels place v s u o) in
      let d = kept_at k.sums (sum_in log2 k.levels) (sum_in log2 (set k.levels place v)) (sub_of log2 place) (omega (arith, n, m, g))
      t.summed (λ s u o. other_sum k.levels place v s u o) in
      let small = small_on k.levels place v t.small own in
      record { counted = c; summed = d; all = whole_is (set k.levels place v) _ _ small c d; small = small }

-- ---- the frame: nothing but the place, its sub-block's record and the whole record, true or not
pub set_frame : (log2 place : ℕ) (v : ℤ) (k : Kept) → Frame log2 place k (set_at log2 place v k)
unfolding set_at
set_frame log2 place v k =
    record {
      levels = λ p h. get_or-set_other k.levels place p v (pos 0) h;
      counts = λ s h. get_or-set_other k.counts (sub_of log2 place) s (count_in log2 (set k.levels place v) (sub_of log2 place)) 0 h;
      sums = λ s h. get_or-set_other k.sums (sub_of log2 place) s (sum_in log2 (set k.levels place v) (sub_of log2 place)) 0 h;
      long = length-set k.levels place v;
    }
