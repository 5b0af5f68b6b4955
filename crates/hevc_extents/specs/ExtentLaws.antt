-- Of every block that is read, from any source: the greatest column gathered as levels come is the column extent, and both extents say what they should. Assumes nothing.
use Prim.Native.Nat.{ℕ, zero, suc, ◌+◌, ◌-◌, ◌*◌, ◌/◌, ◌%◌, ◌^◌, ◌≤◌, ◌<◌, max}
use Rattle.std.specs.Prelude.{◌≡◌, refl, List, ◌++◌, Bool, true, false, ltb, ℤ, pos, nat_abs, length, get_or, set, replicate, take}
use Rattle.std.proofs.Math.Path.{sym, ap}
use Rattle.std.proofs.Common.{subst, ◌∙◌, div-lt_iff_lt-mul, div-add-mod', get_or-set_same, ltb-true, ltb-false}
use native.Mathlib.Omega.{arith}
use Rattle.std.proofs.Math.Nat.{mod-lt}
use Rattle.std.proofs.Math.Pow.{pow_pos}
use Rattle.std.proofs.Math.Seq.{take-append_seam}
use Rattle.std.proofs.Math.Arith.{digits_div, digits_mod}
use Rattle.std.proofs.lemmas.List.{length-replicate}
use Rattle.std.proofs.Math.ListN.{get_or-append}
use Rattle.bins.specs.Syn.{Source, Out, run}
use Rattle.hevc_residual.specs.declared.params.Params.{Params}
use Rattle.hevc_residual.specs.Scan.{Spot, spot}
use Rattle.hevc_residual.specs.Wanted.{area, cell_of, outer_of, inner_of}
use Rattle.hevc_residual.specs.Remainder.{signed}
use Rattle.hevc_residual.specs.Head.{Head}
use Rattle.hevc_residual.specs.SubBlock.{column_so_far, Acc}
use Rattle.hevc_residual.specs.Residual.{Block, sub_blocks_s, residual}
use Rattle.hevc_residual.specs.Limits.{Accepted, Statistics}
use Rattle.trees.specs.Reached.{each_run}
use Rattle.hevc_bounds.specs.ResidualBounds.{InBlock, square, cell_in, Kept, subs_each, residual_each}
use Rattle.hevc_residual.specs.Extent.{reach_of, side, column_at, row_at, column_extent_of, row_extent_of, level_in, Extents}
use Rattle.hevc_residual.specs.ReachLaws.{reach_met, reach_set, reach_zeros, reach_outside}

signed_size : (neg : Bool) (m : ℕ) → 1 ≤ m → nat_abs (signed neg m) ≡ m
signed_size true zero h = absurd (omega arith)
signed_size true (suc m) h = refl
signed_size false m h = refl

module _ (p : Params) (a : Accepted p) where
  abbrev n : ℕ
  n = side p

  -- ---- storing a level moves an extent to its place, whatever stood there
  pub column_stored : (l : List ℤ) (s : Spot) (v : ℤ) → length l ≡ area p → InBlock p s → 0 < nat_abs v
      → column_extent_of p (set l (cell_of p s) v) ≡ max (column_extent_of p l) s.x
  unfolding column_extent_of
  column_stored l s v long g h =
      let e : column_at p (0 + cell_of p s) ≡ s.x = let z : 0 + cell_of p s ≡ cell_of p s = omega arith in ap (λ k. k % n) z ∙ digits_mod s.y g.0 in
      reach_set (column_at p) l 0 (cell_of p s) v (omega (arith, cell_in p a s g, long)) h ∙ ap (λ k. max (reach_of (column_at p) 0 l) k) e

  pub row_stored : (l : List ℤ) (s : Spot) (v : ℤ) → length l ≡ area p → InBlock p s → 0 < nat_abs v
      → row_extent_of p (set l (cell_of p s) v) ≡ max (row_extent_of p l) s.y
  unfolding row_extent_of
  row_stored l s v long g h =
      let e : row_at p (0 + cell_of p s) ≡ s.y = let z : 0 + cell_of p s ≡ cell_of p s = omega arith in ap (λ k. k / n) z ∙ digits_div s.y g.0 in
      reach_set (row_at p) l 0 (cell_of p s) v (omega (arith, cell_in p a s g, long)) h ∙ ap (λ k. max (reach_of (row_at p) 0 l) k) e

  -- ---- the invariant: the greatest column so far is the column extent of the levels so far
  abbrev Gathered : List ℤ → ℕ → Type 0
  Gathered l column = column ≡ column_extent_of p l

  -- some level is not zero
  pub record Some (l : List ℤ) : Type 0 where
    pub at : ℕ
    pub here : 0 < nat_abs (get_or l at (pos 0))

  gathers : (l : List ℤ) (c : ℕ) (s : Spot) (neg : Bool) (m : ℕ) → length l ≡ area p → Gathered l c → InBlock p s → 1 ≤ m
      → Gathered (set l (cell_of p s) (signed neg m)) (column_so_far c s) × Some (set l (cell_of p s) (signed neg m))
  gathers l c s neg m long w g h =
      let k : 0 < nat_abs (signed neg m) = omega (arith, signed_size neg m h) in
      let e = column_stored l s (signed neg m) long g k in
      let i = cell_in p a s g in (
        ap (λ z. max z s.x) w ∙ sym e,
        record { at = cell_of p s; here = subst (λ (z : ℤ). 0 < nat_abs z) (sym (get_or-set_same l (cell_of p s) (signed neg m) (pos 0) (omega (arith, i, long)))) k },
      )

  kept : Kept p Gathered (λ l c. Gathered l c × Some l)
  unfolding column_extent_of
  kept =
      record {
        starts = sym (reach_zeros (column_at p) (area p) 0);
        weaker = λ l c h. h.0;
        stored = λ l c s neg m long w g h r. gathers l c s neg m long w g h;
      }

  -- what the reader gathers as levels come is the column extent
  pub column_gathered : {S : Type 0} (src : Source S) (h : Head) (last lastIn : ℕ) → last < 4 ^ (p.log2 - 2) → lastIn ≤ 15
      → (coded : List Bool) (stats : List ℕ) → Statistics stats → (s : S) (b : Acc) (s' : S)
      → run src (sub_blocks_s p h (outer_of p) (inner_of p) last lastIn (suc last) (record {
        coded_sub_block = coded;
        greater1_ctx = 1;
        first = true;
        levels = replicate (area p) (pos 0);
        column = 0;
        stats = stats;
      })) s ≡ Out.ok b s'
      → b.column ≡ column_extent_of p b.levels
  column_gathered src h last lastIn hl hn coded stats st s b s' q =
      let top = 1099 * suc last in
      (each_run src (subs_each p a kept top h last lastIn hl hn {n = 0} (record {
        coded_sub_block = coded;
        greater1_ctx = 1;
        first = true;
        levels = replicate (area p) (pos 0);
        column = 0;
        stats = stats;
      }) top (length-replicate (area p) (pos 0)) kept.starts st (omega arith) (omega arith)) s b s' q).1.holds.0

  -- ---- both extents, of levels at the front of a lent block
  not_zero : (v : ℤ) → 0 < nat_abs v → v ≡ pos 0 → ⊥
  not_zero v h q = omega (arith, h, ap nat_abs q)

  module _ (levels rest : List ℤ) (long : length levels ≡ area p) where
    in_front : (x y : ℕ) → x < n → y < n → level_in p (levels ++ rest) x y ≡ get_or levels (y * n + x) (pos 0)
    in_front x y hx hy = get_or-append levels rest (pos 0) (y * n + x) (omega (arith, cell_in p a (spot x y) (hx, hy), long))

    holds : (x y : ℕ) → x < n → y < n → (k : ℕ) → k ≡ y * n + x → 0 < nat_abs (get_or levels k (pos 0)) → level_in p (levels ++ rest) x y ≡ pos 0 → ⊥
    holds x y hx hy k e h q =
        not_zero (get_or levels (y * n + x) (pos 0)) (subst (λ (i : ℕ). 0 < nat_abs (get_or levels i (pos 0))) e h) (sym (in_front x y hx hy) ∙ q)

    front : levels ≡ take (area p) (levels ++ rest)
    front = sym (subst (λ (k : ℕ). take k (levels ++ rest) ≡ levels) long (take-append_seam levels rest))

    extents : Some levels → Extents p (levels ++ rest) (column_extent_of p levels) (row_extent_of p levels)
    unfolding column_extent_of row_extent_of
    extents some =
        let np : 0 < n = pow_pos p.log2 in
        let cm = reach_met (column_at p) levels 0 some.at some.here in
        let rm = reach_met (row_at p) levels 0 some.at some.here in
        let cz : 0 + cm.at ≡ cm.at = omega arith in
        let rz : 0 + rm.at ≡ rm.at = omega arith in
        let ce : cm.at % n ≡ column_extent_of p levels = ap (λ k. k % n) (sym cz) ∙ cm.far in
        let re : rm.at / n ≡ row_extent_of p levels = ap (λ k. k / n) (sym rz) ∙ rm.far in
        let ci : cm.at < n * n = omega (arith, cm.within, long, square p a) in
        let ri : rm.at < n * n = omega (arith, rm.within, long, square p a) in
        let cy = (div-lt_iff_lt-mul {k = n} {x = cm.at} {y = n} np).1 ci in
        let rx = mod-lt rm.at np in
        let cx : column_extent_of p levels < n = omega (arith, ce, mod-lt cm.at np) in
        let ry : row_extent_of p levels < n = omega (arith, re, (div-lt_iff_lt-mul {k = n} {x = rm.at} {y = n} np).1 ri) in
        record {
          is_column_extent = ap (column_extent_of p) front;
          is_row_extent = ap (row_extent_of p) front;
          column_inside = cx;
          row_inside = ry;
          columns_beyond_are_zero = λ x y hx hy h.
              in_front x y hx hy ∙ reach_outside (column_at p) levels (y * n + x) (omega (arith, h, digits_mod y hx));
          rows_beyond_are_zero = λ x y hx hy h.
              in_front x y hx hy ∙ reach_outside (row_at p) levels (y * n + x) (omega (arith, h, digits_div y hx));
          column_holds_one = (
            cm.at / n,
            cy,
            holds (column_extent_of p levels) (cm.at / n) cx cy cm.at (sym (div-add-mod' cm.at n) ∙ ap (λ k. cm.at / n * n + k) ce) cm.some,
          );
          row_holds_one = (
            rm.at % n,
            rx,
            holds (rm.at % n) (row_extent_of p levels) rx ry rm.at (sym (div-add-mod' rm.at n) ∙ ap (λ k. k * n + rm.at % n) re) rm.some,
          );
        }

  -- of every block that is read, whatever stands behind it
  pub residual_extents : {S : Type 0} (src : Source S) (stats : List ℕ) → Statistics stats → (s : S) (b : Block) (s' : S) → run src (residual p stats) s ≡ Out.ok b s'
      → (rest : List ℤ) → Extents p (b.levels ++ rest) b.column b.row
  residual_extents src stats st s b s' q rest =
      let w = (each_run src (residual_each p a kept stats st) s b s' q).1 in
      let e = extents b.levels rest w.long w.gathered.1.1 in
      subst (λ (k : ℕ). Extents p (b.levels ++ rest) k b.row) (sym w.column)
      (subst (Extents p (b.levels ++ rest) (column_extent_of p b.levels)) (sym w.row) e)

-- ---- no smaller number would do
module _ {p : Params} {block : List ℤ} {column row : ℕ} (e : Extents p block column row) where
  pub column_least : (c : ℕ) → ((x y : ℕ) → x < side p → y < side p → c < x → level_in p block x y ≡ pos 0) → column ≤ c
  column_least c h = go (ltb c column) refl
    where
      go : (d : Bool) → ltb c column ≡ d → column ≤ c
      go true q = let k = e.column_holds_one in absurd (k.2 (h column k.0 e.column_inside k.1 (ltb-true c column q)))
      go false q = ltb-false c column q

  pub row_least : (r : ℕ) → ((x y : ℕ) → x < side p → y < side p → r < y → level_in p block x y ≡ pos 0) → row ≤ r
  row_least r h = go (ltb r row) refl
    where
      go : (d : Bool) → ltb r row ≡ d → row ≤ r
      go true q = let k = e.row_holds_one in absurd (k.2 (h k.0 row k.1 e.row_inside (ltb-true r row q)))
      go false q = ltb-false r row q
