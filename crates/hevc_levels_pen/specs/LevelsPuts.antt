-- The loop over levels as its code puts it: one clause of the tree, and what is left to write. Assumes nothing.
use Rattle.std.specs.Prelude.{ℕ, ◌+◌, ◌-◌, ◌%◌, ◌^◌, ◌≤◌, ◌<◌, max, ◌≡◌, refl, Bool, true, false, cond, List, ℤ, pos, nat_abs, length, get_or, set}
use Rattle.std.proofs.Common.{sym, ap, subst, ◌∙◌, arith, pow_mono, pow_pos}
use Rattle.bins.specs.Syn.{done, stop, ◌>>=◌}
use Rattle.hevc_residual.specs.declared.params.Params.{Params}
use Rattle.hevc_residual.specs.Scan.{Spot}
use Rattle.hevc_residual.specs.Wanted.{Wanted, S, cell_of}
use Rattle.hevc_residual.specs.LimitLaws.{range_small}
use Rattle.hevc_residual.specs.Remainder.{log2_transform_range, in_range, signed, remainder_s}
use Rattle.hevc_residual.specs.SubBlock.{Filled}
use Rattle.hevc_rules.specs.declared.levels.Going.{Going}
use Rattle.hevc_rules.specs.LevelsAgree.{Fine, Based, extra_s, behind_of, going_s}
use Rattle.hevc_rules.specs.LevelLaws.{going_turn, going_end, wants, sign_of, place_of, rest_s, if_in}
use Rattle.hevc_rules.specs.DueLaws.{based_least, based_most}
use Rattle.hevc_rules.specs.BehindLaws.{fine_behind}
use Rattle.pen.specs.Sheet.{Sheet, Wrote}
use Rattle.pen.specs.SheetLaws.{wrote_none, wrote_on, wrote_call, wrote_stop}
use Rattle.hevc_wanted.specs.Shown.{Shows}

-- the levels of a block are in the coefficient range, and so are the 16 of a sub-block
abbrev pub AllInRange : Params → List ℤ → Type 0
AllInRange p block = (i : ℕ) → nat_abs (get_or block i (pos 0)) ≤ 2 ^ log2_transform_range p

abbrev pub InRange : Params → List ℤ → Type 0
InRange p levels = (k : ℕ) → k < 16 → nat_abs (get_or levels k (pos 0)) ≤ 2 ^ log2_transform_range p

-- the same with another column extent, which is no part of a list
abbrev pub with_column : ℕ → Going → Going
with_column column g =
    record {
      places = g.places;
      count = g.count;
      mask = g.mask;
      bins = g.bins;
      seen = g.seen;
      signs = g.signs;
      rice = g.rice;
      had = g.had;
      sum = g.sum;
      column = column;
      stat = g.stat;
    }

-- ---- what a call says: from g on the tree is written up to g'
-- whatever block and column the tree has filled so far, it fills some
pub record Filling (p : Params) (at : Spot) (lv : ℕ → Wanted → ℤ) (g2 : Bool) (signs : ℕ) (whole : S Filled) (g : Going) (w : Wanted) (s s' : Sheet) : Type 0 where
  pub levels : List ℤ
  pub column : ℕ
  pub wrote : Wrote whole (going_s p at lv g2 signs (with_column column g) levels) w s s'

pub record GoesOn (p : Params) (levels : List ℤ) (g2 : Bool) (g g' : Going) (s s' : Sheet) : Type 0 where
  pub goes : (at : Spot) (lv : ℕ → Wanted → ℤ) (signs : ℕ) (w : Wanted) → Shows lv w levels → (block : List ℤ) (column : ℕ)
      → Filling p at lv g2 signs (going_s p at lv g2 signs (with_column column g) block) g' w s s'

-- all of them: the tree has come to its end
pub record Full (whole : S Filled) (stat : ℕ) (w : Wanted) (s s' : Sheet) : Type 0 where
  pub filled : Filled
  pub is_stat : filled.stat ≡ stat
  pub wrote : Wrote whole (done filled) w s s'

pub record GoesOut (p : Params) (levels : List ℤ) (g2 : Bool) (g g' : Going) (s s' : Sheet) : Type 0 where
  pub goes : (at : Spot) (lv : ℕ → Wanted → ℤ) (signs : ℕ) (w : Wanted) → Shows lv w levels → (block : List ℤ) (column : ℕ)
      → Full (going_s p at lv g2 signs (with_column column g) block) g'.stat w s s'

-- ---- a remainder where one follows
module _ (p : Params) (more : Bool) (rice v : ℕ) (s s' : Sheet) where
  pub extra_put : more ≡ true → ((want : Wanted → ℕ) (w : Wanted) → want w ≡ v → Wrote (remainder_s p rice want) (done v) w s s')
      → (want : Wanted → ℕ) (w : Wanted) → want w ≡ v → Wrote (extra_s p more rice want) (done (cond more v 0)) w s s'
  extra_put q f want w e =
      subst (λ b. Wrote (elim b [ true ↦ remainder_s p rice want | false ↦ done 0 ]) (done (cond b v 0)) w s s') (sym q) (f want w e)

  pub extra_left : more ≡ false → (want : Wanted → ℕ) (w : Wanted) → want w ≡ v → Wrote (extra_s p more rice want) (done (cond more v 0)) w s s
  extra_left q want w e =
      subst (λ b. Wrote (elim b [ true ↦ remainder_s p rice want | false ↦ done 0 ]) (done (cond b v 0)) w s s) (sym q) (wrote_none w (done 0) s)

-- ---- one level; m is its magnitude, level its base
module _ (p : Params) (levels : List ℤ) (g2 : Bool) (g : Going) (level : ℕ) (more : Bool) (depth : p.depth ≤ 16) (small : InRange p levels) (fine : Fine p g)
    (some : 0 < g.count) (based : Based level more g.mask g.bins g.seen g2) (m : ℕ) (is : m ≡ nat_abs (get_or levels (g.places % 16) (pos 0))) where
  range_few : 2 ^ log2_transform_range p ≤ 4194304
  range_few = pow_mono {i = log2_transform_range p} {j = 22} (range_small p depth)

  pub rest_small : (r : ℕ) → r ≡ m - level → r < 2 ^ log2_transform_range p
  rest_small r e = omega (arith, small (g.places % 16) (omega arith), pow_pos (log2_transform_range p), based_least level more g.mask g.bins g.seen g2 based)

  pub magnitude_small : (r v : ℕ) → r ≡ m - level → v ≡ cond more r 0 → level + v ≤ 4194304
  magnitude_small r v e q = go more q
    where
      go : (b : Bool) → v ≡ cond b r 0 → level + v ≤ 4194304
      go true k = omega (arith, small (g.places % 16) (omega arith), range_few, based_most level more g.mask g.bins g.seen g2 based)
      go false k = omega (arith, based_most level more g.mask g.bins g.seen g2 based)

  module _ (r v : ℕ) (er : r ≡ m - level) (ev : v ≡ cond more r 0) (g' : Going) (eg : g' ≡ behind_of p g more v (level + v) (g.sum + (level + v)) 0) where
    pub level_fine : Fine p g'
    level_fine =
        subst (Fine p) (sym eg)
        (fine_behind p g level more v 0 fine some (based_least level more g.mask g.bins g.seen g2 based) (magnitude_small r v er ev) (omega arith))

    pub level_less : g'.count + 1 ≡ g.count
    level_less = let e : g'.count ≡ g.count - 1 = ap (λ (z : Going). z.count) eg in omega arith

    module _ (s s' : Sheet) (f : (want : Wanted → ℕ) (w : Wanted) → want w ≡ r → Wrote (extra_s p more g.rice want) (done (cond more r 0)) w s s') where
      level_goes : (at : Spot) (lv : ℕ → Wanted → ℤ) (signs : ℕ) (w : Wanted) → Shows lv w levels → (block : List ℤ) (column : ℕ)
          → Filling p at lv g2 signs (going_s p at lv g2 signs (with_column column g) block) g' w s s'
      level_goes at lv signs w sh block column =
          let gc = with_column column g in
          let whole = going_s p at lv g2 signs gc block in
          let want = wants p at lv g2 signs gc block level more in
          let rest = rest_s p at lv g2 signs gc block level more in
          let turn : whole ≡ (extra_s p more g.rice want >>= rest) = going_turn p at lv g2 signs gc block level more some based in
          let k : g.places % 16 < 16 = omega arith in
          let e : want w ≡ r = ap (λ z. nat_abs z - level) (sym (sh (g.places % 16) k)) ∙ ap (λ z. z - level) (sym is) ∙ sym er in
          let a : Wrote whole (extra_s p more g.rice want >>= rest) w s s = subst (λ t. Wrote whole t w s s) turn (wrote_none w whole s) in
          let b : Wrote whole (rest v) w s s' =
          subst (λ z. Wrote whole (rest z) w s s') (sym ev) (wrote_call w whole (extra_s p more g.rice want) rest (cond more r 0) s s s' a (f want w e)) in
          go (in_range (log2_transform_range p) (sign_of p at lv g2 signs gc block level more v) (level + v)) b
        where
          gcs : Going
          gcs = with_column column g

          on : Bool → S Filled
          on c = if_in p at lv g2 signs (with_column column g) block level more v c

          go : (c : Bool) → Wrote (going_s p at lv g2 signs (with_column column g) block) (if_in p at lv g2 signs (with_column column g) block level more v c) w s s'
              → Filling p at lv g2 signs (going_s p at lv g2 signs (with_column column g) block) g' w s s'
          go true h =
              let x = (place_of p at lv g2 signs (with_column column g) block level more).x in
              let next = set block (cell_of p (place_of p at lv g2 signs (with_column column g) block level more))
              (signed (sign_of p at lv g2 signs (with_column column g) block level more v) (level + v)) in
              let same : behind_of p (with_column column g) more v (level + v) (g.sum + (level + v)) x ≡ with_column (max column x) g' =
              ap (with_column (max column x)) (sym eg) in
              record {
                levels = next;
                column = max column x;
                wrote = subst (λ (z : Going). Wrote (going_s p at lv g2 signs (with_column column g) block) (going_s p at lv g2 signs z next) w s s') same h;
              }
          go false h =
              record {
                levels = block;
                column = column;
                wrote = wrote_on w (going_s p at lv g2 signs (with_column column g) block) (stop 8) (going_s p at lv g2 signs (with_column column g') block) s s' s' h
                    (wrote_stop w 8 (going_s p at lv g2 signs (with_column column g') block) s' s');
              }

      pub level_puts : Fine p g' × (g'.count + 1 ≡ g.count) × GoesOn p levels g2 g g' s s'
      level_puts = (level_fine, level_less, record { goes = level_goes })

-- ---- the loop
module _ (p : Params) (levels : List ℤ) (g2 : Bool) (start : Going) (s : Sheet) where
  pub record Leveling (g : Going) (s' : Sheet) : Type 0 where
    pub fine : Fine p g
    pub long : length s'.room ≡ length s.room
    pub on : GoesOn p levels g2 start g s s'

  pub levels_begin : Fine p start → Leveling start s
  levels_begin f =
      record {
        fine = f;
        long = refl;
        on = record {
          goes = λ at lv signs w sh block column.
              record { levels = block; column = column; wrote = wrote_none w (going_s p at lv g2 signs (with_column column start) block) s };
        };
      }

  module _ (g : Going) (s' : Sheet) (h : Leveling g s') where
    pub levels_on : (g' : Going) (s'' : Sheet) → length s''.room ≡ length s'.room → Fine p g' → GoesOn p levels g2 g g' s' s'' → Leveling g' s''
    levels_on g' s'' n f k =
        record {
          fine = f;
          long = n ∙ h.long;
          on = record {
            goes = λ at lv signs w sh block column.
                let a = h.on.goes at lv signs w sh block column in
                let b = k.goes at lv signs w sh a.levels a.column in
                record {
                  levels = b.levels;
                  column = b.column;
                  wrote = wrote_on w (going_s p at lv g2 signs (with_column column start) block) (going_s p at lv g2 signs (with_column a.column g) a.levels)
                      (going_s p at lv g2 signs (with_column b.column g') b.levels) s s' s'' a.wrote b.wrote;
                };
          };
        }

    pub levels_end : g.count ≡ 0 → Fine p g × GoesOut p levels g2 start g s s'
    levels_end q = (
      h.fine,
      record {
        goes = λ at lv signs w sh block column.
            let a = h.on.goes at lv signs w sh block column in
            record {
              filled = record { levels = a.levels; column = a.column; stat = g.stat };
              is_stat = refl;
              wrote = subst (λ t. Wrote (going_s p at lv g2 signs (with_column column start) block) t w s s')
                  (going_end p at lv g2 signs (with_column a.column g) a.levels q) a.wrote;
            };
      },
    )
