-- One level as the code reads it: one lemma for each way out; and the loop. Assumes nothing.
use Rattle.std.specs.Prelude.{ℕ, ◌+◌, ◌-◌, ◌%◌, ◌≤◌, ◌<◌, min, ◌≡◌, refl, Bool, true, false, List, [], ℤ, length, set, Result, Ok, Err}
use Rattle.std.proofs.Common.{sym, ap, ap₂, subst, ◌∙◌, arith, length-set}
use Rattle.bins.specs.declared.state.Interval.{Interval}
use Rattle.bins.specs.declared.state.Refusal.{Refusal}
use Rattle.bins.specs.Syn.{stop, ◌>>=◌, Out, run}
use Rattle.bins.specs.Sources.{Cursor, cursor, by_code, Readable, stopped, refused_at, Step, got}
use Rattle.bins.specs.Laws.{RefusedBy, bind_ok, bind_no}
use Rattle.hevc_residual.specs.declared.params.Params.{Params}
use Rattle.hevc_residual.specs.Wanted.{Wanted, area}
use Rattle.hevc_residual.specs.Scan.{Spot, spot}
use Rattle.hevc_residual.specs.LimitLaws.{range_small}
use Rattle.hevc_residual.specs.Remainder.{log2_transform_range, in_range, signed, remainder_s}
use Rattle.hevc_residual.specs.SubBlock.{Filled, negative_now}
use Rattle.hevc_elements.specs.Agree.{from, readable_on}
use Rattle.hevc_elements.specs.ShapeLaws.{run_done}
use Rattle.hevc_rules.specs.declared.levels.Going.{Going}
use Rattle.hevc_stored.specs.declared.stored.Stored.{Stored}
use Rattle.hevc_levels.specs.declared.levels.Leveled.{Leveled}
use Rattle.hevc_magnitudes.specs.Most.{most}
use Rattle.hevc_remainder.specs.RemainderAgree.{SaysCapped}
use Rattle.hevc_rules.specs.LevelsAgree.{Site, Fine, Based, Lies, extra_s, behind_of, going_s}
use Rattle.hevc_levels.specs.LevelsAgree.{SaysOne, SaysAll}
use Rattle.hevc_rules.specs.DueLaws.{based_least}
use Rattle.hevc_rules.specs.BehindLaws.{range_most, range_out, fine_behind}
use Rattle.hevc_rules.specs.LevelLaws.{wants, if_in, rest_s, going_turn, going_end}

-- ---- a remainder's answer taken apart
capped_ok : (r : Step) (v : ℕ) (y : Interval) (cs : List ℕ) (o : Out Cursor ℕ) → SaysCapped r cs o → r ≡ got v y
    → (u : ℕ) × (v ≡ min u most) × (o ≡ Out.ok u (cursor y cs))
capped_ok r v y cs o h q = subst (λ (z : Step). SaysCapped z cs o) q h

capped_no : (r : Step) (n : Refusal) (cs : List ℕ) (o : Out Cursor ℕ) → SaysCapped r cs o → r ≡ stopped n → RefusedBy n o
capped_no r n cs o h q = subst (λ (z : Step). SaysCapped z cs o) q h

pub capped_most : (r : Step) (v : ℕ) (y : Interval) (cs : List ℕ) (o : Out Cursor ℕ) → SaysCapped r cs o → r ≡ got v y → v ≤ most
capped_most r v y cs o h q = let f = capped_ok r v y cs o h q in omega (arith, f.1)

-- where none follows
pub extra_none : (list : Bool) (l : List ℕ) (p : Params) (more : Bool) (rice : ℕ) (x : Interval) → more ≡ false → (w : Wanted → ℕ) (cs : List ℕ)
    → SaysCapped (got 0 x) cs (from list l (extra_s p more rice w) x cs)
extra_none list l p false rice x q w cs = (0, refl, run_done list l 0 x cs)
extra_none list l p true rice x q w cs = let z : ◌≡◌ {A = ℕ} 0 1 = cc in absurd (omega arith)

pub extra_some : (list : Bool) (l : List ℕ) (p : Params) (more : Bool) (rice : ℕ) (x : Interval) (r : Step) → more ≡ true
    → ((w : Wanted → ℕ) (cs : List ℕ) → SaysCapped r cs (from list l (remainder_s p rice w) x cs))
    → (w : Wanted → ℕ) (cs : List ℕ) → SaysCapped r cs (from list l (extra_s p more rice w) x cs)
extra_some list l p true rice x r q h w cs = h w cs
extra_some list l p false rice x r q h w cs = let z : ◌≡◌ {A = ℕ} 0 1 = cc in absurd (omega arith)

-- ---- the ways out of one level; r is what the remainder answered
run_stop : {A : Type 0} (list : Bool) (l : List ℕ) (n : ℕ) (x : Interval) (cs : List ℕ) → from {A = A} list l (stop n) x cs ≡ Out.no n (cursor x cs)
unfolding run
run_stop list l n x cs = refl

module _ (p : Params) (xs ys : ℕ) (list : Bool) (l : List ℕ) (g2 : Bool) (signs : ℕ) (g : Going) (x : Interval) (levels : List ℤ)
    (site : Site p xs ys) (fine : Fine p g) (some : 0 < g.count)
    (level : ℕ) (more : Bool) (base : Based level more g.mask g.bins g.seen g2)
    (r : Step) (e : (w : Wanted → ℕ) (cs : List ℕ) → SaysCapped r cs (from list l (extra_s p more g.rice w) x cs)) where
  abbrev whole : (ℕ → Wanted → ℤ) → List ℕ → Out Cursor Filled
  whole lv cs = from list l (going_s p (spot xs ys) lv g2 signs g levels) x cs

  turned : (lv : ℕ → Wanted → ℤ) (cs : List ℕ)
      → whole lv cs ≡ from list l (extra_s p more g.rice (wants p (spot xs ys) lv g2 signs g levels level more) >>= rest_s p (spot xs ys) lv g2 signs g levels level more) x cs
  turned lv cs = ap (λ t. from list l t x cs) (going_turn p (spot xs ys) lv g2 signs g levels level more some base)

  pub level_refused : (n : Refusal) → r ≡ stopped n → (lv : ℕ → Wanted → ℤ) (cs : List ℕ)
      → RefusedBy n (from list l (going_s p (spot xs ys) lv g2 signs g levels) x cs)
  level_refused n q lv cs =
      let w = wants p (spot xs ys) lv g2 signs g levels level more in
      let f = bind_no (by_code list l) (extra_s p more g.rice w) (rest_s p (spot xs ys) lv g2 signs g levels level more) (cursor x cs) n (capped_no r n cs _ (e w cs) q) in
      (f.0, turned lv cs ∙ f.1)

  module _ (v : ℕ) (y : Interval) (q : r ≡ got v y) where
    abbrev sign_now : Bool
    sign_now = negative_now g.signs signs (g.sum + (level + v))

    pub remainder_most : v ≤ most
    remainder_most = capped_most r v y [] _ (e (λ t. 0) []) q

    -- what the code tested
    module _ (t : ℕ) (neg b : Bool) (tq : t ≡ log2_transform_range p) (nq : neg ≡ negative_now g.signs signs (g.sum + (level + v)))
        (bq : b ≡ in_range t neg (level + v)) where
      tested : in_range (log2_transform_range p) sign_now (level + v) ≡ b
      tested = sym (ap₂ (λ k n. in_range k n (level + v)) tq nq) ∙ sym bq

      pub level_out : b ≡ false → (lv : ℕ → Wanted → ℤ) (cs : List ℕ) → RefusedBy (refused_at 8 y) (from list l (going_s p (spot xs ys) lv g2 signs g levels) x cs)
      level_out h lv cs =
          let w = wants p (spot xs ys) lv g2 signs g levels level more in
          let f = capped_ok r v y cs _ (e w cs) q in
          let o = range_out (log2_transform_range p) (range_small p site.depth) (λ k. negative_now g.signs signs (g.sum + (level + k))) level f.0 v f.1
          (tested ∙ h) in (
            cs,
            turned lv cs
                ∙ bind_ok (by_code list l) (extra_s p more g.rice w) (rest_s p (spot xs ys) lv g2 signs g levels level more) (cursor x cs) f.0 (cursor y cs) f.2
                ∙ ap (λ d. from list l (if_in p (spot xs ys) lv g2 signs g levels level more f.0 d) y cs) o
                ∙ run_stop list l 8 y cs,
          )

      module _ (h : b ≡ true) where
        pub in_most : level + v ≤ 4194304
        in_most = range_most (log2_transform_range p) (range_small p site.depth) sign_now (level + v) (tested ∙ h)

        pub level_got : (column at : ℕ) → Lies p xs ys (g.places % 16) column at → (k : Going)
            → k ≡ behind_of p g more v (level + v) (g.sum + (level + v)) column → (levels' : List ℤ) → levels' ≡ set levels at (signed neg (level + v))
            → length levels ≡ area p → Readable list l x → (told : Stored)
            → (length levels' ≡ area p) × SaysOne p (spot xs ys) list l g2 signs g x levels (Ok (record { going = k; stored = told; next = y })) levels'
        level_got column at i k kq levels' sq long readable told =
            let f₀ = capped_ok r v y [] _ (e (λ t. 0) []) q in
            let kc : k.count ≡ g.count - 1 = ap (λ (z : Going). z.count) kq in (
              ap length sq ∙ length-set levels at (signed neg (level + v)) ∙ long,
              (
                subst (Fine p) (sym kq) (fine_behind p g level more v column fine some (based_least level more g.mask g.bins g.seen g2 base) in_most i.narrow),
                omega arith,
                readable_on list l (extra_s p more g.rice (λ t. 0)) x [] f₀.0 y [] f₀.2 readable,
                λ lv cs.
                    let w = wants p (spot xs ys) lv g2 signs g levels level more in
                    let f = capped_ok r v y cs _ (e w cs) q in
                    let u : f.0 ≡ v = omega (arith, f.1, in_most) in
                    turned lv cs
                    ∙ bind_ok (by_code list l) (extra_s p more g.rice w) (rest_s p (spot xs ys) lv g2 signs g levels level more) (cursor x cs) f.0 (cursor y cs) f.2
                    ∙ ap (λ n. from list l (rest_s p (spot xs ys) lv g2 signs g levels level more n) y cs) u
                    ∙ ap (λ d. from list l (if_in p (spot xs ys) lv g2 signs g levels level more v d) y cs) (tested ∙ h)
                    ∙ ap₂ (λ (z : Going) (s : List ℤ). from list l (going_s p (spot xs ys) lv g2 signs z s) y cs)
                    (sym (kq ∙ ap (λ c. behind_of p g more v (level + v) (g.sum + (level + v)) c) i.is_column))
                    (sym (sq ∙ ap₂ (λ a n. set levels a (signed n (level + v))) i.is_cell nq)),
              ),
            )

module _ (p : Params) (s : Spot) (list : Bool) (l : List ℕ) (g2 : Bool) (signs : ℕ) (start : Going) (x : Interval) (levels : List ℤ) where
  -- in the loop: what is left to run gives what the whole gives
  pub record Leveling (g : Going) (y : Interval) (now : List ℤ) : Type 0 where
    pub fine : Fine p g
    pub readable : Readable list l y
    pub long : length now ≡ area p
    pub left : (lv : ℕ → Wanted → ℤ) (cs : List ℕ)
        → from list l (going_s p s lv g2 signs start levels) x cs ≡ from list l (going_s p s lv g2 signs g now) y cs

  pub levels_begin : Fine p start → Readable list l x → length levels ≡ area p → Leveling start x levels
  levels_begin f r n = record { fine = f; readable = r; long = n; left = λ lv cs. refl }

  module _ (g : Going) (y : Interval) (now : List ℤ) (h : Leveling g y now) (r : Result Leveled Refusal) (now' : List ℤ) (long : length now' ≡ area p)
      (e : SaysOne p s list l g2 signs g y now r now') where
    says_as : (r' : Result Leveled Refusal) → r ≡ r' → SaysOne p s list l g2 signs g y now r' now'
    says_as r' q = subst (λ (z : Result Leveled Refusal). SaysOne p s list l g2 signs g y now z now') q e

    pub levels_refused : (n : Refusal) → r ≡ Err n → SaysAll p s list l g2 signs start x levels (Err n) now'
    levels_refused n q = λ lv cs. let d = says_as (Err n) q lv cs in (d.0, h.left lv cs ∙ d.1)

    pub levels_less : (v : Leveled) → r ≡ Ok v → v.going.count + 1 ≡ g.count
    levels_less v q = (says_as (Ok v) q).1

    pub levels_on : (v : Leveled) → r ≡ Ok v → Leveling v.going v.next now'
    levels_on v q = let d = says_as (Ok v) q in record { fine = d.0; readable = d.2; long = long; left = λ lv cs. h.left lv cs ∙ d.3 lv cs }

  pub levels_end : (g : Going) (y : Interval) (now : List ℤ) → Leveling g y now → g.count ≡ 0
      → (u : Stored) → (length now ≡ area p) × SaysAll p s list l g2 signs start x levels (Ok (record { going = g; stored = u; next = y })) now
  levels_end g y now h q u = (
    h.long,
    (
      h.fine,
      h.readable,
      λ lv cs. h.left lv cs ∙ ap (λ t. from list l t y cs) (going_end p s lv g2 signs g now q) ∙ run_done list l _ y cs,
    ),
  )
