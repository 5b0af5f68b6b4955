-- The levels as their code reads them. Assumes nothing.
use Rattle.std.specs.Prelude.{ℕ, suc, ◌+◌, ◌-◌, ◌≤◌, ◌<◌, ◌≡◌, Bool, true, false, cond, List, ◌∷◌, ltb, leb, eqb, set, ℤ, nat_abs}
use Rattle.std.proofs.Math.Path.{refl, ap, subst}
use Rattle.std.proofs.Common.{sym, ◌∙◌, add-one, lt-ltb, le-ltb}
use native.Mathlib.Omega.{arith}
use Rattle.bins.specs.declared.state.Interval.{Interval}
use Rattle.bins.specs.declared.state.Refusal.{Refusal}
use Rattle.bins.specs.Engine.{bit_no}
use Rattle.bins.specs.Syn.{stop, bypass, ◌>>=◌, Out}
use Rattle.bins.specs.Sources.{cursor, by_code, bypass_from, step_of, stopped, Step, got, refused_at}
use Rattle.bins.specs.Laws.{RefusedBy, bind_ok, bind_no}
use Rattle.trees.specs.Levels.{negative, signed, in_range, down_from}
use Rattle.trees.specs.Agree.{Reads, from, Says, reads_on, says_ok, says_no, flag_ok, flag_no_lem, run_stop}
use Rattle.trees.specs.Pick.{picked, passed}
use Rattle.tree_shapes.specs.Plain.{bypass_p}
use Rattle.tree_shapes.specs.ShapeLaws.{run_done, bypass_says, bypass_then, bypass_then_no}
use Rattle.trees.specs.Reached.{each_run}
use Rattle.h264_block.specs.Block.{S, level_at, magnitude_s, levels_s}
use Rattle.h264_block.proofs.BlockBounds.{magnitude_each}
use Rattle.h264_block.specs.BlockAgree.{marked, SaysLevel}

-- ---- the range
pub range_minus : (neg : Bool) (m : ℕ) → neg ≡ true → leb m 32768 ≡ in_range 15 neg m
range_minus true m q = refl
range_minus false m q = let z : ◌≡◌ {A = ℕ} 0 1 = cc in absurd (omega arith)

pub range_plus : (neg : Bool) (m : ℕ) → neg ≡ false → ltb m 32768 ≡ in_range 15 neg m
range_plus false m q = refl
range_plus true m q = let z : ◌≡◌ {A = ℕ} 0 1 = cc in absurd (omega arith)

-- ---- one level
module _ (ones bigs k : ℕ) (ks : List ℕ) (lv : List ℤ) where
  rest : ℕ → Bool → S (List ℤ)
  rest v neg = levels_s ks (cond (ltb 0 v) ones (suc ones)) (cond (ltb 0 v) (suc bigs) bigs) (set lv k (signed neg (suc v)))

  signed_s : ℕ → Bool → S (List ℤ)
  signed_s v neg = elim (in_range 15 neg (suc v)) [ true ↦ rest v neg | false ↦ stop 8 ]

  sized_s : ℕ → S (List ℤ)
  sized_s v = bypass (λ w. negative (level_at w k)) (signed_s v)

  is : levels_s (k ∷ ks) ones bigs lv ≡ (magnitude_s ones bigs (λ w. nat_abs (level_at w k) - 1) >>= sized_s)
  unfolding levels_s sized_s signed_s rest
  is = refl

out_stops : (s : Bool) (l : List ℕ) (ones bigs k : ℕ) (ks : List ℕ) (lv : List ℤ) (v : ℕ) (neg : Bool) (z : Interval) (ds : List ℕ) → in_range 15 neg (suc v) ≡ false
    → from s l (signed_s ones bigs k ks lv v neg) z ds ≡ Out.no 8 (cursor z ds)
unfolding signed_s
out_stops s l ones bigs k ks lv v neg z ds q =
    ap (λ t. from s l t z ds) (passed (in_range 15 neg (suc v)) (rest ones bigs k ks lv v neg) (stop 8) q) ∙ run_stop (List ℤ) s l 8 z ds

went : (s : Bool) (l : List ℕ) (ones bigs k : ℕ) (ks : List ℕ) (lv : List ℤ) (v : ℕ) (neg : Bool) (z : Interval) (ds : List ℕ) → in_range 15 neg (suc v) ≡ true
    → from s l (signed_s ones bigs k ks lv v neg) z ds
    ≡ from s l (levels_s ks (cond (ltb 0 v) ones (suc ones)) (cond (ltb 0 v) (suc bigs) bigs) (set lv k (signed neg (suc v)))) z ds
unfolding signed_s rest
went s l ones bigs k ks lv v neg z ds q =
    ap (λ t. from s l t z ds) (picked (in_range 15 neg (suc v)) (rest ones bigs k ks lv v neg) (stop 8) q)

bit_is : (b : Bool) → eqb (bit_no b) 1 ≡ b
bit_is true = refl
bit_is false = refl

module _ (s : Bool) (l : List ℕ) (ones bigs k : ℕ) (x : Interval) (cs : List ℕ) (h : Reads s l x cs) (f : Step) (ds : List ℕ)
    (F : (v : List ℤ → ℕ) → Says f ds (from s l (magnitude_s ones bigs v) x cs)) (lv lv' : List ℤ) where
  size : List ℤ → ℕ
  size w = nat_abs (level_at w k) - 1

  pub level_refused : (m : Refusal) → f ≡ stopped m → SaysLevel (stopped m) s l ones bigs k x cs ds lv lv'
  unfolding size
  level_refused m q = λ ks.
      let r = bind_no (by_code s l) (magnitude_s ones bigs size) (sized_s ones bigs k ks lv) (cursor x cs) m (says_no f m ds _ (F size) q) in
      (r.0, ap (λ t. from s l t x cs) (is ones bigs k ks lv) ∙ r.1)

  module _ (v : ℕ) (y : Interval) (q : f ≡ got v y) where
    pub level_small : v < 65549
    level_small =
        (each_run (by_code s l) (magnitude_each {n = 0} ones bigs size) (cursor x cs) v (cursor y ds) (says_ok f v y ds _ (F size) q)).1

    pub level_reads : Reads s l y ds
    level_reads = reads_on s l (magnitude_s ones bigs size) x cs v y ds (says_ok f v y ds _ (F size) q) h

    onto : (ks : List ℕ) → from s l (levels_s (k ∷ ks) ones bigs lv) x cs ≡ from s l (bypass (λ w. negative (level_at w k)) (signed_s ones bigs k ks lv v)) y ds
    unfolding size sized_s
    onto ks = ap (λ t. from s l t x cs) (is ones bigs k ks lv)
        ∙ bind_ok (by_code s l) (magnitude_s ones bigs size) (sized_s ones bigs k ks lv) (cursor x cs) v (cursor y ds) (says_ok f v y ds _ (F size) q)

    module _ (g : Step) (G : g ≡ step_of y (bypass_from s l y)) where
      pub level_short : (m : Refusal) → g ≡ stopped m → SaysLevel (stopped m) s l ones bigs k x cs ds lv lv'
      level_short m e = λ ks.
          let r = bypass_then_no s l y ds (λ w. negative (level_at w k)) (signed_s ones bigs k ks lv v) m (flag_no_lem g m ds _ (bypass_says s l y ds g G) e) in
          (r.0, onto ks ∙ r.1)

      module _ (c : ℕ) (z : Interval) (e : g ≡ got c z) where
        flag : (b : Bool) × (c ≡ bit_no b) × (from s l bypass_p y ds ≡ Out.ok b (cursor z ds))
        flag = flag_ok g c z ds _ (bypass_says s l y ds g G) e

        both : (ks : List ℕ) → from s l (levels_s (k ∷ ks) ones bigs lv) x cs ≡ from s l (signed_s ones bigs k ks lv v (eqb c 1)) z ds
        both ks =
            let b : flag.0 ≡ eqb c 1 = sym (ap (λ n. eqb n 1) flag.1 ∙ bit_is flag.0) in
            onto ks ∙ bypass_then s l y ds (λ w. negative (level_at w k)) (signed_s ones bigs k ks lv v) flag.0 z ds flag.2
            ∙ ap (λ d. from s l (signed_s ones bigs k ks lv v d) z ds) b

        pub level_out : in_range 15 (eqb c 1) (v + 1) ≡ false → SaysLevel (stopped (refused_at 8 z)) s l ones bigs k x cs ds lv lv'
        level_out u ks =
            (ds, both ks ∙ out_stops s l ones bigs k ks lv v (eqb c 1) z ds (ap (in_range 15 (eqb c 1)) (sym (add-one v)) ∙ u))

        pub level_most : in_range 15 (eqb c 1) (v + 1) ≡ true → v + 1 ≤ 4194304
        level_most u = omega (arith, level_small)

        pub level_got : in_range 15 (eqb c 1) (v + 1) ≡ true → lv' ≡ set lv k (signed (eqb c 1) (v + 1)) → SaysLevel (got v z) s l ones bigs k x cs ds lv lv'
        level_got u i = (
          reads_on s l bypass_p y ds flag.0 z ds flag.2 level_reads,
          λ ks.
              let w : set lv k (signed (eqb c 1) (suc v)) ≡ lv' = ap (λ m. set lv k (signed (eqb c 1) m)) (sym (add-one v)) ∙ sym i in
              both ks ∙ went s l ones bigs k ks lv v (eqb c 1) z ds (ap (in_range 15 (eqb c 1)) (sym (add-one v)) ∙ u)
              ∙ ap (λ (m : List ℤ). from s l (levels_s ks (cond (ltb 0 v) ones (suc ones)) (cond (ltb 0 v) (suc bigs) bigs) m) z ds) w,
        )

-- ---- all of them
pub record Leveling (s : Bool) (l : List ℕ) (marks : List Bool) (x : Interval) (cs : List ℕ) (lv : List ℤ)
    (y : Interval) (ds : List ℕ) (lv' : List ℤ) (k ones bigs : ℕ) : Type 0 where
  pub few : ones + bigs + k ≤ 16
  pub reads : Reads s l y ds
  pub left : from s l (levels_s (down_from (marked marks) 16) 0 0 lv) x cs ≡ from s l (levels_s (down_from (marked marks) k) ones bigs lv') y ds

down_no : (t : ℕ → Bool) (k : ℕ) → t k ≡ false → down_from t (suc k) ≡ down_from t k
unfolding down_from
down_no t k q = rw q

down_yes : (t : ℕ → Bool) (k : ℕ) → t k ≡ true → down_from t (suc k) ≡ k ∷ down_from t k
unfolding down_from
down_yes t k q = rw q

module _ (s : Bool) (l : List ℕ) (marks : List Bool) (x : Interval) (cs : List ℕ) (lv : List ℤ) where
  pub leveling_begins : Reads s l x cs → Leveling s l marks x cs lv x cs lv 16 0 0
  leveling_begins h = record { few = omega arith; reads = h; left = refl }

  module _ (y : Interval) (ds : List ℕ) (m : List ℤ) (k ones bigs : ℕ) (i : Leveling s l marks x cs lv y ds m k ones bigs) where
    pub levels_ended : k ≤ 0 → from s l (levels_s (down_from (marked marks) 16) 0 0 lv) x cs ≡ Out.ok m (cursor y ds)
    unfolding levels_s down_from
    levels_ended q =
        let z : k ≡ 0 = omega arith in
        i.left ∙ ap (λ j. from s l (levels_s (down_from (marked marks) j) ones bigs m) y ds) z ∙ run_done (List ℤ) s l m y ds

    module _ (some : 0 < k) where
      one_less : k ≡ suc (k - 1)
      one_less = omega arith

      pub levels_skip : marked marks (k - 1) ≡ false → Leveling s l marks x cs lv y ds m (k - 1) ones bigs
      levels_skip q = record {
        few = omega (arith, i.few);
        reads = i.reads;
        left = i.left ∙ ap (λ j. from s l (levels_s (down_from (marked marks) j) ones bigs m) y ds) one_less
            ∙ ap (λ t. from s l (levels_s t ones bigs m) y ds) (down_no (marked marks) (k - 1) q);
      }

      module _ (q : marked marks (k - 1) ≡ true) (r : Step) (es : List ℕ) (m' : List ℤ) (e : SaysLevel r s l ones bigs (k - 1) y ds es m m') where
        here : from s l (levels_s (down_from (marked marks) 16) 0 0 lv) x cs ≡ from s l (levels_s ((k - 1) ∷ down_from (marked marks) (k - 1)) ones bigs m) y ds
        here =
            i.left ∙ ap (λ j. from s l (levels_s (down_from (marked marks) j) ones bigs m) y ds) one_less
            ∙ ap (λ t. from s l (levels_s t ones bigs m) y ds) (down_yes (marked marks) (k - 1) q)

        pub levels_refused : (n : Refusal) → r ≡ stopped n → RefusedBy n (from s l (levels_s (down_from (marked marks) 16) 0 0 lv) x cs)
        levels_refused n u =
            let f : SaysLevel (stopped n) s l ones bigs (k - 1) y ds es m m' = subst (λ (z : Step). SaysLevel z s l ones bigs (k - 1) y ds es m m') u e in
            let b = f (down_from (marked marks) (k - 1)) in
            (b.0, here ∙ b.1)

        module _ (v : ℕ) (z : Interval) (u : r ≡ got v z) where
          f : SaysLevel (got v z) s l ones bigs (k - 1) y ds es m m'
          f = subst (λ (z : Step). SaysLevel z s l ones bigs (k - 1) y ds es m m') u e

          pub levels_one : v ≡ 0 → Leveling s l marks x cs lv z es m' (k - 1) (ones + 1) bigs
          unfolding f
          levels_one w = record {
            few = omega (arith, i.few);
            reads = f.0;
            left = here ∙ f.1 (down_from (marked marks) (k - 1))
                ∙ ap (λ d. from s l (levels_s (down_from (marked marks) (k - 1)) (cond d ones (suc ones)) (cond d (suc bigs) bigs) m') z es) (le-ltb 0 v (omega arith))
                ∙ ap (λ n. from s l (levels_s (down_from (marked marks) (k - 1)) n bigs m') z es) (sym (add-one ones));
          }

          pub levels_big : (v ≡ 0 → ⊥) → Leveling s l marks x cs lv z es m' (k - 1) ones (bigs + 1)
          unfolding f
          levels_big w = record {
            few = omega (arith, i.few);
            reads = f.0;
            left = here ∙ f.1 (down_from (marked marks) (k - 1))
                ∙ ap (λ d. from s l (levels_s (down_from (marked marks) (k - 1)) (cond d ones (suc ones)) (cond d (suc bigs) bigs) m') z es) (lt-ltb 0 v (omega (arith, w)))
                ∙ ap (λ n. from s l (levels_s (down_from (marked marks) (k - 1)) ones n m') z es) (sym (add-one bigs));
          }
