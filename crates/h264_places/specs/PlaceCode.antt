-- The significant places as their code reads them. Assumes nothing.
use Rattle.std.specs.Prelude.{ℕ, zero, suc, ◌+◌, ◌-◌, ◌≤◌, ◌<◌, ◌≡◌, Bool, cond, eqb, set, replicate, ℤ}
use Rattle.std.proofs.Math.Path.{refl, ap}
use Rattle.std.proofs.Common.{sym, subst, ◌∙◌, get_or-set_same, get_or-set_other}
use Rattle.std.proofs.Math.Bool.{true, false}
use mathlib.Core.List.{List, [], ◌∷◌}
use native.Mathlib.Omega.{arith}
use Rattle.std.proofs.Math.Numerals.{add-one}
use Rattle.std.proofs.Math.ListN.{length, length-set, length-replicate}
use Rattle.bins.specs.declared.state.Interval.{Interval}
use Rattle.bins.specs.declared.state.Refusal.{Refusal}
use Rattle.bins.specs.Engine.{bit_no}
use Rattle.bins.specs.Syn.{done, bin, Out}
use Rattle.bins.specs.Sources.{cursor, stopped, Step, got}
use Rattle.bins.specs.Laws.{RefusedBy}
use Rattle.trees.specs.Levels.{down_from}
use Rattle.trees.specs.ListLaws.{down_first}
use Rattle.trees.specs.Agree.{Reads, from, SaysFlag, reads_on, flag_ok, flag_no_lem}
use Rattle.tree_shapes.specs.Plain.{bin_p}
use Rattle.tree_shapes.specs.ShapeLaws.{run_done, bit_zero, bit_one, bin_then, bin_then_no}
use Rattle.h264_block.specs.Layout.{at_significance, at_last}
use Rattle.h264_block.specs.Block.{S, is_sig, sig_places, first_of, places_s}
use Rattle.h264_block.specs.BlockAgree.{place_on, SaysPlace, marked}

-- ---- the flags of a place
module _ (n k : ℕ) (ks : List ℕ) where
  behind_last : Bool → S (List ℕ)
  behind_last e = elim e [ true ↦ done (k ∷ ks) | false ↦ places_s n (suc k) (k ∷ ks) ]

  behind_sig : Bool → S (List ℕ)
  behind_sig b = elim b [ true ↦ bin (at_last k) (λ w. eqb (first_of (sig_places w)) k) behind_last | false ↦ places_s n (suc k) ks ]

  is : places_s (suc n) k ks ≡ bin (at_significance k) (λ w. is_sig w k) behind_sig
  unfolding places_s behind_sig behind_last
  is = refl

last_yes : (s : Bool) (l : List ℕ) (n k : ℕ) (ks : List ℕ) (z : Interval) (es : List ℕ) → from s l (behind_last n k ks true) z es ≡ Out.ok (k ∷ ks) (cursor z es)
unfolding behind_last
last_yes s l n k ks z es = run_done (List ℤ) s l (k ∷ ks) z es

last_no : (s : Bool) (l : List ℕ) (n k : ℕ) (ks : List ℕ) (z : Interval) (es : List ℕ) → from s l (behind_last n k ks false) z es ≡ from s l (places_s n (suc k) (k ∷ ks)) z es
unfolding behind_last
last_no s l n k ks z es = refl

module _ (s : Bool) (l : List ℕ) (k : ℕ) (x : Interval) (cs : List ℕ) (h : Reads s l x cs) (f : Step) (ds : List ℕ) (F : SaysFlag f ds (from s l (bin_p k) x cs)) where
  pub place_refused : (m : Refusal) → f ≡ stopped m → SaysPlace (stopped m) s l k x cs ds
  place_refused m q = λ n ks.
      let r = bin_then_no s l x cs (λ w. is_sig w k) (behind_sig n k ks) k m (flag_no_lem f m ds _ F q) in
      (r.0, ap (λ t. from s l t x cs) (is n k ks) ∙ r.1)

  module _ (v : ℕ) (y : Interval) (q : f ≡ got v y) where
    onto : (b : Bool) → from s l (bin_p k) x cs ≡ Out.ok b (cursor y ds) → (n : ℕ) (ks : List ℕ) → from s l (places_s (suc n) k ks) x cs ≡ from s l (behind_sig n k ks b) y ds
    onto b e n ks = ap (λ t. from s l t x cs) (is n k ks) ∙ bin_then s l x cs (λ w. is_sig w k) (behind_sig n k ks) k b y ds e

    pub place_none : v ≡ 0 → SaysPlace (got 0 y) s l k x cs ds
    unfolding behind_sig
    place_none u =
        let g = flag_ok f v y ds _ F q in
        let b : g.0 ≡ false = bit_zero g.0 (sym g.1 ∙ u) in (
          reads_on s l (bin_p k) x cs g.0 y ds g.2 h,
          omega arith,
          λ n ks. onto g.0 g.2 n ks ∙ ap (λ d. from s l (behind_sig n k ks d) y ds) b,
        )

    module _ (u : v ≡ 0 → ⊥) where
      pub place_reads : Reads s l y ds
      place_reads = let g = flag_ok f v y ds _ F q in reads_on s l (bin_p k) x cs g.0 y ds g.2 h

      module _ (g : Step) (es : List ℕ) (G : SaysFlag g es (from s l (bin_p (15 + k)) y ds)) where
        sig : (n : ℕ) (ks : List ℕ) → from s l (places_s (suc n) k ks) x cs ≡ from s l (bin (at_last k) (λ w. eqb (first_of (sig_places w)) k) (behind_last n k ks)) y ds
        unfolding behind_sig
        sig n ks =
            let g = flag_ok f v y ds _ F q in
            let b : g.0 ≡ true = bit_one g.0 (λ e. u (g.1 ∙ e)) in
            onto g.0 g.2 n ks ∙ ap (λ d. from s l (behind_sig n k ks d) y ds) b

        pub place_short : (m : Refusal) → g ≡ stopped m → SaysPlace (stopped m) s l k x cs es
        place_short m e = λ n ks.
            let r = bin_then_no s l y ds (λ w. eqb (first_of (sig_places w)) k) (behind_last n k ks) (15 + k) m (flag_no_lem g m es _ G e) in
            (r.0, sig n ks ∙ r.1)

        pub place_bit : (c : ℕ) (z : Interval) → g ≡ got c z → c ≤ 1
        place_bit c z e = let r = flag_ok g c z es _ G e in go r.0 c r.1
          where
            go : (b : Bool) (c : ℕ) → c ≡ bit_no b → c ≤ 1
            go true c q = omega arith
            go false c q = omega arith

        pub place_got : (c : ℕ) (z : Interval) → g ≡ got c z → SaysPlace (got (1 + c) z) s l k x cs es
        place_got c z e = let r = flag_ok g c z es _ G e in go r.0 c r.1 r.2
          where
            all : (b : Bool) → from s l (bin_p (15 + k)) y ds ≡ Out.ok b (cursor z es) → (n : ℕ) (ks : List ℕ)
                → from s l (places_s (suc n) k ks) x cs ≡ from s l (behind_last n k ks b) z es
            all b o n ks = sig n ks ∙ bin_then s l y ds (λ w. eqb (first_of (sig_places w)) k) (behind_last n k ks) (15 + k) b z es o

            by : (b : Bool) → from s l (bin_p (15 + k)) y ds ≡ Out.ok b (cursor z es) → SaysPlace (got (1 + bit_no b) z) s l k x cs es
            by true o = (reads_on s l (bin_p (15 + k)) y ds true z es o place_reads, omega arith, λ n ks. all true o n ks ∙ last_yes s l n k ks z es)
            by false o = (reads_on s l (bin_p (15 + k)) y ds false z es o place_reads, omega arith, λ n ks. all false o n ks ∙ last_no s l n k ks z es)

            go : (b : Bool) (c : ℕ) → c ≡ bit_no b → from s l (bin_p (15 + k)) y ds ≡ Out.ok b (cursor z es) → SaysPlace (got (1 + c) z) s l k x cs es
            go b c p o = subst (λ (c : ℕ). SaysPlace (got (1 + c) z) s l k x cs es) (sym p) (by b o)

-- ---- marks
pub down_same : (s t : ℕ → Bool) (n : ℕ) → ((j : ℕ) → j < n → s j ≡ t j) → down_from s n ≡ down_from t n
unfolding down_from
down_same s t zero h = refl
down_same s t (suc n) h = rw (h n (omega arith), down_same s t n (λ j u. h j (omega arith)))

-- in the loop, at place k: what is left to run gives what the whole gives
pub record Marking (s : Bool) (l : List ℕ) (x : Interval) (cs : List ℕ) (y : Interval) (ds : List ℕ) (marks : List Bool) (k : ℕ) : Type 0 where
  pub few : k ≤ 15
  pub reads : Reads s l y ds
  pub long : length marks ≡ 16
  pub above : (j : ℕ) → k ≤ j → marked marks j ≡ false
  pub left : from s l (places_s 15 0 []) x cs ≡ from s l (places_s (15 - k) k (down_from (marked marks) k)) y ds

none_marked : (n j : ℕ) → marked (replicate n false) j ≡ false
none_marked zero j = refl
none_marked (suc n) zero = refl
none_marked (suc n) (suc j) = none_marked n j

set_above : (m : List Bool) (k : ℕ) (b : Bool) → ((j : ℕ) → k ≤ j → marked m j ≡ false) → (j : ℕ) → suc k ≤ j → marked (set m k b) j ≡ false
set_above m k b h j u = get_or-set_other m k j b false (λ q. omega arith) ∙ h j (omega arith)

set_below : (m : List Bool) (k : ℕ) (b : Bool) → down_from (marked m) k ≡ down_from (marked (set m k b)) k
set_below m k b = down_same (marked m) (marked (set m k b)) k (λ j u. sym (get_or-set_other m k j b false (λ q. omega arith)))

-- the places below k, and k if it is marked
down_set : (m : List Bool) (k : ℕ) (b : Bool) → k < length m → cond b (k ∷ down_from (marked m) k) (down_from (marked m) k) ≡ down_from (marked (set m k b)) (suc k)
unfolding down_from
down_set m k b h = rw (get_or-set_same m k b false h, ← set_below m k b)

module _ (s : Bool) (l : List ℕ) (x : Interval) (cs : List ℕ) where
  pub marking_begins : (marks : List Bool) → marks ≡ replicate 16 false → Reads s l x cs → Marking s l x cs x cs marks 0
  unfolding down_from
  marking_begins marks q h = record {
    few = omega arith;
    reads = h;
    long = ap length q ∙ length-replicate 16 false;
    above = λ j u. ap (λ (m : List Bool). marked m j) q ∙ none_marked 16 j;
    left = refl;
  }

  module _ (y : Interval) (ds : List ℕ) (marks : List Bool) (k : ℕ) (i : Marking s l x cs y ds marks k) where
    -- the list that is read where k is the last place
    pub marks_last : k ∷ down_from (marked marks) k ≡ down_from (marked (set marks k true)) 16
    marks_last =
        let h : k < length marks = omega (arith, i.few, i.long) in
        ap (λ z. k ∷ z) (set_below marks k true)
        ∙ sym (down_first (marked (set marks k true)) 16 k (omega (arith, i.few)) (get_or-set_same marks k true false h)
        (λ j lo hi. set_above marks k true i.above j lo))

    pub places_ended : 15 ≤ k → from s l (places_s 15 0 []) x cs ≡ Out.ok (down_from (marked (set marks 15 true)) 16) (cursor y ds)
    unfolding places_s
    places_ended q =
        let e : k ≡ 15 = omega (arith, i.few) in
        let m : 15 - k ≡ 0 = omega arith in
        i.left ∙ ap (λ n. from s l (places_s n k (down_from (marked marks) k)) y ds) m ∙ run_done (List ℤ) s l (k ∷ down_from (marked marks) k) y ds
        ∙ ap (λ z. Out.ok z (cursor y ds)) (marks_last ∙ ap (λ j. down_from (marked (set marks j true)) 16) e)

    module _ (less : k ≡ 15 → ⊥) (r : Step) (es : List ℕ) (e : SaysPlace r s l k y ds es) where
      next : from s l (places_s 15 0 []) x cs ≡ from s l (places_s (suc (15 - (k + 1))) k (down_from (marked marks) k)) y ds
      next =
          let m : 15 - k ≡ suc (15 - (k + 1)) = omega (arith, i.few) in
          i.left ∙ ap (λ n. from s l (places_s n k (down_from (marked marks) k)) y ds) m

      pub places_refused : (m : Refusal) → r ≡ stopped m → RefusedBy m (from s l (places_s 15 0 []) x cs)
      places_refused m q =
          let f : SaysPlace (stopped m) s l k y ds es = subst (λ (z : Step). SaysPlace z s l k y ds es) q e in
          let b = f (15 - (k + 1)) (down_from (marked marks) k) in
          (b.0, next ∙ b.1)

      module _ (v : ℕ) (z : Interval) (q : r ≡ got v z) where
        f : SaysPlace (got v z) s l k y ds es
        f = subst (λ (z : Step). SaysPlace z s l k y ds es) q e

        pub places_last : v ≡ 2 → from s l (places_s 15 0 []) x cs ≡ Out.ok (down_from (marked (set marks k true)) 16) (cursor z es)
        unfolding f
        places_last u =
            next ∙ f.2 (15 - (k + 1)) (down_from (marked marks) k)
            ∙ ap (λ v. place_on v s l (15 - (k + 1)) k (down_from (marked marks) k) z es) u
            ∙ ap (λ t. Out.ok t (cursor z es)) marks_last

        on : (v : ℕ) → v ≤ 2 → (v ≡ 2 → ⊥) → (n : ℕ) (ks : List ℕ) → place_on v s l n k ks z es ≡ from s l (places_s n (suc k) (cond (eqb v 1) (k ∷ ks) ks)) z es
        on zero a b n ks = refl
        on (suc zero) a b n ks = refl
        on (suc (suc zero)) a b n ks = absurd (b refl)
        on (suc (suc (suc v))) a b n ks = absurd (omega arith)

        pub places_again : (v ≡ 2 → ⊥) → Marking s l x cs z es (set marks k (eqb v 1)) (k + 1)
        unfolding f
        places_again u =
            let h : k < length marks = omega (arith, i.few, i.long) in
            let p = add-one k in
            let a : from s l (places_s 15 0 []) x cs ≡ from s l (places_s (15 - (k + 1)) (suc k) (down_from (marked (set marks k (eqb v 1))) (suc k))) z es =
            next ∙ f.2 (15 - (k + 1)) (down_from (marked marks) k) ∙ on v f.1 u (15 - (k + 1)) (down_from (marked marks) k)
            ∙ ap (λ t. from s l (places_s (15 - (k + 1)) (suc k) t) z es) (down_set marks k (eqb v 1) h) in
            record {
              few = omega (arith, i.few);
              reads = f.0;
              long = length-set marks k (eqb v 1) ∙ i.long;
              above = λ j w. set_above marks k (eqb v 1) i.above j (omega arith);
              left = a ∙ ap (λ j. from s l (places_s (15 - (k + 1)) j (down_from (marked (set marks k (eqb v 1))) j)) z es) (sym p);
            }
