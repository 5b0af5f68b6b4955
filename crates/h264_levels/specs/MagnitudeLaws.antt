-- A magnitude as its code reads it. Assumes nothing.
use Rattle.std.specs.Prelude.{ℕ, suc, ◌+◌, ◌-◌, ◌*◌, ◌%◌, ◌^◌, ◌≤◌, ◌<◌, min, ◌≡◌, Bool, true, false, cond, List, [], leb, ltb, ℤ}
use Rattle.std.proofs.Math.Path.{refl, ap}
use Rattle.std.proofs.Common.{sym, subst, ◌∙◌, pow_mono, le-leb, lt-ltb, le-ltb}
use native.Mathlib.Omega.{arith}
use Rattle.std.proofs.lemmas.Bool.{lt-leb}
use Rattle.bins.specs.declared.state.Interval.{Interval}
use Rattle.bins.specs.declared.state.Refusal.{Refusal}
use Rattle.bins.specs.Syn.{done, stop, ◌>>=◌, Out}
use Rattle.bins.specs.Readers.{bits_s, ones_s}
use Rattle.bins.specs.Sources.{Cursor, cursor, by_code, Readable, step_of_bits, bits_from, stopped, refused_at, Step, got}
use Rattle.bins.specs.Laws.{RefusedBy, bind_ok, bind_no, map_out}
use Rattle.bins.specs.CodeLaws.{bits_from_lem}
use Rattle.trees.specs.Shapes.{eg_base, first_then, count_s, golomb_s}
use Rattle.trees.specs.Agree.{Reads, from, Says, readable_on, reads_on, says_ok, says_no, run_stop}
use Rattle.trees.specs.Pick.{picked, passed}
use Rattle.tree_shapes.specs.Plain.{ones_p, count_p, ones_any, count_any}
use Rattle.tree_shapes.specs.ShapeLaws.{run_done}
use Rattle.trees.specs.Every.{Free, ones_each, bits_each}
use Rattle.trees.specs.Reached.{each_run}
use Rattle.trees.specs.ShapeBounds.{golomb_each}
use Rattle.h264_block.specs.Layout.{at_magnitude}
use Rattle.h264_block.specs.Block.{S, magnitude_s}

-- ---- several bypass bins, as one call answers them
says_bits : (cs : List ℕ) (o : Out Interval ℕ) → Says (step_of_bits o) cs (map_out (λ y. cursor y cs) o)
says_bits cs (Out.ok v y) = refl
says_bits cs (Out.no n y) = (cs, refl)

module _ (s : Bool) (l : List ℕ) (n : ℕ) (y : Interval) (h : Readable s l y) (g : Step) (G : g ≡ step_of_bits (bits_from s l n y)) where
  bits_says : (w : List ℤ → ℕ) (cs : List ℕ) → Says g cs (from s l (bits_s n 0 w) y cs)
  bits_says w cs =
      subst (λ (z : Step). Says z cs (from s l (bits_s n 0 w) y cs)) (sym G)
      (subst (λ (o : Out Cursor ℕ). Says (step_of_bits (bits_from s l n y)) cs o) (sym (bits_from_lem s l n w y cs h)) (says_bits cs (bits_from s l n y)))

  bits_below : (u : ℕ) (z : Interval) → g ≡ got u z → u < 2 ^ n
  bits_below u z q =
      let w : List ℤ → ℕ = λ t. 0 in
      let b : u < (0 + 1) * 2 ^ n = (each_run (by_code s l) (bits_each {K = Free} {n = 0} n 0 w) (cursor y []) u (cursor z []) (says_ok g u z [] _ (bits_says w []) q)).1.0 in
      omega arith

-- ---- Exp-Golomb
module _ (s : Bool) (l : List ℕ) (most : ℕ) (x : Interval) (f : Step) (F : (cs : List ℕ) → Says f cs (from s l (ones_p most 0) x cs)) where
  ones_says : (w : ℕ → List ℤ → Bool) (cs : List ℕ) → Says f cs (from s l (ones_s most 0 w) x cs)
  ones_says w cs = subst (Says f cs) (sym (ones_any (by_code s l) w most 0 (cursor x cs))) (F cs)

  pub ones_upto : (n : ℕ) (y : Interval) → f ≡ got n y → n ≤ most
  ones_upto n y q =
      let b : n ≤ 0 + most = (each_run (by_code s l) (ones_each {K = Free} {n = 0} most 0 (λ g (t : ℕ). false)) (cursor x []) n (cursor y []) (says_ok f n y [] _ (F []) q)).1.upto in
      omega arith

  pub ones_readable : (n : ℕ) (y : Interval) → f ≡ got n y → Readable s l x → Readable s l y
  ones_readable n y q h = readable_on s l (ones_p most 0) x [] n y [] (says_ok f n y [] _ (F []) q) h

  module _ (v : List ℤ → ℕ) (cs : List ℕ) where
    wants : ℕ → List ℤ → Bool
    wants g t = leb (eg_base 0 (suc g)) (v t)

    tail : ℕ → S ℕ
    tail n = bits_s (n + 0) 0 (λ t. v t - eg_base 0 n) >>= λ x. done (eg_base 0 n + x)

    rest : ℕ → S ℕ
    rest n = elim (leb most n) [ true ↦ stop 8 | false ↦ tail n ]

    is : golomb_s most 0 v ≡ (ones_s most 0 wants >>= rest)
    unfolding golomb_s wants rest tail
    is = refl

    pub golomb_refused : (n : Refusal) → f ≡ stopped n → RefusedBy n (from s l (golomb_s most 0 v) x cs)
    golomb_refused n q =
        let r = bind_no (by_code s l) (ones_s most 0 wants) rest (cursor x cs) n (says_no f n cs _ (ones_says wants cs) q) in
        (r.0, ap (λ t. from s l t x cs) is ∙ r.1)

    module _ (n : ℕ) (y : Interval) (q : f ≡ got n y) where
      on : from s l (golomb_s most 0 v) x cs ≡ from s l (rest n) y cs
      on = ap (λ t. from s l t x cs) is
          ∙ bind_ok (by_code s l) (ones_s most 0 wants) rest (cursor x cs) n (cursor y cs) (says_ok f n y cs _ (ones_says wants cs) q)

      pub golomb_stops : most ≤ n → RefusedBy (refused_at 8 y) (from s l (golomb_s most 0 v) x cs)
      unfolding rest
      golomb_stops h =
          (cs, on ∙ ap (λ t. from s l t y cs) (picked (leb most n) (stop 8) (tail n) (le-leb most n h)) ∙ run_stop (List ℤ) s l 8 y cs)

      module _ (h : n < most) (r : Readable s l x) (g : Step) (G : g ≡ step_of_bits (bits_from s l n y)) where
        goes : from s l (golomb_s most 0 v) x cs ≡ from s l (bits_s n 0 (λ t. v t - eg_base 0 n) >>= λ x. done (eg_base 0 n + x)) y cs
        unfolding rest tail
        goes =
            let z : n + 0 ≡ n = omega arith in
            on ∙ ap (λ t. from s l t y cs) (passed (leb most n) (stop 8) (tail n) (lt-leb most n h))
            ∙ ap (λ m. from s l (bits_s m 0 (λ t. v t - eg_base 0 n) >>= λ x. done (eg_base 0 n + x)) y cs) z

        pub golomb_short : (m : Refusal) → g ≡ stopped m → RefusedBy m (from s l (golomb_s most 0 v) x cs)
        golomb_short m e =
            let b = bind_no (by_code s l) (bits_s n 0 (λ t. v t - eg_base 0 n)) (λ x. done (eg_base 0 n + x)) (cursor y cs) m
            (says_no g m cs _ (bits_says s l n y (ones_readable n y q r) g G (λ t. v t - eg_base 0 n) cs) e) in
            (b.0, goes ∙ b.1)

        pub golomb_got : (u : ℕ) (z : Interval) → g ≡ got u z → from s l (golomb_s most 0 v) x cs ≡ Out.ok (2 ^ n - 1 + u) (cursor z cs)
        golomb_got u z e =
            let b : eg_base 0 n + u ≡ 2 ^ n - 1 + u = omega arith in
            goes ∙ bind_ok (by_code s l) (bits_s n 0 (λ t. v t - eg_base 0 n)) (λ x. done (eg_base 0 n + x)) (cursor y cs) u (cursor z cs)
            (says_ok g u z cs _ (bits_says s l n y (ones_readable n y q r) g G (λ t. v t - eg_base 0 n) cs) e)
            ∙ run_done (List ℤ) s l (eg_base 0 n + u) z cs ∙ ap (λ m. Out.ok m (cursor z cs)) b

  pub golomb_below : (n : ℕ) (y : Interval) → f ≡ got n y → Readable s l x → (g : Step) → g ≡ step_of_bits (bits_from s l n y)
      → (u : ℕ) (z : Interval) → g ≡ got u z → most ≤ 16 → (2 ^ n ≤ 65536) × (1 ≤ 2 ^ n) × (u < 65536)
  golomb_below n y q r g G u z e m =
      let p : 2 ^ n ≤ 2 ^ 16 = pow_mono {i = n} {j = 16} (omega (arith, ones_upto n y q)) in
      let o : 2 ^ 0 ≤ 2 ^ n = pow_mono {i = 0} {j = n} (omega arith) in
      (omega arith, omega arith, omega (arith, bits_below s l n y (ones_readable n y q r) g G u z e))

  -- the same in the code's words
  pub golomb_code : (n : ℕ) (y : Interval) → f ≡ got n y → Readable s l x → (g : Step) → g ≡ step_of_bits (bits_from s l n y)
      → (u : ℕ) (z : Interval) → g ≡ got u z → most ≤ 16 → n < most → (v : List ℤ → ℕ) (cs : List ℕ)
      → from s l (golomb_s most 0 v) x cs ≡ Out.ok (1 * 2 ^ n % 4294967296 - 1 + u) (cursor z cs)
  golomb_code n y q r g G u z e m h v cs =
      let b = golomb_below n y q r g G u z e m in
      let i : 2 ^ n - 1 + u ≡ 1 * 2 ^ n % 4294967296 - 1 + u = omega (arith, b.0) in
      golomb_got v cs n y q h r g G u z e ∙ ap (λ k. Out.ok k (cursor z cs)) i

-- ---- the whole
module _ (s : Bool) (l : List ℕ) (ones bigs : ℕ) (x : Interval) (cs : List ℕ) (f : Step) (ds : List ℕ) (first later : ℕ)
    (e₁ : first ≡ 30 + cond (ltb 0 bigs) 0 (min 4 (1 + ones))) (e₂ : later ≡ 30 + (5 + min 4 bigs))
    (F : Says f ds (from s l (count_p (first_then first later) 14 0) x cs)) where
  same : count_p (first_then first later) 14 0 ≡ count_p (at_magnitude ones bigs) 14 0
  unfolding at_magnitude
  same = rw (e₁, e₂)

  count_says : (w : ℕ → List ℤ → Bool) → Says f ds (from s l (count_s (at_magnitude ones bigs) 14 0 w) x cs)
  count_says w =
      subst (Says f ds) (ap (λ t. from s l t x cs) same ∙ sym (count_any (by_code s l) w (at_magnitude ones bigs) 14 0 (cursor x cs))) F

  pub counted_reads : (q : ℕ) (y : Interval) → f ≡ got q y → Reads s l x cs → Reads s l y ds
  counted_reads q y e h = reads_on s l (count_p (first_then first later) 14 0) x cs q y ds (says_ok f q y ds _ F e) h

  module _ (v : List ℤ → ℕ) where
    upto : ℕ → List ℤ → Bool
    upto g w = leb (suc g) (v w)

    high : S ℕ
    high = golomb_s 16 0 (λ w. v w - 14) >>= λ x. done (14 + x)

    more : ℕ → S ℕ
    more q = elim (ltb q 14) [ true ↦ done q | false ↦ high ]

    mag : magnitude_s ones bigs v ≡ (count_s (at_magnitude ones bigs) 14 0 upto >>= more)
    unfolding magnitude_s upto more high
    mag = refl

    pub magnitude_refused : (n : Refusal) → f ≡ stopped n → RefusedBy n (from s l (magnitude_s ones bigs v) x cs)
    magnitude_refused n q =
        let r = bind_no (by_code s l) (count_s (at_magnitude ones bigs) 14 0 upto) more (cursor x cs) n (says_no f n ds _ (count_says upto) q) in
        (r.0, ap (λ t. from s l t x cs) mag ∙ r.1)

    module _ (q : ℕ) (y : Interval) (e : f ≡ got q y) where
      onto : from s l (magnitude_s ones bigs v) x cs ≡ from s l (more q) y ds
      onto = ap (λ t. from s l t x cs) mag
          ∙ bind_ok (by_code s l) (count_s (at_magnitude ones bigs) 14 0 upto) more (cursor x cs) q (cursor y ds) (says_ok f q y ds _ (count_says upto) e)

      pub magnitude_few : q < 14 → from s l (magnitude_s ones bigs v) x cs ≡ Out.ok q (cursor y ds)
      unfolding more
      magnitude_few h = onto ∙ ap (λ t. from s l t y ds) (picked (ltb q 14) (done q) high (lt-ltb q 14 h)) ∙ run_done (List ℤ) s l q y ds

      module _ (h : 14 ≤ q) (g : Step) (G : (v : List ℤ → ℕ) (cs : List ℕ) → Says g cs (from s l (golomb_s 16 0 v) y cs)) where
        highs : from s l (magnitude_s ones bigs v) x cs ≡ from s l (golomb_s 16 0 (λ w. v w - 14) >>= λ x. done (14 + x)) y ds
        unfolding more high
        highs = onto ∙ ap (λ t. from s l t y ds) (passed (ltb q 14) (done q) high (le-ltb q 14 h))

        pub magnitude_short : (n : Refusal) → g ≡ stopped n → RefusedBy n (from s l (magnitude_s ones bigs v) x cs)
        magnitude_short n u =
            let b = bind_no (by_code s l) (golomb_s 16 0 (λ w. v w - 14)) (λ x. done (14 + x)) (cursor y ds) n (says_no g n ds _ (G (λ w. v w - 14) ds) u) in
            (b.0, highs ∙ b.1)

        pub magnitude_got : (m : ℕ) (z : Interval) → g ≡ got m z → from s l (magnitude_s ones bigs v) x cs ≡ Out.ok (14 + m) (cursor z ds)
        magnitude_got m z u =
            highs ∙ bind_ok (by_code s l) (golomb_s 16 0 (λ w. v w - 14)) (λ x. done (14 + x)) (cursor y ds) m (cursor z ds) (says_ok g m z ds _ (G (λ w. v w - 14) ds) u)
            ∙ run_done (List ℤ) s l (14 + m) z ds

-- ---- how great it can be
pub golomb_small : (s : Bool) (l : List ℕ) (y : Interval) (g : Step) → ((v : List ℤ → ℕ) (cs : List ℕ) → Says g cs (from s l (golomb_s 16 0 v) y cs))
    → (m : ℕ) (z : Interval) → g ≡ got m z → m < 65535
golomb_small s l y g G m z u =
    (each_run (by_code s l) (golomb_each {K = Free} {n = 0} 16 0 (λ (w : List ℤ). 0) (λ m. tt)) (cursor y []) m (cursor z []) (says_ok g m z [] _ (G (λ w. 0) []) u)).1
