-- The levels of a sub-block: what bins, signs and magnitudes say of one another. First of levels alone, then of the tree. Assumes nothing.
use Prim.Native.Nat.{ℕ, zero, suc, ◌+◌, ◌-◌, ◌*◌, ◌/◌, ◌%◌, ◌^◌, ◌≤◌, ◌<◌}
use Rattle.std.specs.Prelude.{◌≡◌, Bool, ltb, ℤ, pos, negsuc, nat_abs, length}
use Rattle.std.proofs.Math.Path.{refl, sym, ap, subst}
use Rattle.std.proofs.Common.{◌∙◌, div-lt_iff_lt-mul}
use Rattle.std.proofs.Math.Bool.{true, false}
use mathlib.Core.List.{List, [], ◌∷◌}
use native.Mathlib.Omega.{arith}
use Rattle.std.proofs.Math.Nat.{pow-suc, mod-lt, div-add-mod'}
use Rattle.std.proofs.Math.Pow.{pow_pos, high}
use Rattle.std.proofs.Math.Dec.{eqb}
use borrow.Author.Tests.{ltb-true, ltb-false, lt-ltb, le-ltb, eq-eqb, ne_eqb}
use Rattle.bins.specs.Engine.{bit_no}
use Rattle.bins.specs.Readers.{odd}
use Rattle.hevc_residual.specs.Wanted.{Wanted, negative, is_big, last_of}
use Rattle.hevc_residual.specs.Remainder.{signed, in_range}
use Rattle.hevc_residual.specs.SubBlock.{Due, dues, negative_now, first_greater1, signs_no, count_of}
use Rattle.hevc_residual.specs.Refusal.{sum_over}
use Rattle.trees.specs.ReaderLaws.{clash, bit_is, bit_fits}
use Rattle.trees.specs.LevelLaws.{signed_of, signed_is}
use Rattle.hevc_exact.specs.PlaceLaws.{Said}
use Rattle.trees.specs.ListLaws.{All}

odd_bit : (v : ℕ) (d : Bool) → odd (v * 2 + bit_no d) ≡ d
odd_bit v true = eq-eqb ((v * 2 + 1) % 2) 1 (omega arith)
odd_bit v false = ne_eqb ((v * 2 + 0) % 2) 1 (λ q. omega arith)

-- the bit on top of n others
top_bit : (n v x : ℕ) (d : Bool) → x < 2 ^ n → odd (((v * 2 + bit_no d) * 2 ^ n + x) / 2 ^ n) ≡ d
top_bit n v x d h = ap odd (high (v * 2 + bit_no d) n h) ∙ odd_bit v d

abbrev pub places_of_dues : List Due → List ℕ
places_of_dues [] = []
places_of_dues (d ∷ ds) = d.at ∷ places_of_dues ds

pub dues_places : (ks : List ℕ) (gs : List Bool) (seen g2 : Bool) → places_of_dues (dues ks gs seen g2) ≡ ks
unfolding dues
dues_places [] gs seen g2 = refl
dues_places (k ∷ ks) [] seen g2 = ap (λ l. k ∷ l) (dues_places ks [] seen g2)
dues_places (k ∷ ks) (false ∷ gs) seen g2 = ap (λ l. k ∷ l) (dues_places ks gs seen g2)
dues_places (k ∷ ks) (true ∷ gs) false g2 = ap (λ l. k ∷ l) (dues_places ks gs true g2)
dues_places (k ∷ ks) (true ∷ gs) true g2 = ap (λ l. k ∷ l) (dues_places ks gs true g2)

-- ---- a level by its sign and magnitude
module _ (t : ℕ) (lv : ℕ → Wanted → ℤ) (b : Wanted) where
  abbrev pub size : ℕ → ℕ
  size k = nat_abs (lv k b)

  -- the magnitude is what its base and a remainder make
  pub record Based (d : Due) : Type 0 where
    pub least : d.base_level ≤ size d.at
    pub whole : d.more ≡ false → size d.at ≡ d.base_level

  abbrev pub AllBased : List Due → Type 0
  AllBased [] = Unit {0}
  AllBased (d ∷ ds) = Based d × AllBased ds

  -- the level is in range, and its sign is what the sign bins say, of which n are left, or the sum
  pub record SignIs (k n signs sum : ℕ) : Type 0 where
    pub ranged : in_range t (negative (lv k b)) (size k) ≡ true
    pub sign : negative_now n signs (sum + size k) ≡ negative (lv k b)

  abbrev pub AllSigns : List ℕ → ℕ → ℕ → ℕ → Type 0
  AllSigns [] n signs sum = Unit {0}
  AllSigns (k ∷ ks) n signs sum = SignIs k n signs sum × AllSigns ks (n - 1) signs (sum + size k)

  abbrev pub NotZero : ℕ → Type 0
  NotZero k = 0 < size k

  abbrev pub InRange : ℕ → Type 0
  InRange k = in_range t (negative (lv k b)) (size k) ≡ true

  -- ---- greater1 and greater2
  abbrev pub Second : List ℕ → List Bool → Bool → Bool → Type 0
  Second ks gs seen g2 = seen ≡ false → 0 < count_of gs → g2 ≡ ltb 2 (size (first_greater1 ks gs))

  two : (g2 : Bool) (k : ℕ) → 2 ≤ size k → g2 ≡ ltb 2 (size k) → Based (record { at = k; base_level = 2 + bit_no g2; more = g2 })
  two true k h e = record { least = ltb-true 2 (size k) (sym e); whole = λ q. clash q refl }
  two false k h e = record { least = h; whole = λ q. omega (arith, ltb-false 2 (size k) (sym e)) }

  two_means : (g2 : Bool) (k : ℕ) → Based (record { at = k; base_level = 2 + bit_no g2; more = g2 }) → (2 ≤ size k) × (g2 ≡ ltb 2 (size k))
  two_means true k h = (omega (arith, h.least), sym (lt-ltb 2 (size k) h.least))
  two_means false k h = (h.least, sym (le-ltb 2 (size k) (omega (arith, h.whole refl))))

  -- bins as wanted make bases that fit
  pub based_made : (ks : List ℕ) (gs : List Bool) (seen g2 : Bool) → Said (is_big lv b) gs ks → All NotZero ks → Second ks gs seen g2
      → AllBased (dues ks gs seen g2)
  unfolding dues count_of first_greater1
  based_made [] gs seen g2 h a s = tt
  based_made (k ∷ ks) [] seen g2 h a s =
      (record { least = a.0; whole = λ q. clash q refl }, based_made ks [] seen g2 tt a.1 (λ e c. absurd (omega arith)))
  based_made (k ∷ ks) (false ∷ gs) seen g2 h a s = (
    record { least = a.0; whole = λ q. omega (arith, ltb-false 1 (size k) (sym h.0), a.0) },
    based_made ks gs seen g2 h.1 a.1 (λ e c. s e (omega arith)),
  )
  based_made (k ∷ ks) (true ∷ gs) false g2 h a s =
      (two g2 k (ltb-true 1 (size k) (sym h.0)) (s refl (omega arith)), based_made ks gs true g2 h.1 a.1 (λ e c. clash e refl))
  based_made (k ∷ ks) (true ∷ gs) true g2 h a s = (
    record { least = ltb-true 1 (size k) (sym h.0); whole = λ q. clash q refl },
    based_made ks gs true g2 h.1 a.1 (λ e c. clash e refl),
  )

  -- and bases that fit were made by them
  pub record BinsMean (ks : List ℕ) (gs : List Bool) (seen g2 : Bool) : Type 0 where
    pub said : Said (is_big lv b) gs ks
    pub sizes : All NotZero ks
    pub second : Second ks gs seen g2

  pub based_means : (ks : List ℕ) (gs : List Bool) (seen g2 : Bool) → length gs ≤ length ks → AllBased (dues ks gs seen g2) → BinsMean ks gs seen g2
  unfolding dues count_of first_greater1
  based_means [] [] seen g2 l a = record { said = tt; sizes = tt; second = λ e c. absurd (omega arith) }
  based_means [] (g ∷ gs) seen g2 l a = absurd (omega arith)
  based_means (k ∷ ks) [] seen g2 l a =
      let r = based_means ks [] seen g2 (omega arith) a.1 in
      record { said = tt; sizes = (a.0.least, r.sizes); second = λ e c. absurd (omega arith) }
  based_means (k ∷ ks) (false ∷ gs) seen g2 l a =
      let r = based_means ks gs seen g2 (omega arith) a.1 in
      let e : size k ≡ 1 = a.0.whole refl in
      record { said = (sym (le-ltb 1 (size k) (omega arith)), r.said); sizes = (omega arith, r.sizes); second = λ e c. r.second e (omega arith) }
  based_means (k ∷ ks) (true ∷ gs) false g2 l a =
      let r = based_means ks gs true g2 (omega arith) a.1 in
      let e = two_means g2 k a.0 in
      record { said = (sym (lt-ltb 1 (size k) e.0), r.said); sizes = (omega (arith, e.0), r.sizes); second = λ q c. e.1 }
  based_means (k ∷ ks) (true ∷ gs) true g2 l a =
      let r = based_means ks gs true g2 (omega arith) a.1 in
      let h = a.0.least in
      record { said = (sym (lt-ltb 1 (size k) h), r.said); sizes = (omega arith, r.sizes); second = λ e c. clash e refl }

  -- ---- signs
  -- the sign bins behind v, of n of the places, as a number: v and n bits
  pub signs_form : (n : ℕ) (ks : List ℕ) (v : ℕ) → n ≤ length ks → (x : ℕ) × (x < 2 ^ n) × (signs_no lv n ks b v ≡ v * 2 ^ n + x)
  unfolding signs_no
  signs_form zero ks v h = (0, pow_pos 0, omega arith)
  signs_form (suc n) [] v h = absurd (omega arith)
  signs_form (suc n) (k ∷ ks) v h =
      let s = signs_form n ks (v * 2 + bit_no (negative (lv k b))) (omega arith) in
      let p = pow-suc 2 n in
      let vp : v * 2 ^ suc n ≡ v * (2 ^ n * 2) = ap (λ z. v * z) p in
      (bit_no (negative (lv k b)) * 2 ^ n + s.0, rw p (bit_fits (negative (lv k b)) (2 ^ n) s.0 s.1), omega (arith, s.2, vp))

  -- the sign of the lowest is what the sum says
  abbrev pub Tail : List ℕ → ℕ → Type 0
  Tail [] sum = Unit {0}
  Tail (k ∷ ks) sum = negative (lv (last_of ks k) b) ≡ odd (sum + sum_over lv b (k ∷ ks))

  tail_next : (k : ℕ) (ks : List ℕ) (sum : ℕ) → Tail (k ∷ ks) sum → Tail ks (sum + size k)
  unfolding sum_over last_of
  tail_next k [] sum h = tt
  tail_next k (j ∷ ks) sum h =
      let e : sum + sum_over lv b (k ∷ j ∷ ks) ≡ sum + size k + sum_over lv b (j ∷ ks) = omega arith in h ∙ ap odd e

  tail_back : (k j : ℕ) (ks : List ℕ) (sum : ℕ) → Tail (j ∷ ks) (sum + size k) → Tail (k ∷ j ∷ ks) sum
  unfolding sum_over last_of
  tail_back k j ks sum h =
      let e : sum + size k + sum_over lv b (j ∷ ks) ≡ sum + sum_over lv b (k ∷ j ∷ ks) = omega arith in h ∙ ap odd e

  -- signs as wanted, all but a hidden one, fit
  pub signs_made : (ks : List ℕ) (n : ℕ) (hid : Bool) (signs sum v : ℕ) → All InRange ks → n + bit_no hid ≡ length ks
      → signs ≡ signs_no lv n ks b v → (hid ≡ true → Tail ks sum) → AllSigns ks n signs sum
  unfolding sum_over signs_no negative_now last_of
  signs_made [] n hid signs sum v a e s h = tt
  signs_made (k ∷ ks) zero false signs sum v a e s h = absurd (omega arith)
  signs_made (k ∷ []) zero true signs sum v a e s h =
      let q : sum + size k ≡ sum + sum_over lv b (k ∷ []) = omega arith in (record { ranged = a.0; sign = ap odd q ∙ sym (h refl) }, tt)
  signs_made (k ∷ j ∷ ks) zero true signs sum v a e s h = absurd (omega arith)
  signs_made (k ∷ ks) (suc n) hid signs sum v a e s h =
      let d = negative (lv k b) in
      let f = signs_form n ks (v * 2 + bit_no d) (omega arith) in
      let m : n ≡ suc n - 1 = omega arith in (
        record { ranged = a.0; sign = ap (λ z. odd (z / 2 ^ n)) (s ∙ f.2) ∙ top_bit n v f.0 d f.1 },
        subst (λ (m : ℕ). AllSigns ks m signs (sum + size k)) m
            (signs_made ks n hid signs (sum + size k) (v * 2 + bit_no d) a.1 (omega arith) s (λ q. tail_next k ks sum (h q))),
      )

  pub signs_ranged : (ks : List ℕ) (n signs sum : ℕ) → AllSigns ks n signs sum → All InRange ks
  signs_ranged [] n signs sum a = tt
  signs_ranged (k ∷ ks) n signs sum a = (a.0.ranged, signs_ranged ks (n - 1) signs (sum + size k) a.1)

  -- signs that fit are the signs wanted
  pub signs_mean : (n : ℕ) (ks : List ℕ) (v x signs sum : ℕ) → n ≤ length ks → x < 2 ^ n → signs ≡ v * 2 ^ n + x
      → AllSigns ks n signs sum → signs ≡ signs_no lv n ks b v
  unfolding signs_no negative_now
  signs_mean zero ks v x signs sum h l e a = omega arith
  signs_mean (suc n) [] v x signs sum h l e a = absurd (omega arith)
  signs_mean (suc n) (k ∷ ks) v x signs sum h l e a =
      let y = x / 2 ^ n in
      let z = x % 2 ^ n in
      let d = eqb y 1 in
      let p = pow-suc 2 n in
      let vp : v * 2 ^ suc n ≡ v * (2 ^ n * 2) = ap (λ z. v * z) p in
      let zl : z < 2 ^ n = mod-lt x (pow_pos n) in
      let yl : y < 2 = (div-lt_iff_lt-mul {k = 2 ^ n} {x = x} {y = 2} (pow_pos n)).1 (omega arith) in
      let yd : y ≡ bit_no d = sym (bit_is y yl) in
      let yz : bit_no d * 2 ^ n + z ≡ x = ap (λ (i : ℕ). i * 2 ^ n + z) (sym yd) ∙ div-add-mod' x (2 ^ n) in
      let form : signs ≡ (v * 2 + bit_no d) * 2 ^ n + z = omega arith in
      let is : d ≡ negative (lv k b) = sym (ap (λ i. odd (i / 2 ^ n)) form ∙ top_bit n v z d zl) ∙ a.0.sign in
      let m : suc n - 1 ≡ n = omega arith in
      signs_mean n ks (v * 2 + bit_no (negative (lv k b))) z signs (sum + size k) (omega arith) zl
      (form ∙ ap (λ i. (v * 2 + bit_no i) * 2 ^ n + z) is) (subst (λ (m : ℕ). AllSigns ks m signs (sum + size k)) m a.1)

  pub signs_hidden : (ks : List ℕ) (k n signs sum : ℕ) → n ≡ length ks → AllSigns (k ∷ ks) n signs sum → Tail (k ∷ ks) sum
  unfolding sum_over negative_now last_of
  signs_hidden [] k zero signs sum e a = let q : sum + size k ≡ sum + sum_over lv b (k ∷ []) = omega arith in sym a.0.sign ∙ ap odd q
  signs_hidden [] k (suc n) signs sum e a = absurd (omega arith)
  signs_hidden (j ∷ ks) k zero signs sum e a = absurd (omega arith)
  signs_hidden (j ∷ ks) k (suc n) signs sum e a =
      let m : suc n - 1 ≡ n = omega arith in
      tail_back k j ks sum (signs_hidden ks j n signs (sum + size k) (omega arith)
      (subst (λ (m : ℕ). AllSigns (j ∷ ks) m signs (sum + size k)) m a.1))

  -- ---- one level: its base and remainder, its sign
  pub record Reads (d : Due) (n signs sum v : ℕ) : Type 0 where
    pub ranged : in_range t (negative_now n signs (sum + (d.base_level + v))) (d.base_level + v) ≡ true
    pub level : signed (negative_now n signs (sum + (d.base_level + v))) (d.base_level + v) ≡ lv d.at b
    pub whole : d.base_level + v ≡ size d.at

  pub reads_made : (d : Due) (n signs sum v : ℕ) → Based d → SignIs d.at n signs sum → v ≡ size d.at - d.base_level → Reads d n signs sum v
  reads_made d n signs sum v a s e =
      let w : d.base_level + v ≡ size d.at = omega (arith, a.least) in
      record {
        ranged = rw (w, s.sign) s.ranged;
        level = rw (w, s.sign) (signed_of (lv d.at b));
        whole = w;
      }

  pub reads_level : (d : Due) (n signs sum v : ℕ) → 1 ≤ d.base_level
      → in_range t (negative_now n signs (sum + (d.base_level + v))) (d.base_level + v) ≡ true
      → signed (negative_now n signs (sum + (d.base_level + v))) (d.base_level + v) ≡ lv d.at b → Reads d n signs sum v
  reads_level d n signs sum v h r e =
      let m = d.base_level + v in
      record { ranged = r; level = e; whole = sym (signed_is (negative_now n signs (sum + m)) m (omega arith)).0 ∙ ap nat_abs e }

  pub reads_mean : (d : Due) (n signs sum v : ℕ) → 1 ≤ d.base_level → (d.more ≡ false → v ≡ 0) → Reads d n signs sum v
      → Based d × SignIs d.at n signs sum
  reads_mean d n signs sum v h o r =
      let m = d.base_level + v in
      let neg = negative_now n signs (sum + m) in
      let s : negative (lv d.at b) ≡ neg = ap negative (sym r.level) ∙ (signed_is neg m (omega arith)).1 in (
        record { least = omega (arith, r.whole); whole = λ q. omega (arith, r.whole, o q) },
        record { ranged = rw (s, ← r.whole) r.ranged; sign = rw (s, ← r.whole) },
      )
