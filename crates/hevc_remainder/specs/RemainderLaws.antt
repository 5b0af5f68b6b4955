-- Remainders as their code reads them: a prefix of ones, a suffix of bits, a lemma for each way out. Assumes nothing.
use Prim.Native.Nat.{ℕ, zero, suc, ◌+◌, ◌-◌, ◌*◌, ◌%◌, ◌^◌, ◌≤◌, ◌<◌, min}
use Rattle.std.specs.Prelude.{◌≡◌, refl, Bool, ◌||◌, List, [], leb}
use Rattle.std.proofs.Common.{sym, ◌∙◌, pow-suc, mul-le-mul_right, pow_mono, shl_exact, lt-ltb, le-ltb, le-leb}
use Rattle.std.proofs.Math.Path.{ap, subst}
use Rattle.std.proofs.Math.Bool.{true, false}
use native.Mathlib.Omega.{arith}
use Rattle.std.proofs.Math.Dec.{ltb}
use Rattle.std.proofs.lemmas.Bool.{lt-leb}
use Rattle.bins.specs.declared.state.Interval.{Interval}
use Rattle.bins.specs.declared.state.Refusal.{Refusal}
use Rattle.bins.specs.Engine.{bit_no}
use Rattle.bins.specs.Syn.{done, stop, ◌>>=◌, Took, took, refused, Source, Out, onward, run}
use Rattle.bins.specs.Readers.{bits_s, ones_s}
use Rattle.bins.specs.Sources.{Cursor, cursor, by_code, bits_from, step_of_bits, Readable, stopped, refused_at, Step, got}
use Rattle.bins.specs.Laws.{RefusedBy, bind_ok, bind_no, map_out}
use Rattle.bins.specs.CodeLaws.{bits_from_lem}
use Rattle.bins.specs.StepLaws.{bit_small}
use Rattle.hevc_residual.specs.declared.params.Params.{Params}
use Rattle.hevc_residual.specs.Wanted.{Wanted, S}
use Rattle.hevc_residual.specs.Remainder.{log2_transform_range, eg_base, egk_s, limited_s, remainder_s}
use Rattle.trees.specs.Agree.{run_stop}
use Rattle.trees.specs.Pick.{pick, picked, passed}
use Rattle.hevc_elements.specs.Agree.{from, Says, says_ok, says_no, readable_on}
use Rattle.hevc_elements.specs.ShapeLaws.{run_done}
use Rattle.hevc_magnitudes.specs.MagnitudeLaws.{shl_32}
use Rattle.hevc_magnitudes.specs.Most.{most}
use Rattle.hevc_magnitudes.specs.Escape.{escape_length, escape_s}
use Rattle.hevc_remainder.specs.RemainderAgree.{SaysCapped}

-- ---- numbers: shifts that lose nothing
pub shl_64 : (a j k : ℕ) → a < 2 ^ j → j + k ≤ 64 → (a * 2 ^ k) % 18446744073709551616 ≡ a * 2 ^ k
shl_64 a j k h s = shl_exact j k 64 h s

-- ---- answers that are bounded, whatever the source
abbrev Gives : {R A : Type 0} → (A → Type 0) → Out R A → Type 0
Gives P (Out.ok a r) = P a
Gives P (Out.no n r) = Unit {0}

onward_gives : {R A : Type 0} (P : A → Type 0) (t : Took R) (r : R) (k : Bool → R → Out R A) → ((b : Bool) (r' : R) → Gives P (k b r')) → Gives P (onward t r k)
unfolding onward
onward_gives P (took b r') r k h = h b r'
onward_gives P (refused n) r k h = tt

bits_next : (m n v c : ℕ) → c < 2 → (v + 1) * 2 ^ suc n ≤ m → (v * 2 + c + 1) * 2 ^ n ≤ m
bits_next m n v c k h =
    let a : (v * 2 + c + 1) * 2 ^ n ≤ ((v + 1) * 2) * 2 ^ n = mul-le-mul_right (2 ^ n) (omega arith) in
    let d : (v + 1) * (2 ^ n * 2) ≡ ((v + 1) * 2) * 2 ^ n = omega arith in
    let e : (v + 1) * 2 ^ suc n ≡ (v + 1) * (2 ^ n * 2) = ap (λ z. (v + 1) * z) (pow-suc 2 n) in
    omega arith

module _ {R : Type 0} (src : Source R) (m : ℕ) where
  ones_next : (n g : ℕ) (w : ℕ → Wanted → Bool) (b : Bool) (r : R) → g ≤ m → Gives (λ a. a ≤ m) (run src (ones_s n (suc g) w) r)
      → Gives (λ a. a ≤ m) (run {B = Wanted} src (elim b [ true ↦ ones_s n (suc g) w | false ↦ done g ]) r)
  unfolding run
  ones_next n g w true r h k = k
  ones_next n g w false r h k = h

  ones_give : (n g : ℕ) (w : ℕ → Wanted → Bool) (r : R) → n + g ≤ m → Gives (λ a. a ≤ m) (run src (ones_s n g w) r)
  unfolding run ones_s
  ones_give zero g w r h = omega arith
  ones_give (suc n) g w r h =
      onward_gives (λ a. a ≤ m) (src.on_bypass r) r (λ b r'. run {B = Wanted} src (elim b [ true ↦ ones_s n (suc g) w | false ↦ done g ]) r')
      (λ b r'. ones_next n g w b r' (omega arith) (ones_give n (suc g) w r' (omega arith)))

  bits_give : (n v : ℕ) (w : Wanted → ℕ) (r : R) → (v + 1) * 2 ^ n ≤ m → Gives (λ a. a < m) (run src (bits_s n v w) r)
  unfolding run bits_s
  bits_give zero v w r h = omega arith
  bits_give (suc n) v w r h =
      onward_gives (λ a. a < m) (src.on_bypass r) r (λ b r'. run src (bits_s n (v * 2 + bit_no b) w) r')
      (λ b r'. bits_give n (v * 2 + bit_no b) w r' (bits_next m n v (bit_no b) (bit_small b) h))

gives_ok : {R A : Type 0} (P : A → Type 0) (o : Out R A) (a : A) (r : R) → Gives P o → o ≡ Out.ok a r → P a
gives_ok P o a r h q = subst (Gives P) q h

-- ---- a choice of two trees
-- what is refused is so by the tree that came to be run
refused_as : {A : Type 0} (n : Refusal) (o p : Out Cursor A) → p ≡ o → RefusedBy n o → RefusedBy n p
refused_as n o p q r = (r.0, q ∙ r.1)

-- ---- a prefix of ones, as one call answers it: f is what it answered
module _ (s : Bool) (l : List ℕ) (m : ℕ) (x : Interval) (f : Step)
    (F : (w : ℕ → Wanted → Bool) (cs : List ℕ) → Says f cs (from s l (ones_s m 0 w) x cs)) where
  ones_refused : (w : ℕ → Wanted → Bool) (rest : ℕ → S ℕ) (cs : List ℕ) (n : Refusal) → f ≡ stopped n
      → RefusedBy n (from s l (ones_s m 0 w >>= rest) x cs)
  ones_refused w rest cs n q =
      (bind_no (by_code s l) (ones_s m 0 w) rest (cursor x cs) n (says_no f n cs _ (F w cs) q))

  module _ (n : ℕ) (y : Interval) (q : f ≡ got n y) where
    ones_behind : (w : ℕ → Wanted → Bool) (rest : ℕ → S ℕ) (cs : List ℕ) → from s l (ones_s m 0 w >>= rest) x cs ≡ from s l (rest n) y cs
    ones_behind w rest cs =
        bind_ok (by_code s l) (ones_s m 0 w) rest (cursor x cs) n (cursor y cs) (says_ok f n y cs _ (F w cs) q)

    pub ones_readable : Readable s l x → Readable s l y
    ones_readable h =
        let w : ℕ → Wanted → Bool = λ g t. false in
        readable_on s l (ones_s m 0 w) x [] n y [] (says_ok f n y [] _ (F w []) q) h

    pub ones_upto : n ≤ m
    ones_upto =
        let w : ℕ → Wanted → Bool = λ g t. false in
        gives_ok (λ a. a ≤ m) _ n (cursor y []) (ones_give (by_code s l) m m 0 w (cursor x []) (omega arith)) (says_ok f n y [] _ (F w []) q)

-- ---- a suffix of bits: g is what the call answered
module _ (s : Bool) (l : List ℕ) (n : ℕ) (y : Interval) (h : Readable s l y) (g : Step) (G : g ≡ step_of_bits (bits_from s l n y)) where
  bits_says : (w : Wanted → ℕ) (cs : List ℕ) → Says g cs (from s l (bits_s n 0 w) y cs)
  bits_says w cs =
      subst (λ (z : Step). Says z cs (from s l (bits_s n 0 w) y cs)) (sym G)
      (subst (Says (step_of_bits (bits_from s l n y)) cs) (sym (bits_from_lem s l n w y cs h)) (go (bits_from s l n y)))
    where
      go : (o : Out Interval ℕ) → Says (step_of_bits o) cs (map_out (λ z. cursor z cs) o)
      go (Out.ok v z) = refl
      go (Out.no k z) = (cs, refl)

  pub suffix_below : (u : ℕ) (z : Interval) → g ≡ got u z → u < 2 ^ n
  suffix_below u z q =
      let w : Wanted → ℕ = λ t. 0 in
      gives_ok (λ a. a < 2 ^ n) _ u (cursor z []) (bits_give (by_code s l) (2 ^ n) n 0 w (cursor y []) (omega arith)) (says_ok g u z [] _ (bits_says w []) q)

  -- and the number that it is added to
  module _ (w : Wanted → ℕ) (base : ℕ) (cs : List ℕ) where
    suffix_refused : (k : Refusal) → g ≡ stopped k → RefusedBy k (from s l (bits_s n 0 w >>= λ u. done (base + u)) y cs)
    suffix_refused k q =
        bind_no (by_code s l) (bits_s n 0 w) (λ u. done (base + u)) (cursor y cs) k (says_no g k cs _ (bits_says w cs) q)

    suffix_got : (u : ℕ) (z : Interval) → g ≡ got u z
        → from s l (bits_s n 0 w >>= λ u. done (base + u)) y cs ≡ Out.ok (base + u) (cursor z cs)
    suffix_got u z q =
        bind_ok (by_code s l) (bits_s n 0 w) (λ u. done (base + u)) (cursor y cs) u (cursor z cs) (says_ok g u z cs _ (bits_says w cs) q)
        ∙ run_done s l (base + u) z cs

-- ---- an escape: ones, and where no test refuses them a suffix whose length they give
module _ (m : ℕ) (w : ℕ → Wanted → Bool) (test : ℕ → Bool) (len base : ℕ → ℕ) (w' : ℕ → Wanted → ℕ) where
  abbrev suffixed : ℕ → S ℕ
  suffixed n = bits_s (len n) 0 (w' n) >>= λ u. done (base n + u)

  abbrev escaped : S ℕ
  escaped = ones_s m 0 w >>= λ n. pick (test n) (stop 8) (suffixed n)

  module _ (s : Bool) (l : List ℕ) (x : Interval) (f : Step)
      (F : (w : ℕ → Wanted → Bool) (cs : List ℕ) → Says f cs (from s l (ones_s m 0 w) x cs)) (cs : List ℕ) where
    escaped_refused : (n : Refusal) → f ≡ stopped n → RefusedBy n (from s l escaped x cs)
    escaped_refused n q = ones_refused s l m x f F w (λ n. pick (test n) (stop 8) (suffixed n)) cs n q

    module _ (n : ℕ) (y : Interval) (q : f ≡ got n y) where
      escaped_stops : test n ≡ true → RefusedBy (refused_at 8 y) (from s l escaped x cs)
      escaped_stops t =
          refused_as (refused_at 8 y) _ _
          (ones_behind s l m x f F n y q w (λ n. pick (test n) (stop 8) (suffixed n)) cs ∙ ap (λ u. from s l u y cs) (picked (test n) (stop 8) (suffixed n) t))
          (cs, run_stop Wanted s l 8 y cs)

      module _ (t : test n ≡ false) (h : Readable s l y) (g : Step) (G : g ≡ step_of_bits (bits_from s l (len n) y)) where
        escaped_on : from s l escaped x cs ≡ from s l (suffixed n) y cs
        escaped_on =
            ones_behind s l m x f F n y q w (λ n. pick (test n) (stop 8) (suffixed n)) cs ∙ ap (λ u. from s l u y cs) (passed (test n) (stop 8) (suffixed n) t)

        escaped_short : (k : Refusal) → g ≡ stopped k → RefusedBy k (from s l escaped x cs)
        escaped_short k e =
            (refused_as k _ _ escaped_on (suffix_refused s l (len n) y h g G (w' n) (base n) cs k e))

        escaped_got : (u : ℕ) (z : Interval) → g ≡ got u z → from s l escaped x cs ≡ Out.ok (base n + u) (cursor z cs)
        escaped_got u z e = escaped_on ∙ suffix_got s l (len n) y h g G (w' n) (base n) cs u z e

-- ---- Exp-Golomb of order k
or_left : (a b : Bool) → a ≡ true → (a || b) ≡ true
or_left true b q = refl
or_left false b q = let z : ◌≡◌ {A = ℕ} 0 1 = cc in absurd (omega arith)

or_right : (a b : Bool) → b ≡ true → (a || b) ≡ true
or_right true b q = refl
or_right false b q = q

or_none : (a b : Bool) → a ≡ false → b ≡ false → (a || b) ≡ false
or_none true b p q = p
or_none false b p q = q

module _ (s : Bool) (l : List ℕ) (k : ℕ) (x : Interval) (f : Step)
    (F : (w : ℕ → Wanted → Bool) (cs : List ℕ) → Says f cs (from s l (ones_s 31 0 w) x cs)) (v : Wanted → ℕ) (cs : List ℕ) where
  egk_test : ℕ → Bool
  egk_test n = leb 31 n || leb 32 (n + k)

  egk_ones : ℕ → Wanted → Bool
  egk_ones g t = leb (eg_base k (suc g)) (v t)

  egk_rest : ℕ → Wanted → ℕ
  egk_rest n t = v t - eg_base k n

  pub egk_refused : (n : Refusal) → f ≡ stopped n → RefusedBy n (from s l (egk_s k v) x cs)
  unfolding egk_s egk_test egk_ones egk_rest
  egk_refused n q = escaped_refused 31 egk_ones egk_test (λ n. n + k) (eg_base k) egk_rest s l x f F cs n q

  module _ (n : ℕ) (y : Interval) (q : f ≡ got n y) where
    pub egk_stops : (31 ≤ n) → RefusedBy (refused_at 8 y) (from s l (egk_s k v) x cs)
    unfolding egk_s egk_test egk_ones egk_rest
    egk_stops h =
        escaped_stops 31 egk_ones egk_test (λ n. n + k) (eg_base k) egk_rest s l x f F cs n y q (or_left (leb 31 n) (leb 32 (n + k)) (le-leb 31 n h))

    pub egk_wide : 32 ≤ n + k → RefusedBy (refused_at 8 y) (from s l (egk_s k v) x cs)
    unfolding egk_s egk_test egk_ones egk_rest
    egk_wide h =
        escaped_stops 31 egk_ones egk_test (λ n. n + k) (eg_base k) egk_rest s l x f F cs n y q (or_right (leb 31 n) (leb 32 (n + k)) (le-leb 32 (n + k) h))

    module _ (few : n < 31) (short : n + k < 32) (h : Readable s l x) (g : Step) (G : g ≡ step_of_bits (bits_from s l (n + k) y)) where
      egk_fine : egk_test n ≡ false
      unfolding egk_test
      egk_fine = or_none (leb 31 n) (leb 32 (n + k)) (lt-leb 31 n few) (lt-leb 32 (n + k) short)

      pub egk_short : (m : Refusal) → g ≡ stopped m → RefusedBy m (from s l (egk_s k v) x cs)
      unfolding egk_s egk_test egk_ones egk_rest
      egk_short m e =
          escaped_short 31 egk_ones egk_test (λ n. n + k) (eg_base k) egk_rest s l x f F cs n y q egk_fine (ones_readable s l 31 x f F n y q h) g G m e

      pub egk_got : (u : ℕ) (z : Interval) → g ≡ got u z → (r : ℕ) → r ≡ min (eg_base k n + u) most
          → SaysCapped (got r z) cs (from s l (egk_s k v) x cs)
      unfolding egk_s egk_test egk_ones egk_rest
      egk_got u z e r p =
          (eg_base k n + u, p, escaped_got 31 egk_ones egk_test (λ n. n + k) (eg_base k) egk_rest s l x f F cs n y q egk_fine (ones_readable s l 31 x f F n y q h) g G u z e)

-- ---- its limited form: len is the length that the code worked out
module _ (s : Bool) (l : List ℕ) (T k : ℕ) (x : Interval) (f : Step)
    (F : (w : ℕ → Wanted → Bool) (cs : List ℕ) → Says f cs (from s l (ones_s (28 - T) 0 w) x cs)) where
  pub limited_few : 15 ≤ T → (n : ℕ) (y : Interval) → f ≡ got n y → n ≤ 13
  limited_few h n y q = omega (arith, ones_upto s l (28 - T) x f F n y q)

  module _ (v : Wanted → ℕ) (cs : List ℕ) where
    limited_test : ℕ → Bool
    limited_test n = leb 32 n || (leb 32 k || ltb 32 (escape_length T k n))

    limited_ones : ℕ → Wanted → Bool
    limited_ones g t = leb (eg_base k (suc g)) (v t)

    limited_rest : ℕ → Wanted → ℕ
    limited_rest n t = v t - eg_base k n

    pub limited_refused : (n : Refusal) → f ≡ stopped n → RefusedBy n (from s l (limited_s T k v) x cs)
    unfolding limited_s limited_test limited_ones limited_rest
    limited_refused n q =
        escaped_refused (28 - T) limited_ones limited_test (escape_length T k) (eg_base k) limited_rest s l x f F cs n q

    module _ (n : ℕ) (y : Interval) (q : f ≡ got n y) (len : ℕ) (L : len ≡ escape_length T k n) where
      pub limited_stops : 32 < len → RefusedBy (refused_at 8 y) (from s l (limited_s T k v) x cs)
      unfolding limited_s limited_test limited_ones limited_rest
      limited_stops h =
          escaped_stops (28 - T) limited_ones limited_test (escape_length T k) (eg_base k) limited_rest s l x f F cs n y q
          (or_right (leb 32 n) (leb 32 k || ltb 32 (escape_length T k n))
          (or_right (leb 32 k) (ltb 32 (escape_length T k n)) (lt-ltb 32 (escape_length T k n) (rw L at h))))

      module _ (hT : 15 ≤ T) (hk : k ≤ 22) (short : len ≤ 32) (h : Readable s l x) (g : Step) (G : g ≡ step_of_bits (bits_from s l len y)) where
        limited_fine : limited_test n ≡ false
        unfolding limited_test
        limited_fine =
            or_none (leb 32 n) (leb 32 k || ltb 32 (escape_length T k n)) (lt-leb 32 n (omega (arith, limited_few hT n y q)))
            (or_none (leb 32 k) (ltb 32 (escape_length T k n)) (lt-leb 32 k (omega arith)) (le-ltb 32 (escape_length T k n) (rw L at short)))

        limited_bits : g ≡ step_of_bits (bits_from s l (escape_length T k n) y)
        limited_bits = G ∙ ap (λ c. step_of_bits (bits_from s l c y)) L

        pub limited_short : (m : Refusal) → g ≡ stopped m → RefusedBy m (from s l (limited_s T k v) x cs)
        unfolding limited_s limited_test limited_ones limited_rest
        limited_short m e =
            escaped_short (28 - T) limited_ones limited_test (escape_length T k) (eg_base k) limited_rest s l x f F cs n y q limited_fine
            (ones_readable s l (28 - T) x f F n y q h) g limited_bits m e

        pub limited_got : (u : ℕ) (z : Interval) → g ≡ got u z → (r : ℕ) → r ≡ min (eg_base k n + u) most
            → SaysCapped (got r z) cs (from s l (limited_s T k v) x cs)
        unfolding limited_s limited_test limited_ones limited_rest
        limited_got u z e r p = (
          eg_base k n + u,
          p,
          escaped_got (28 - T) limited_ones limited_test (escape_length T k) (eg_base k) limited_rest s l x f F cs n y q limited_fine
              (ones_readable s l (28 - T) x f F n y q h) g limited_bits u z e,
        )

-- ---- what follows four ones: r is what the call answered
module _ (s : Bool) (l : List ℕ) (p : Params) (k : ℕ) (x : Interval) (v : Wanted → ℕ) (cs : List ℕ) (r : Step) where
  pub escape_limited : (T : ℕ) → p.extended ≡ true → T ≡ log2_transform_range p → SaysCapped r cs (from s l (limited_s T k v) x cs)
      → SaysCapped r cs (from s l (escape_s p k v) x cs)
  escape_limited T q e h =
      subst (SaysCapped r cs) (sym (ap (λ u. from s l u x cs) (picked p.extended (limited_s (log2_transform_range p) k v) (egk_s k v) q)))
      (subst (λ (z : ℕ). SaysCapped r cs (from s l (limited_s z k v) x cs)) e h)

  pub escape_egk : p.extended ≡ false → SaysCapped r cs (from s l (egk_s k v) x cs) → SaysCapped r cs (from s l (escape_s p k v) x cs)
  escape_egk q h =
      subst (SaysCapped r cs) (sym (ap (λ u. from s l u x cs) (passed p.extended (limited_s (log2_transform_range p) k v) (egk_s k v) q))) h

-- ---- the whole remainder
pub capped_ok : (r : Step) (v : ℕ) (y : Interval) (cs : List ℕ) (o : Out Cursor ℕ) → SaysCapped r cs o → r ≡ got v y
    → (u : ℕ) × (v ≡ min u most) × (o ≡ Out.ok u (cursor y cs))
capped_ok r v y cs o h q = subst (λ (z : Step). SaysCapped z cs o) q h

pub capped_no : (r : Step) (n : Refusal) (cs : List ℕ) (o : Out Cursor ℕ) → SaysCapped r cs o → r ≡ stopped n → RefusedBy n o
capped_no r n cs o h q = subst (λ (z : Step). SaysCapped z cs o) q h

module _ (rice : ℕ) (hr : rice ≤ 21) where
  pub four_shl : (4 * 2 ^ rice) % 18446744073709551616 ≡ 4 * 2 ^ rice
  four_shl = shl_64 4 3 rice (omega arith) (omega arith)

  pub four_small : 4 * 2 ^ rice ≤ 8388608
  four_small = let a : 2 ^ rice ≤ 2 ^ 21 = pow_mono hr in omega arith

  pub under_shl : (q : ℕ) → q < 4 → (q * 2 ^ rice) % 4294967296 ≡ q * 2 ^ rice
  under_shl q h = shl_32 q 2 rice (omega arith) (omega arith)

  pub under_small : (q u : ℕ) → q < 4 → u < 2 ^ rice → q * 2 ^ rice + u < 8388608
  under_small q u h k =
      let a : (q + 1) * 2 ^ rice ≤ 4 * 2 ^ rice = mul-le-mul_right (2 ^ rice) (omega arith) in
      let b : (q + 1) * 2 ^ rice ≡ q * 2 ^ rice + 2 ^ rice = omega arith in
      omega (arith, four_small)

module _ (s : Bool) (l : List ℕ) (p : Params) (rice : ℕ) (x : Interval) (f : Step)
    (F : (w : ℕ → Wanted → Bool) (cs : List ℕ) → Says f cs (from s l (ones_s 4 0 w) x cs)) (v : Wanted → ℕ) (cs : List ℕ) where
  remainder_ones : ℕ → Wanted → Bool
  remainder_ones g t = leb (suc g * 2 ^ rice) (v t)

  remainder_low : ℕ → Wanted → ℕ
  remainder_low q t = v t - q * 2 ^ rice

  remainder_high : Wanted → ℕ
  remainder_high t = v t - 4 * 2 ^ rice

  remainder_under : ℕ → S ℕ
  remainder_under q = bits_s rice 0 (remainder_low q) >>= λ u. done (q * 2 ^ rice + u)

  remainder_over : S ℕ
  remainder_over = escape_s p (rice + 1) remainder_high >>= λ u. done (4 * 2 ^ rice + u)

  pub remainder_refused : (n : Refusal) → f ≡ stopped n → RefusedBy n (from s l (remainder_s p rice v) x cs)
  unfolding remainder_s remainder_ones remainder_low remainder_high remainder_under remainder_over
  remainder_refused n q = ones_refused s l 4 x f F remainder_ones (λ q. pick (ltb q 4) (remainder_under q) remainder_over) cs n q

  module _ (n : ℕ) (y : Interval) (q : f ≡ got n y) where
    remainder_few : n < 4 → from s l (remainder_s p rice v) x cs ≡ from s l (remainder_under n) y cs
    unfolding remainder_s remainder_ones remainder_low remainder_high remainder_under remainder_over
    remainder_few h =
        ones_behind s l 4 x f F n y q remainder_ones (λ q. pick (ltb q 4) (remainder_under q) remainder_over) cs
        ∙ ap (λ u. from s l u y cs) (picked (ltb n 4) (remainder_under n) remainder_over (lt-ltb n 4 h))

    remainder_all : 4 ≤ n → from s l (remainder_s p rice v) x cs ≡ from s l remainder_over y cs
    unfolding remainder_s remainder_ones remainder_low remainder_high remainder_under remainder_over
    remainder_all h =
        ones_behind s l 4 x f F n y q remainder_ones (λ q. pick (ltb q 4) (remainder_under q) remainder_over) cs
        ∙ ap (λ u. from s l u y cs) (passed (ltb n 4) (remainder_under n) remainder_over (le-ltb n 4 h))

    -- under four ones
    module _ (few : n < 4) (h : Readable s l x) (g : Step) (G : g ≡ step_of_bits (bits_from s l rice y)) where
      pub remainder_short : (m : Refusal) → g ≡ stopped m → RefusedBy m (from s l (remainder_s p rice v) x cs)
      unfolding remainder_under
      remainder_short m e =
          (refused_as m _ _ (remainder_few few)
          (suffix_refused s l rice y (ones_readable s l 4 x f F n y q h) g G (remainder_low n) (n * 2 ^ rice) cs m e))

      pub remainder_low_fits : rice ≤ 21 → (u : ℕ) (z : Interval) → g ≡ got u z → (n * 2 ^ rice) % 4294967296 + u < 8388608
      remainder_low_fits hr u z e =
          rw (under_shl rice hr n few) (under_small rice hr n u few (suffix_below s l rice y (ones_readable s l 4 x f F n y q h) g G u z e))

      pub remainder_low_got : rice ≤ 21 → (u : ℕ) (z : Interval) → g ≡ got u z
          → SaysCapped (got ((n * 2 ^ rice) % 4294967296 + u) z) cs (from s l (remainder_s p rice v) x cs)
      unfolding remainder_under
      remainder_low_got hr u z e =
          let k = under_small rice hr n u few (suffix_below s l rice y (ones_readable s l 4 x f F n y q h) g G u z e) in (
            n * 2 ^ rice + u,
            rw (under_shl rice hr n few) (omega arith),
            remainder_few few ∙ suffix_got s l rice y (ones_readable s l 4 x f F n y q h) g G (remainder_low n) (n * 2 ^ rice) cs u z e,
          )

    -- behind four: g is what the escape's call answered
    module _ (all : 4 ≤ n) (g : Step)
        (G : (v : Wanted → ℕ) (cs : List ℕ) → SaysCapped g cs (from s l (escape_s p (rice + 1) v) y cs)) where
      pub remainder_cut : (m : Refusal) → g ≡ stopped m → RefusedBy m (from s l (remainder_s p rice v) x cs)
      unfolding remainder_over
      remainder_cut m e =
          (refused_as m _ _ (remainder_all all)
          (bind_no (by_code s l) (escape_s p (rice + 1) remainder_high) (λ u. done (4 * 2 ^ rice + u)) (cursor y cs) m
          (capped_no g m cs _ (G remainder_high cs) e)))

      pub remainder_got : rice ≤ 21 → (u : ℕ) (z : Interval) → g ≡ got u z → (r : ℕ)
          → r ≡ min ((4 * 2 ^ rice) % 18446744073709551616 + u) most
          → SaysCapped (got r z) cs (from s l (remainder_s p rice v) x cs)
      unfolding remainder_over
      remainder_got hr u z e r m =
          let c = capped_ok g u z cs _ (G remainder_high cs) e in
          let k : r ≡ min (4 * 2 ^ rice + u) most = rw (four_shl rice hr) at m in (
            4 * 2 ^ rice + c.0,
            omega (arith, c.1),
            remainder_all all
                ∙ bind_ok (by_code s l) (escape_s p (rice + 1) remainder_high) (λ u. done (4 * 2 ^ rice + u)) (cursor y cs) c.0 (cursor z cs) c.2
                ∙ run_done s l (4 * 2 ^ rice + c.0) z cs,
          )
