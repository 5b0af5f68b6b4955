-- The shapes as their code puts them: what is left to write in a loop. Assumes nothing.
use Prim.Native.Nat.{ℕ, suc, ◌+◌, ◌-◌, ◌*◌, ◌/◌, ◌%◌, ◌^◌, ◌≤◌, ◌<◌}
use Rattle.std.specs.Prelude.{◌≡◌, refl, Bool, ◌&&◌, eqb, length}
use Rattle.std.proofs.Math.Path.{sym, ap, subst}
use Rattle.std.proofs.Common.{◌∙◌, shr-shr, eqb-true}
use Rattle.std.proofs.Math.Bool.{true, false}
use native.Mathlib.Omega.{arith}
use Rattle.std.proofs.Math.Numerals.{add-one}
use Rattle.std.proofs.Math.Nat.{div-eq_of_lt}
use Rattle.std.proofs.lemmas.Bool.{eqb-false}
use Rattle.bins.specs.Engine.{bit_no}
use Rattle.bins.specs.Tags.{tag, bypass_no}
use Rattle.bins.specs.Syn.{Syn, done, bin, bypass, ◌>>=◌}
use Rattle.bins.specs.Readers.{odd, flag_if, bits_s}
use Rattle.trees.specs.Counters.{Counter}
use Rattle.pen.specs.Sheet.{Sheet, entered, Wrote, Counts}
use Rattle.pen.specs.SheetLaws.{entered_long, wrote_none, wrote_on, wrote_bin, wrote_bypass, wrote_then}

-- ---- numbers of bits
halves : (n : ℕ) → n / 2 * 2 + bit_no (odd n) ≡ n
halves n = go (eqb (n % 2) 1) refl
  where
    go : (b : Bool) → odd n ≡ b → n / 2 * 2 + bit_no (odd n) ≡ n
    go true q = let r : n % 2 ≡ 1 = eqb-true (n % 2) 1 q in rw q (omega arith)
    go false q = let r : n % 2 ≡ 1 → ⊥ = eqb-false (n % 2) 1 q in rw q (omega arith)

module _ (n v : ℕ) (s : Sheet) where
  -- in the loop, with k bits to come
  pub record Bits (k : ℕ) (s' : Sheet) : Type 0 where
    pub few : k ≤ n
    pub long : length s'.room ≡ length s.room
    pub left : (want : ℕ → ℕ) (w : ℕ) → want w ≡ v → Wrote (bits_s n 0 want) (bits_s k (v / 2 ^ k) want) w s s'

  pub bits_begin : v < 2 ^ n → Bits n s
  bits_begin h =
      let z : v / 2 ^ n ≡ 0 = div-eq_of_lt h in
      record { few = omega arith; long = refl; left = λ want w q. subst (λ u. Wrote (bits_s n 0 want) (bits_s n u want) w s s) (sym z) (wrote_none w (bits_s n 0 want) s) }

  bits_next : (k : ℕ) → v / 2 ^ suc k * 2 + bit_no (odd (v / 2 ^ k)) ≡ v / 2 ^ k
  bits_next k =
      let h : v / 2 ^ k / 2 ^ 1 ≡ v / 2 ^ (k + 1) = shr-shr v k 1 in
      let e : v / 2 ^ (k + 1) ≡ v / 2 ^ suc k = ap (λ i. v / 2 ^ i) (add-one k) in
      ap (λ i. i * 2 + bit_no (odd (v / 2 ^ k))) (sym (h ∙ e)) ∙ halves (v / 2 ^ k)

  module _ (k : ℕ) (s' : Sheet) (h : Bits k s') where
    pub bits_more : (j : ℕ) (b : Bool) → k ≡ j + 1 → b ≡ odd (v / 2 ^ j) → Bits j (entered (tag bypass_no b) s')
    unfolding bits_s
    bits_more j b e eb =
        record {
          few = omega (arith, h.few);
          long = entered_long (tag bypass_no b) s' ∙ h.long;
          left = λ want w q.
              let ej : k ≡ suc j = e ∙ add-one j in
              let f : Wrote (bits_s n 0 want) (bits_s (suc j) (v / 2 ^ suc j) want) w s s' =
              subst (λ i. Wrote (bits_s n 0 want) (bits_s i (v / 2 ^ i) want) w s s') ej (h.left want w q) in
              let g = wrote_bypass w (λ t. odd (want t / 2 ^ j)) (λ c. bits_s j (v / 2 ^ suc j * 2 + bit_no c) want) s' in
              let ew : odd (want w / 2 ^ j) ≡ b = ap (λ i. odd (i / 2 ^ j)) q ∙ sym eb in
              let ev : v / 2 ^ suc j * 2 + bit_no b ≡ v / 2 ^ j = ap (λ i. v / 2 ^ suc j * 2 + bit_no i) eb ∙ bits_next j in
              let g' : Wrote (bits_s (suc j) (v / 2 ^ suc j) want) (bits_s j (v / 2 ^ j) want) w s' (entered (tag bypass_no b) s') =
              subst (λ i. Wrote (bits_s (suc j) (v / 2 ^ suc j) want) (bits_s j i want) w s' (entered (tag bypass_no b) s')) ev
              (subst (λ c. Wrote (bits_s (suc j) (v / 2 ^ suc j) want) (bits_s j (v / 2 ^ suc j * 2 + bit_no c) want) w s' (entered (tag bypass_no c) s')) ew g) in
              wrote_on w (bits_s n 0 want) (bits_s (suc j) (v / 2 ^ suc j) want) (bits_s j (v / 2 ^ j) want) s s' (entered (tag bypass_no b) s') f g';
        }

    pub bits_end : k ≡ 0 → (want : ℕ → ℕ) (w : ℕ) → want w ≡ v → Wrote (bits_s n 0 want) (done v) w s s'
    unfolding bits_s
    bits_end e want w q =
        let z : v / 2 ^ 0 ≡ v = omega arith in
        subst (λ i. Wrote (bits_s n 0 want) (done i) w s s') z
        (subst (λ i. Wrote (bits_s n 0 want) (bits_s i (v / 2 ^ i) want) w s s') e (h.left want w q))

-- ---- a flag
module _ {B : Type 0} (coded : Bool) (number : ℕ) (s : Sheet) (flag : Bool) (want : B → Bool) (w : B) (q : coded ≡ true → want w ≡ flag) where
  pub flag_put : coded ≡ true → Wrote (flag_if coded number want) (done (coded && flag)) w s (entered (tag number flag) s)
  flag_put e =
      rw e (subst (λ b. Wrote (bin number want done) (done b) w s (entered (tag number b) s)) (q e) (wrote_bin w number want done s))

  pub flag_left_lem : coded ≡ false → Wrote (flag_if coded number want) (done (coded && flag)) w s s
  flag_left_lem e = rw e (wrote_none w (done false) s)

-- ---- ones counted up to a greatest count; tagOf g is the number of the context of bin g
pub record Putter {B : Type 0} (one : ℕ → (B → Bool) → Syn B Bool) (number_of : ℕ → ℕ) : Type 0 where
  pub put : (g : ℕ) (v : B → Bool) (w : B) (s : Sheet) → Wrote (one g v) (done (v w)) w s (entered (tag (number_of g) (v w)) s)

pub prefix_putter : {B : Type 0} (base sh : ℕ) → Putter {B = B} (λ g v. bin (base + g / 2 ^ sh) v done) (λ g. base + g / 2 ^ sh)
prefix_putter base sh = record { put = λ g v w s. wrote_bin w (base + g / 2 ^ sh) v done s }

pub count_putter : {B : Type 0} (ctx : ℕ → ℕ) → Putter {B = B} (λ g v. bin (ctx g) v done) ctx
count_putter ctx = record { put = λ g v w s. wrote_bin w (ctx g) v done s }

pub ones_putter : {B : Type 0} → Putter {B = B} (λ g v. bypass v done) (λ g. bypass_no)
ones_putter = record { put = λ g v w s. wrote_bypass w v done s }

module _ {B : Type 0} {T : ℕ → ℕ → (ℕ → B → Bool) → Syn B ℕ} {one : ℕ → (B → Bool) → Syn B Bool} {number_of : ℕ → ℕ}
    (T-counts : Counter T one) (T-puts : Putter one number_of) (n most : ℕ) (s : Sheet) where
  -- in the loop, at count g
  pub record Ones (g : ℕ) (s' : Sheet) : Type 0 where
    pub within : n ≤ most
    pub few : g ≤ n
    pub long : length s'.room ≡ length s.room
    pub left : (want : ℕ → B → Bool) (w : B) → Counts want w n most → Wrote (T most 0 want) (T (most - g) g want) w s s'

  pub ones_begin : n ≤ most → Ones 0 s
  ones_begin within =
      let m : most ≡ most - 0 = omega arith in
      record { within = within; few = omega arith; long = refl; left = λ want w c. subst (λ i. Wrote (T most 0 want) (T i 0 want) w s s) m (wrote_none w (T most 0 want) s) }

  module _ (g : ℕ) (s' : Sheet) (h : Ones g s') where
    next : ℕ → (ℕ → B → Bool) → Bool → Syn B ℕ
    next m want b = elim b [ true ↦ T m (suc g) want | false ↦ done g ]

    step : g < most → (want : ℕ → B → Bool) (w : B) → Counts want w n most → (b : Bool) → want g w ≡ b
        → Wrote (T most 0 want) (next (most - (g + 1)) want b) w s (entered (tag (number_of g) b) s')
    unfolding next
    step k want w c b q =
        let m : most - g ≡ suc (most - (g + 1)) = omega arith in
        let t : T (most - g) g want ≡ (one g (want g) >>= next (most - (g + 1)) want) =
        ap (λ i. T i g want) m ∙ T-counts.more (most - (g + 1)) g want in
        let f : Wrote (T most 0 want) (one g (want g) >>= next (most - (g + 1)) want) w s s' =
        subst (λ z. Wrote (T most 0 want) z w s s') t (h.left want w c) in
        let p = T-puts.put g (want g) w s' in
        let p' : Wrote (one g (want g)) (done b) w s' (entered (tag (number_of g) b) s') =
        subst (λ z. Wrote (one g (want g)) (done z) w s' (entered (tag (number_of g) z) s')) q p in
        wrote_on w (T most 0 want) (one g (want g) >>= next (most - (g + 1)) want) (next (most - (g + 1)) want b) s s' (entered (tag (number_of g) b) s')
        f (wrote_then w (one g (want g)) (next (most - (g + 1)) want) b s' (entered (tag (number_of g) b) s') p')

    pub ones_more : g < n → Ones (g + 1) (entered (tag (number_of g) true) s')
    unfolding next
    ones_more k =
        record {
          within = h.within;
          few = omega arith;
          long = entered_long (tag (number_of g) true) s' ∙ h.long;
          left = λ want w c.
              subst (λ i. Wrote (T most 0 want) (T (most - (g + 1)) i want) w s (entered (tag (number_of g) true) s')) (sym (add-one g))
              (step (omega (arith, h.within)) want w c true (c.0 g k));
        }

    pub ones_zero : n ≤ g → n < most → (want : ℕ → B → Bool) (w : B) → Counts want w n most
        → Wrote (T most 0 want) (done n) w s (entered (tag (number_of n) false) s')
    unfolding next
    ones_zero k m want w c =
        let e : g ≡ n = omega (arith, h.few) in
        subst (λ i. Wrote (T most 0 want) (done i) w s (entered (tag (number_of i) false) s')) e
        (step (omega (arith, h.few)) want w c false (subst (λ i. want i w ≡ false) (sym e) (c.1 m)))

    pub ones_most : n ≤ g → most ≤ n → (want : ℕ → B → Bool) (w : B) → Counts want w n most → Wrote (T most 0 want) (done n) w s s'
    ones_most k m want w c =
        let e : g ≡ n = omega (arith, h.few) in
        let z : most - g ≡ 0 = omega (arith, h.few) in
        subst (λ i. Wrote (T most 0 want) (done i) w s s') e
        (subst (λ u. Wrote (T most 0 want) u w s s') (ap (λ i. T i g want) z ∙ T-counts.none g want) (h.left want w c))
