-- An answer of a step taken apart: what it says of the source. Assumes nothing.
use Prim.Native.Nat.{◌/◌, ◌%◌, ℕ, suc, ◌+◌, ◌-◌, ◌*◌, ◌^◌, ◌≤◌, ◌<◌}
use Rattle.std.specs.Prelude.{◌≡◌, Bool, true, false, ◌&&◌, List, length, get_or, eqb, Result, Err, IsErrAnd}
use Rattle.std.proofs.Math.Path.{refl, ap}
use Rattle.std.proofs.Common.{sym, subst, ◌∙◌, pow-suc, add-one, lt-ltb, le-ltb, eq-eqb, eqb-true}
use native.Mathlib.Omega.{arith}
use Rattle.bins.specs.CodeLaws.{bin_readable}
use Rattle.std.proofs.lemmas.Bool.{eqb-false}
use Rattle.std.proofs.lemmas.Result.{err_from_is_err_and}
use Rattle.bins.specs.declared.state.Interval.{Interval}
use Rattle.bins.specs.declared.state.Refusal.{Refusal}
use Rattle.bins.specs.declared.state.Taken.{Taken}
use Rattle.bins.specs.Engine.{bit_no}
use Rattle.bins.specs.Tags.{bypass_no, align_tag, low, high, is_entry}
use Rattle.bins.specs.Interval.{place_of}
use Rattle.bins.specs.Syn.{Took, took, refused, Out, onward, run, pick_bin, bin_of}
use Rattle.bins.specs.Readers.{bits_s}
use Rattle.bins.specs.Laws.{After}
use Rattle.bins.specs.Sources.{step_of, step_of_bits, stopped, behind, entry_bin, entry_align, by_entries, entries_on, Tagged, Step, got, refused_at}

-- what a `?` passes on is the refusal that it met
pub passed_on : {T E : Type 0} (r : Result T E) (e : E) → IsErrAnd r (λ y. y ≡ e) → r ≡ Err e
passed_on r e h = let p = err_from_is_err_and r h in p.1 ∙ ap Err p.2

pub bit_small : (b : Bool) → bit_no b < 2
bit_small true = omega arith
bit_small false = omega arith

-- x is the interval before the step
pub step_took : (x : Interval) (t : Took Interval) (r : Step) (v : ℕ) (y : Interval) → r ≡ step_of x t → r ≡ got v y → (b : Bool) × (v ≡ bit_no b) × (t ≡ took b y)
step_took x (took b z) r v y p q =
    let e : ◌≡◌ {A = Taken} (record { value = bit_no b; next = z }) (record { value = v; next = y }) = cc in
    (b, sym (ap (λ (t : Taken). t.value) e), ap (λ (t : Taken). took b t.next) e)
step_took x (refused n) r v y p q = let z : ◌≡◌ {A = ℕ} 0 1 = cc in absurd (omega arith)

pub step_refused : (x : Interval) (t : Took Interval) (r : Step) (n : Refusal) → r ≡ step_of x t → r ≡ stopped n → (t ≡ refused n.number) × (x ≡ n.at)
step_refused x (took b y) r n p q = let z : ◌≡◌ {A = ℕ} 0 1 = cc in absurd (omega arith)
step_refused x (refused m) r n p q = let e : m ≡ n.number = cc in (ap refused e, cc)

pub bits_took : (o : Out Interval ℕ) (r : Step) (v : ℕ) (x : Interval) → r ≡ step_of_bits o → r ≡ got v x → o ≡ Out.ok v x
bits_took (Out.ok w y) r v x p q =
    let e : ◌≡◌ {A = Taken} (record { value = w; next = y }) (record { value = v; next = x }) = cc in
    ap (λ (t : Taken). Out.ok t.value t.next) e
bits_took (Out.no n y) r v x p q = let z : ◌≡◌ {A = ℕ} 0 1 = cc in absurd (omega arith)

pub bits_refused : (o : Out Interval ℕ) (r : Step) (n : Refusal) → r ≡ step_of_bits o → r ≡ stopped n → o ≡ Out.no n.number n.at
bits_refused (Out.ok w y) r n p q = let z : ◌≡◌ {A = ℕ} 0 1 = cc in absurd (omega arith)
bits_refused (Out.no m y) r n p q = let e : m ≡ n.number = cc in let f : y ≡ n.at = cc in cc

-- ---- one entry of a list, as the code looks at it: its two bytes as a number
tagged_is : (l : List ℕ) (i t u : ℕ) → Tagged l i t → t ≡ u → is_entry (get_or l i 0) (get_or l (i + 1) 0) u ≡ true
unfolding is_entry
tagged_is l i t u h q =
    rw (eq-eqb (get_or l i 0) (low u) (omega (arith, h.is, h.low_byte)), eq-eqb (get_or l (i + 1) 0) (high u) (omega (arith, h.is, h.low_byte)))

tagged_not : (l : List ℕ) (i t u : ℕ) → Tagged l i t → (t ≡ u → ⊥) → is_entry (get_or l i 0) (get_or l (i + 1) 0) u ≡ false
unfolding is_entry
tagged_not l i t u h q = go (eqb (get_or l i 0) (low u)) refl (eqb (get_or l (i + 1) 0) (high u)) refl
  where
    go : (a : Bool) → eqb (get_or l i 0) (low u) ≡ a → (b : Bool) → eqb (get_or l (i + 1) 0) (high u) ≡ b → a && b ≡ false
    go true e true f =
        let v : get_or l i 0 ≡ low u = eqb-true _ _ e in
        let w : get_or l (i + 1) 0 ≡ high u = eqb-true _ _ f in
        absurd (q (omega (arith, h.is)))
    go true e false f = refl
    go false e b f = refl

-- i is the place, t the tag that was found there, y the interval behind the entry
module _ (l : List ℕ) (x : Interval) (i : ℕ) (at : i ≡ place_of x) where
  module _ (c : ℕ) where
    entry_zero : (t : ℕ) (y : Interval) → i + 1 < length l → Tagged l i t → t ≡ 2 * c → y ≡ behind x → got 0 y ≡ step_of x (entry_bin l c x)
    unfolding entry_bin bin_of pick_bin
    entry_zero t y h g q e =
        rw (lt-ltb (place_of x + 1) (length l) (rw at at h), tagged_is l (place_of x) t (2 * c + 0) (rw at at g) (omega arith)) (ap (got 0) e)

    entry_one : (t : ℕ) (y : Interval) → i + 1 < length l → Tagged l i t → t ≡ 2 * c + 1 → y ≡ behind x → got 1 y ≡ step_of x (entry_bin l c x)
    unfolding entry_bin bin_of pick_bin
    entry_one t y h g q e =
        let k : Tagged l (place_of x) t = rw at at g in
        rw (lt-ltb (place_of x + 1) (length l) (rw at at h), tagged_not l (place_of x) t (2 * c + 0) k (λ z. omega arith), tagged_is l (place_of x) t (2 * c + 1) k q)
        (ap (got 1) e)

    -- the number is the entry's half, the bin what is left of it
    pub entry_half : (t : ℕ) (y : Interval) → i + 1 < length l → Tagged l i t → t / 2 ≡ c → y ≡ behind x → got (t % 2) y ≡ step_of x (entry_bin l c x)
    entry_half t y h g q e = go (eqb (t % 2) 0) refl
      where
        go : (b : Bool) → eqb (t % 2) 0 ≡ b → got (t % 2) y ≡ step_of x (entry_bin l c x)
        go true z =
            let r : t % 2 ≡ 0 = eqb-true _ _ z in
            ap (λ (n : ℕ). got n y) r ∙ entry_zero t y h g (omega arith) e
        go false z =
            let r : t % 2 ≡ 1 = omega (arith, eqb-false (t % 2) 0 z) in
            ap (λ (n : ℕ). got n y) r ∙ entry_one t y h g (omega arith) e

    pub entry_other : (t : ℕ) → i + 1 < length l → Tagged l i t → (t / 2 ≡ c → ⊥) → stopped (refused_at 13 x) ≡ step_of x (entry_bin l c x)
    unfolding entry_bin bin_of pick_bin
    entry_other t h g p =
        let k : Tagged l (place_of x) t = rw at at g in
        rw (lt-ltb (place_of x + 1) (length l) (rw at at h), tagged_not l (place_of x) t (2 * c + 0) k (λ z. p (omega arith)), tagged_not l (place_of x) t (2 * c + 1) k (λ z. p (omega arith)))

    pub entry_none : length l ≤ i + 1 → stopped (refused_at 13 x) ≡ step_of x (entry_bin l c x)
    unfolding entry_bin
    entry_none h = rw (le-ltb (place_of x + 1) (length l) (rw at at h))

  pub align_entry : (t : ℕ) (y : Interval) → i + 1 < length l → Tagged l i t → t ≡ align_tag → y ≡ behind x → got 0 y ≡ step_of x (entry_align l x)
  unfolding entry_align
  align_entry t y h g q e =
      rw (lt-ltb (place_of x + 1) (length l) (rw at at h), tagged_is l (place_of x) t align_tag (rw at at g) q) (ap (got 0) e)

  pub align_other : (t : ℕ) → i + 1 < length l → Tagged l i t → (t ≡ align_tag → ⊥) → stopped (refused_at 13 x) ≡ step_of x (entry_align l x)
  unfolding entry_align
  align_other t h g p = rw (lt-ltb (place_of x + 1) (length l) (rw at at h), tagged_not l (place_of x) t align_tag (rw at at g) p)

  pub align_none : length l ≤ i + 1 → stopped (refused_at 13 x) ≡ step_of x (entry_align l x)
  unfolding entry_align
  align_none h = rw (le-ltb (place_of x + 1) (length l) (rw at at h))

-- ---- several entries: what is left to read, as the loop has it
module _ (l : List ℕ) (n i v : ℕ) (x y : Interval) where
  abbrev pub Left : Type 0
  Left = entries_on l n 0 x ≡ entries_on l (n - i) v y

  pub left_again : Left → i < n → (b : Bool) (z : Interval) → entry_bin l bypass_no y ≡ took b z
      → entries_on l n 0 x ≡ entries_on l (n - (i + 1)) (v * 2 + bit_no b) z
  unfolding entries_on
  left_again h k b z q =
      let s : n - i ≡ suc (n - (i + 1)) = omega arith in
      h ∙ ap (λ m. run (by_entries l) (bits_s {B = ℕ} m v (λ t. t)) y) s
      ∙ unfold run bits_s by_entries onward in ap (λ (t : Took Interval). onward t y (λ b s'. run (by_entries l) (bits_s {B = ℕ} (n - (i + 1)) (v * 2 + bit_no b) (λ t. t)) s')) q

  pub left_refused : Left → i < n → (m : ℕ) → entry_bin l bypass_no y ≡ refused m → entries_on l n 0 x ≡ Out.no m y
  unfolding entries_on
  left_refused h k m q =
      let s : n - i ≡ suc (n - (i + 1)) = omega arith in
      h ∙ ap (λ m. run (by_entries l) (bits_s {B = ℕ} m v (λ t. t)) y) s
      ∙ unfold run bits_s by_entries onward in ap (λ (t : Took Interval). onward t y (λ b s'. run (by_entries l) (bits_s {B = ℕ} (n - (i + 1)) (v * 2 + bit_no b) (λ t. t)) s')) q

  pub left_done : Left → n ≤ i → entries_on l n 0 x ≡ Out.ok v y
  unfolding entries_on
  left_done h k =
      let s : n - i ≡ 0 = omega arith in
      h ∙ ap (λ m. run (by_entries l) (bits_s {B = ℕ} m v (λ t. t)) y) s ∙ unfold run bits_s in refl

-- the loop's invariant
pub record Entries (l : List ℕ) (n i v : ℕ) (x y : Interval) : Type 0 where
  pub few : i ≤ n
  pub fits : place_of y ≤ length l
  pub small : v < 2 ^ i
  pub left : Left l n i v x y

pub entries_begin : (l : List ℕ) (n : ℕ) (x : Interval) → place_of x ≤ length l → Entries l n 0 0 x x
entries_begin l n x h =
    let s : n ≡ n - 0 = omega arith in
    record { few = omega arith; fits = h; small = omega arith; left = ap (λ m. entries_on l m 0 x) s }

pub entries_again : (l : List ℕ) (n i v : ℕ) (x y : Interval) (r : Step) (b : ℕ) (z : Interval) → Entries l n i v x y → i < n
    → r ≡ step_of y (entry_bin l bypass_no y) → r ≡ got b z → (b < 2) × Entries l n (i + 1) (v * 2 + b) x z
entries_again l n i v x y r b z h k p q =
    let t = step_took y (entry_bin l bypass_no y) r b z p q in
    let d = bit_small t.0 in
    let e : b ≡ bit_no t.0 = t.1 in
    let f : place_of z ≤ length l = subst (After (λ u. place_of u ≤ length l)) t.2 (bin_readable l bypass_no y) in
    let w : 2 ^ (i + 1) ≡ 2 ^ i * 2 = rw (add-one i) (pow-suc 2 i) in (
      omega arith,
      record {
        few = omega arith;
        fits = f;
        small = omega (arith, h.small);
        left = left_again l n i v x y h.left k t.0 z t.2 ∙ ap (λ u. entries_on l (n - (i + 1)) (v * 2 + u) z) (sym e);
      },
    )

pub entries_stop : (l : List ℕ) (n i v : ℕ) (x y : Interval) (r : Step) (m : Refusal) → Entries l n i v x y → i < n
    → r ≡ step_of y (entry_bin l bypass_no y) → r ≡ stopped m → stopped m ≡ step_of_bits (entries_on l n 0 x)
entries_stop l n i v x y r m h k p q =
    let t = step_refused y (entry_bin l bypass_no y) r m p q in
    ap (λ (u : Interval). stopped (refused_at m.number u)) (sym t.1) ∙ ap step_of_bits (sym (left_refused l n i v x y h.left k m.number t.0))

pub entries_end : (l : List ℕ) (n i v : ℕ) (x y : Interval) → Entries l n i v x y → n ≤ i → got v y ≡ step_of_bits (entries_on l n 0 x)
entries_end l n i v x y h k = ap step_of_bits (sym (left_done l n i v x y h.left k))
