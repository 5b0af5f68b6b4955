-- The significant places, exact. Assumes nothing.
use Prim.Native.Nat.{ℕ, zero, suc, ◌+◌, ◌≤◌, ◌<◌}
use Rattle.std.specs.Prelude.{◌≡◌, Bool, ◌||◌, cond, List, [], ◌∷◌, ℤ}
use Rattle.std.proofs.Math.Path.{refl, sym, ap}
use Rattle.std.proofs.Common.{subst, ◌∙◌}
use Rattle.std.proofs.Math.Bool.{true, false}
use native.Mathlib.Omega.{arith}
use Rattle.std.proofs.Math.Dec.{eqb}
use borrow.Author.Tests.{eqb-true, eqb-false, eq-eqb, ne_eqb}
use Rattle.trees.specs.Levels.{down_from}
use Rattle.trees.specs.TreeLaws.{Writes, writes_done, writes_bin, Exact, exact_done, exact_bin, exact_as}
use Rattle.trees.specs.ReaderLaws.{clash, writes_if}
use Rattle.trees.specs.ListLaws.{Falling, falling_up, down_falling, down_first}
use Rattle.bins.specs.Syn.{done, bin}
use Rattle.h264_block.specs.Layout.{at_last}
use Rattle.h264_block.specs.Block.{is_sig, sig_places, first_of, places_s}

-- ---- whether a place is among places
unfoldable pub has : ℕ → List ℕ → Bool
has j [] = false
has j (k ∷ ks) = eqb j k || has j ks

has_above : (n j : ℕ) (ks : List ℕ) → Falling n ks → n ≤ j → has j ks ≡ false
unfolding has
has_above n j [] f h = refl
has_above n j (k ∷ ks) f h = rw (ne_eqb j k (λ q. omega (arith, f.0))) (has_above k j ks f.1 (omega (arith, f.0)))

has_other : (j k : ℕ) (ks : List ℕ) → (j ≡ k → ⊥) → has j (k ∷ ks) ≡ has j ks
unfolding has
has_other j k ks h = rw (ne_eqb j k h)

has_first : (k : ℕ) (ks : List ℕ) → has k (k ∷ ks) ≡ true
unfolding has
has_first k ks = rw (eq-eqb k k refl)

has_down : (s : ℕ → Bool) (n j : ℕ) → j < n → has j (down_from s n) ≡ s j
unfolding down_from has
has_down s zero j h = absurd (omega arith)
has_down s (suc n) j h = go (s n) refl (eqb j n) refl (has_down s n j)
  where
    go : (d : Bool) → s n ≡ d → (c : Bool) → eqb j n ≡ c → (j < n → has j (down_from s n) ≡ s j)
        → has j (cond d (n ∷ down_from s n) (down_from s n)) ≡ s j
    go true e true q r = rw q (sym (ap s (eqb-true j n q) ∙ e))
    go true e false q r = rw q (r (omega (arith, eqb-false j n q)))
    go false e true q r =
        let u = eqb-true j n q in has_above n j (down_from s n) (down_falling s n) (omega arith) ∙ sym (ap s u ∙ e)
    go false e false q r = r (omega (arith, eqb-false j n q))

-- ---- writing
-- m is the last place with a level
pub record Last (w : List ℤ) (m : ℕ) : Type 0 where
  pub inside : m < 16
  pub holds : is_sig w m ≡ true
  pub above : (k : ℕ) → m < k → k < 16 → is_sig w k ≡ false

module _ (w : List ℤ) (m : ℕ) (last : Last w m) where
  whole : sig_places w ≡ m ∷ down_from (is_sig w) m
  whole = down_first (is_sig w) 16 m last.inside last.holds last.above

  first : first_of (sig_places w) ≡ m
  first = ap first_of whole

  down_more : (k : ℕ) (d : Bool) → is_sig w k ≡ d → down_from (is_sig w) (suc k) ≡ cond d (k ∷ down_from (is_sig w) k) (down_from (is_sig w) k)
  unfolding down_from
  down_more k d e = rw e

  -- behind the places below k: the last is not below k
  pub places_writes : (n k : ℕ) (ks : List ℕ) → k + n ≡ 15 → k ≤ m → ks ≡ down_from (is_sig w) k → Writes (places_s n k ks) w (λ l. l ≡ sig_places w)
  unfolding places_s
  places_writes zero k ks e h q =
      let u : k ≡ m = omega (arith, last.inside) in writes_done (rw (q, u) (sym whole))
  places_writes (suc n) k ks e h q = writes_bin (writes_if (is_sig w k)
      (λ s. writes_bin (writes_if (eqb (first_of (sig_places w)) k)
      (λ f. let u : k ≡ m = sym (eqb-true (first_of (sig_places w)) k f) ∙ first in writes_done (rw (q, u) (sym whole)))
      (λ f.
      let u : k < m = omega (arith, eqb-false (first_of (sig_places w)) k f, first, h) in
      places_writes n (suc k) (k ∷ ks) (omega arith) u (ap (λ x. k ∷ x) q ∙ sym (down_more k true s)))))
      (λ s. places_writes n (suc k) ks (omega arith) (not-here s h) (q ∙ sym (down_more k false s))))
    where
      not-here : is_sig w k ≡ false → k ≤ m → k < m
      not-here s h = go (eqb k m) refl
        where
          go : (d : Bool) → eqb k m ≡ d → k < m
          go true u = clash (sym (ap (is_sig w) (eqb-true k m u)) ∙ s) last.holds
          go false u = omega (arith, eqb-false k m u)

-- ---- reading
-- l was read from k on behind ks
pub record Met (k : ℕ) (ks l : List ℕ) : Type 0 where
  pub some : (m : ℕ) × (x : List ℕ) × (l ≡ m ∷ x)
  pub falls : Falling 16 l
  pub first : k ≤ first_of l
  pub same : (j : ℕ) → j < k → has j l ≡ has j ks

-- no place is met behind k
ended : (k : ℕ) (ks : List ℕ) → k < 16 → Falling k ks → Met k ks (k ∷ ks)
ended k ks h f = record { some = (k, ks, refl); falls = (h, f); first = omega arith; same = λ j u. has_other j k ks (λ q. omega arith) }

module _ (w : List ℤ) where
  sig_is : (k : ℕ) (l : List ℕ) → k < 16 → l ≡ sig_places w → is_sig w k ≡ has k l
  sig_is k l h q = sym (has_down (is_sig w) 16 k h) ∙ ap (has k) (sym q)

  pub places_exact : (n k : ℕ) (ks : List ℕ) → k + n ≡ 15 → Falling k ks → Exact (places_s n k ks) w (Met k ks) (λ l. l ≡ sig_places w)
  unfolding places_s
  places_exact zero k ks e f = exact_done (ended k ks (omega arith) f)
  places_exact (suc n) k ks e f = exact_bin (λ d. elim d as (λ x. Exact (elim x [ true ↦ bin (at_last k) (λ w. eqb (first_of (sig_places w)) k) (λ e. elim e [ true ↦ done (k ∷ ks) | false ↦ places_s n (suc k) (k ∷ ks) ]) | false ↦ places_s n (suc k) ks ]) w (λ l. Met k ks l × (l ≡ sig_places w → is_sig w k ≡ x)) (λ l. l ≡ sig_places w)) [
    | true ↦ exact_bin (λ c. elim c as (λ x. Exact (elim x [ true ↦ done (k ∷ ks) | false ↦ places_s n (suc k) (k ∷ ks) ]) w (λ l. (Met k ks l × (l ≡ sig_places w → is_sig w k ≡ true)) × (l ≡ sig_places w → eqb (first_of (sig_places w)) k ≡ x)) (λ l. l ≡ sig_places w)) [
      | true ↦ exact_done (
        (ended k ks (omega arith) f, λ q. sig_is k (k ∷ ks) (omega arith) q ∙ has_first k ks),
        λ q. eq-eqb (first_of (sig_places w)) k (sym (ap first_of q)),
      )
      | false ↦ exact_as (places_exact n (suc k) (k ∷ ks) (omega arith) (omega arith, f)) (λ l h. (
        (
          (
            record {
              some = h.some;
              falls = h.falls;
              first = omega (arith, h.first);
              same = λ j u. h.same j (omega arith) ∙ has_other j k ks (λ x. omega arith);
            },
            λ q. sig_is k l (omega arith) q ∙ h.same k (omega arith) ∙ has_first k ks,
          ),
          λ q. ne_eqb (first_of (sig_places w)) k (λ x. omega (arith, h.first, ap first_of q)),
        ),
        λ q. q,
      ))
    ])
    | false ↦ exact_as (places_exact n (suc k) ks (omega arith) (falling_up k (suc k) ks (omega arith) f)) (λ l h. (
      (
        record { some = h.some; falls = h.falls; first = omega (arith, h.first); same = λ j u. h.same j (omega arith) },
        λ q. sig_is k l (omega arith) q ∙ h.same k (omega arith) ∙ has_above k k ks f (omega arith),
      ),
      λ q. q,
    ))
  ])
