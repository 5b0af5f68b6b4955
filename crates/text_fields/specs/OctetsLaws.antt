-- Laws of a row of spelled bytes, as the code meets them. Assumes nothing.
use Rattle.std.specs.Prelude.{ℕ, suc, ◌+◌, ◌*◌, ◌/◌, ◌≤◌, ◌<◌, ◌≡◌, refl, Bool, true, false, eqb, get_or, set, Some, None, Option}
use Rattle.std.proofs.Common.{arith, add-one, ◌∙◌, length-drop, drop-cons, take_all, take_at, take-suc-set}
use Rattle.std.proofs.Math.Path.{sym, ap}
use mathlib.Core.List.{List, [], ◌∷◌, ◌++◌, append_assoc, append-nil}
use Rattle.std.proofs.Math.ListN.{length, take, drop, length-set, take-append-drop}
use Rattle.std.proofs.Math.Seq.{drop-drop, length-take-le, drop-set-lt}
use borrow.Author.Tests.{eq-eqb, ne_eqb}
use Rattle.text_fields.specs.Spelled.{octet_of, octet_then, octets_of, octets_over, is_dash, octets_read, octets_answer}

-- ---- a dash
pub dash_not : (s : List ℕ) → (length s ≡ 1 → ⊥) → false ≡ is_dash s
unfolding is_dash
dash_not [] h = refl
dash_not (b ∷ []) h = absurd (h refl)
dash_not (b ∷ c ∷ s) h = refl

pub dash_first : (s : List ℕ) → length s ≡ 1 → eqb (get_or s 0 0) 45 ≡ is_dash s
unfolding is_dash
dash_first [] h = absurd (omega arith)
dash_first (b ∷ []) h = refl
dash_first (b ∷ c ∷ s) h = absurd (omega arith)

-- the answer for n bytes, where the test for a dash gave t
module _ (s : List ℕ) (n : ℕ) (t : Bool) (e : t ≡ is_dash s) where
  pub read_dash : t ≡ true → Some n ≡ octets_read s n
  unfolding octets_read
  read_dash h = rw (sym e ∙ h)

  pub read_whole : t ≡ false → length s ≡ 2 * n → Some n ≡ octets_read s n
  unfolding octets_read
  read_whole h k = rw (sym e ∙ h, eq-eqb (length s) (2 * n) k)

  pub read_less : t ≡ false → (length s ≡ 2 * n → ⊥) → None ≡ octets_read s n
  unfolding octets_read
  read_less h k = rw (sym e ∙ h, ne_eqb (length s) (2 * n) k)

pub read_answer : (s : List ℕ) (room n : ℕ) (r : Option ℕ) → n ≡ length (take room (octets_of s)) → r ≡ octets_read s n → r ≡ octets_answer s room
unfolding octets_answer
read_answer s room n r e h = h ∙ ap (octets_read s) e

no_pair : (s : List ℕ) → length s ≤ 1 → octets_of s ≡ []
unfolding octets_of
no_pair [] h = refl
no_pair (b ∷ []) h = refl
no_pair (b ∷ c ∷ s) h = absurd (omega arith)

-- what was written of the bytes before the i-th
pub record Writing (s first out : List ℕ) (i : ℕ) : Type 0 where
  pub before : take i out ++ octets_of (drop (2 * i) s) ≡ octets_of s
  pub behind : drop i out ≡ drop i first
  pub sized : length out ≡ length first
  pub room : i ≤ length out
  pub pairs : 2 * i ≤ length s

-- all that put_octets promises of an answer i
abbrev pub Written : List ℕ → List ℕ → List ℕ → ℕ → Type 0
Written s first out i = (i ≡ length (take (length first) (octets_of s))) × ((out ≡ octets_over s first) × (2 * i ≤ length s))

pub writing_begun : (s out : List ℕ) → Writing s out out 0
writing_begun s out = record { before = refl; behind = refl; sized = refl; room = omega arith; pairs = omega arith }

module _ (s first out : List ℕ) (i : ℕ) (w : Writing s first out i) where
  pair : 2 * i + 1 < length s → drop (2 * i) s ≡ get_or s (2 * i) 0 ∷ get_or s (2 * i + 1) 0 ∷ drop (2 * (i + 1)) s
  pair h =
      let n : suc (suc (2 * i)) ≡ 2 * (i + 1) = omega arith in
      drop-cons s (2 * i) 0 (omega arith)
      ∙ ap (λ (l : List ℕ). get_or s (2 * i) 0 ∷ l) (drop-cons s (suc (2 * i)) 0 (omega arith))
      ∙ ap (λ (k : ℕ). get_or s (2 * i) 0 ∷ get_or s (suc (2 * i)) 0 ∷ drop k s) n
      ∙ ap (λ (k : ℕ). get_or s (2 * i) 0 ∷ get_or s k 0 ∷ drop (2 * (i + 1)) s) (sym (add-one (2 * i)))

  next : 2 * i + 1 < length s
      → octets_of (drop (2 * i) s) ≡ octet_then (octet_of (get_or s (2 * i) 0) (get_or s (2 * i + 1) 0)) (octets_of (drop (2 * (i + 1)) s))
  unfolding octets_of
  next h = rw (pair h)

  pub writing_more : (b : ℕ) (o : Option ℕ) → i < length out → 2 * i + 1 < length s
      → o ≡ octet_of (get_or s (2 * i) 0) (get_or s (2 * i + 1) 0) → o ≡ Some b
      → Writing s first (set out i b) (i + 1)
  unfolding octet_then
  writing_more b o h k e q =
      let rest = octets_of (drop (2 * (i + 1)) s) in
      let n : octets_of (drop (2 * i) s) ≡ b ∷ rest = next k ∙ ap (λ (x : Option ℕ). octet_then x rest) (sym e ∙ q) in
      let f : take (i + 1) (set out i b) ≡ take i out ++ (b ∷ []) = rw (add-one i) (take-suc-set out i b h) in
      record {
        before =
            ap (λ (l : List ℕ). l ++ rest) f ∙ append_assoc (take i out) (b ∷ []) rest ∙ ap (λ (l : List ℕ). take i out ++ l) (sym n) ∙ w.before;
        behind = drop-set-lt (i + 1) out i b (omega arith) ∙ more-dropped;
        sized = length-set out i b ∙ w.sized;
        room = omega (arith, length-set out i b);
        pairs = omega arith;
      }
    where
      more-dropped : drop (i + 1) out ≡ drop (i + 1) first
      more-dropped = sym (drop-drop 1 i out) ∙ ap (λ (l : List ℕ). drop 1 l) w.behind ∙ drop-drop 1 i first

  done : take (length first) (octets_of s) ≡ take i out → Written s first out i
  unfolding octets_over
  done e =
      let n : length (take i out) ≡ i = length-take-le i out w.room in
      let m : length (take (length first) (octets_of s)) ≡ i = ap length e ∙ n in
      let q : octets_over s first ≡ out =
      ap (λ (l : List ℕ). l ++ drop (length (take (length first) (octets_of s))) first) e
      ∙ ap (λ (k : ℕ). take i out ++ drop k first) m
      ∙ ap (λ (l : List ℕ). take i out ++ l) (sym w.behind)
      ∙ take-append-drop i out in
      (sym m, (sym q, w.pairs))

  none_follows : octets_of (drop (2 * i) s) ≡ [] → take (length first) (octets_of s) ≡ take i out
  none_follows e =
      let q : octets_of s ≡ take i out = sym w.before ∙ ap (λ (l : List ℕ). take i out ++ l) e ∙ append-nil (take i out) in
      ap (λ (l : List ℕ). take (length first) l) q ∙ take_all (length first) (take i out) (omega (arith, length-take-le i out w.room, w.room, w.sized))

  pub writing_full : length out ≤ i → Written s first out i
  writing_full h =
      let n : length (take i out) ≡ length first = length-take-le i out w.room ∙ (omega (arith, w.room, w.sized)) in
      done (ap (λ (l : List ℕ). take (length first) l) (sym w.before) ∙ take_at (take i out) (octets_of (drop (2 * i) s)) (length first) n)

  pub writing_ended : length s / 2 ≤ i → Written s first out i
  writing_ended h = done (none_follows (no_pair (drop (2 * i) s) (omega (arith, length-drop (2 * i) s))))

  pub writing_stopped : (o : Option ℕ) → 2 * i + 1 < length s → o ≡ octet_of (get_or s (2 * i) 0) (get_or s (2 * i + 1) 0) → o ≡ None
      → Written s first out i
  unfolding octet_then
  writing_stopped o k e q = done (none_follows (next k ∙ ap (λ (x : Option ℕ). octet_then x (octets_of (drop (2 * (i + 1)) s))) (sym e ∙ q)))
