-- Bytes as the number that they make: what a byte more and a carry do to it. Assumes nothing.
use Rattle.std.specs.Prelude.{ℕ, zero, suc, ◌+◌, ◌-◌, ◌*◌, ◌/◌, ◌%◌, ◌^◌, ◌≤◌, ◌<◌, ◌≡◌, Bool, List, [], ◌∷◌, ◌++◌, length, get_or, drop, ltb}
use Rattle.std.proofs.Math.Path.{refl}
use Rattle.std.proofs.Common.{sym, ap, ap₂, subst, ◌∙◌, append_assoc, arith, add-one, length-set, length-append, length-drop, drop-cons, shr-shr}
use Rattle.std.proofs.Math.Bool.{true, false, cond}
use Rattle.std.proofs.Math.ListN.{set}
use Rattle.std.proofs.lemmas.List.{set_at}
use Rattle.std.proofs.Math.Seq.{append_snoc, get_or-append_seam, set-append_seam}
use Rattle.std.proofs.Math.Dec.{leb}
use borrow.Author.Tests.{lt-ltb, le-ltb, ltb-true, ltb-false, leb-true, leb-false}
use Rattle.packing.specs.Pack.{octets}
use Rattle.packing.specs.PayloadLaws.{octets_length}
use Rattle.packer_steps.specs.Register.{carried, placed, inked}

-- ---- lengths stay
pub carried_length : (n : ℕ) (room : List ℕ) → length (carried n room) ≡ length room
unfolding carried
carried_length zero room = refl
carried_length (suc k) room = go (ltb (get_or room k 0) 255) (carried_length k (set room k 0) ∙ length-set room k 0)
  where
    go : (b : Bool) → length (carried k (set room k 0)) ≡ length room → length (cond b (set room k (get_or room k 0 + 1)) (carried k (set room k 0))) ≡ length room
    go true h = length-set room k (get_or room k 0 + 1)
    go false h = h

placed_length : (nine at : ℕ) (room : List ℕ) → length (placed nine at room) ≡ length room
unfolding placed
placed_length nine at room = go (ltb at (length room)) (leb 256 nine)
  where
    go : (a b : Bool) → length (cond a (cond b (carried at (set room at (nine % 256))) (set room at (nine % 256))) room) ≡ length room
    go true true = carried_length at (set room at (nine % 256)) ∙ length-set room at (nine % 256)
    go true false = length-set room at (nine % 256)
    go false b = refl

pub inked_length : (wr : Bool) (nine at : ℕ) (room : List ℕ) → length (inked wr nine at room) ≡ length room
inked_length true nine at room = placed_length nine at room
inked_length false nine at room = refl

-- ---- the code's carry, a byte at a time
pub carry_ends : (k : ℕ) (room : List ℕ) (m : ℕ) → k ≡ suc m → get_or room m 0 < 255 → set room m (get_or room m 0 + 1) ≡ carried k room
unfolding carried
carry_ends k room m e h = subst (λ (z : ℕ). set room m (get_or room m 0 + 1) ≡ carried z room) (sym e) (rw (lt-ltb (get_or room m 0) 255 h))

pub carry_goes : (k : ℕ) (room : List ℕ) (m : ℕ) → k ≡ suc m → 255 ≤ get_or room m 0 → carried m (set room m 0) ≡ carried k room
unfolding carried
carry_goes k room m e h = subst (λ (z : ℕ). carried m (set room m 0) ≡ carried z room) (sym e) (rw (le-ltb (get_or room m 0) 255 h))

pub carried_none : (room : List ℕ) → carried 0 room ≡ room
unfolding carried
carried_none room = refl

-- ---- the code's nine bits
module _ (nine at : ℕ) (room : List ℕ) where
  pub placed_none : length room ≤ at → room ≡ placed nine at room
  unfolding placed
  placed_none h = rw (le-ltb at (length room) h)

  pub placed_byte : at < length room → nine < 256 → set room at (nine % 256) ≡ placed nine at room
  unfolding placed
  placed_byte h k = rw (lt-ltb at (length room) h) (go (leb 256 nine) refl)
    where
      go : (b : Bool) → leb 256 nine ≡ b → set room at (nine % 256) ≡ cond b (carried at (set room at (nine % 256))) (set room at (nine % 256))
      go true q = absurd (omega (arith, leb-true 256 nine q))
      go false q = refl

  pub placed_carry : at < length room → 256 ≤ nine → carried at (set room at (nine % 256)) ≡ placed nine at room
  unfolding placed
  placed_carry h k = rw (lt-ltb at (length room) h) (go (leb 256 nine) refl)
    where
      go : (b : Bool) → leb 256 nine ≡ b → carried at (set room at (nine % 256)) ≡ cond b (carried at (set room at (nine % 256))) (set room at (nine % 256))
      go true q = refl
      go false q = absurd (omega (arith, leb-false 256 nine q))

-- ---- bytes of a number
octets_snoc : (q x y : ℕ) → y < 256 → octets (suc q) (x * 256 + y) ≡ octets q x ++ (y ∷ [])
unfolding octets
octets_snoc zero x y h = let e : (x * 256 + y) / 1 % 256 ≡ y = omega arith in ap (λ z. z ∷ []) e
octets_snoc (suc q) x y h =
    let v = x * 256 + y in
    let s : 8 * suc q ≡ 8 + 8 * q = omega arith in
    let a : v / 256 ≡ x = omega arith in
    let b : v / 2 ^ (8 * suc q) ≡ x / 2 ^ (8 * q) = ap (λ z. v / 2 ^ z) s ∙ sym (shr-shr v 8 (8 * q)) ∙ ap (λ z. z / 2 ^ (8 * q)) a in
    ap₂ (λ z l. z % 256 ∷ l) b (octets_snoc q x y h)

-- a byte more, before what stands behind it
octets_more : (q x y : ℕ) (l : List ℕ) → y < 256 → octets q x ++ (y ∷ l) ≡ octets (suc q) (x * 256 + y) ++ l
octets_more q x y l h = sym (append_assoc (octets q x) (y ∷ []) l) ∙ ap (λ z. z ++ l) (sym (octets_snoc q x y h))

seam_read : (q x y : ℕ) (l : List ℕ) → get_or (octets q x ++ (y ∷ l)) q 0 ≡ y
seam_read q x y l = subst (λ (z : ℕ). get_or (octets q x ++ (y ∷ l)) z 0 ≡ y) (octets_length q x) (get_or-append_seam (octets q x) y l 0)

seam_set : (q x y z : ℕ) (l : List ℕ) → set (octets q x ++ (y ∷ l)) q z ≡ octets q x ++ (z ∷ l)
seam_set q x y z l = set_at (octets q x) y l z q (octets_length q x)

-- a carry is one more
carried_is : (n v : ℕ) (l : List ℕ) → carried n (octets n v ++ l) ≡ octets n (v + 1) ++ l
unfolding carried
carried_is zero v l = unfold octets in refl
carried_is (suc k) v l =
    let x = v / 256 in
    let y = v % 256 in
    let e : x * 256 + y ≡ v = omega arith in
    let m : octets k x ++ (y ∷ l) ≡ octets (suc k) v ++ l = octets_more k x y l (omega arith) ∙ ap (λ z. octets (suc k) z ++ l) e in
    subst (λ (r : List ℕ). carried (suc k) r ≡ octets (suc k) (v + 1) ++ l) m (go (ltb y 255) refl (carried_is k x (0 ∷ l)))
  where
    go : (b : Bool) → ltb (v % 256) 255 ≡ b → carried k (octets k (v / 256) ++ (0 ∷ l)) ≡ octets k (v / 256 + 1) ++ (0 ∷ l)
        → carried (suc k) (octets k (v / 256) ++ (v % 256 ∷ l)) ≡ octets (suc k) (v + 1) ++ l
    go true q before =
        let x = v / 256 in
        let y = v % 256 in
        let s = ltb-true y 255 q in
        let e : x * 256 + (y + 1) ≡ v + 1 = omega arith in
        rw (seam_read k x y l) (rw q (seam_set k x y (y + 1) l ∙ octets_more k x (y + 1) l (omega arith) ∙ ap (λ z. octets (suc k) z ++ l) e))
    go false q before =
        let x = v / 256 in
        let y = v % 256 in
        let s = ltb-false y 255 q in
        let e : (x + 1) * 256 + 0 ≡ v + 1 = omega arith in
        rw (seam_read k x y l) (rw q (ap (carried k) (seam_set k x y 0 l) ∙ before ∙ octets_more k (x + 1) 0 l (omega arith) ∙ ap (λ z. octets (suc k) z ++ l) e))

-- nine bits at the place behind the bytes: the number has them behind it
pub placed_is : (nine at v : ℕ) (o : List ℕ) → nine < 512 → at < length o → placed nine at (octets at v ++ drop at o) ≡ octets (at + 1) (v * 256 + nine) ++ drop (at + 1) o
placed_is nine at v o h k = go (ltb nine 256) refl
  where
    room : List ℕ
    room = octets at v ++ drop at o

    inside : at < length room
    inside = simp (length-append, length-drop) (omega (arith, octets_length at v))

    byte : set room at (nine % 256) ≡ octets at v ++ (nine % 256 ∷ drop (suc at) o)
    byte = ap (λ z. set (octets at v ++ z) at (nine % 256)) (drop-cons o at 0 k) ∙ seam_set at v (get_or o at 0) (nine % 256) (drop (suc at) o)

    named : (x : ℕ) → octets (suc at) x ++ drop (suc at) o ≡ octets (at + 1) x ++ drop (at + 1) o
    named x = ap (λ z. octets z x ++ drop z o) (sym (add-one at))

    go : (b : Bool) → ltb nine 256 ≡ b → placed nine at room ≡ octets (at + 1) (v * 256 + nine) ++ drop (at + 1) o
    go true q =
        let s = ltb-true nine 256 q in
        let e : v * 256 + nine % 256 ≡ v * 256 + nine = omega arith in
        sym (placed_byte nine at room inside s) ∙ byte ∙ octets_more at v (nine % 256) (drop (suc at) o) (omega arith)
        ∙ ap (λ z. octets (suc at) z ++ drop (suc at) o) e ∙ named (v * 256 + nine)
    go false q =
        let s = ltb-false nine 256 q in
        let e : (v + 1) * 256 + nine % 256 ≡ v * 256 + nine = omega arith in
        sym (placed_carry nine at room inside s) ∙ ap (carried at) byte ∙ carried_is at v (nine % 256 ∷ drop (suc at) o)
        ∙ octets_more at (v + 1) (nine % 256) (drop (suc at) o) (omega arith) ∙ ap (λ z. octets (suc at) z ++ drop (suc at) o) e ∙ named (v * 256 + nine)
