-- What a whole list makes of a room: counted out, and written. Assumes nothing.
use Prim.Native.Nat.{ℕ, zero, suc, ◌+◌, ◌≤◌, ◌<◌}
use Rattle.std.specs.Prelude.{◌≡◌, Bool, cond, get_or, set, drop}
use Rattle.std.proofs.Math.Path.{refl, ap}
use Rattle.std.proofs.Common.{sym, subst, ◌∙◌, add-one, length-set, drop-cons}
use Rattle.std.proofs.Math.Bool.{true, false}
use mathlib.Core.List.{List, [], ◌∷◌, ◌++◌}
use native.Mathlib.Omega.{arith}
use Rattle.std.proofs.Math.ListN.{length}
use Rattle.std.proofs.Math.Seq.{set-append_seam}
use Rattle.std.proofs.Math.Dec.{ltb}
use borrow.Author.Tests.{lt-ltb, le-ltb, ltb-true, ltb-false}
use Rattle.pen.specs.declared.room.Pen.{Pen}
use Rattle.pen.specs.Sheet.{Sheet, sheet, moved, inked, entered_all}

abbrev pub pen_at : ℕ → Bool → Bool → Pen
pen_at at over writing = record { at = at; over = over; writing = writing }

-- ---- counted: the room stays; over tells whether the list is longer than it
module _ (room : List ℕ) where
  counted_one : (x at : ℕ) (over : Bool) → at < length room → inked x (sheet room (pen_at at over false)) ≡ sheet room (pen_at (at + 1) over false)
  unfolding inked
  counted_one x at over h = rw (lt-ltb at (length room) h)

  counted_none : (x at : ℕ) (over : Bool) → length room ≤ at → inked x (sheet room (pen_at at over false)) ≡ sheet room (pen_at at true false)
  unfolding inked
  counted_none x at over h = rw (le-ltb at (length room) h)

  counted_fits : (l : List ℕ) (at : ℕ) (over : Bool) → at + length l ≤ length room → entered_all l (sheet room (pen_at at over false)) ≡ sheet room (pen_at (at + length l) over false)
  unfolding entered_all
  counted_fits [] at over h = let e : at ≡ at + 0 = omega arith in ap (λ n. sheet room (pen_at n over false)) e
  counted_fits (x ∷ l) at over h =
      let e : at + 1 + length l ≡ at + suc (length l) = omega arith in
      ap (entered_all l) (counted_one x at over (omega arith)) ∙ counted_fits l (at + 1) over (omega arith) ∙ ap (λ n. sheet room (pen_at n over false)) e

  counted_out : (l : List ℕ) (at : ℕ) → length room ≤ at → entered_all l (sheet room (pen_at at true false)) ≡ sheet room (pen_at at true false)
  unfolding entered_all
  counted_out [] at h = refl
  counted_out (x ∷ l) at h = ap (entered_all l) (counted_none x at true h) ∙ counted_out l at h

  counted_over : (l : List ℕ) (at : ℕ) (over : Bool) → at ≤ length room → length room < at + length l
      → (n : ℕ) × (entered_all l (sheet room (pen_at at over false)) ≡ sheet room (pen_at n true false))
  unfolding entered_all
  counted_over [] at over h k = absurd (omega arith)
  counted_over (x ∷ l) at over h k = go (ltb at (length room)) refl (λ i j. counted_over l (at + 1) over i j)
    where
      go : (b : Bool) → ltb at (length room) ≡ b
          → (at + 1 ≤ length room → length room < at + 1 + length l → (n : ℕ) × (entered_all l (sheet room (pen_at (at + 1) over false)) ≡ sheet room (pen_at n true false)))
          → (n : ℕ) × (entered_all l (inked x (sheet room (pen_at at over false))) ≡ sheet room (pen_at n true false))
      go true q f =
          let i : at < length room = ltb-true at (length room) q in
          let r = f (omega arith) (omega arith) in
          (r.0, ap (entered_all l) (counted_one x at over i) ∙ r.1)
      go false q f =
          let i : length room ≤ at = ltb-false at (length room) q in
          (at, ap (entered_all l) (counted_none x at over i) ∙ counted_out l at i)

  -- s is what counting left
  module _ (l room' : List ℕ) (pen : Pen) (e : entered_all l (sheet room (pen_at 0 false false)) ≡ sheet room' pen) where
    pub counted_same : room' ≡ room
    counted_same = go (ltb (length room) (length l)) refl
      where
        go : (b : Bool) → ltb (length room) (length l) ≡ b → room' ≡ room
        go true q = let r = counted_over l 0 false (omega arith) (omega (arith, ltb-true (length room) (length l) q)) in ap (λ (z : Sheet). z.room) (sym e ∙ r.1)
        go false q = ap (λ (z : Sheet). z.room) (sym e ∙ counted_fits l 0 false (omega (arith, ltb-false (length room) (length l) q)))

    pub counted_long : pen.over ≡ true → length room < length l
    counted_long o = go (ltb (length room) (length l)) refl
      where
        go : (b : Bool) → ltb (length room) (length l) ≡ b → length room < length l
        go true q = ltb-true (length room) (length l) q
        go false q =
            let f : pen.over ≡ false = ap (λ (z : Sheet). z.pen.over) (sym e ∙ counted_fits l 0 false (omega (arith, ltb-false (length room) (length l) q))) in
            let z : ◌≡◌ {A = ℕ} 0 1 = cc in absurd (omega arith)

    pub counted_short : pen.over ≡ false → length l ≤ length room
    counted_short o = go (ltb (length room) (length l)) refl
      where
        go : (b : Bool) → ltb (length room) (length l) ≡ b → length l ≤ length room
        go true q =
            let r = counted_over l 0 false (omega arith) (omega (arith, ltb-true (length room) (length l) q)) in
            let f : pen.over ≡ true = ap (λ (z : Sheet). z.pen.over) (sym e ∙ r.1) in
            let z : ◌≡◌ {A = ℕ} 0 1 = cc in absurd (omega arith)
        go false q = ltb-false (length room) (length l) q

-- ---- written: the list stands in front of what was there behind it
written_one : (room : List ℕ) (x at : ℕ) (over : Bool) → at < length room → inked x (sheet room (pen_at at over true)) ≡ sheet (set room at x) (pen_at (at + 1) over true)
unfolding inked
written_one room x at over h = rw (lt-ltb at (length room) h)

snoc_more : (front : List ℕ) (x : ℕ) (r : List ℕ) → (front ++ (x ∷ [])) ++ r ≡ front ++ (x ∷ r)
snoc_more [] x r = refl
snoc_more (y ∷ front) x r = ap (λ (l : List ℕ). y ∷ l) (snoc_more front x r)

snoc_long : (front : List ℕ) (x : ℕ) → length (front ++ (x ∷ [])) ≡ length front + 1
snoc_long [] x = refl
snoc_long (y ∷ front) x = omega (arith, snoc_long front x)

written_from : (l front back : List ℕ) (over : Bool) → length l ≤ length back
    → entered_all l (sheet (front ++ back) (pen_at (length front) over true)) ≡ sheet (front ++ (l ++ drop (length l) back)) (pen_at (length front + length l) over true)
unfolding entered_all
written_from [] front back over h = let e : length front ≡ length front + 0 = omega arith in ap (λ n. sheet (front ++ back) (pen_at n over true)) e
written_from (x ∷ l) front [] over h = absurd (omega arith)
written_from (x ∷ l) front (y ∷ back) over h =
    let inside : length front < length (front ++ (y ∷ back)) = longer front in
    let s : set (front ++ (y ∷ back)) (length front) x ≡ (front ++ (x ∷ [])) ++ back = set-append_seam front y back x ∙ sym (snoc_more front x back) in
    let e : length front + 1 ≡ length (front ++ (x ∷ [])) = sym (snoc_long front x) in
    let n : length (front ++ (x ∷ [])) + length l ≡ length front + suc (length l) = omega (arith, snoc_long front x) in
    ap (entered_all l) (written_one (front ++ (y ∷ back)) x (length front) over inside)
    ∙ ap (λ (z : List ℕ). entered_all l (sheet z (pen_at (length front + 1) over true))) s
    ∙ ap (λ n. entered_all l (sheet ((front ++ (x ∷ [])) ++ back) (pen_at n over true))) e
    ∙ written_from l (front ++ (x ∷ [])) back over (omega arith)
    ∙ ap (λ (z : List ℕ). sheet z (pen_at (length (front ++ (x ∷ [])) + length l) over true)) (snoc_more front x (l ++ drop (length l) back))
    ∙ ap (λ n. sheet (front ++ (x ∷ (l ++ drop (length l) back))) (pen_at n over true)) n
  where
    longer : (f : List ℕ) → length f < length (f ++ (y ∷ back))
    longer [] = omega arith
    longer (z ∷ f) = omega (arith, longer f)

pub written_all : (l room : List ℕ) → length l ≤ length room
    → entered_all l (sheet room (pen_at 0 false true)) ≡ sheet (l ++ drop (length l) room) (pen_at (length l) false true)
written_all l room h =
    let e : 0 + length l ≡ length l = omega arith in
    written_from l [] room false h ∙ ap (λ n. sheet (l ++ drop (length l) room) (pen_at n false true)) e
