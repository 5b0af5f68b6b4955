-- Laws of fields: what the code has of each at its places in the line. Assumes nothing.
use Rattle.std.specs.Prelude.{ℕ, zero, suc, ◌+◌, ◌-◌, ◌≤◌, ◌<◌, min, ◌≡◌, refl, Bool, true, false, List, [], leb, length, take, drop}
use Rattle.std.proofs.Math.Nat.{min-eq_left, min-eq_right}
use Rattle.std.proofs.Common.{arith, sym, ap, ◌∙◌, length-take, drop_of_length-le, take_all, drop-drop, take-add, drop_at, length-take-le, leb-true, leb-false}
use Rattle.std.proofs.Math.Seq.{take-length, drop-length}
use Rattle.octet_scan.specs.Octets.{index_of, slice}
use Rattle.text_fields.specs.Fields.{from_field, before_space, field_of}

-- ---- a space from a place on
pub space_from : (s : List ℕ) (from r : ℕ) → r ≡ from + index_of 32 (slice from (length s) s) → r ≡ from + index_of 32 (drop from s)
unfolding slice
space_from s from r e = e ∙ ap (λ (l : List ℕ). from + index_of 32 (drop from l)) (take-length s)

none_left : (k : ℕ) → from_field [] k ≡ []
unfolding from_field
none_left zero = refl
none_left (suc k) = none_left k

-- one field less to go: behind the space
pub field_next : (s : List ℕ) (from left r m : ℕ) → r ≡ from + index_of 32 (slice from (length s) s) → left ≡ suc m
    → from_field (drop (r + 1) s) m ≡ from_field (drop from s) left
unfolding from_field
field_next s from left r m e q =
    let p : r + 1 ≡ from + suc (index_of 32 (drop from s)) = let h = space_from s from r e in omega arith in
    ap (λ (n : ℕ). from_field (drop n s) m) p
    ∙ ap (λ (l : List ℕ). from_field l m) (sym (drop-drop (suc (index_of 32 (drop from s))) from s))
    ∙ ap (λ (n : ℕ). from_field (drop from s) n) (sym q)

-- no space is left: neither is a field
pub field_ended : (s : List ℕ) (from left r : ℕ) → r ≡ from + index_of 32 (slice from (length s) s) → 0 < left → length s ≤ r
    → drop (length s) s ≡ from_field (drop from s) left
field_ended s from left r e h k =
    let q : left ≡ suc (left - 1) = omega arith in
    let g : length s ≤ r + 1 = omega arith in
    drop-length s ∙ sym (none_left (left - 1))
    ∙ ap (λ (l : List ℕ). from_field l (left - 1)) (sym (drop_of_length-le s g))
    ∙ field_next s from left r (left - 1) e q

-- none to go: it begins here
pub field_here : (s : List ℕ) (from left : ℕ) → left ≤ 0 → drop from s ≡ from_field (drop from s) left
unfolding from_field
field_here s from left h = let q : left ≡ 0 = omega arith in rw q

-- the part up to the next space
pub field_part : (s : List ℕ) (k from r : ℕ) → drop from s ≡ from_field s k → r ≡ from + index_of 32 (slice from (length s) s)
    → take (r - from) (drop from s) ≡ field_of s k
unfolding field_of
field_part s k from r h e =
    let p : r - from ≡ index_of 32 (drop from s) = let g = space_from s from r e in omega arith in
    ap (λ (n : ℕ). take n (drop from s)) p ∙ ap before_space h

-- ---- the part between two places, as far as the list goes
drop_take : (l : List ℕ) (a e : ℕ) → a ≤ e → e ≤ length l → take (e - a) (drop a l) ≡ drop a (take e l)
drop_take l a e h k =
    let q : a + (e - a) ≡ e = omega arith in
    sym (drop_at (take a l) (take (e - a) (drop a l)) a (length-take-le a l (omega arith)))
    ∙ ap (λ (m : List ℕ). drop a m) (sym (take-add a (e - a) l))
    ∙ ap (λ (n : ℕ). drop a (take n l)) q

take_clipped : (l : List ℕ) (to : ℕ) → take (min to (length l)) l ≡ take to l
take_clipped l to = go (leb to (length l)) refl
  where
    go : (b : Bool) → leb to (length l) ≡ b → take (min to (length l)) l ≡ take to l
    go true q = ap (λ (n : ℕ). take n l) (min-eq_left (leb-true to (length l) q))
    go false q =
        let h = leb-false to (length l) q in
        let g : length l ≤ to = omega arith in
        ap (λ (n : ℕ). take n l) (min-eq_right g) ∙ take-length l ∙ sym (take_all to l (omega arith))

drop_clipped : (l : List ℕ) (from : ℕ) → drop (min from (length l)) l ≡ drop from l
drop_clipped l from = go (leb from (length l)) refl
  where
    go : (b : Bool) → leb from (length l) ≡ b → drop (min from (length l)) l ≡ drop from l
    go true q = ap (λ (n : ℕ). drop n l) (min-eq_left (leb-true from (length l) q))
    go false q =
        let h = leb-false from (length l) q in
        let g : length l ≤ from = omega arith in
        ap (λ (n : ℕ). drop n l) (min-eq_right g) ∙ drop-length l ∙ sym (drop_of_length-le l g)

pub part_is : (l : List ℕ) (from to a e : ℕ) → e ≡ min to (length l) → a ≡ min from e → take (e - a) (drop a l) ≡ slice from to l
unfolding slice
part_is l from to a e he ha =
    let n : e ≡ length (take to l) = he ∙ sym (length-take to l) in
    drop_take l a e (omega arith) (omega arith)
    ∙ ap (λ (k : ℕ). drop a (take k l)) he
    ∙ ap (λ (m : List ℕ). drop a m) (take_clipped l to)
    ∙ ap (λ (k : ℕ). drop k (take to l)) (ha ∙ ap (λ (k : ℕ). min from k) n)
    ∙ drop_clipped (take to l) from
