-- A list read by the place of its next byte is the list read from its front. Assumes nothing.
use Rattle.std.specs.Prelude.{ℕ, suc, ◌+◌, ◌≤◌, ◌<◌, ◌≡◌, refl, Bool, true, cond, List, [], ◌∷◌, length, get_or, set, drop, ltb}
use Rattle.std.proofs.Common.{sym, ap, ◌∙◌, arith, add-one, length-drop, drop-cons, ltb-true, ltb-false}
use Rattle.std.proofs.Math.Bool.{false}
use Rattle.bins.specs.declared.state.Interval.{Interval}
use Rattle.bins.specs.Tags.{tag, bypass_no, align_tag, is_entry}
use Rattle.bins.specs.Interval.{place_of}
use Rattle.bins.specs.Syn.{Syn, Took, took, refused, Source, Out, run, pick_bin, bin_of, list_bin, list_align, by_list}
use Rattle.bins.specs.Sources.{Cursor, cursor, with_contexts, behind, entry_bin, entry_align, by_code, bin_from, context_from, bypass_from, align_from}
use Rattle.bins.specs.Laws.{Follows, Any, keeps_any, map_took, map_out, run_follows}

-- what is left of the list
abbrev pub left : List ℕ → Cursor → List ℕ
left l r = drop (place_of r.interval) l

pick_map : (l : List ℕ) (x : Interval) (cs : List ℕ) (u v : Bool)
    → pick_bin u v (refused 13) (λ b. took b (drop (place_of x + 2) l))
    ≡ map_took (left l) (with_contexts cs (pick_bin u v (refused 13) (λ b. took b (behind x))))
unfolding pick_bin
pick_map l x cs true v = refl
pick_map l x cs false true = refl
pick_map l x cs false false = refl

next_left : (l : List ℕ) (p : ℕ) → p < length l → drop p l ≡ get_or l p 0 ∷ drop (p + 1) l
next_left l p h = rw (add-one p) (drop-cons l p 0 h)

-- an entry is left
entry_left : (l : List ℕ) (p : ℕ) → p + 1 < length l → drop p l ≡ get_or l p 0 ∷ get_or l (p + 1) 0 ∷ drop (p + 2) l
entry_left l p h =
    let e : p + 1 + 1 ≡ p + 2 = omega arith in
    next_left l p (omega arith) ∙ ap (λ m. get_or l p 0 ∷ m) (next_left l (p + 1) h ∙ ap (λ k. get_or l (p + 1) 0 ∷ drop k l) e)

-- less than one is left
few_left : (l : List ℕ) (p : ℕ) → length l ≤ p + 1 → length (drop p l) ≤ 1
few_left l p h = rw (length-drop p l) (omega arith)

few_bin : (c : ℕ) (l : List ℕ) → length l ≤ 1 → list_bin c l ≡ refused 13
unfolding list_bin
few_bin c [] h = refl
few_bin c (x ∷ []) h = refl
few_bin c (x ∷ y ∷ l) h = absurd (omega arith)

few_align : (l : List ℕ) → length l ≤ 1 → list_align l ≡ refused 13
unfolding list_align
few_align [] h = refl
few_align (x ∷ []) h = refl
few_align (x ∷ y ∷ l) h = absurd (omega arith)

bin_left : (l : List ℕ) (c : ℕ) (x : Interval) (cs : List ℕ) → list_bin c (drop (place_of x) l) ≡ map_took (left l) (with_contexts cs (entry_bin l c x))
unfolding entry_bin
bin_left l c x cs = go (ltb (place_of x + 1) (length l)) refl
  where
    go : (b : Bool) → ltb (place_of x + 1) (length l) ≡ b
        → list_bin c (drop (place_of x) l) ≡ map_took (left l) (with_contexts cs (cond b (bin_of c (get_or l (place_of x) 0) (get_or l (place_of x + 1) 0) (refused 13) (λ b. took b (behind x))) (refused 13)))
    go true q =
        ap (list_bin c) (entry_left l (place_of x) (ltb-true _ _ q))
        ∙ unfold list_bin bin_of in pick_map l x cs (is_entry (get_or l (place_of x) 0) (get_or l (place_of x + 1) 0) (tag c false)) (is_entry (get_or l (place_of x) 0) (get_or l (place_of x + 1) 0) (tag c true))
    go false q = few_bin c (drop (place_of x) l) (few_left l (place_of x) (ltb-false _ _ q))

align_left_lem : (l : List ℕ) (x : Interval) (cs : List ℕ) → list_align (drop (place_of x) l) ≡ map_took (left l) (with_contexts cs (entry_align l x))
unfolding entry_align
align_left_lem l x cs = go (ltb (place_of x + 1) (length l)) refl
  where
    one : (u : Bool) → cond u (took false (drop (place_of x + 2) l)) (refused 13) ≡ map_took (left l) (with_contexts cs (cond u (took false (behind x)) (refused 13)))
    one true = refl
    one false = refl

    go : (b : Bool) → ltb (place_of x + 1) (length l) ≡ b
        → list_align (drop (place_of x) l) ≡ map_took (left l) (with_contexts cs (cond b (cond (is_entry (get_or l (place_of x) 0) (get_or l (place_of x + 1) 0) align_tag) (took false (behind x)) (refused 13)) (refused 13)))
    go true q = ap list_align (entry_left l (place_of x) (ltb-true _ _ q)) ∙ unfold list_align in one (is_entry (get_or l (place_of x) 0) (get_or l (place_of x + 1) 0) align_tag)
    go false q = few_align (drop (place_of x) l) (few_left l (place_of x) (ltb-false _ _ q))

list_follows : (l : List ℕ) → Follows (by_code true l) by_list (left l) Any
unfolding by_code by_list bin_from context_from bypass_from align_from
list_follows l =
    record {
      keeps = keeps_any (by_code true l);
      at_bin = λ c s p. bin_left l c s.interval (set s.contexts c (get_or s.contexts c 0));
      at_bypass = λ s p. bin_left l bypass_no s.interval s.contexts;
      at_align = λ s p. align_left_lem l s.interval s.contexts;
    }

-- a tree read from what is left of a list is the tree read by the code's source
pub run_listed : {B A : Type 0} (l : List ℕ) (t : Syn B A) (x : Interval) (cs : List ℕ)
    → run by_list t (drop (place_of x) l) ≡ map_out (left l) (run (by_code true l) t (cursor x cs))
run_listed l t x cs = run_follows (by_code true l) by_list (left l) Any (list_follows l) t (cursor x cs) tt
