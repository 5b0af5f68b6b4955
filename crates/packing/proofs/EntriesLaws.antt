-- Which answer an entry point that packs gives, case by case; and request (i) of it, once for every syntax. Assumes nothing.
use Rattle.std.specs.Prelude.{ℕ, zero, suc, ◌+◌, ◌*◌, ◌≤◌, ◌<◌, ◌≡◌, Bool, true, false, List, [], ◌∷◌, ◌++◌, length, take, drop, ltb}
use Rattle.std.proofs.Math.Path.{refl, ap}
use Rattle.std.proofs.Common.{sym, subst, ◌∙◌, arith, take_at, lt-ltb, le-ltb, ltb-true, ltb-false}
use Rattle.bins.specs.Syn.{Syn, Out, run, by_list}
use Rattle.cabac.specs.Numbers.{Answer, accepted, refused}
use Rattle.trees.specs.Every.{Bounds, Each}
use Rattle.packing.specs.Pack.{entries_of, packed, packed_from, payload_of}
use Rattle.packing.proofs.TreeLaws.{Lent}
use Rattle.packing.specs.Packs.{entries_most, ReadsBack}
use Rattle.packing.proofs.PacksLaws.{packs}
use Rattle.packing.specs.Entries.{BinsPacked, not_packed, payload_from, pack_into_by, pack_into, pack_list, pack_tree}

never : {A X : Type 0} (m : ℕ) (a : A) → refused m ≡ accepted a → X
never m a q = let z : ◌≡◌ {A = ℕ} 0 1 = cc in absurd (omega arith)

same_accepted : (m n : ℕ) → accepted m ≡ accepted n → m ≡ n
same_accepted m n q = cc

same_refused : (m n : ℕ) → ◌≡◌ {A = Answer ℕ} (refused m) (refused n) → m ≡ n
same_refused m n q = cc

answer_of_lem : (x y : BinsPacked) → x ≡ y → x.answer ≡ y.answer
answer_of_lem x y q = ap (λ (z : BinsPacked). z.answer) q

-- ---- the room
module _ (contexts bins room : List ℕ) where
  pub into_long : length room < length (payload_from contexts bins) → pack_into contexts bins room ≡ not_packed 12 room
  unfolding pack_into
  into_long h = ap (λ b. pack_into_by b (payload_from contexts bins) room) (lt-ltb _ _ h) ∙ unfold pack_into_by in refl

  pub into_fits : length (payload_from contexts bins) ≤ length room
      → pack_into contexts bins room
      ≡ record { answer = accepted (length (payload_from contexts bins)); room = payload_from contexts bins ++ drop (length (payload_from contexts bins)) room }
  unfolding pack_into
  into_fits h = ap (λ b. pack_into_by b (payload_from contexts bins) room) (le-ltb (length room) (length (payload_from contexts bins)) h) ∙ unfold pack_into_by in refl

-- ---- the list, and the checks before it
module _ {B A : Type 0} (t : Syn B A) (contexts bins room : List ℕ) where
  pub tree_checked : (n m : ℕ) → n ≡ m → (n ≡ 0 → ⊥) → pack_tree m t contexts bins room ≡ not_packed n room
  tree_checked zero m q h = absurd (h refl)
  tree_checked (suc n) m q h = ap (λ k. pack_tree k t contexts bins room) (sym q) ∙ unfold pack_tree in refl

  pub tree_read : (m : ℕ) → 0 ≡ m → pack_tree m t contexts bins room ≡ pack_list contexts bins room (run by_list t bins)
  tree_read m q = ap (λ k. pack_tree k t contexts bins room) (sym q) ∙ unfold pack_tree in refl

module _ (A : Type 0) (contexts bins room : List ℕ) where
  pub list_whole : (a : A) → pack_list contexts bins room (Out.ok a []) ≡ pack_into contexts bins room
  list_whole a = unfold pack_list in refl

  pub list_left : (a : A) (x : ℕ) (l : List ℕ) → pack_list contexts bins room (Out.ok a (x ∷ l)) ≡ not_packed 13 room
  list_left a x l = unfold pack_list in refl

  pub list_no_lem : (n : ℕ) (l : List ℕ) → pack_list {A = A} contexts bins room (Out.no n l) ≡ not_packed 13 room
  list_no_lem n l = unfold pack_list in refl

-- ---- where it accepts
pub record Accepts {B A : Type 0} (m : ℕ) (t : Syn B A) (contexts bins room : List ℕ) (n : ℕ) : Type 0 where
  pub fine : 0 ≡ m
  pub value : A
  pub read : run by_list t bins ≡ Out.ok value []
  pub long : length (payload_from contexts bins) ≡ n
  pub fits : n ≤ length room
  pub is : pack_tree m t contexts bins room ≡ record { answer = accepted n; room = payload_from contexts bins ++ drop n room }

module _ {B A : Type 0} (t : Syn B A) (contexts bins room : List ℕ) (n : ℕ) where
  into_is : (pack_into contexts bins room).answer ≡ accepted n
      → (length (payload_from contexts bins) ≡ n) × (n ≤ length room) × (pack_into contexts bins room ≡ record { answer = accepted n; room = payload_from contexts bins ++ drop n room })
  into_is q = go (ltb (length room) (length (payload_from contexts bins))) refl
    where
      go : (d : Bool) → ltb (length room) (length (payload_from contexts bins)) ≡ d
          → (length (payload_from contexts bins) ≡ n) × (n ≤ length room) × (pack_into contexts bins room ≡ record { answer = accepted n; room = payload_from contexts bins ++ drop n room })
      go true e = never 12 n (sym (answer_of_lem _ _ (into_long contexts bins room (ltb-true _ _ e))) ∙ q)
      go false e =
          let h = ltb-false (length room) (length (payload_from contexts bins)) e in
          let a = into_fits contexts bins room h in
          let k = same_accepted (length (payload_from contexts bins)) n (sym (answer_of_lem _ _ a) ∙ q) in
          (k, omega arith, a ∙ ap (λ z. record { answer = accepted z; room = payload_from contexts bins ++ drop z room }) k)

  accepts_list : (m : ℕ) → 0 ≡ m → (o : Out (List ℕ) A) → run by_list t bins ≡ o → (pack_list contexts bins room o).answer ≡ accepted n → Accepts m t contexts bins room n
  accepts_list m f (Out.ok a []) q r =
      let w = list_whole A contexts bins room a in
      let i = into_is (sym (answer_of_lem _ _ w) ∙ r) in
      record {
        fine = f;
        value = a;
        read = q;
        long = i.0;
        fits = i.1;
        is = tree_read t contexts bins room m f ∙ ap (pack_list contexts bins room) q ∙ w ∙ i.2;
      }
  accepts_list m f (Out.ok a (x ∷ l)) q r = never 13 n (sym (answer_of_lem _ _ (list_left A contexts bins room a x l)) ∙ r)
  accepts_list m f (Out.no k l) q r = never 13 n (sym (answer_of_lem _ _ (list_no_lem A contexts bins room k l)) ∙ r)

  pub accepts_is : (m : ℕ) → (pack_tree m t contexts bins room).answer ≡ accepted n → Accepts m t contexts bins room n
  accepts_is m q = go m refl
    where
      go : (k : ℕ) → k ≡ m → Accepts m t contexts bins room n
      go zero e = accepts_list m e (run by_list t bins) refl (sym (answer_of_lem _ _ (tree_read t contexts bins room m e)) ∙ q)
      go (suc k) e = never (suc k) n (sym (answer_of_lem _ _ (tree_checked t contexts bins room (suc k) m e (λ z. omega arith))) ∙ q)

  -- ---- where it refuses, the room is as it was lent
  left_as : (x : BinsPacked) (m : ℕ) → x ≡ not_packed m room → x.answer ≡ refused n → x ≡ not_packed n room
  left_as x m q e = q ∙ ap (λ z. not_packed z room) (same_refused m n (sym (answer_of_lem _ _ q) ∙ e))

  refuses_into : (pack_into contexts bins room).answer ≡ refused n → pack_into contexts bins room ≡ not_packed n room
  refuses_into q = go (ltb (length room) (length (payload_from contexts bins))) refl
    where
      go : (d : Bool) → ltb (length room) (length (payload_from contexts bins)) ≡ d → pack_into contexts bins room ≡ not_packed n room
      go true e = left_as _ 12 (into_long contexts bins room (ltb-true _ _ e)) q
      go false e = never n (length (payload_from contexts bins)) (sym q ∙ answer_of_lem _ _ (into_fits contexts bins room (ltb-false _ _ e)))

  refuses_list : (o : Out (List ℕ) A) → (pack_list contexts bins room o).answer ≡ refused n → pack_list contexts bins room o ≡ not_packed n room
  refuses_list (Out.ok a []) e = let w = list_whole A contexts bins room a in w ∙ refuses_into (sym (answer_of_lem _ _ w) ∙ e)
  refuses_list (Out.ok a (x ∷ l)) e = left_as _ 13 (list_left A contexts bins room a x l) e
  refuses_list (Out.no k l) e = left_as _ 13 (list_no_lem A contexts bins room k l) e

  pub refuses_is : (m : ℕ) → (pack_tree m t contexts bins room).answer ≡ refused n → pack_tree m t contexts bins room ≡ not_packed n room
  refuses_is m e = go m refl
    where
      go : (k : ℕ) → k ≡ m → pack_tree m t contexts bins room ≡ not_packed n room
      go zero q =
          let r = tree_read t contexts bins room m q in
          r ∙ refuses_list (run by_list t bins) (sym (answer_of_lem _ _ r) ∙ e)
      go (suc k) q = left_as _ (suc k) (tree_checked t contexts bins room (suc k) m q (λ z. omega arith)) e

-- The theorem: whatever is accepted, with the number n, the first n bytes of the room are read back by the syntax as what the list reads as. For any syntax
-- whose contexts are lent ones; few says that its lists make no payload that is too long.
pub tree_read_back : {B A : Type 0} {K : Bounds} {Q : A → ℕ → Type 0} {j : ℕ} {t : Syn B A} → Each K Q j t → Lent K → (m : ℕ) (contexts bins room : List ℕ) (n : ℕ)
    → ((pack_tree m t contexts bins room).answer ≡ accepted n) → ((a : A) → run by_list t bins ≡ Out.ok a [] → length bins ≤ 2 * entries_most + 1)
    → (k : Accepts m t contexts bins room n) × ReadsBack (take n (pack_tree m t contexts bins room).room) t contexts k.value (packed_from contexts bins).contexts
tree_read_back {t = t} u lent m contexts bins room n q few =
    let k = accepts_is t contexts bins room n m q in
    let P = payload_from contexts bins in
    let f : P ≡ take n (pack_tree m t contexts bins room).room = sym (ap (λ (z : BinsPacked). take n z.room) k.is ∙ take_at P (drop n room) n k.long) in (
      k,
      subst (λ (l : List ℕ). ReadsBack l t contexts k.value (packed_from contexts bins).contexts) f
          (packs u lent contexts bins k.value (few k.value k.read) k.read),
    )
