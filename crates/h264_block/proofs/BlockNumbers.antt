-- Which numbers the entry points give: 7, 10 and 11 never. Readings of the block's bounds. Assumes nothing.
use Rattle.std.specs.Prelude.{ℕ, zero, suc, ◌≡◌, Bool, true, false, cond, List, [], ◌∷◌, ℤ, ltb, length}
use Rattle.std.proofs.Math.Path.{refl, ap}
use Rattle.std.proofs.Common.{sym, subst, ◌∙◌, arith}
use Rattle.bins.specs.declared.state.Engine.{Engine}
use Rattle.bins.specs.Syn.{Out, Reading, Written, run, by_engine, by_list, write}
use Rattle.cabac.specs.Numbers.{Answer, refused, ◌or_else◌, payload_refusal, state_refusal, ended_refusal}
use Rattle.trees.specs.Levels.{all_zero, too_far}
use Rattle.trees.specs.Lent.{contexts_refusal, room_refusal}
use Rattle.trees.specs.Among.{among, differ, same, Gives, gives_cond, gives_or, gives_payload, gives_state, gives_contexts, gives_ended, given}
use Rattle.trees.specs.Reached.{Why, each_refused, each_list_refused, each_unwritten}
use Rattle.h264_block.specs.Block.{block}
use Rattle.h264_block.specs.Refusal.{write_refusal}
use Rattle.h264_block.specs.Entries.{block_refusal, FoundAt, read_by_engine, read_payload_by, read_payload, read_from_list, read_bins_by, read_bins, wanted_from, write_list_by, write_list, write_bins_by, write_bins}
use Rattle.h264_block.proofs.BlockBounds.{block_bounds, block_each}

-- the numbers of each, in their order
abbrev pub reader_numbers : List ℕ
reader_numbers = 1 ∷ 2 ∷ 4 ∷ 3 ∷ 6 ∷ 8 ∷ []

abbrev pub bin_reader_numbers : List ℕ
bin_reader_numbers = 4 ∷ 8 ∷ 13 ∷ []

abbrev pub writer_numbers : List ℕ
writer_numbers = 4 ∷ 9 ∷ 8 ∷ 12 ∷ []

-- a number is among some where it is one of them
one_of : (ms : List ℕ) (m n : ℕ) → m ≡ n → among ms m ≡ true → among ms n ≡ true
one_of ms m n q h = subst (λ (z : ℕ). among ms z ≡ true) q h

by_engine_lem : (ms : List ℕ) → among ms 8 ≡ true → (l contexts : List ℕ) (lent : List ℤ) (r : Reading) (o : Out Reading (List ℤ)) → run (by_engine l) block r ≡ o → (n : ℕ)
    → (read_by_engine contexts lent o).answer ≡ refused n → among ms n ≡ true
unfolding read_by_engine
by_engine_lem ms h l contexts lent r (Out.ok z s) q n e = differ e
by_engine_lem ms h l contexts lent r (Out.no k s) q n e = let w = each_refused l (block_each {n = 0}) r k s q in one_of ms 8 n (sym (stops k w.0 w.1) ∙ same k n e) h
  where
    stops : (k m : ℕ) → Why block_bounds (λ r. ⊥) (λ r. r ≡ 7) k m → k ≡ 8
    stops k m (Why.stopped x) = x
    stops k m (Why.missed x) = absurd x
    stops k m (Why.unaligned x y) = absurd x

by_list_lem : (ms : List ℕ) → among ms 8 ≡ true → among ms 13 ≡ true → (l : List ℕ) (lent : List ℤ) (o : Out (List ℕ) (List ℤ)) → run by_list block l ≡ o → (n : ℕ)
    → (read_from_list lent o).answer ≡ refused n → among ms n ≡ true
unfolding read_from_list
by_list_lem ms h k l lent (Out.ok z []) q n e = differ e
by_list_lem ms h k l lent (Out.ok z (x ∷ s)) q n e = one_of ms 13 n (same 13 n e) k
by_list_lem ms h k l lent (Out.no j s) q n e = let w = each_list_refused (block_each {n = 0}) l j s q in one_of ms j n (same j n e) (stops j w.0 w.2)
  where
    stops : (j m : ℕ) → Why block_bounds (λ r. r ≡ 13) (λ r. r ≡ 13) j m → among ms j ≡ true
    stops j m (Why.stopped x) = one_of ms 8 j (sym x) h
    stops j m (Why.missed x) = one_of ms 13 j (sym x) k
    stops j m (Why.unaligned x y) = absurd x

gives_block : (ms : List ℕ) → among ms 4 ≡ true → (lent : List ℤ) → Gives ms (block_refusal lent)
unfolding block_refusal
gives_block ms h lent = gives_cond ms (ltb (length lent) 16) 4 0 h refl

abbrev checked : List ℕ → Engine → List ℕ → List ℤ → ℕ
checked l e contexts lent = payload_refusal l or_else block_refusal lent or_else state_refusal l e or_else contexts_refusal contexts or_else ended_refusal e

pub payload_numbers : (l : List ℕ) (e : Engine) (contexts : List ℕ) (lent : List ℤ) (n : ℕ) → (read_payload l e contexts lent).answer ≡ refused n
    → among reader_numbers n ≡ true
payload_numbers l e contexts lent n q = go (checked l e contexts lent) refl
  where
    ms : List ℕ
    ms = reader_numbers

    checks : Gives ms (checked l e contexts lent)
    checks =
        gives_or ms (payload_refusal l) _ (gives_payload ms refl refl l) (gives_or ms (block_refusal lent) _ (gives_block ms refl lent)
        (gives_or ms (state_refusal l e) _ (gives_state ms refl l e) (gives_or ms (contexts_refusal contexts) _ (gives_contexts ms refl contexts) (gives_ended ms refl e))))

    go : (k : ℕ) → checked l e contexts lent ≡ k → among ms n ≡ true
    go zero z =
        let r : Reading = record { engine = e; contexts = contexts } in
        by_engine_lem ms refl l contexts lent r (run (by_engine l) block r) refl n
        (unfold read_payload read_payload_by in ap (λ (i : ℕ). (read_payload_by i l e contexts lent).answer) (sym z) ∙ q)
    go (suc k) z =
        given ms {A = FoundAt} k n (subst (Gives ms) z checks)
        (unfold read_payload read_payload_by in ap (λ (i : ℕ). (read_payload_by i l e contexts lent).answer) (sym z) ∙ q)

pub bins_numbers : (l : List ℕ) (lent : List ℤ) (n : ℕ) → (read_bins l lent).answer ≡ refused n → among bin_reader_numbers n ≡ true
bins_numbers l lent n q = go (block_refusal lent) refl
  where
    ms : List ℕ
    ms = bin_reader_numbers

    go : (k : ℕ) → block_refusal lent ≡ k → among ms n ≡ true
    go zero z =
        by_list_lem ms refl refl l lent (run by_list block l) refl n
        (unfold read_bins read_bins_by in ap (λ (i : ℕ). (read_bins_by i l lent).answer) (sym z) ∙ q)
    go (suc k) z =
        given ms {A = ℕ} k n (subst (Gives ms) z (gives_block ms refl lent))
        (unfold read_bins read_bins_by in ap (λ (i : ℕ). (read_bins_by i l lent).answer) (sym z) ∙ q)

-- ---- the writer
gives_refusal : (ms : List ℕ) → among ms 9 ≡ true → among ms 8 ≡ true → (w : List ℤ) → Gives ms (write_refusal w)
unfolding write_refusal
gives_refusal ms h k w = gives_cond ms (all_zero w) 9 _ h (gives_cond ms (too_far 15 w) 8 0 k refl)

by_room : (ms : List ℕ) → among ms 12 ≡ true → among ms 8 ≡ true → (w : List ℤ) (room : List ℕ) (o : Written (List ℤ)) → write block w ≡ o → (n : ℕ)
    → (write_list room o).answer ≡ refused n → among ms n ≡ true
unfolding write_list room_refusal write_list_by
by_room ms h k w room (Written.ok a l) q n e = go (ltb (length room) (length l)) e
  where
    go : (d : Bool) → (write_list_by (cond d 12 0) l room).answer ≡ refused n → among ms n ≡ true
    go true e = one_of ms 12 n (same 12 n e) h
    go false e = differ e
by_room ms h k w room (Written.no j) q n e = let x = each_unwritten (block_each {n = 0}) w j q in one_of ms 8 n (sym x.1 ∙ same j n e) k

pub writer_numbers_lem : (lent : List ℤ) (room : List ℕ) (n : ℕ) → (write_bins lent room).answer ≡ refused n → among writer_numbers n ≡ true
writer_numbers_lem lent room n q = go (block_refusal lent or_else write_refusal (wanted_from lent)) refl
  where
    ms : List ℕ
    ms = writer_numbers

    go : (k : ℕ) → (block_refusal lent or_else write_refusal (wanted_from lent)) ≡ k → among ms n ≡ true
    go zero z =
        by_room ms refl refl (wanted_from lent) room (write block (wanted_from lent)) refl n
        (unfold write_bins write_bins_by in ap (λ (i : ℕ). (write_bins_by i (wanted_from lent) room).answer) (sym z) ∙ q)
    go (suc k) z =
        given ms {A = ℕ} k n (subst (Gives ms) z (gives_or ms (block_refusal lent) _ (gives_block ms refl lent) (gives_refusal ms refl refl (wanted_from lent))))
        (unfold write_bins write_bins_by in ap (λ (i : ℕ). (write_bins_by i (wanted_from lent) room).answer) (sym z) ∙ q)

-- ---- no entry point of this syntax gives 7, 10 or 11
never : (ms : List ℕ) (n m : ℕ) → among ms n ≡ true → among ms m ≡ false → n ≡ m → ⊥
never ms n m h k q = let z : ◌≡◌ {A = ℕ} 0 1 = let t : true ≡ false = sym (subst (λ (i : ℕ). among ms i ≡ true) q h) ∙ k in cc in omega arith

abbrev pub Never : ℕ → Type 0
Never n = (n ≡ 7 → ⊥) × (n ≡ 10 → ⊥) × (n ≡ 11 → ⊥)

pub payload_never : (l : List ℕ) (e : Engine) (contexts : List ℕ) (lent : List ℤ) (n : ℕ) → (read_payload l e contexts lent).answer ≡ refused n → Never n
payload_never l e contexts lent n q = let h = payload_numbers l e contexts lent n q in (never reader_numbers n 7 h refl, never reader_numbers n 10 h refl, never reader_numbers n 11 h refl)

pub bins_never : (l : List ℕ) (lent : List ℤ) (n : ℕ) → (read_bins l lent).answer ≡ refused n → Never n
bins_never l lent n q = let h = bins_numbers l lent n q in (never bin_reader_numbers n 7 h refl, never bin_reader_numbers n 10 h refl, never bin_reader_numbers n 11 h refl)

pub writer_never : (lent : List ℤ) (room : List ℕ) (n : ℕ) → (write_bins lent room).answer ≡ refused n → Never n
writer_never lent room n q = let h = writer_numbers_lem lent room n q in (never writer_numbers n 7 h refl, never writer_numbers n 10 h refl, never writer_numbers n 11 h refl)
