-- Demand 3 for H.264's block: the writer writes the one list that reads as the levels it is handed. "Apart from lack of room it refuses exactly when no
-- bin list of any length reads as those. It reports no room exactly when such a list exists and none fits the lent room." And the way round. Assumes nothing.
use Rattle.std.specs.Prelude.{ℕ, zero, suc, ◌≤◌, ◌<◌, ◌≡◌, refl, List, [], ◌++◌, Bool, true, false, ltb, ℤ, length, take, drop}
use Rattle.std.proofs.Common.{sym, ap, ◌∙◌, append-nil, arith, length-append, take_at, length-take-le, ltb-true, ltb-false}
use Rattle.bins.specs.Syn.{Out, Written, run, by_list, write}
use Rattle.bins.specs.WriteLaws.{written_read}
use Rattle.cabac.specs.Numbers.{Answer}
use Rattle.trees.specs.Levels.{greatest_of}
use Rattle.trees.specs.Outcome.{Exactly, Outcome, fits, over, none, number_ok, exactly}
use Rattle.h264_block.specs.Block.{block}
use Rattle.h264_block.specs.Refusal.{write_refusal}
use Rattle.h264_block.specs.Entries.{block_refusal, block_with, BinsRead, read_bins, wanted_from, BinsWritten, write_bins}
use Rattle.h264_block.specs.Writable.{ReadsAs}
use Rattle.h264_block.proofs.BlockLaws.{block_writes, block_exact, refusal_none, none_refusal, refusal_below}
use Rattle.h264_block.specs.EntryLaws.{block_passed, block_passes, writes_refused, writes_fits, writes_over, writes_passed, reads_whole, reads_passed}

module _ (w : List ℤ) where
  -- (A) what is not refused is written, as a list that reads as w
  pub written : length w ≡ 16 → write_refusal w ≡ 0 → (l : List ℕ) × ReadsAs l w × (write block w ≡ Written.ok w l)
  written long e =
      let s = block_writes w (refusal_none w long e) in
      let q : write block w ≡ Written.ok w s.bins = s.wrote ∙ ap (λ z. Written.ok z s.bins) s.holds in
      (s.bins, ap (run by_list block) (sym (append-nil s.bins)) ∙ written_read block w w s.bins [] q, q)

  -- (B) a list that reads as w is the one written, and w is not refused
  pub read : (l : List ℕ) → ReadsAs l w → (write_refusal w ≡ 0) × (write block w ≡ Written.ok w l)
  read l r =
      let u = (block_exact w).reads l w [] r in
      let s = (block_exact w).spells l w [] r refl in
      (none_refusal w (u.1 refl), s.wrote ∙ ap (Written.ok w) (sym (s.split ∙ append-nil s.bins)))

  pub read_long : (l : List ℕ) → ReadsAs l w → length w ≡ 16
  read_long l r = ((block_exact w).reads l w [] r).0

  -- what is refused, no list reads as
  pub refused : (write_refusal w ≡ 0 → ⊥) → (l : List ℕ) → ReadsAs l w → ⊥
  refused n l r = n (read l r).0

  -- there is one list only
  pub only : (l m : List ℕ) → ReadsAs l w → ReadsAs m w → l ≡ m
  only l m r s =
      let u = (read l r).1 in
      let v = (read m s).1 in
      cc

-- ---- the number that the writer gives back, where 4 does not apply to what it is handed
module _ (lent : List ℤ) (room : List ℕ) (not-4 : 0 ≡ block_refusal lent) where
  outcome : Outcome (λ l. ReadsAs l (wanted_from lent)) (length room) (write_bins lent room).answer
  outcome = by (write_refusal (wanted_from lent)) refl
    where
      listed : (l : List ℕ) → ReadsAs l (wanted_from lent) → (d : Bool) → ltb (length room) (length l) ≡ d
          → Outcome (λ l. ReadsAs l (wanted_from lent)) (length room) (write_bins lent room).answer
      listed l r true q =
          let x = read (wanted_from lent) l r in
          let k = ltb-true (length room) (length l) q in
          over l r k (ap (λ (b : BinsWritten). b.answer) (writes_over lent room not-4 x.0 (wanted_from lent) l x.1 k))
      listed l r false q =
          let x = read (wanted_from lent) l r in
          let k = ltb-false (length room) (length l) q in
          fits l r k (ap (λ (b : BinsWritten). b.answer) (writes_fits lent room not-4 x.0 (wanted_from lent) l x.1 k))

      by : (n : ℕ) → write_refusal (wanted_from lent) ≡ n → Outcome (λ l. ReadsAs l (wanted_from lent)) (length room) (write_bins lent room).answer
      by zero e =
          let s = written (wanted_from lent) (length-take-le 16 lent (block_passed lent not-4)) e in
          listed s.0 s.1 (ltb (length room) (length s.0)) refl
      by (suc n) e =
          none (suc n) (λ q. omega (arith, refusal_below (wanted_from lent))) (refused (wanted_from lent) (λ z. omega arith))
          (ap (λ (b : BinsWritten). b.answer) (writes_refused lent room not-4 n e))

-- ---- the way round
-- what the writer accepts stands at the front of the room and reads as the block; the room beyond it is untouched
pub record Wrote (lent : List ℤ) (room : List ℕ) (n : ℕ) : Type 0 where
  pub list : List ℕ
  pub reads : ReadsAs list (wanted_from lent)
  pub long : length list ≡ n
  pub leaves : write_bins lent room ≡ record { answer = Answer.accepted n; room = list ++ drop n room }

module _ (lent : List ℤ) (room : List ℕ) (n : ℕ) (ok : (write_bins lent room).answer ≡ Answer.accepted n) where
  pub wrote : Wrote lent room n
  wrote =
      let h = (writes_passed lent room n ok).0 in
      let x = (number_ok (λ l. ReadsAs l (wanted_from lent)) (length room) (write_bins lent room).answer (only (wanted_from lent)) (outcome lent room h) n).0 ok in
      let y = read (wanted_from lent) x.0 x.1 in
      let e = writes_fits lent room h y.0 (wanted_from lent) x.0 y.1 (omega (arith, x.2, x.3)) in
      record { list = x.0; reads = x.1; long = x.2; leaves = e ∙ ap (λ (k : ℕ). at x.0 k) x.2 }
    where
      at : List ℕ → ℕ → BinsWritten
      at l k = record { answer = Answer.accepted k; room = l ++ drop k room }

  -- and the reader accepts that list: the same 16 places, in any block lent that has room for them
  pub write_read : (other : List ℤ) → 16 ≤ length other
      → read_bins (take n (write_bins lent room).room) other
      ≡ record { answer = Answer.accepted (greatest_of (wanted_from lent)); block = block_with (wanted_from lent) other }
  write_read other k =
      let u = wrote in
      let l : take n (write_bins lent room).room ≡ u.list =
      ap (λ (b : BinsWritten). take n b.room) u.leaves ∙ take_at u.list (drop n room) n u.long in
      ap (λ (z : List ℕ). read_bins z other) l ∙ reads_whole u.list other (block_passes other k) (wanted_from lent) u.reads

-- demand 3: the writer's answer, and the room that it leaves
pub block_exactly : (lent : List ℤ) (room : List ℕ) → Exactly (0 ≡ block_refusal lent) (λ l. ReadsAs l (wanted_from lent)) room (write_bins lent room).answer (write_bins lent room).room
block_exactly lent room = exactly (λ h. only (wanted_from lent)) (outcome lent room) stands
  where
    stands : (n : ℕ) → (write_bins lent room).answer ≡ Answer.accepted n → (l : List ℕ) → ReadsAs l (wanted_from lent) → (write_bins lent room).room ≡ l ++ drop n room
    stands n q l r =
        let u = wrote lent room n q in
        ap (λ (b : BinsWritten). b.room) u.leaves ∙ ap (λ (m : List ℕ). m ++ drop n room) (only (wanted_from lent) u.list l u.reads r)

-- what the reader accepts, the writer writes again, entry for entry
module _ (l : List ℕ) (lent : List ℤ) (g : ℕ) (ok : (read_bins l lent).answer ≡ Answer.accepted g) where
  pub read_write : (room : List ℕ) → length l ≤ length room
      → write_bins (read_bins l lent).block room ≡ record { answer = Answer.accepted (length l); room = l ++ drop (length l) room }
  read_write room k =
      let x = reads_passed l lent g ok in
      let long = read_long x.read l x.whole in
      let b : (read_bins l lent).block ≡ block_with x.read lent = ap (λ (b : BinsRead). b.block) (reads_whole l lent x.handed x.read x.whole) in
      let w : wanted_from (block_with x.read lent) ≡ x.read = take_at x.read (drop 16 lent) 16 long in
      let y = read x.read l x.whole in
      let room16 : 16 ≤ length (block_with x.read lent) = omega (arith, long, length-append x.read (drop 16 lent)) in
      ap (λ z. write_bins z room) b
      ∙ writes_fits (block_with x.read lent) room (block_passes (block_with x.read lent) room16)
      (ap write_refusal w ∙ y.0) x.read l (ap (write block) w ∙ y.1) k
