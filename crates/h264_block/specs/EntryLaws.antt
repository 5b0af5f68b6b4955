-- The answers of the bin writer and the bin reader, each where its checks are known to pass or not. Assumes nothing.
use Prim.Native.Nat.{ℕ, zero, suc, ◌≤◌, ◌<◌}
use Rattle.std.specs.Prelude.{◌≡◌, Bool, true, false, cond, List, [], ◌∷◌, ◌++◌, ltb, ℤ, length, drop}
use Rattle.std.proofs.Math.Path.{refl, sym, ap}
use Rattle.std.proofs.Common.{◌∙◌, arith, ltb-false, lt-ltb, le-ltb}
use Rattle.bins.specs.Syn.{Out, Written, run, by_list, write}
use Rattle.cabac.specs.Numbers.{accepted, refused, ◌or_else◌}
use Rattle.cabac.specs.NumberLaws.{or_else_first, or_else_rest, or_else_zero}
use Rattle.h264_block.specs.Block.{block}
use Rattle.h264_block.specs.Refusal.{write_refusal}
use Rattle.trees.specs.Levels.{greatest_of}
use Rattle.trees.specs.Lent.{room_refusal}
use Rattle.h264_block.specs.Entries.{block_refusal, block_with, read_from_list, read_bins_by, read_bins, wanted_from, not_written, write_list_by, write_list, write_bins_by, write_bins}

clash_answers : {A : Type 0} {X : Type 0} {a : A} {n : ℕ} → refused n ≡ accepted a → X
clash_answers q = let z : ◌≡◌ {A = ℕ} 0 1 = cc in absurd (omega arith)

-- a block that is not refused by 4 has 16 places
pub block_passed : (lent : List ℤ) → 0 ≡ block_refusal lent → 16 ≤ length lent
unfolding block_refusal
block_passed lent q = go (ltb (length lent) 16) refl q
  where
    go : (d : Bool) → ltb (length lent) 16 ≡ d → ◌≡◌ {A = ℕ} 0 (cond d 4 0) → 16 ≤ length lent
    go true e q = absurd (omega arith)
    go false e q = ltb-false (length lent) 16 e

pub block_passes : (lent : List ℤ) → 16 ≤ length lent → 0 ≡ block_refusal lent
unfolding block_refusal
block_passes lent h = rw (le-ltb (length lent) 16 h)

pub block_short : (lent : List ℤ) → length lent < 16 → 4 ≡ block_refusal lent
unfolding block_refusal
block_short lent h = rw (lt-ltb (length lent) 16 h)

-- ---- the writer
module _ (lent : List ℤ) (room : List ℕ) where
  writes_by : 0 ≡ block_refusal lent → write_bins lent room ≡ write_bins_by (write_refusal (wanted_from lent)) (wanted_from lent) room
  unfolding write_bins
  writes_by h =
      let n = write_refusal (wanted_from lent) in
      ap (λ m. write_bins_by m (wanted_from lent) room) (sym (or_else_rest n (block_refusal lent) n h refl))

  pub writes_short : length lent < 16 → write_bins lent room ≡ not_written 4 room
  unfolding write_bins write_bins_by
  writes_short h = ap (λ m. write_bins_by m (wanted_from lent) room) (sym (or_else_first 4 (block_refusal lent) (write_refusal (wanted_from lent)) (block_short lent h) (λ q. omega arith)))

  pub writes_refused : 0 ≡ block_refusal lent → (n : ℕ) → write_refusal (wanted_from lent) ≡ suc n → write_bins lent room ≡ not_written (suc n) room
  unfolding write_bins_by
  writes_refused h n e = writes_by h ∙ ap (λ m. write_bins_by m (wanted_from lent) room) e

  module _ (h : 0 ≡ block_refusal lent) (e : write_refusal (wanted_from lent) ≡ 0) (a : List ℤ) (l : List ℕ)
      (q : write block (wanted_from lent) ≡ Written.ok a l) where
    writes_list : write_bins lent room ≡ write_list_by (room_refusal l room) l room
    unfolding write_bins_by write_list
    writes_list = writes_by h ∙ ap (λ m. write_bins_by m (wanted_from lent) room) e ∙ ap (write_list room) q

    pub writes_fits : length l ≤ length room → write_bins lent room ≡ record { answer = accepted (length l); room = l ++ drop (length l) room }
    unfolding room_refusal write_list_by
    writes_fits k = writes_list ∙ rw (le-ltb (length room) (length l) k)

    pub writes_over : length room < length l → write_bins lent room ≡ not_written 12 room
    unfolding room_refusal write_list_by
    writes_over k = writes_list ∙ rw (lt-ltb (length room) (length l) k)

  -- what it accepts has passed its checks
  pub writes_passed : (n : ℕ) → (write_bins lent room).answer ≡ accepted n → (0 ≡ block_refusal lent) × (write_refusal (wanted_from lent) ≡ 0)
  unfolding write_bins write_bins_by
  writes_passed n q = go (block_refusal lent or_else write_refusal (wanted_from lent)) refl q
    where
      go : (m : ℕ) → (block_refusal lent or_else write_refusal (wanted_from lent)) ≡ m → (write_bins_by m (wanted_from lent) room).answer ≡ accepted n
          → (0 ≡ block_refusal lent) × (write_refusal (wanted_from lent) ≡ 0)
      go zero e q = let a = or_else_zero (block_refusal lent) (write_refusal (wanted_from lent)) (sym e) in (a.0, sym a.1)
      go (suc m) e q = clash_answers q

-- ---- the reader
module _ (l : List ℕ) (lent : List ℤ) where
  pub reads_whole : 0 ≡ block_refusal lent → (a : List ℤ) → run by_list block l ≡ Out.ok a []
      → read_bins l lent ≡ record { answer = accepted (greatest_of a); block = block_with a lent }
  unfolding read_bins read_bins_by read_from_list
  reads_whole h a q = ap (λ m. read_bins_by m l lent) (sym h) ∙ ap (read_from_list lent) q

  -- what it accepts was read to the list's last bin
  pub record Accepts : Type 0 where
    pub handed : 0 ≡ block_refusal lent
    pub read : List ℤ
    pub whole : run by_list block l ≡ Out.ok read []

  whole_of : (g : ℕ) (o : Out (List ℕ) (List ℤ)) → (read_from_list lent o).answer ≡ accepted g → (a : List ℤ) × (o ≡ Out.ok a [])
  unfolding read_from_list
  whole_of g (Out.ok a []) q = (a, refl)
  whole_of g (Out.ok a (x ∷ r)) q = clash_answers q
  whole_of g (Out.no n r) q = clash_answers q

  pub reads_passed : (g : ℕ) → (read_bins l lent).answer ≡ accepted g → Accepts
  unfolding read_bins read_bins_by
  reads_passed g q = go (block_refusal lent) refl q
    where
      go : (m : ℕ) → block_refusal lent ≡ m → (read_bins_by m l lent).answer ≡ accepted g → Accepts
      go zero e q = let r = whole_of g (run by_list block l) q in record { handed = sym e; read = r.0; whole = r.1 }
      go (suc m) e q = clash_answers q
