-- Demand 3: the writer writes the one list that reads as the block it is handed. "Apart from lack of room it refuses exactly when no bin list
-- of any length reads as those. It reports no room exactly when such a list exists and none fits the lent room." And the way round: what
-- the writer writes, the reader reads as the same block; what the reader reads, the writer writes again. The answers of the two are read_bins
-- and write_bins, as residual/specs/Entries defines them. Assumes nothing.
use Rattle.std.specs.Prelude.{ℕ, zero, suc, ◌≤◌, ◌<◌, ◌≡◌, List, [], ◌++◌, Bool, true, false, ltb, ℤ, length, take, drop}
use Rattle.std.proofs.Math.Path.{refl, ap}
use Rattle.std.proofs.Common.{sym, ◌∙◌, append-nil, arith, length-append, take_at, length-take-le, ltb-true, ltb-false}
use Rattle.bins.specs.Syn.{Out, Written, run, by_list, write}
use Rattle.bins.specs.WriteLaws.{written_read}
use Rattle.cabac.specs.Numbers.{Answer}
use Rattle.hevc_residual.specs.declared.params.Params.{Params}
use Rattle.hevc_residual.specs.declared.params.Rdpcm.{Rdpcm}
use Rattle.hevc_residual.specs.Wanted.{Wanted, area}
use Rattle.hevc_residual.specs.Residual.{Block, residual}
use Rattle.hevc_residual.specs.Refusal.{write_refusal}
use Rattle.hevc_residual.specs.Numbers.{parameter_refusal, statistics_refusal}
use Rattle.hevc_residual.specs.Limits.{Accepted, Statistics}
use Rattle.hevc_residual.specs.LimitLaws.{parameter_passed, parameter_same, statistics_passed}
use Rattle.hevc_residual.specs.Entries.{Found, found_of, block_with, BinsRead, read_bins, BinsWritten, wanted_from, write_bins}
use Rattle.hevc_exact.specs.ResidualLaws.{Says, residual_writes, residual_exact}
use Rattle.trees.specs.Outcome.{Exactly, Outcome, fits, over, none, number_ok, exactly}
use Rattle.hevc_exact.specs.RefusalLaws.{refusal_none, none_refusal, refusal_below}
use Rattle.hevc_exact.specs.EntryLaws.{Handed, writes_refused, writes_fits, writes_over, writes_passed, reads_whole, reads_passed}

-- ---- lists and blocks
-- the list l is read, to its last bin, by the residual syntax, and as exactly w: its levels, skip and RDPCM
pub record ReadsAs (p : Params) (stats l : List ℕ) (w : Wanted) : Type 0 where
  pub answer : Block
  pub reads : run by_list (residual p stats) l ≡ Out.ok answer []
  pub levels : answer.levels ≡ w.levels
  pub skip : answer.skip ≡ w.skip
  pub rdpcm : answer.rdpcm ≡ w.rdpcm

module _ (p : Params) (acc : Accepted p) (stats : List ℕ) (w : Wanted) where
  -- (A) what is not refused is written, as a list that reads as w; list and answer, with extents and statistics, are the same written and read
  pub written : Statistics stats → length w.levels ≡ area p → write_refusal p w ≡ 0
      → (l : List ℕ) × (r : ReadsAs p stats l w) × (write (residual p stats) w ≡ Written.ok r.answer l)
  written small long e =
      let s = residual_writes p acc.least acc.most acc.scan w stats acc.depth small
      (refusal_none p acc.least acc.most acc.scan w long e) in
      let r : run by_list (residual p stats) s.bins ≡ Out.ok s.answer [] =
      ap (run by_list (residual p stats)) (sym (append-nil s.bins)) ∙ written_read (residual p stats) w s.answer s.bins [] s.wrote in (
        s.bins,
        record { answer = s.answer; reads = r; levels = s.holds.levels; skip = s.holds.skip; rdpcm = s.holds.rdpcm },
        s.wrote,
      )

  -- (B) a list that reads as w is the one written, whatever the statistics, and w is not refused
  pub read : (l : List ℕ) (r : ReadsAs p stats l w) → (write_refusal p w ≡ 0) × (write (residual p stats) w ≡ Written.ok r.answer l)
  read l r =
      let a = r.answer in
      let q : Says a w = record { skip = r.skip; rdpcm = r.rdpcm; levels = r.levels } in
      let x = residual_exact p acc.least acc.most acc.scan w stats in
      let u = x.reads l a [] r.reads q in
      let s = x.spells l a [] r.reads q in (
        none_refusal p acc.least acc.most acc.scan w u.long u,
        s.wrote ∙ ap (Written.ok a) (sym (s.split ∙ append-nil s.bins)),
      )

  -- a list that reads as w has n·n levels
  pub read_long : (l : List ℕ) → ReadsAs p stats l w → length w.levels ≡ area p
  read_long l r =
      ((residual_exact p acc.least acc.most acc.scan w stats).reads l r.answer [] r.reads
      (record { skip = r.skip; rdpcm = r.rdpcm; levels = r.levels })).long

  -- what is refused, no list reads as
  pub refused : (write_refusal p w ≡ 0 → ⊥) → (l : List ℕ) → ReadsAs p stats l w → ⊥
  refused n l r = n (read l r).0

  -- there is one list only
  pub only : (l m : List ℕ) → ReadsAs p stats l w → ReadsAs p stats m w → l ≡ m
  only l m r s =
      let u = (read l r).1 in
      let v = (read m s).1 in
      cc

-- a block that was read, as a writer is handed it
abbrev pub wanted_of : Block → Wanted
wanted_of a = record { skip = a.skip; rdpcm = a.rdpcm; levels = a.levels }

module _ (p : Params) (acc : Accepted p) (stats l : List ℕ) (a : Block) (q : run by_list (residual p stats) l ≡ Out.ok a []) where
  abbrev itself : ReadsAs p stats l (wanted_of a)
  itself = record { answer = a; reads = q; levels = refl; skip = refl; rdpcm = refl }

  -- (B) of the answer itself
  pub read_back : (write_refusal p (wanted_of a) ≡ 0) × (write (residual p stats) (wanted_of a) ≡ Written.ok a l)
  read_back = read p acc stats (wanted_of a) l itself

  pub block_long : length a.levels ≡ area p
  block_long = read_long p acc stats (wanted_of a) l itself

-- ---- what becomes of a block
-- where neither 4 nor 3 applies to what the writer is handed; what is written of a block is its first n·n places, with skip and RDPCM
module _ (p : Params) (stats : List ℕ) (block : List ℤ) (skip : Bool) (rdpcm : Rdpcm) (room : List ℕ)
    (not-4 : 0 ≡ parameter_refusal p block) (not-3 : 0 ≡ statistics_refusal stats) where
  h : Handed p stats block
  h = record { parameters = not-4; statistics = not-3 }

  acc : Accepted p
  acc = (parameter_passed p block not-4).0

  -- a list that reads as the block is what is written of it
  when_fits : (l : List ℕ) → ReadsAs p stats l (wanted_from p block skip rdpcm) → length l ≤ length room
      → (write_bins p stats block skip rdpcm room).answer ≡ Answer.accepted (length l)
  unfolding acc
  when_fits l r k =
      let x = read p acc stats (wanted_from p block skip rdpcm) l r in
      ap (λ (b : BinsWritten). b.answer) (writes_fits p stats block skip rdpcm room h x.0 r.answer l x.1 k)

  when_over : (l : List ℕ) → ReadsAs p stats l (wanted_from p block skip rdpcm) → length room < length l
      → (write_bins p stats block skip rdpcm room).answer ≡ Answer.refused 12
  unfolding acc
  when_over l r k =
      let x = read p acc stats (wanted_from p block skip rdpcm) l r in
      ap (λ (b : BinsWritten). b.answer) (writes_over p stats block skip rdpcm room h x.0 r.answer l x.1 k)

  outcome : Outcome (λ l. ReadsAs p stats l (wanted_from p block skip rdpcm)) (length room) (write_bins p stats block skip rdpcm room).answer
  unfolding acc
  outcome = by (write_refusal p w) refl
    where
      w : Wanted
      w = wanted_from p block skip rdpcm

      listed : (l : List ℕ) → ReadsAs p stats l w → (d : Bool) → ltb (length room) (length l) ≡ d
          → Outcome (λ l. ReadsAs p stats l w) (length room) (write_bins p stats block skip rdpcm room).answer
      listed l r true q = let k = ltb-true (length room) (length l) q in over l r k (when_over l r k)
      listed l r false q = let k = ltb-false (length room) (length l) q in fits l r k (when_fits l r k)

      by : (n : ℕ) → write_refusal p w ≡ n → Outcome (λ l. ReadsAs p stats l w) (length room) (write_bins p stats block skip rdpcm room).answer
      by zero e =
          let pass = parameter_passed p block not-4 in
          let s = written p acc stats w (statistics_passed stats not-3) (length-take-le (area p) block pass.1) e in
          listed s.0 s.1 (ltb (length room) (length s.0)) refl
      by (suc n) e =
          none (suc n) (λ q. omega (arith, refusal_below p w)) (refused p acc stats w (λ z. omega arith))
          (ap (λ (b : BinsWritten). b.answer) (writes_refused p stats block skip rdpcm room h n e))

  only_one : (l m : List ℕ) → ReadsAs p stats l (wanted_from p block skip rdpcm) → ReadsAs p stats m (wanted_from p block skip rdpcm) → l ≡ m
  unfolding acc
  only_one = only p acc stats (wanted_from p block skip rdpcm)

-- ---- the way round
-- what the writer accepts stands at the front of the room and reads as the block; the room beyond it is untouched, and the statistics are those
-- that the reader of that list leaves
pub record Wrote (p : Params) (stats : List ℕ) (block : List ℤ) (skip : Bool) (rdpcm : Rdpcm) (room : List ℕ) (n : ℕ) : Type 0 where
  pub list : List ℕ
  pub reads : ReadsAs p stats list (wanted_from p block skip rdpcm)
  pub long : length list ≡ n
  pub leaves : write_bins p stats block skip rdpcm room ≡ record { answer = Answer.accepted n; stats = reads.answer.stats; room = list ++ drop n room }

-- and the reader accepts that list: the same n·n places, skip, RDPCM and statistics, in any block lent that has room for them
pub record ReadAgain (p : Params) (stats : List ℕ) (block : List ℤ) (skip : Bool) (rdpcm : Rdpcm) (room : List ℕ) (n : ℕ) (lent : List ℤ) : Type 0 where
  pub found : Found
  pub reads : read_bins (take n (write_bins p stats block skip rdpcm room).room) stats p lent ≡ record {
    answer = Answer.accepted found;
    stats = (write_bins p stats block skip rdpcm room).stats;
    block = block_with p (take (area p) block) lent;
  }
  pub skips : found.skip ≡ skip
  pub explicit : found.rdpcm ≡ rdpcm

module _ (p : Params) (stats : List ℕ) (block : List ℤ) (skip : Bool) (rdpcm : Rdpcm) (room : List ℕ) (n : ℕ)
    (ok : (write_bins p stats block skip rdpcm room).answer ≡ Answer.accepted n) where
  pub wrote : Wrote p stats block skip rdpcm room n
  wrote =
      let h = (writes_passed p stats block skip rdpcm room n ok).0 in
      let x = (number_ok (λ l. ReadsAs p stats l (wanted_from p block skip rdpcm)) (length room) (write_bins p stats block skip rdpcm room).answer
      (only_one p stats block skip rdpcm room h.parameters h.statistics) (outcome p stats block skip rdpcm room h.parameters h.statistics) n).0 ok in
      let r = x.1 in
      let y = read p (parameter_passed p block h.parameters).0 stats (wanted_from p block skip rdpcm) x.0 r in
      let e = writes_fits p stats block skip rdpcm room h y.0 r.answer x.0 y.1 (omega (arith, x.2, x.3)) in
      record {
        list = x.0;
        reads = r;
        long = x.2;
        leaves = e ∙ ap (λ (k : ℕ). at x.0 r k) x.2;
      }
    where
      at : (l : List ℕ) → ReadsAs p stats l (wanted_from p block skip rdpcm) → ℕ → BinsWritten
      at l r k = record { answer = Answer.accepted k; stats = r.answer.stats; room = l ++ drop k room }

  pub write_read : (lent : List ℤ) → area p ≤ length lent → ReadAgain p stats block skip rdpcm room n lent
  write_read lent k =
      let h = (writes_passed p stats block skip rdpcm room n ok).0 in
      let u = wrote in
      let a = u.reads.answer in
      let l : take n (write_bins p stats block skip rdpcm room).room ≡ u.list =
      ap (λ (b : BinsWritten). take n b.room) u.leaves ∙ take_at u.list (drop n room) n u.long in
      let s : (write_bins p stats block skip rdpcm room).stats ≡ a.stats = ap (λ (b : BinsWritten). b.stats) u.leaves in
      let again : Handed p stats lent =
      record { parameters = parameter_same p block lent h.parameters k; statistics = h.statistics } in
      record {
        found = found_of a;
        reads = rw (l, s, ← u.reads.levels) (reads_whole u.list stats p lent again a u.reads.reads);
        skips = u.reads.skip;
        explicit = u.reads.rdpcm;
      }

-- demand 3: the writer's answer, and the room that it leaves
pub block_exactly : (p : Params) (stats : List ℕ) (block : List ℤ) (skip : Bool) (rdpcm : Rdpcm) (room : List ℕ)
    → Exactly ((0 ≡ parameter_refusal p block) × (0 ≡ statistics_refusal stats)) (λ l. ReadsAs p stats l (wanted_from p block skip rdpcm)) room
    (write_bins p stats block skip rdpcm room).answer (write_bins p stats block skip rdpcm room).room
block_exactly p stats block skip rdpcm room =
    exactly (λ h. only_one p stats block skip rdpcm room h.0 h.1) (λ h. outcome p stats block skip rdpcm room h.0 h.1) stands
  where
    stands : (n : ℕ) → (write_bins p stats block skip rdpcm room).answer ≡ Answer.accepted n
        → (l : List ℕ) → ReadsAs p stats l (wanted_from p block skip rdpcm) → (write_bins p stats block skip rdpcm room).room ≡ l ++ drop n room
    stands n q l r =
        let h = (writes_passed p stats block skip rdpcm room n q).0 in
        let u = wrote p stats block skip rdpcm room n q in
        ap (λ (b : BinsWritten). b.room) u.leaves
        ∙ ap (λ (m : List ℕ). m ++ drop n room) (only_one p stats block skip rdpcm room h.parameters h.statistics u.list l u.reads r)

-- what the reader accepts, the writer writes again entry for entry, with room for it, and leaves the same statistics
module _ (l stats : List ℕ) (p : Params) (block : List ℤ) where
  again : (a : Block) → Handed p stats block → run by_list (residual p stats) l ≡ Out.ok a [] → (room : List ℕ) → length l ≤ length room
      → write_bins p stats (block_with p a.levels block) a.skip a.rdpcm room
      ≡ record { answer = Answer.accepted (length l); stats = a.stats; room = l ++ drop (length l) room }
  again a h q room k =
      let acc = (parameter_passed p block h.parameters).0 in
      let long = block_long p acc stats l a q in
      let front : take (area p) (block_with p a.levels block) ≡ a.levels = take_at a.levels (drop (area p) block) (area p) long in
      let w : wanted_from p (block_with p a.levels block) a.skip a.rdpcm ≡ wanted_of a =
      ap (λ (z : List ℤ). wanting a z) front in
      let b = read_back p acc stats l a q in
      let fit : area p ≤ length (block_with p a.levels block) = omega (arith, length-append a.levels (drop (area p) block)) in
      writes_fits p stats (block_with p a.levels block) a.skip a.rdpcm room
      (record { parameters = parameter_same p block (block_with p a.levels block) h.parameters fit; statistics = h.statistics })
      (ap (write_refusal p) w ∙ b.0) a l (ap (write (residual p stats)) w ∙ b.1) k
    where
      wanting : Block → List ℤ → Wanted
      wanting a z = record { skip = a.skip; rdpcm = a.rdpcm; levels = z }

  pub read_write : (f : Found) → (read_bins l stats p block).answer ≡ Answer.accepted f → (room : List ℕ) → length l ≤ length room
      → write_bins p stats (read_bins l stats p block).block f.skip f.rdpcm room
      ≡ record { answer = Answer.accepted (length l); stats = (read_bins l stats p block).stats; room = l ++ drop (length l) room }
  read_write f q room k =
      let x = reads_passed l stats p block f q in
      let e = reads_whole l stats p block x.handed x.read x.whole in
      let s : (read_bins l stats p block).stats ≡ x.read.stats = ap (λ (b : BinsRead). b.stats) e in
      let b : (read_bins l stats p block).block ≡ block_with p x.read.levels block = ap (λ (b : BinsRead). b.block) e in
      let i : f.skip ≡ x.read.skip = ap (λ (f : Found). f.skip) (sym x.found) in
      let j : f.rdpcm ≡ x.read.rdpcm = ap (λ (f : Found). f.rdpcm) (sym x.found) in
      moved (read_bins l stats p block).block _ f.skip _ f.rdpcm _ (read_bins l stats p block).stats _ b i j s
      (again x.read x.handed x.whole room k)
    where
      moved : (b b' : List ℤ) (i i' : Bool) (j j' : Rdpcm) (s s' : List ℕ) → b ≡ b' → i ≡ i' → j ≡ j' → s ≡ s'
          → write_bins p stats b' i' j' room ≡ record { answer = Answer.accepted (length l); stats = s'; room = l ++ drop (length l) room }
          → write_bins p stats b i j room ≡ record { answer = Answer.accepted (length l); stats = s; room = l ++ drop (length l) room }
      moved b b' i i' j j' s s' eb ei ej es g = rw (eb, ei, ej, es) g
