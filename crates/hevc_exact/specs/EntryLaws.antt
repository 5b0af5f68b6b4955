-- The answers of the bin writer and the bin reader, each where its checks are known to pass or not. Assumes nothing.
use Prim.Native.Nat.{ℕ, zero, suc, ◌≤◌, ◌<◌}
use Rattle.std.specs.Prelude.{◌≡◌, Bool, List, [], ◌∷◌, ◌++◌, ℤ, length, drop}
use Rattle.std.proofs.Math.Path.{refl, ap}
use Rattle.std.proofs.Common.{sym, ◌∙◌, arith, lt-ltb, le-ltb}
use Rattle.bins.specs.Syn.{Out, Written, run, by_list, write}
use Rattle.cabac.specs.Numbers.{accepted, refused, ◌or_else◌}
use Rattle.cabac.specs.NumberLaws.{or_else_rest, or_else_zero}
use Rattle.hevc_residual.specs.declared.params.Params.{Params}
use Rattle.hevc_residual.specs.declared.params.Rdpcm.{Rdpcm}
use Rattle.hevc_residual.specs.Wanted.{Wanted}
use Rattle.hevc_residual.specs.Residual.{Block, residual}
use Rattle.hevc_residual.specs.Refusal.{write_refusal}
use Rattle.hevc_residual.specs.Numbers.{parameter_refusal, statistics_refusal, room_refusal}
use Rattle.hevc_residual.specs.Entries.{Found, found_of, block_with, read_from_list, read_bins_by, read_bins, wanted_from, not_written, write_list_by, write_list, write_bins_by, write_bins}

-- what the bin reader and the bin writer are handed is within document 01's limits: neither 4 nor 3
pub record Handed (p : Params) (stats : List ℕ) (block : List ℤ) : Type 0 where
  pub parameters : 0 ≡ parameter_refusal p block
  pub statistics : 0 ≡ statistics_refusal stats

handed_of : (p : Params) (stats : List ℕ) (block : List ℤ) → 0 ≡ (parameter_refusal p block or_else statistics_refusal stats) → Handed p stats block
handed_of p stats block q =
    let z = or_else_zero (parameter_refusal p block) (statistics_refusal stats) q in record { parameters = z.0; statistics = z.1 }

clash_answers : {A : Type 0} {X : Type 0} {a : A} {n : ℕ} → refused n ≡ accepted a → X
clash_answers q = let z : ◌≡◌ {A = ℕ} 0 1 = cc in absurd (omega arith)

-- ---- the writer
module _ (p : Params) (stats : List ℕ) (block : List ℤ) (skip : Bool) (rdpcm : Rdpcm) (room : List ℕ) where
  -- its answer by the number of its last check
  writes_by : Handed p stats block
      → write_bins p stats block skip rdpcm room ≡ write_bins_by (write_refusal p (wanted_from p block skip rdpcm)) p stats (wanted_from p block skip rdpcm) room
  unfolding write_bins
  writes_by h =
      let w = wanted_from p block skip rdpcm in
      let n = write_refusal p w in
      let q : n ≡ (parameter_refusal p block or_else statistics_refusal stats or_else n) =
      or_else_rest n (parameter_refusal p block) (statistics_refusal stats or_else n) h.parameters (or_else_rest n (statistics_refusal stats) n h.statistics refl) in
      ap (λ m. write_bins_by m p stats w room) (sym q)

  pub writes_refused : Handed p stats block → (n : ℕ) → write_refusal p (wanted_from p block skip rdpcm) ≡ suc n
      → write_bins p stats block skip rdpcm room ≡ not_written (suc n) stats room
  unfolding write_bins_by
  writes_refused h n e = writes_by h ∙ ap (λ m. write_bins_by m p stats (wanted_from p block skip rdpcm) room) e

  module _ (h : Handed p stats block) (e : write_refusal p (wanted_from p block skip rdpcm) ≡ 0) (b : Block) (l : List ℕ)
      (q : write (residual p stats) (wanted_from p block skip rdpcm) ≡ Written.ok b l) where
    writes_list : write_bins p stats block skip rdpcm room ≡ write_list_by (room_refusal l room) l b.stats stats room
    unfolding write_bins_by write_list
    writes_list = writes_by h ∙ ap (λ m. write_bins_by m p stats (wanted_from p block skip rdpcm) room) e ∙ ap (write_list stats room) q

    pub writes_fits : length l ≤ length room
        → write_bins p stats block skip rdpcm room ≡ record { answer = accepted (length l); stats = b.stats; room = l ++ drop (length l) room }
    unfolding room_refusal write_list_by
    writes_fits k = writes_list ∙ rw (le-ltb (length room) (length l) k)

    pub writes_over : length room < length l → write_bins p stats block skip rdpcm room ≡ not_written 12 stats room
    unfolding room_refusal write_list_by
    writes_over k = writes_list ∙ rw (lt-ltb (length room) (length l) k)

  -- what it accepts has passed its checks
  pub writes_passed : (n : ℕ) → (write_bins p stats block skip rdpcm room).answer ≡ accepted n
      → Handed p stats block × (write_refusal p (wanted_from p block skip rdpcm) ≡ 0)
  unfolding write_bins write_bins_by
  writes_passed n q = go (parameter_refusal p block or_else statistics_refusal stats or_else write_refusal p w) refl q
    where
      w : Wanted
      w = wanted_from p block skip rdpcm

      go : (m : ℕ) → (parameter_refusal p block or_else statistics_refusal stats or_else write_refusal p w) ≡ m
          → (write_bins_by m p stats w room).answer ≡ accepted n → Handed p stats block × (write_refusal p w ≡ 0)
      go zero e q =
          let a = or_else_zero (parameter_refusal p block) (statistics_refusal stats or_else write_refusal p w) (sym e) in
          let b = or_else_zero (statistics_refusal stats) (write_refusal p w) a.1 in
          (record { parameters = a.0; statistics = b.0 }, sym b.1)
      go (suc m) e q = clash_answers q

-- ---- the reader
module _ (l : List ℕ) (stats : List ℕ) (p : Params) (block : List ℤ) where
  reads_by : Handed p stats block → read_bins l stats p block ≡ read_from_list p stats block (run by_list (residual p stats) l)
  unfolding read_bins read_bins_by
  reads_by h =
      let q : 0 ≡ (parameter_refusal p block or_else statistics_refusal stats) =
      or_else_rest 0 (parameter_refusal p block) (statistics_refusal stats) h.parameters h.statistics in
      ap (λ m. read_bins_by m l stats p block) (sym q)

  pub reads_whole : Handed p stats block → (b : Block) → run by_list (residual p stats) l ≡ Out.ok b []
      → read_bins l stats p block ≡ record { answer = accepted (found_of b); stats = b.stats; block = block_with p b.levels block }
  unfolding read_from_list
  reads_whole h b q = reads_by h ∙ ap (read_from_list p stats block) q

  -- what it accepts was read to the list's last bin
  pub record Accepts (f : Found) : Type 0 where
    pub handed : Handed p stats block
    pub read : Block
    pub whole : run by_list (residual p stats) l ≡ Out.ok read []
    pub found : found_of read ≡ f

  whole_of : (f : Found) (o : Out (List ℕ) Block) → (read_from_list p stats block o).answer ≡ accepted f → (b : Block) × (o ≡ Out.ok b []) × (found_of b ≡ f)
  unfolding read_from_list
  whole_of f (Out.ok b []) q = (b, refl, cc)
  whole_of f (Out.ok b (x ∷ r)) q = clash_answers q
  whole_of f (Out.no n r) q = clash_answers q

  pub reads_passed : (f : Found) → (read_bins l stats p block).answer ≡ accepted f → Accepts f
  unfolding read_bins read_bins_by
  reads_passed f q = go (parameter_refusal p block or_else statistics_refusal stats) refl q
    where
      go : (m : ℕ) → (parameter_refusal p block or_else statistics_refusal stats) ≡ m → (read_bins_by m l stats p block).answer ≡ accepted f → Accepts f
      go zero e q =
          let r = whole_of f (run by_list (residual p stats) l) q in
          record { handed = handed_of p stats block (sym e); read = r.0; whole = r.1; found = r.2 }
      go (suc m) e q = clash_answers q
