-- Demand 3 for the cross-component scale: the writer writes the one list that reads as the scale it is handed. "Apart from lack of room it refuses exactly
-- when no bin list of any length reads as" it. "It reports no room exactly when such a list exists and none fits the lent room." And the way round. Assumes nothing.
use Rattle.std.specs.Prelude.{ℕ, zero, suc, ◌≤◌, ◌<◌, ◌≡◌, refl, List, [], ◌++◌, Bool, true, false, ltb, ℤ, length, take, drop}
use Rattle.std.proofs.Common.{sym, ap, ◌∙◌, append-nil, arith, take_at, ltb-true, ltb-false}
use Rattle.bins.specs.Syn.{Out, Written, run, by_list, write}
use Rattle.bins.specs.WriteLaws.{written_read}
use Rattle.cabac.specs.Numbers.{Answer}
use Rattle.trees.specs.Outcome.{Exactly, Outcome, fits, over, none, number_ok, exactly}
use Rattle.hevc_cross.specs.Scale.{is_scale, scale}
use Rattle.hevc_cross.specs.Entries.{component_refusal, read_bins, BinsWritten, write_bins}
use Rattle.hevc_cross.specs.ScaleLaws.{scale_writes, scale_exact}
use Rattle.hevc_cross.specs.EntryLaws.{writes_refused, writes_fits, writes_over, writes_passed, reads_whole, reads_passed}

-- the list l is read, to its last bin, as exactly the scale z of component c
abbrev pub ReadsAs : ℕ → List ℕ → ℤ → Type 0
ReadsAs c l z = run by_list (scale c) l ≡ Out.ok z []

module _ (c : ℕ) (z : ℤ) where
  -- (A) one of the nine is written, as a list that reads as it
  pub written : is_scale z ≡ true → (l : List ℕ) × ReadsAs c l z × (write (scale c) z ≡ Written.ok z l)
  written e =
      let s = scale_writes (λ t. t) c z e in
      let q : write (scale c) z ≡ Written.ok z s.bins = s.wrote ∙ ap (λ a. Written.ok a s.bins) s.holds in
      (s.bins, ap (run by_list (scale c)) (sym (append-nil s.bins)) ∙ written_read (scale c) z z s.bins [] q, q)

  -- (B) a list that reads as z is the one written, and z is one of the nine
  pub read : (l : List ℕ) → ReadsAs c l z → (is_scale z ≡ true) × (write (scale c) z ≡ Written.ok z l)
  read l r =
      let s = (scale_exact (λ t. t) c z).spells l z [] r refl in
      ((scale_exact (λ t. t) c z).reads l z [] r, s.wrote ∙ ap (Written.ok z) (sym (s.split ∙ append-nil s.bins)))

  -- there is one list only
  pub only : (l m : List ℕ) → ReadsAs c l z → ReadsAs c m z → l ≡ m
  only l m r s =
      let u = (read l r).1 in
      let v = (read m s).1 in
      cc

-- ---- what becomes of a scale, for chroma component 0 or 1
module _ (c : ℕ) (z : ℤ) (room : List ℕ) (h : 0 ≡ component_refusal c) where
  outcome : Outcome (λ l. ReadsAs c l z) (length room) (write_bins c z room).answer
  outcome = by (is_scale z) refl
    where
      listed : (l : List ℕ) → ReadsAs c l z → (d : Bool) → ltb (length room) (length l) ≡ d → Outcome (λ l. ReadsAs c l z) (length room) (write_bins c z room).answer
      listed l r true q =
          let x = read c z l r in
          let k = ltb-true (length room) (length l) q in
          over l r k (ap (λ (b : BinsWritten). b.answer) (writes_over c z room h x.0 z l x.1 k))
      listed l r false q =
          let x = read c z l r in
          let k = ltb-false (length room) (length l) q in
          fits l r k (ap (λ (b : BinsWritten). b.answer) (writes_fits c z room h x.0 z l x.1 k))

      differ : is_scale z ≡ false → is_scale z ≡ true → ⊥
      differ p q = let y : ◌≡◌ {A = ℕ} 0 1 = let t : true ≡ false = cc in cc in omega arith

      by : (b : Bool) → is_scale z ≡ b → Outcome (λ l. ReadsAs c l z) (length room) (write_bins c z room).answer
      by true e = let s = written c z e in listed s.0 s.1 (ltb (length room) (length s.0)) refl
      by false e =
          none 4 (λ q. omega arith) (λ l r. differ e (read c z l r).0) (ap (λ (b : BinsWritten). b.answer) (writes_refused c z room h e))

-- ---- the way round
-- what the writer accepts stands at the front of the room and reads as the scale; the room beyond it is untouched
pub record Wrote (c : ℕ) (z : ℤ) (room : List ℕ) (n : ℕ) : Type 0 where
  pub list : List ℕ
  pub reads : ReadsAs c list z
  pub long : length list ≡ n
  pub leaves : write_bins c z room ≡ record { answer = Answer.accepted n; room = list ++ drop n room }

module _ (c : ℕ) (z : ℤ) (room : List ℕ) (n : ℕ) (ok : (write_bins c z room).answer ≡ Answer.accepted n) where
  pub wrote : Wrote c z room n
  wrote =
      let h = (writes_passed c z room n ok).0 in
      let x = (number_ok (λ l. ReadsAs c l z) (length room) (write_bins c z room).answer (only c z) (outcome c z room h) n).0 ok in
      let y = read c z x.0 x.1 in
      let e = writes_fits c z room h y.0 z x.0 y.1 (omega (arith, x.2, x.3)) in
      record { list = x.0; reads = x.1; long = x.2; leaves = e ∙ ap (λ (k : ℕ). at x.0 k) x.2 }
    where
      at : List ℕ → ℕ → BinsWritten
      at l k = record { answer = Answer.accepted k; room = l ++ drop k room }

  -- and the reader accepts that list as the same scale
  pub write_read : read_bins (take n (write_bins c z room).room) c ≡ Answer.accepted z
  write_read =
      let u = wrote in
      let l : take n (write_bins c z room).room ≡ u.list =
      ap (λ (b : BinsWritten). take n b.room) u.leaves ∙ take_at u.list (drop n room) n u.long in
      ap (λ (m : List ℕ). read_bins m c) l ∙ reads_whole u.list c (writes_passed c z room n ok).0 z u.reads

-- demand 3: the writer's answer, and the room that it leaves
pub scale_exactly : (c : ℕ) (z : ℤ) (room : List ℕ) → Exactly (0 ≡ component_refusal c) (λ l. ReadsAs c l z) room (write_bins c z room).answer (write_bins c z room).room
scale_exactly c z room = exactly (λ h. only c z) (outcome c z room) stands
  where
    stands : (n : ℕ) → (write_bins c z room).answer ≡ Answer.accepted n → (l : List ℕ) → ReadsAs c l z → (write_bins c z room).room ≡ l ++ drop n room
    stands n q l r =
        let u = wrote c z room n q in
        ap (λ (b : BinsWritten). b.room) u.leaves ∙ ap (λ (m : List ℕ). m ++ drop n room) (only c z u.list l u.reads r)

-- what the reader accepts, the writer writes again, byte for byte
pub read_write : (l : List ℕ) (c : ℕ) (z : ℤ) → read_bins l c ≡ Answer.accepted z → (room : List ℕ) → length l ≤ length room
    → write_bins c z room ≡ record { answer = Answer.accepted (length l); room = l ++ drop (length l) room }
read_write l c z ok room k =
    let x = reads_passed l c z ok in
    let y = read c z l x.1 in
    writes_fits c z room x.0 y.0 z l y.1 k
