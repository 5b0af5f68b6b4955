-- The answers of the scale's bin writer and bin reader, each where its checks are known to pass or not. Assumes nothing.
use Prim.Native.Nat.{ℕ, zero, suc, ◌≤◌, ◌<◌}
use Rattle.std.specs.Prelude.{◌≡◌, Bool, true, false, cond, List, [], ◌∷◌, ◌++◌, ℤ, length, drop}
use Rattle.std.proofs.Math.Path.{refl, ap}
use Rattle.std.proofs.Common.{sym, ◌∙◌, arith, lt-ltb, le-ltb}
use Rattle.bins.specs.Syn.{Out, Written, run, by_list, write}
use Rattle.cabac.specs.Numbers.{Answer, accepted, refused, ◌or_else◌}
use Rattle.cabac.specs.NumberLaws.{or_else_rest, or_else_zero}
use Rattle.hevc_residual.specs.Numbers.{room_refusal}
use Rattle.hevc_cross.specs.Scale.{is_scale, scale}
use Rattle.hevc_cross.specs.Entries.{component_refusal, scale_refusal, read_from_list, read_bins_by, read_bins, not_written, write_list_by, write_list, write_bins_by, write_bins}

clash_answers : {A : Type 0} {X : Type 0} {a : A} {n : ℕ} → refused n ≡ accepted a → X
clash_answers q = let z : ◌≡◌ {A = ℕ} 0 1 = cc in absurd (omega arith)

pub scale_passes : (z : ℤ) → is_scale z ≡ true → 0 ≡ scale_refusal z
unfolding scale_refusal
scale_passes z q = rw q refl

pub scale_fails : (z : ℤ) → is_scale z ≡ false → scale_refusal z ≡ 4
unfolding scale_refusal
scale_fails z q = rw q refl

pub scale_passed : (z : ℤ) → 0 ≡ scale_refusal z → is_scale z ≡ true
unfolding scale_refusal
scale_passed z q = go (is_scale z) refl q
  where
    go : (b : Bool) → is_scale z ≡ b → ◌≡◌ {A = ℕ} 0 (cond b 0 4) → b ≡ true
    go true e q = refl
    go false e q = absurd (omega arith)

-- ---- the writer
module _ (c : ℕ) (z : ℤ) (room : List ℕ) (h : 0 ≡ component_refusal c) where
  writes_by : write_bins c z room ≡ write_bins_by (scale_refusal z) c z room
  unfolding write_bins
  writes_by = ap (λ m. write_bins_by m c z room) (sym (or_else_rest (scale_refusal z) (component_refusal c) (scale_refusal z) h refl))

  pub writes_refused : is_scale z ≡ false → write_bins c z room ≡ not_written 4 room
  unfolding write_bins_by
  writes_refused e = writes_by ∙ ap (λ m. write_bins_by m c z room) (scale_fails z e)

  module _ (e : is_scale z ≡ true) (a : ℤ) (l : List ℕ) (q : write (scale c) z ≡ Written.ok a l) where
    writes_list : write_bins c z room ≡ write_list_by (room_refusal l room) l room
    unfolding write_bins_by write_list
    writes_list = writes_by ∙ ap (λ m. write_bins_by m c z room) (sym (scale_passes z e)) ∙ ap (write_list room) q

    pub writes_fits : length l ≤ length room → write_bins c z room ≡ record { answer = accepted (length l); room = l ++ drop (length l) room }
    unfolding room_refusal write_list_by
    writes_fits k = writes_list ∙ rw (le-ltb (length room) (length l) k)

    pub writes_over : length room < length l → write_bins c z room ≡ not_written 12 room
    unfolding room_refusal write_list_by
    writes_over k = writes_list ∙ rw (lt-ltb (length room) (length l) k)

-- what it accepts has passed its checks
pub writes_passed : (c : ℕ) (z : ℤ) (room : List ℕ) (n : ℕ) → (write_bins c z room).answer ≡ accepted n → (0 ≡ component_refusal c) × (is_scale z ≡ true)
unfolding write_bins write_bins_by
writes_passed c z room n q = go (component_refusal c or_else scale_refusal z) refl q
  where
    go : (m : ℕ) → (component_refusal c or_else scale_refusal z) ≡ m → (write_bins_by m c z room).answer ≡ accepted n → (0 ≡ component_refusal c) × (is_scale z ≡ true)
    go zero e q = let a = or_else_zero (component_refusal c) (scale_refusal z) (sym e) in (a.0, scale_passed z a.1)
    go (suc m) e q = clash_answers q

-- ---- the reader
module _ (l : List ℕ) (c : ℕ) where
  pub reads_whole : 0 ≡ component_refusal c → (z : ℤ) → run by_list (scale c) l ≡ Out.ok z [] → read_bins l c ≡ accepted z
  unfolding read_bins read_bins_by read_from_list
  reads_whole h z q = ap (λ m. read_bins_by m l c) (sym h) ∙ ap read_from_list q

  whole_of : (z : ℤ) (o : Out (List ℕ) ℤ) → read_from_list o ≡ accepted z → o ≡ Out.ok z []
  unfolding read_from_list
  whole_of z (Out.ok a []) q = let e : a ≡ z = cc in ap (λ y. Out.ok y []) e
  whole_of z (Out.ok a (x ∷ r)) q = clash_answers q
  whole_of z (Out.no n r) q = clash_answers q

  -- what it accepts was read to the list's last bin
  pub reads_passed : (z : ℤ) → read_bins l c ≡ accepted z → (0 ≡ component_refusal c) × (run by_list (scale c) l ≡ Out.ok z [])
  unfolding read_bins read_bins_by
  reads_passed z q = go (component_refusal c) refl q
    where
      go : (m : ℕ) → component_refusal c ≡ m → read_bins_by m l c ≡ accepted z → (0 ≡ component_refusal c) × (run by_list (scale c) l ≡ Out.ok z [])
      go zero e q = (sym e, whole_of z (run by_list (scale c) l) q)
      go (suc m) e q = clash_answers q
