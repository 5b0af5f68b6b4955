-- Laws as the code meets them: what is handed in, the frame's parts, each way out. Assumes nothing.
use Rattle.std.specs.Prelude.{ℕ, zero, suc, ◌+◌, ◌/◌, ◌%◌, ◌≤◌, ◌<◌, ◌≡◌, refl, Bool, true, false, ◌&&◌, List, [], ◌∷◌, ◌++◌, leb, eqb, take, replicate, ℤ, Result, Ok, Err}
use Rattle.std.proofs.Common.{arith, sym, ◌∙◌, length-take-le, le-leb, eq-eqb, ne_eqb}
use Rattle.std.proofs.Math.Path.{ap}
use Rattle.std.proofs.Math.Bool.{cond}
use Rattle.std.proofs.Math.ListN.{length, drop, length-append, length-replicate}
use Rattle.std.proofs.lemmas.Bool.{lt-leb}
use Rattle.bins.specs.Tags.{context_count}
use Rattle.cabac.specs.Numbers.{Answer, accepted, refused}
use Rattle.cabac.specs.Contexts.{initial_all}
use Rattle.cabac.specs.Entries.{values_refusal, contexts_after, statistics_after}
use Rattle.hevc_residual.specs.declared.params.Params.{Params}
use Rattle.hevc_residual.specs.declared.params.Rdpcm.TheVariants as of_rdpcm
use Rattle.hevc_residual.specs.Residual.{residual}
use Rattle.hevc_residual.specs.Entries.{BinsWritten, write_bins}
use Rattle.hevc_exact.specs.Exact.{wrote}
use Rattle.hevc_residual.specs.Answers.{written_says, bins_written}
use Rattle.packing.specs.Entries.{BinsPacked, payload_from}
use Rattle.packing.proofs.EntriesLaws.{accepts_is}
use Rattle.packer.specs.IntoCode.{packing_says}
use Rattle.hevc_packer.specs.Entries.{pack_checks, pack_bins}
use Rattle.frame.specs.Frame.{quantiser_of, params_of, flags_refusal}
use Rattle.press_frame.specs.Pressed.{frame_of, handed_refusal, no_statistics, contexts_of, framed, packed_for, listed, written_for, pressed_by, pressed}
use Rattle.press_frame.specs.Said.{pressed_says}

-- ---- what is handed in, test after test
module _ (room : ℕ) (head values : List ℕ) where
  refusal_as : (t : Bool) → (leb 4234 room && (eqb (length head) 6 && eqb (length values) context_count)) ≡ t → cond t (flags_refusal head) 4 ≡ handed_refusal room head values
  unfolding handed_refusal
  refusal_as t e = ap (λ (b : Bool). cond b (flags_refusal head) 4) (sym e)

  pub short_room : room < 4234 → 4 ≡ handed_refusal room head values
  short_room h = refusal_as false (rw (lt-leb 4234 room h))

  pub other_head : 4234 ≤ room → (length head ≡ 6 → ⊥) → 4 ≡ handed_refusal room head values
  other_head h k = refusal_as false (rw (le-leb 4234 room h, ne_eqb (length head) 6 k))

  pub other_values : 4234 ≤ room → length head ≡ 6 → (length values ≡ 130 → ⊥) → 4 ≡ handed_refusal room head values
  other_values h k l = refusal_as false (rw (le-leb 4234 room h, eq-eqb (length head) 6 k, ne_eqb (length values) context_count l))

  pub flags_left : (n : ℕ) → 4234 ≤ room → length head ≡ 6 → length values ≡ 130 → n ≡ flags_refusal head → n ≡ handed_refusal room head values
  flags_left n h k l e = e ∙ refusal_as true (rw (le-leb 4234 room h, eq-eqb (length head) 6 k, eq-eqb (length values) context_count l))

pub number_long : (n : ℕ) → n ≡ 12 → 22 ≡ cond (eqb n 12) 22 n
number_long n e = rw (eq-eqb n 12 e)

pub number_same : (n : ℕ) → (n ≡ 12 → ⊥) → n ≡ cond (eqb n 12) 22 n
number_same n h = rw (ne_eqb n 12 h)

-- ---- the frame's parts
pub parts : (head values payload x : List ℕ) → x ≡ [] ++ (head ++ ((length payload / 256 ∷ length payload % 256 ∷ []) ++ (values ++ payload))) → x ≡ frame_of head values payload
unfolding frame_of
parts head values payload x e = e

-- ---- contexts and statistics from the values
values_all : (values : List ℕ) → length values ≡ 130 → values_refusal values ≡ 0
unfolding values_refusal
values_all values h = rw (eq-eqb (length values) context_count h)

contexts_zero : (n : ℕ) (cs values : List ℕ) (q : ℕ) → n ≡ 0 → contexts_after n cs values q ≡ initial_all q values
unfolding contexts_after
contexts_zero n cs values q z = ap (λ (x : ℕ). contexts_after x cs values q) z

statistics_zero : (n : ℕ) (ss : List ℕ) → n ≡ 0 → statistics_after n ss ≡ replicate 4 0
unfolding statistics_after
statistics_zero n ss z = ap (λ (x : ℕ). statistics_after x ss) z

-- ---- the payload
module _ (head values list cs ss cs' ss' room' : List ℕ) (n : ℕ) (p : Params) (r : Result ℕ ℕ) (many : length values ≡ 130)
    (i : n ≡ values_refusal values) (j : cs' ≡ contexts_after n cs values (quantiser_of head)) (k : ss' ≡ statistics_after n ss) (g : p ≡ params_of head)
    (e : packing_says r room' ≡ pack_bins cs' ss' p list (replicate 4096 0)) where
  said : packing_says r room' ≡ packed_for head values list
  said =
      let z : n ≡ 0 = i ∙ values_all values many in
      e
      ∙ ap (λ (x : List ℕ). pack_bins x ss' p list (replicate 4096 0)) (j ∙ contexts_zero n cs values (quantiser_of head) z)
      ∙ ap (λ (x : List ℕ). pack_bins (contexts_of head values) x p list (replicate 4096 0)) (k ∙ statistics_zero n ss z)
      ∙ ap (λ (x : Params). pack_bins (contexts_of head values) no_statistics x list (replicate 4096 0)) g

  pub payload_fits : (m : ℕ) → r ≡ Ok m → (m ≤ 4096) × (m ≤ length room')
  unfolding pack_bins
  payload_fits m q =
      let t : packing_says (Ok m) room' ≡ packed_for head values list = ap (λ (x : Result ℕ ℕ). packing_says x room') (sym q) ∙ said in
      let a : (packed_for head values list).answer ≡ accepted m = ap (λ (b : BinsPacked). b.answer) (sym t) in
      let k = accepts_is (residual (params_of head) no_statistics) (contexts_of head values) list (replicate 4096 0) m (pack_checks (contexts_of head values) no_statistics (params_of head)) a in
      let l : room' ≡ payload_from (contexts_of head values) list ++ drop m (replicate 4096 0) = ap (λ (b : BinsPacked). b.room) (t ∙ k.is) in (
        omega (arith, k.fits, length-replicate {A = ℕ} 4096 0),
        omega (arith, ap length l, length-append (payload_from (contexts_of head values) list) (drop m (replicate 4096 0)), k.long),
      )

  pub payload_count : (m : ℕ) → r ≡ Ok m → m ≡ length (take m room')
  payload_count m q = sym (length-take-le m room' (payload_fits m q).1)

  pub frame_said : (m : ℕ) (x : List ℕ) → r ≡ Ok m → x ≡ frame_of head values (take m room')
      → ◌≡◌ {A = Answer (List ℕ)} (accepted x) (framed head values (packed_for head values list).answer (packed_for head values list).room)
  unfolding framed
  frame_said m x q f =
      ap {B = Answer (List ℕ)} accepted f
      ∙ ap (λ (b : BinsPacked). framed head values b.answer b.room) (ap (λ (y : Result ℕ ℕ). packing_says y room') (sym q) ∙ said)

  pub no_said : (m l : ℕ) → r ≡ Err m → l ≡ cond (eqb m 12) 22 m
      → ◌≡◌ {A = Answer (List ℕ)} (refused l) (framed head values (packed_for head values list).answer (packed_for head values list).room)
  unfolding framed
  no_said m l q f =
      ap {B = Answer (List ℕ)} refused f
      ∙ ap (λ (b : BinsPacked). framed head values b.answer b.room) (ap (λ (y : Result ℕ ℕ). packing_says y room') (sym q) ∙ said)

-- ---- the whole
pub refused_first : (room n : ℕ) (head values : List ℕ) (levels : List ℤ) → n ≡ handed_refusal room head values → (n ≡ 0 → ⊥)
    → ◌≡◌ {A = Answer (List ℕ)} (refused n) (pressed room head values levels)
unfolding pressed pressed_by
refused_first room n head values levels e h = go n h ∙ ap (λ (k : ℕ). pressed_by k head values levels) e
  where
    go : (k : ℕ) → (k ≡ 0 → ⊥) → ◌≡◌ {A = Answer (List ℕ)} (refused k) (pressed_by k head values levels)
    go zero h = absurd (h refl)
    go (suc k) h = refl

module _ (room n : ℕ) (head values : List ℕ) (levels : List ℤ) (e : n ≡ handed_refusal room head values) (z : n ≡ 0) (p : Params) (g : p ≡ params_of head)
    (w : Result ℕ ℕ) (stats' list' : List ℕ) (f : bins_written w stats' list' ≡ write_bins p no_statistics levels false of_rdpcm.None (replicate 71088 0)) where
  written_said : bins_written w stats' list' ≡ written_for head levels
  written_said = f ∙ ap (λ (x : Params). write_bins x no_statistics levels false of_rdpcm.None (replicate 71088 0)) g

  behind : listed head values (written_for head levels).answer (written_for head levels).room ≡ pressed room head values levels
  unfolding pressed pressed_by
  behind = ap (λ (k : ℕ). pressed_by k head values levels) (sym z ∙ e)

  pub list_fits : (m : ℕ) → w ≡ Ok m → m ≤ length list'
  list_fits m q =
      let a : (written_for head levels).answer ≡ accepted m = ap (λ (b : BinsWritten). b.answer) (sym written_said ∙ ap (λ (x : Result ℕ ℕ). bins_written x stats' list') q) in
      let u = wrote (params_of head) no_statistics levels false of_rdpcm.None (replicate 71088 0) m a in
      let l : list' ≡ u.list ++ drop m (replicate 71088 0) = ap (λ (b : BinsWritten). b.room) (written_said ∙ u.leaves) in
      omega (arith, ap length l, length-append u.list (drop m (replicate 71088 0)), u.long)

  pub list_count : (m : ℕ) → w ≡ Ok m → m ≡ length (take m list')
  list_count m q = sym (length-take-le m list' (list_fits m q))

  pub list_said : (m : ℕ) (r : Answer (List ℕ)) → w ≡ Ok m
      → r ≡ framed head values (packed_for head values (take m list')).answer (packed_for head values (take m list')).room → r ≡ pressed room head values levels
  unfolding listed
  list_said m r q k =
      k ∙ ap (λ (b : BinsWritten). listed head values b.answer b.room) (ap (λ (x : Result ℕ ℕ). bins_written x stats' list') (sym q) ∙ written_said) ∙ behind

  pub list_no_lem : (m : ℕ) → w ≡ Err m → ◌≡◌ {A = Answer (List ℕ)} (refused m) (pressed room head values levels)
  unfolding listed
  list_no_lem m q =
      ap (λ (b : BinsWritten). listed head values b.answer b.room) (ap (λ (x : Result ℕ ℕ). bins_written x stats' list') (sym q) ∙ written_said) ∙ behind
