-- THE theorem of the press: a frame that is pressed is answered `ok`, with the drawing's greatest magnitude, and nothing of it is past the end. Assumes nothing.
use Rattle.std.specs.Prelude.{ℕ, zero, suc, ◌≤◌, ◌<◌, ◌^◌, ◌≡◌, Bool, false, cond, eqb, length, take, drop, replicate, ℤ, pos}
use Rattle.std.proofs.Common.{arith, subst, ◌∙◌, take_at}
use Rattle.tables.specs.Table.{le_below}
use Rattle.std.proofs.Math.Path.{refl, sym, ap}
use mathlib.Core.List.{List, [], ◌∷◌, ◌++◌}
use Rattle.std.proofs.lemmas.List.{length-replicate}
use Rattle.bins.specs.Engine.{started}
use Rattle.bins.specs.Syn.{Out, run, by_list}
use Rattle.cabac.specs.Numbers.{Answer, accepted, refused, ◌or_else◌, unless, payload_refusal, offset_refusal}
use Rattle.cabac.specs.NumberLaws.{or_else_zero, or_else_rest}
use Rattle.cabac.specs.Contexts.{initial_all}
use Rattle.cabac.specs.Entries.{start}
use Rattle.trees.specs.Reached.{each_run}
use Rattle.hevc_residual.specs.declared.params.Params.{Params}
use Rattle.hevc_residual.specs.declared.params.Rdpcm.TheVariants as of_rdpcm
use Rattle.hevc_residual.specs.Wanted.{area}
use Rattle.hevc_residual.specs.Residual.{Block, greatest_of, residual}
use Rattle.hevc_residual.specs.Numbers.{parameter_refusal, statistics_refusal}
use Rattle.hevc_residual.specs.LimitLaws.{parameter_passed, parameter_same, statistics_passed}
use Rattle.hevc_residual.specs.Entries.{Found, FoundAt, PayloadRead, BinsRead, BinsWritten, found_of, wanted_from, read_payload, read_bins, write_bins}
use Rattle.hevc_bounds.specs.ResidualBounds.{kept_none, residual_each}
use Rattle.hevc_exact.specs.EntryLaws.{writes_passed, reads_whole}
use Rattle.hevc_exact.specs.Exact.{Wrote, wrote}
use Rattle.packing.specs.Entries.{BinsPacked}
use Rattle.hevc_packer.specs.Entries.{pack_bins}
use Rattle.hevc_packer.specs.ReadAgain.{ReadAgain, pack_is_read}
use Rattle.frame.specs.Frame.{params_of, flags_refusal, payload_of, values_of, quantiser_of}
use Rattle.frame.specs.Verdict.{no_levels, read_verdict, started_verdict, checks_of, verdict_by, verdict, ok}
use Rattle.press_frame.specs.Pressed.{frame_of, handed_refusal, no_statistics, contexts_of, framed, packed_for, listed, written_for, pressed_by, pressed}
use Rattle.press_frame.specs.FrameLong.{Long, frame_long, packed_few}
use Rattle.press_frame.specs.PressedLaws.{Handed, handed, params_same, flags_same, quantiser_same, values_same, payload_same}

-- a payload on which the engine starts is as long as it must be
unless_zero : {A : Type 0} (n : ℕ) (a b : A) → unless n a ≡ accepted b → 0 ≡ n
unfolding unless
unless_zero zero a b e = refl
unless_zero (suc n) a b e = let y : ◌≡◌ {A = ℕ} 0 1 = cc in absurd (omega arith)

start_long : (P : List ℕ) → start P ≡ accepted (started P) → 0 ≡ payload_refusal P
unfolding start
start_long P e = (or_else_zero (payload_refusal P) (offset_refusal (started P)) (unless_zero (payload_refusal P or_else offset_refusal (started P)) (started P) (started P) e)).0

area_few : (p : Params) → p.log2 ≤ 5 → area p ≤ 1024
area_few p h = le_below (λ k. 4 ^ k) (λ _. 1024) 6 tt p.log2 (omega arith)

-- ---- the answer to a frame, by its parts
module _ (head values P : List ℕ) (six : length head ≡ 6) (many : length values ≡ 130) (flags : flags_refusal head ≡ 0) where
  abbrev p : Params
  p = params_of head

  abbrev bytes : List ℕ
  bytes = frame_of head values P

  checks_none : 0 ≡ payload_refusal P → 0 ≡ parameter_refusal p no_levels → checks_of bytes ≡ 0
  unfolding checks_of
  checks_none a b =
      ap (λ (x : List ℕ). payload_refusal x or_else flags_refusal bytes or_else parameter_refusal (params_of bytes) no_levels) (payload_same head values P six many)
      ∙ ap (λ (x : ℕ). payload_refusal P or_else x or_else parameter_refusal (params_of bytes) no_levels) (flags_same head values P six many ∙ flags)
      ∙ ap (λ (x : Params). payload_refusal P or_else 0 or_else parameter_refusal x no_levels) (params_same head values P six many)
      ∙ sym (or_else_rest 0 (payload_refusal P) (0 or_else parameter_refusal p no_levels) a (or_else_rest 0 0 (parameter_refusal p no_levels) refl b))

  started_is : (f : FoundAt) → start P ≡ accepted (started P)
      → (read_payload P (started P) (contexts_of head values) no_statistics p no_levels).answer ≡ accepted f
      → started_verdict bytes (start (payload_of bytes)) ≡ ok f.found.greatest f.next.past
  unfolding started_verdict read_verdict
  started_is f s r =
      ap (λ (x : List ℕ). started_verdict bytes (start x)) (payload_same head values P six many)
      ∙ ap (started_verdict bytes) s
      ∙ ap (λ (x : List ℕ). read_verdict (read_payload x (started P) (contexts_of bytes (values_of bytes)) no_statistics (params_of bytes) no_levels).answer) (payload_same head values P six many)
      ∙ ap (λ (x : ℕ). read_verdict (read_payload P (started P) (initial_all x (values_of bytes)) no_statistics (params_of bytes) no_levels).answer) (quantiser_same head values P six many)
      ∙ ap (λ (x : List ℕ). read_verdict (read_payload P (started P) (contexts_of head x) no_statistics (params_of bytes) no_levels).answer) (values_same head values P six many)
      ∙ ap (λ (x : Params). read_verdict (read_payload P (started P) (contexts_of head values) no_statistics x no_levels).answer) (params_same head values P six many)
      ∙ ap read_verdict r

  judged_by_lem : (f : FoundAt) → 0 ≡ parameter_refusal p no_levels → start P ≡ accepted (started P)
      → (read_payload P (started P) (contexts_of head values) no_statistics p no_levels).answer ≡ accepted f
      → verdict bytes ≡ ok f.found.greatest f.next.past
  unfolding verdict verdict_by
  judged_by_lem f b s r = ap (λ (n : ℕ). verdict_by n bytes) (checks_none (start_long P s) b) ∙ started_is f s r

-- ---- the drawing's list, and its payload
module _ (head values : List ℕ) (levels : List ℤ) (six : length head ≡ 6) (many : length values ≡ 130) (flags : flags_refusal head ≡ 0)
    (n : ℕ) (wrote-n : (written_for head levels).answer ≡ accepted n) where
  abbrev q : Params
  q = params_of head

  abbrev lent : List ℕ
  lent = replicate 71088 0

  abbrev bins : List ℕ
  bins = take n (written_for head levels).room

  w : Wrote q no_statistics levels false of_rdpcm.None lent n
  w = wrote q no_statistics levels false of_rdpcm.None lent n wrote-n

  fine : (0 ≡ parameter_refusal q levels) × (0 ≡ statistics_refusal no_statistics)
  fine = let h = (writes_passed q no_statistics levels false of_rdpcm.None lent n wrote-n).0 in (h.parameters, h.statistics)

  few : area q ≤ 1024
  few = area_few q (parameter_passed q levels fine.0).0.most

  within : 0 ≡ parameter_refusal q no_levels
  within = parameter_same q levels no_levels fine.0 (subst (λ (k : ℕ). area q ≤ k) (sym (length-replicate {A = ℤ} 1024 (pos 0))) few)

  bins_are : bins ≡ w.list
  bins_are = ap (λ (b : BinsWritten). take n b.room) w.leaves ∙ take_at w.list (drop n lent) n w.long

  greatest_is : w.reads.answer.greatest ≡ greatest_of (take (area q) levels)
  greatest_is =
      let acc = (parameter_passed q levels fine.0).0 in
      let k = (each_run by_list (residual_each q acc (kept_none q) no_statistics (statistics_passed no_statistics fine.1)) w.list w.reads.answer [] w.reads.reads).1 in
      k.greatest ∙ ap greatest_of w.reads.levels

  list_reads : (read_bins bins no_statistics q no_levels).answer ≡ accepted (found_of w.reads.answer)
  list_reads =
      ap (λ (l : List ℕ). (read_bins l no_statistics q no_levels).answer) bins_are
      ∙ ap (λ (b : BinsRead). b.answer) (reads_whole w.list no_statistics q no_levels (record { parameters = within; statistics = fine.1 }) w.reads.answer w.reads.reads)

  module _ (m : ℕ) (packed-m : (packed_for head values bins).answer ≡ accepted m) where
    abbrev P : List ℕ
    P = take m (packed_for head values bins).room

    again : ReadAgain P (contexts_of head values) no_statistics q bins no_levels
    again =
        pack_is_read (contexts_of head values) no_statistics q bins (replicate 4096 0) m no_levels packed-m
        (subst (λ (k : ℕ). area q ≤ k) (sym (length-replicate {A = ℤ} 1024 (pos 0))) few)

    same_found_lem : again.found ≡ found_of w.reads.answer
    same_found_lem =
        let e : Answer.accepted again.found ≡ Answer.accepted (found_of w.reads.answer) = sym (ap (λ (b : BinsRead). b.answer) again.listed) ∙ list_reads in
        cc

    pub judged_frame : verdict (frame_of head values P) ≡ ok (greatest_of (take (area q) levels)) 0
    judged_frame =
        judged_by_lem head values P six many flags (record { found = again.found; next = again.next }) within again.starts (ap (λ (x : PayloadRead). x.answer) again.reads)
        ∙ ap (λ (x : ℕ). ok x again.next.past) (ap (λ (x : Found). x.greatest) same_found_lem ∙ greatest_is)
        ∙ ap (ok (greatest_of (take (area q) levels))) again.closes.clean

not_accepted : {X : Type 0} (n : ℕ) (f : List ℕ) → ◌≡◌ {A = Answer (List ℕ)} (refused n) (accepted f) → X
not_accepted n f e = let y : ◌≡◌ {A = ℕ} 0 1 = cc in absurd (omega arith)

same_frame : (f g : List ℕ) → ◌≡◌ {A = Answer (List ℕ)} (accepted f) (accepted g) → f ≡ g
same_frame f g e = cc

-- ---- what a frame comes from
framed_from : (head values : List ℕ) (a : Answer ℕ) (room f : List ℕ) → framed head values a room ≡ accepted f → (m : ℕ) × (a ≡ accepted m) × (frame_of head values (take m room) ≡ f)
unfolding framed
framed_from head values (accepted m) room f e = (m, refl, same_frame (frame_of head values (take m room)) f e)
framed_from head values (refused m) room f e = not_accepted (cond (eqb m 12) 22 m) f e

listed_from : (head values : List ℕ) (a : Answer ℕ) (room f : List ℕ) → listed head values a room ≡ accepted f
    → (n : ℕ) × (a ≡ accepted n) × (framed head values (packed_for head values (take n room)).answer (packed_for head values (take n room)).room ≡ accepted f)
unfolding listed
listed_from head values (accepted n) room f e = (n, refl, e)
listed_from head values (refused n) room f e = not_accepted n f e

pressed_from : (k : ℕ) (head values : List ℕ) (levels : List ℤ) (f : List ℕ) → pressed_by k head values levels ≡ accepted f
    → (k ≡ 0) × (listed head values (written_for head levels).answer (written_for head levels).room ≡ accepted f)
unfolding pressed_by
pressed_from zero head values levels f e = (refl, e)
pressed_from (suc k) head values levels f e = not_accepted (suc k) f e

-- whatever is drawn: where there is a frame, the book answers ok, the greatest magnitude, 0
pub pressed_judged : (room : ℕ) (head values : List ℕ) (levels : List ℤ) (f : List ℕ) → pressed room head values levels ≡ accepted f
    → verdict f ≡ ok (greatest_of (take (area (params_of head)) levels)) 0
unfolding pressed
pressed_judged room head values levels f e =
    let a = pressed_from (handed_refusal room head values) head values levels f e in
    let h = handed room head values a.0 in
    let b = listed_from head values (written_for head levels).answer (written_for head levels).room f a.1 in
    let c = framed_from head values (packed_for head values (take b.0 (written_for head levels).room)).answer (packed_for head values (take b.0 (written_for head levels).room)).room f b.2 in
    ap verdict (sym c.2) ∙ judged_frame head values levels h.six h.many h.flags b.0 b.1 c.0 c.1

-- and it is as long as it says
pub pressed_long : (room : ℕ) (head values : List ℕ) (levels : List ℤ) (f : List ℕ) → pressed room head values levels ≡ accepted f → Long f
unfolding pressed
pressed_long room head values levels f e =
    let a = pressed_from (handed_refusal room head values) head values levels f e in
    let h = handed room head values a.0 in
    let b = listed_from head values (written_for head levels).answer (written_for head levels).room f a.1 in
    let bins = take b.0 (written_for head levels).room in
    let c = framed_from head values (packed_for head values bins).answer (packed_for head values bins).room f b.2 in
    subst Long c.2 (frame_long head values (take c.0 (packed_for head values bins).room) h.six h.many (packed_few head values bins c.0 c.1))
