-- The entry point: what its answers say, and its ways out. Assumes nothing.
use Prim.Native.Nat.{ℕ, zero, suc, ◌≤◌, ◌<◌}
use Rattle.std.specs.Prelude.{◌≡◌, Bool, true, not, ℤ, take, leb, Ok, Err}
use Rattle.std.proofs.Math.Path.{refl, sym, ap, subst}
use Rattle.std.proofs.Common.{◌∙◌, arith, length-take-le}
use Rattle.std.proofs.Math.Bool.{false, cond}
use mathlib.Core.List.{List, [], ◌++◌}
use Rattle.std.proofs.Math.ListN.{length, drop}
use borrow.Author.Tests.{lt-ltb, le-ltb, lt-leb, le-leb, leb-true, leb-false}
use Rattle.bins.specs.Syn.{Written, write}
use Rattle.cabac.specs.Numbers.{◌or_else◌}
use Rattle.hevc_residual.specs.declared.params.Params.{Params}
use Rattle.hevc_residual.specs.declared.params.Rdpcm.{Rdpcm}
use Rattle.hevc_residual.specs.Wanted.{Wanted, area}
use Rattle.hevc_residual.specs.Refusal.{write_refusal}
use Rattle.hevc_residual.specs.Residual.{Block, residual}
use Rattle.hevc_residual.specs.Numbers.{parameter_refusal, statistics_refusal, room_refusal}
use Rattle.hevc_residual.specs.Answers.{bins_written}
use Rattle.hevc_residual.specs.Entries.{wanted_from, not_written, write_list_by, write_list, write_bins_by, write_bins}
use Rattle.hevc_residual.specs.Limits.{Accepted, Statistics}
use Rattle.hevc_residual.specs.LimitLaws.{parameter_passed, statistics_passed}
use Rattle.hevc_checks.specs.ChecksAgree.{bins_checks}
use Rattle.hevc_exact.specs.RefusalLaws.{refusal_near}
use Rattle.hevc_exact.specs.Exact as exact
use Rattle.hevc_longest.specs.Longest.{longest}
use Rattle.hevc_longest.proofs.LongestLaws.{longest_enough}
use Rattle.pen.specs.declared.room.Pen.{Pen}
use Rattle.pen.specs.Sheet.{Sheet, sheet, entered_all}
use Rattle.pen.specs.RoomPuts.{pen_at, counted_same, counted_long, counted_short, written_all}
use Rattle.hevc_block_pen.specs.BlockPuts.{wanted_of, Spells}

-- ---- the checks, one before the other
first_no : (a b c n : ℕ) → n ≡ (a or_else b) → (n ≡ 0 → ⊥) → (a or_else b or_else c) ≡ n
unfolding ◌or_else◌
first_no zero zero c n q h = absurd (h q)
first_no zero (suc b) c n q h = sym q
first_no (suc a) b c n q h = sym q

both_pass : (a b c : ℕ) → 0 ≡ (a or_else b) → (0 ≡ a) × (0 ≡ b) × ((a or_else b or_else c) ≡ c)
unfolding ◌or_else◌
both_pass zero b c q = (refl, q, ap (λ z. z or_else c) (sym q))
both_pass (suc a) b c q = absurd (omega arith)

-- what was written for w has come to its end
spelled_sheet : (p : Params) (w : Wanted) (stats stats' : List ℕ) (s s' : Sheet) → Spells p w stats stats' s s' → (a : Block) (l : List ℕ)
    → write (residual p stats) w ≡ Written.ok a l → (entered_all l s ≡ s') × (a.stats ≡ stats')
unfolding write entered_all
spelled_sheet p w stats stats' s s' h a l q =
    let e = h.wrote.leads a l q in
    let ea : h.answer ≡ a = cc in
    let em : e.0 ≡ [] = cc in
    (e.2 ∙ ap (λ (z : List ℕ). entered_all z s') em, sym (ap (λ (z : Block). z.stats) ea) ∙ h.stats_are)

-- ---- whether the list of what is wanted goes into the room
abbrev pub Goes : Params → List ℕ → Wanted → List ℕ → Bool → Type 0
Goes p stats w room fit = (a : Block) (l : List ℕ) → write (residual p stats) w ≡ Written.ok a l → fit ≡ leb (length l) (length room)

module _ (p : Params) (stats : List ℕ) (w : Wanted) (room : List ℕ) (acc : Accepted p) (long : length w.levels ≡ area p) (small : Statistics stats)
    (ok : write_refusal p w ≡ 0) where
  -- a room for the longest list
  pub surely_goes : (n : ℕ) → n ≡ longest p.log2 → n ≤ length room → Goes p stats w room true
  surely_goes n e h a l q =
      sym (le-leb (length l) (length room) (omega (arith, longest_enough p acc stats small w (refusal_near p w ok) a l q)))

  -- counted out
  module _ (st room' : List ℕ) (pen : Pen) (c : Spells p w stats st (sheet room (pen_at 0 false false)) (sheet room' pen)) where
    counted : (a : Block) (l : List ℕ) → write (residual p stats) w ≡ Written.ok a l → entered_all l (sheet room (pen_at 0 false false)) ≡ sheet room' pen
    counted a l q = (spelled_sheet p w stats st (sheet room (pen_at 0 false false)) (sheet room' pen) c a l q).0

    pub counted_stands : room' ≡ room
    counted_stands =
        let t = exact.written p acc stats w small long ok in
        counted_same room t.0 room' pen (counted t.1.answer t.0 t.2)

    pub counted_goes : Goes p stats w room (not pen.over)
    counted_goes a l q = go pen.over refl
      where
        go : (d : Bool) → pen.over ≡ d → not d ≡ leb (length l) (length room)
        go true o = sym (lt-leb (length l) (length room) (counted_long room l room' pen (counted a l q) o))
        go false o = sym (le-leb (length l) (length room) (counted_short room l room' pen (counted a l q) o))

module _ (p : Params) (stats : List ℕ) (block : List ℤ) (skip : Bool) (rdpcm : Rdpcm) (room : List ℕ) where
  abbrev w : Wanted
  w = wanted_from p block skip rdpcm

  by_no : (n : ℕ) → (n ≡ 0 → ⊥) → not_written n stats room ≡ write_bins_by n p stats w room
  unfolding write_bins_by
  by_no zero h = absurd (h refl)
  by_no (suc n) h = refl

  by : (n : ℕ) → (parameter_refusal p block or_else statistics_refusal stats or_else write_refusal p w) ≡ n → write_bins_by n p stats w room ≡ write_bins p stats block skip rdpcm room
  unfolding write_bins
  by n q = ap (λ k. write_bins_by k p stats w room) (sym q)

  -- 4, 3
  pub refused_first : (n : ℕ) → n ≡ bins_checks stats p block → (n ≡ 0 → ⊥) → bins_written (Err n) stats room ≡ write_bins p stats block skip rdpcm room
  refused_first n q h = by_no n h ∙ by n (first_no (parameter_refusal p block) (statistics_refusal stats) (write_refusal p w) n q h)

  module _ (pass : 0 ≡ bins_checks stats p block) where
    passed : (0 ≡ parameter_refusal p block) × (0 ≡ statistics_refusal stats)
        × ((parameter_refusal p block or_else statistics_refusal stats or_else write_refusal p w) ≡ write_refusal p w)
    passed = both_pass (parameter_refusal p block) (statistics_refusal stats) (write_refusal p w) pass

    pub accepts : Accepted p
    accepts = (parameter_passed p block passed.0).0

    pub long_enough : area p ≤ length block
    long_enough = (parameter_passed p block passed.0).1

    pub statistics : Statistics stats
    statistics = statistics_passed stats passed.1

    pub front_long : length (take (area p) block) ≡ area p
    front_long = length-take-le (area p) block long_enough

    -- 9, 10, 8, 11; the levels are the front of the block
    module _ (levels : List ℤ) (el : levels ≡ take (area p) block) where
      same : wanted_of skip rdpcm levels ≡ w
      same = ap (wanted_of skip rdpcm) el

      pub refused_second : (n : ℕ) → n ≡ write_refusal p (wanted_of skip rdpcm levels) → (n ≡ 0 → ⊥)
          → bins_written (Err n) stats room ≡ write_bins p stats block skip rdpcm room
      refused_second n q h = by_no n h ∙ by n (passed.2 ∙ ap (write_refusal p) (sym same) ∙ sym q)

      module _ (ok : write_refusal p (wanted_of skip rdpcm levels) ≡ 0) where
        none : write_refusal p w ≡ 0
        none = ap (write_refusal p) (sym same) ∙ ok

        list : (l : List ℕ) × (r : exact.ReadsAs p stats l w) × (write (residual p stats) w ≡ Written.ok r.answer l)
        list = exact.written p accepts stats w statistics front_long none

        lists : write_list stats room (Written.ok list.1.answer list.0) ≡ write_bins p stats block skip rdpcm room
        unfolding write_bins_by
        lists = ap (write_list stats room) (sym list.2) ∙ by 0 (passed.2 ∙ none)

        -- whether the list goes into the room, which stands as it was
        module _ (room' : List ℕ) (stands : room' ≡ room) (fit : Bool) (goes : Goes p stats (wanted_of skip rdpcm levels) room fit) where
          fit_is : fit ≡ leb (length list.0) (length room)
          fit_is = subst (λ (z : Wanted). Goes p stats z room fit) same goes list.1.answer list.0 list.2

          -- 12
          pub no_room : fit ≡ false → bins_written (Err 12) stats room' ≡ write_bins p stats block skip rdpcm room
          unfolding write_list write_list_by room_refusal
          no_room o =
              let h : length room < length list.0 = leb-false (length list.0) (length room) (sym fit_is ∙ o) in
              let e : room_refusal list.0 room ≡ 12 = ap (λ b. cond b 12 0) (lt-ltb (length room) (length list.0) h) in
              ap (λ r. bins_written (Err 12) stats r) stands
              ∙ ap (λ n. write_list_by n list.0 list.1.answer.stats stats room) (sym e) ∙ lists

          -- written
          pub all_written : fit ≡ true → (st' room'' : List ℕ) (pen' : Pen)
              → Spells p (wanted_of skip rdpcm levels) stats st' (sheet room' (pen_at 0 false true)) (sheet room'' pen')
              → bins_written (Ok pen'.at) st' room'' ≡ write_bins p stats block skip rdpcm room
          unfolding write_list write_list_by room_refusal
          all_written o st' room'' pen' d =
              let l = list.0 in
              let h : length l ≤ length room = leb-true (length l) (length room) (sym fit_is ∙ o) in
              let e : room_refusal l room ≡ 0 = ap (λ b. cond b 12 0) (le-ltb (length room) (length l) h) in
              let d' : Spells p w stats st' (sheet room (pen_at 0 false true)) (sheet room'' pen') =
              subst (λ (z : List ℕ). Spells p w stats st' (sheet z (pen_at 0 false true)) (sheet room'' pen')) stands
              (subst (λ (z : Wanted). Spells p z stats st' (sheet room' (pen_at 0 false true)) (sheet room'' pen')) same d) in
              let f = spelled_sheet p w stats st' (sheet room (pen_at 0 false true)) (sheet room'' pen') d' list.1.answer l list.2 in
              let g : sheet room'' pen' ≡ sheet (l ++ drop (length l) room) (pen_at (length l) false true) = sym f.0 ∙ written_all l room h in
              let gr : room'' ≡ l ++ drop (length l) room = ap (λ (z : Sheet). z.room) g in
              let ga : pen'.at ≡ length l = ap (λ (z : Sheet). z.pen.at) g in
              let same_answer : bins_written (Ok pen'.at) st' room'' ≡ write_list_by 0 l list.1.answer.stats stats room =
              ap (λ n. bins_written (Ok n) st' room'') ga ∙ ap (λ r. bins_written (Ok (length l)) st' r) gr
              ∙ ap (λ t. bins_written (Ok (length l)) t (l ++ drop (length l) room)) (sym f.1) in
              same_answer ∙ ap (λ n. write_list_by n l list.1.answer.stats stats room) (sym e) ∙ lists
