-- The entry point: what its answers say, and its ways out. Assumes nothing.
use Rattle.std.specs.Prelude.{ℕ, zero, suc, ◌≤◌, ◌<◌, ◌≡◌, refl, true, false, List, [], ◌++◌, ℤ, length, drop, Result, Ok, Err}
use Rattle.std.proofs.Common.{sym, ap, subst, ◌∙◌, length-take-le}
use Rattle.bins.specs.Syn.{Written, write}
use Rattle.cabac.specs.Numbers.{Answer, accepted, refused}
use Rattle.pen.specs.declared.room.Pen.{Pen}
use Rattle.pen.specs.Sheet.{Sheet, sheet, entered_all}
use Rattle.pen.specs.RoomPuts.{pen_at, counted_same, counted_long, counted_short, written_all}
use Rattle.h264_block.specs.Block.{block}
use Rattle.h264_block.specs.Refusal.{write_refusal}
use Rattle.h264_block.specs.Entries.{BinsWritten, block_refusal, wanted_from, write_bins}
use Rattle.h264_block.specs.Writable.{Writable, ReadsAs}
use Rattle.h264_block.proofs.BlockLaws.{refusal_none}
use Rattle.h264_block.specs.EntryLaws.{block_passes, writes_short, writes_refused, writes_fits, writes_over}
use Rattle.h264_block.proofs.Exact as exact
use Rattle.h264_pen.specs.LevelPuts.{BlockPut}

-- ---- the answer with document 01's numbers
abbrev pub Listed : Type 0
Listed = Result ℕ ℕ

abbrev pub written_says : Listed → Answer ℕ
written_says (Ok n) = accepted n
written_says (Err n) = refused n

abbrev pub bins_written : Listed → List ℕ → BinsWritten
bins_written r room = record { answer = written_says r; room = room }

-- what was written for w has come to its end
spelled : (w : List ℤ) (s s' : Sheet) → BlockPut w s s' → (a : List ℤ) (l : List ℕ) → write block w ≡ Written.ok a l → entered_all l s ≡ s'
unfolding write entered_all
spelled w s s' h a l q =
    let e = h.1.leads a l q in
    let em : e.0 ≡ [] = cc in
    e.2 ∙ ap (λ (z : List ℕ). entered_all z s') em

module _ (lent : List ℤ) (room : List ℕ) where
  -- 4
  pub refused_first : length lent < 16 → bins_written (Err 4) room ≡ write_bins lent room
  refused_first h = sym (writes_short lent room h)

  module _ (long : 16 ≤ length lent) where
    pass : 0 ≡ block_refusal lent
    pass = block_passes lent long

    -- 9, 8
    pub refused_second : (n : ℕ) → n ≡ write_refusal (wanted_from lent) → (n ≡ 0 → ⊥) → bins_written (Err n) room ≡ write_bins lent room
    refused_second zero q h = absurd (h refl)
    refused_second (suc n) q h = sym (writes_refused lent room pass n (sym q))

    module _ (ok : write_refusal (wanted_from lent) ≡ 0) where
      pub writable : Writable (wanted_from lent)
      writable = refusal_none (wanted_from lent) (length-take-le 16 lent long) ok

      list : (l : List ℕ) × ReadsAs l (wanted_from lent) × (write block (wanted_from lent) ≡ Written.ok (wanted_from lent) l)
      list = exact.written (wanted_from lent) (length-take-le 16 lent long) ok

      -- counted out
      module _ (room' : List ℕ) (pen : Pen) (c : BlockPut (wanted_from lent) (sheet room (pen_at 0 false false)) (sheet room' pen)) where
        counted : entered_all list.0 (sheet room (pen_at 0 false false)) ≡ sheet room' pen
        counted = spelled (wanted_from lent) (sheet room (pen_at 0 false false)) (sheet room' pen) c (wanted_from lent) list.0 list.2

        pub room_same : room' ≡ room
        room_same = counted_same room list.0 room' pen counted

        -- 12
        pub no_room : pen.over ≡ true → bins_written (Err 12) room' ≡ write_bins lent room
        no_room o =
            ap (λ (z : List ℕ). bins_written (Err 12) z) room_same
            ∙ sym (writes_over lent room pass ok (wanted_from lent) list.0 list.2 (counted_long room list.0 room' pen counted o))

        -- and written
        pub all_written : pen.over ≡ false → (room'' : List ℕ) (pen' : Pen) → BlockPut (wanted_from lent) (sheet room' (pen_at 0 false true)) (sheet room'' pen')
            → bins_written (Ok pen'.at) room'' ≡ write_bins lent room
        all_written o room'' pen' d =
            let fits : length list.0 ≤ length room = counted_short room list.0 room' pen counted o in
            let e : sheet (list.0 ++ drop (length list.0) room) (pen_at (length list.0) false true) ≡ sheet room'' pen' =
            sym (written_all list.0 room fits)
            ∙ spelled (wanted_from lent) (sheet room (pen_at 0 false true)) (sheet room'' pen')
            (subst (λ (z : List ℕ). BlockPut (wanted_from lent) (sheet z (pen_at 0 false true)) (sheet room'' pen')) room_same d) (wanted_from lent) list.0 list.2 in
            let n : length list.0 ≡ pen'.at = ap (λ (z : Sheet). z.pen.at) e in
            let r : list.0 ++ drop (length list.0) room ≡ room'' = ap (λ (z : Sheet). z.room) e in
            sym (writes_fits lent room pass ok (wanted_from lent) list.0 list.2 fits
            ∙ ap (λ (k : ℕ). bins_written (Ok k) (list.0 ++ drop (length list.0) room)) n
            ∙ ap (λ (z : List ℕ). bins_written (Ok pen'.at) z) r)
