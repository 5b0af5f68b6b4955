use Prim.Native.Nat.{ℕ}
use native.Mathlib.Omega.{arith}
use lib.ListN.{length-replicate}
use Rattle.book_answers.specs.CodeLaws.{judged_form, judged_frame, front_bytes, front_count, front_room, front_long}
use Rattle.book_answering.proofs.answering.judge_line.Goals as goal

pub returns-then-n-ne0 : goal.returns-then-n-ne0
returns-then-n-ne0 c = let a = c.args in judged_form a.line.now a.finished _ c.refusal-n.ensures c.if-n-ne0.true

pub slice_bounds-bytes-end : goal.slice_bounds-bytes-end
slice_bounds-bytes-end c =
    let a = c.args in
    front_room a.line.now a.finished _ c.refusal-n.ensures c.if-n-ne0.false _ _ (length-replicate {A = ℕ} 4234 0) c.hex_bytes.ensures.out_after

pub slice_bounds-judge-end : goal.slice_bounds-judge-end
slice_bounds-judge-end c =
    let a = c.args in
    front_count a.line.now a.finished _ c.refusal-n.ensures c.if-n-ne0.false _ _ (length-replicate {A = ℕ} 4234 0) c.hex_bytes.ensures.out_after

pub judge-requires : goal.judge-requires
judge-requires c =
    let a = c.args in
    let r = c.refusal-n.ensures in
    let z = c.if-n-ne0.false in
    omega (
      arith,
      front_long a.line.now a.finished _ r z,
      front_count a.line.now a.finished _ r z _ _ (length-replicate {A = ℕ} 4234 0) c.hex_bytes.ensures.out_after,
    )

pub returns : goal.returns
returns c =
    let a = c.args in
    let r = c.refusal-n.ensures in
    let z = c.if-n-ne0.false in
    judged_frame a.line.now a.finished _ r z _ _
    (front_bytes a.line.now a.finished _ r z _ _ (length-replicate {A = ℕ} 4234 0) c.hex_bytes.ensures.out_after) c.judge.ensures
