use Prim.Native.Nat.{ℕ}
use native.Mathlib.Omega.{arith}
use lib.ListN.{length-replicate}
use Rattle.book_answers.specs.CodeLaws.{front_bytes, front_count, front_room, front_long}
use Rattle.morning_add.specs.CodeLaws.{line_form, line_frame}
use Rattle.morning_lines.proofs.event.read_line.Goals as goal

pub returns-then-n-ne0 : goal.returns-then-n-ne0
returns-then-n-ne0 c =
    let a = c.args in
    line_form a.line.now a.finished _ c.refusal-n.ensures _ c.if-n-ne0.true

pub slice_bounds-bytes-end : goal.slice_bounds-bytes-end
slice_bounds-bytes-end c =
    let a = c.args in
    let r = c.refusal-n.ensures in
    let z = c.if-n-ne0.false in
    let w = c.hex_bytes.ensures.out_after in
    let room = length-replicate {A = ℕ} 4234 0 in
    front_room a.line.now a.finished _ r z _ _ room w

pub slice_bounds-frame_read-end : goal.slice_bounds-frame_read-end
slice_bounds-frame_read-end c =
    let a = c.args in
    let r = c.refusal-n.ensures in
    let z = c.if-n-ne0.false in
    let w = c.hex_bytes.ensures.out_after in
    let room = length-replicate {A = ℕ} 4234 0 in
    front_count a.line.now a.finished _ r z _ _ room w

pub frame_read-requires : goal.frame_read-requires
frame_read-requires c =
    let a = c.args in
    let r = c.refusal-n.ensures in
    let z = c.if-n-ne0.false in
    let w = c.hex_bytes.ensures.out_after in
    let room = length-replicate {A = ℕ} 4234 0 in
    omega (arith, front_long a.line.now a.finished _ r z, front_count a.line.now a.finished _ r z _ _ room w)

pub returns : goal.returns
returns c =
    let a = c.args in
    let r = c.refusal-n.ensures in
    let z = c.if-n-ne0.false in
    let w = c.hex_bytes.ensures.out_after in
    let room = length-replicate {A = ℕ} 4234 0 in
    line_frame a.line.now a.finished _ r _ z _ _ (front_bytes a.line.now a.finished _ r z _ _ room w) c.frame_read.ensures
