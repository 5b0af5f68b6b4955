-- As EntryPoints, of the entry points that pack (request (i)), of H.264's block (request (xiii)) and of where a block's reading ended (request (xii)): whatever one is handed, two answers that its promise allows are
-- equal, with what they leave in lent memory. Assumes nothing.
use Rattle.std.specs.Prelude.{ℕ, ◌≡◌, List, ℤ, Result, Ok, Err}
use Rattle.std.proofs.Common.{sym, ap, ◌∙◌}
use Rattle.bins.specs.declared.state.Engine.{Engine}
use Rattle.cabac.specs.Numbers.{Answer, accepted, refused}
use Rattle.hevc_residual.specs.declared.params.Params.{Params}
use Rattle.packing.specs.Entries.{BinsPacked}
use Rattle.packer.specs.IntoCode.{packing_says}
use Rattle.hevc_packer.specs.Entries.{pack_bins, pack_scale}
use Rattle.hevc_tray_packer.specs.declared.entries.TrayPacking.{TrayPacking}
use Rattle.hevc_tray_packer.specs.Rows.{TrayPacked, pack_rows}
use Rattle.hevc_tray_packer.specs.Promise.{tray_says}
use Rattle.h264_packer.specs.Entries as h264
use Rattle.h264_block.specs.Contexts.{pairs_refusal, contexts_after}
use Rattle.h264_block.specs.Entries.{FoundAt, PayloadRead, BinsRead, BinsWritten, read_payload, read_bins, write_bins}
use Rattle.h264_reader.specs.EntriesAgree.{Read, ReadList, found, read_says, list_says, payload_read, bins_read}
use Rattle.h264_writer.specs.EntriesPuts.{Listed, written_says, bins_written}
use Rattle.hevc_reached.specs.declared.entries.ReachedAt.{ReachedAt}
use Rattle.hevc_reached.specs.Reading.{reached_all}
use Rattle.hevc_differ.specs.declared.entries.Judgement.{Judgement}
use Rattle.hevc_differ.specs.Judgement.{judgement}
use Rattle.answers.specs.One.{no_both, same_yes, same_no}

-- ---- what an answer says tells the answer
packing_one : (r s : Result ℕ ℕ) (m m' : List ℕ) → packing_says r m ≡ packing_says s m' → (r ≡ s) × (m ≡ m')
packing_one (Ok a) (Ok b) m m' q = (ap Ok (same_yes a b (ap (λ (x : BinsPacked). x.answer) q)), ap (λ (x : BinsPacked). x.room) q)
packing_one (Err a) (Err b) m m' q = (ap Err (same_no a b (ap (λ (x : BinsPacked). x.answer) q)), ap (λ (x : BinsPacked). x.room) q)
packing_one (Ok a) (Err b) m m' q = no_both a b (ap (λ (x : BinsPacked). x.answer) q)
packing_one (Err a) (Ok b) m m' q = no_both b a (sym (ap (λ (x : BinsPacked). x.answer) q))

tray_one : (r s : TrayPacking) (m m' : List ℕ) → tray_says r m ≡ tray_says s m' → (r ≡ s) × (m ≡ m')
tray_one r s m m' q =
    let p = packing_one r.packing s.packing m m' (ap (λ (x : TrayPacked). x.packed) q) in
    (made (ap (λ (x : TrayPacked). x.done) q) p.0, p.1)
  where
    made : r.done ≡ s.done → r.packing ≡ s.packing → r ≡ s
    made a b = λ i. record { done = a i; packing = b i }

read_one : (r s : Read) → read_says r ≡ read_says s → r ≡ s
read_one (Ok f) (Ok g) q = ap (λ (x : FoundAt). found x.greatest x.next) (same_yes {A = FoundAt} _ _ q)
read_one (Err m) (Err n) q = ap Err (same_no m n q)
read_one (Ok f) (Err n) q = no_both _ n q
read_one (Err n) (Ok f) q = no_both _ n (sym q)

list_one : (r s : ReadList) → list_says r ≡ list_says s → r ≡ s
list_one (Ok g) (Ok h) q = ap Ok (same_yes g h q)
list_one (Err m) (Err n) q = ap Err (same_no m n q)
list_one (Ok g) (Err n) q = no_both g n q
list_one (Err n) (Ok g) q = no_both g n (sym q)

written_one : (r s : Listed) → written_says r ≡ written_says s → r ≡ s
written_one (Ok a) (Ok b) q = ap Ok (same_yes a b q)
written_one (Err a) (Err b) q = ap Err (same_no a b q)
written_one (Ok a) (Err b) q = no_both a b q
written_one (Err a) (Ok b) q = no_both b a (sym q)

-- ---- bin lists as payloads
pub pack_bins_lem : (contexts stats : List ℕ) (p : Params) (list room : List ℕ) (r s : Result ℕ ℕ) (m m' : List ℕ)
    → packing_says r m ≡ pack_bins contexts stats p list room → packing_says s m' ≡ pack_bins contexts stats p list room → (r ≡ s) × (m ≡ m')
pack_bins_lem contexts stats p list room r s m m' x y = packing_one r s m m' (x ∙ sym y)

pub pack_scale_lem : (contexts : List ℕ) (component : ℕ) (list room : List ℕ) (r s : Result ℕ ℕ) (m m' : List ℕ)
    → packing_says r m ≡ pack_scale contexts component list room → packing_says s m' ≡ pack_scale contexts component list room → (r ≡ s) × (m ≡ m')
pack_scale_lem contexts component list room r s m m' x y = packing_one r s m m' (x ∙ sym y)

pub pack_tray_lem : (contexts stats : List ℕ) (rows : List (List ℕ)) (list room : List ℕ) (r s : TrayPacking) (m m' : List ℕ)
    → tray_says r m ≡ pack_rows contexts stats rows list room → tray_says s m' ≡ pack_rows contexts stats rows list room → (r ≡ s) × (m ≡ m')
pack_tray_lem contexts stats rows list room r s m m' x y = tray_one r s m m' (x ∙ sym y)

pub h264_pack_bins : (contexts list room : List ℕ) (r s : Result ℕ ℕ) (m m' : List ℕ)
    → packing_says r m ≡ h264.pack_bins contexts list room → packing_says s m' ≡ h264.pack_bins contexts list room → (r ≡ s) × (m ≡ m')
h264_pack_bins contexts list room r s m m' x y = packing_one r s m m' (x ∙ sym y)

-- ---- H.264's block
pub h264_residual_block : (l : List ℕ) (e : Engine) (contexts : List ℕ) (lent : List ℤ) (r s : Read) (c c' : List ℕ) (b b' : List ℤ)
    → payload_read r c b ≡ read_payload l e contexts lent → payload_read s c' b' ≡ read_payload l e contexts lent → (r ≡ s) × (c ≡ c') × (b ≡ b')
h264_residual_block l e contexts lent r s c c' b b' x y =
    let q = x ∙ sym y in
    (read_one r s (ap (λ (z : PayloadRead). z.answer) q), ap (λ (z : PayloadRead). z.contexts) q, ap (λ (z : PayloadRead). z.block) q)

pub h264_read_bins : (bins : List ℕ) (lent : List ℤ) (r s : ReadList) (b b' : List ℤ)
    → bins_read r b ≡ read_bins bins lent → bins_read s b' ≡ read_bins bins lent → (r ≡ s) × (b ≡ b')
h264_read_bins bins lent r s b b' x y =
    let q = x ∙ sym y in
    (list_one r s (ap (λ (z : BinsRead). z.answer) q), ap (λ (z : BinsRead). z.block) q)

pub h264_write_bins : (lent : List ℤ) (room : List ℕ) (r s : Listed) (m m' : List ℕ)
    → bins_written r m ≡ write_bins lent room → bins_written s m' ≡ write_bins lent room → (r ≡ s) × (m ≡ m')
h264_write_bins lent room r s m m' x y =
    let q = x ∙ sym y in
    (written_one r s (ap (λ (z : BinsWritten). z.answer) q), ap (λ (z : BinsWritten). z.room) q)

pub h264_init_pairs : (contexts : List ℕ) (pairs : List ℤ) (qp n n' : ℕ) (c c' : List ℕ)
    → (n ≡ pairs_refusal pairs) × (c ≡ contexts_after n contexts pairs qp) → (n' ≡ pairs_refusal pairs) × (c' ≡ contexts_after n' contexts pairs qp)
    → (n ≡ n') × (c ≡ c')
h264_init_pairs contexts pairs qp n n' c c' a b =
    let e : n ≡ n' = a.0 ∙ sym b.0 in
    (e, a.1 ∙ ap (λ k. contexts_after k contexts pairs qp) e ∙ sym b.1)

-- ---- request (xii): the promises are equations with the answer itself
module _ (l : List ℕ) (e : Engine) (contexts stats : List ℕ) (p : Params) (block : List ℤ) where
  pub reached : (r s : ReachedAt) → r ≡ reached_all l e contexts stats p block → s ≡ reached_all l e contexts stats p block → r ≡ s
  reached r s a b = a ∙ sym b

  pub judge : (m : List ℕ) (r s : Judgement) → r ≡ judgement l m e contexts stats p block → s ≡ judgement l m e contexts stats p block → r ≡ s
  judge m r s a b = a ∙ sym b
