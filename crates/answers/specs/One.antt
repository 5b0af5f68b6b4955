-- What an answer says tells the answer: for each type that an entry point answers by. Assumes nothing.
use Rattle.std.specs.Prelude.{ℕ, ◌≡◌, List, ℤ, Result, Ok, Err}
use Rattle.std.proofs.Common.{sym, ap, ◌∙◌, arith}
use Rattle.bins.specs.Engine.{Decided, Drawn}
use Rattle.cabac.specs.Numbers.{Answer, accepted, refused}
use Rattle.cabac.specs.Entries.{state_says, decision_says, bins_say}
use Rattle.bins.specs.declared.state.Engine.{Engine}
use Rattle.cabac.specs.declared.answers.DecidedBin.{DecidedBin}
use Rattle.cabac.specs.declared.answers.ReadBins.{ReadBins}
use Rattle.hevc_residual.specs.declared.params.Params.{Params}
use Rattle.hevc_residual.specs.Entries.{Found, FoundAt, PayloadRead, BinsRead, BinsWritten}
use Rattle.hevc_residual.specs.declared.answers.Found as code
use Rattle.hevc_residual.specs.declared.answers.ReadBlock.{ReadBlock}
use Rattle.hevc_residual.specs.Answers.{found_seen, payload_read, bins_read}
use Rattle.hevc_residual.specs.Answers.{written_says, bins_written}
use Rattle.hevc_plain_checks.specs.Record.{made_says}
use Rattle.hevc_cross.specs.Entries as scales
use Rattle.hevc_scale.specs.EntriesAgree as scaled
use Rattle.cabac_context.specs.Lent.{BitAt, Lent, lent_says}
use Rattle.cabac_context.specs.declared.context.ReadBit.{ReadBit}

-- ---- accepted is not refused, and each says what it holds
pub no_both : {A X : Type 0} (a : A) (n : ℕ) → accepted a ≡ refused n → X
no_both a n q = let z : ◌≡◌ {A = ℕ} 0 1 = cc in absurd (omega arith)

pub same_yes : {A : Type 0} (a b : A) → accepted a ≡ accepted b → a ≡ b
same_yes a b q = cc

pub same_no : {A : Type 0} (m n : ℕ) → ◌≡◌ {A = Answer A} (refused m) (refused n) → m ≡ n
same_no m n q = cc

-- ---- cabac
pub state_one : (r s : Result Engine ℕ) → state_says r ≡ state_says s → r ≡ s
state_one (Ok e) (Ok f) q = ap Ok (same_yes e f q)
state_one (Err m) (Err n) q = ap Err (same_no m n q)
state_one (Ok e) (Err n) q = no_both e n q
state_one (Err n) (Ok e) q = no_both e n (sym q)

pub bins_one : (r s : Result ReadBins ℕ) → bins_say r ≡ bins_say s → r ≡ s
bins_one (Ok b) (Ok c) q = ap (λ (d : Drawn). Ok (record { value = d.value; state = d.next })) (same_yes {A = Drawn} _ _ q)
bins_one (Err m) (Err n) q = ap Err (same_no m n q)
bins_one (Ok b) (Err n) q = no_both _ n q
bins_one (Err n) (Ok b) q = no_both _ n (sym q)

pub decision_one : (r s : Result DecidedBin ℕ) → decision_says r ≡ decision_says s → r ≡ s
decision_one (Ok b) (Ok c) q =
    ap (λ (d : Decided). Ok (record { bin = d.bit; context = d.ctx; state = d.next })) (same_yes {A = Decided} _ _ q)
decision_one (Err m) (Err n) q = ap Err (same_no m n q)
decision_one (Ok b) (Err n) q = no_both _ n q
decision_one (Err n) (Ok b) q = no_both _ n (sym q)

-- ---- decoder: the bin, and the byte that the lent context holds
pub lent_one : (r s : Result ReadBit ℕ) (a b : ℕ) → lent_says r a ≡ lent_says s b → (r ≡ s) × (a ≡ b)
lent_one (Ok v) (Ok w) a b q =
    let k = same_yes {A = BitAt} _ _ (ap (λ (l : Lent). l.answer) q) in
    (ap (λ (d : BitAt). Ok (record { bin = d.bit; state = d.next })) k, ap (λ (l : Lent). l.packed) q)
lent_one (Err m) (Err n) a b q = (ap Err (same_no m n (ap (λ (l : Lent). l.answer) q)), ap (λ (l : Lent). l.packed) q)
lent_one (Ok v) (Err n) a b q = no_both _ n (ap (λ (l : Lent). l.answer) q)
lent_one (Err n) (Ok v) a b q = no_both _ n (sym (ap (λ (l : Lent). l.answer) q))

-- ---- reader
found_one : (f g : code.Found) → found_seen f ≡ found_seen g → f ≡ g
found_one f g q =
    made (ap (λ (x : Found). x.skip) q) (ap (λ (x : Found). x.rdpcm) q) (ap (λ (x : Found). x.column) q) (ap (λ (x : Found). x.row) q) (ap (λ (x : Found). x.greatest) q)
  where
    made : f.skip ≡ g.skip → f.rdpcm ≡ g.rdpcm → f.column ≡ g.column → f.row ≡ g.row → f.greatest ≡ g.greatest → f ≡ g
    made a b c d e = λ i. record { skip = a i; rdpcm = b i; column = c i; row = d i; greatest = e i }

pub read_one : (r s : Result ReadBlock ℕ) (c c' t t' : List ℕ) (b b' : List ℤ) → payload_read r c t b ≡ payload_read s c' t' b' → (r ≡ s) × (c ≡ c') × (t ≡ t') × (b ≡ b')
read_one (Ok f) (Ok g) c c' t t' b b' q =
    let k = same_yes {A = FoundAt} _ _ (ap (λ (x : PayloadRead). x.answer) q) in
    let m : f.found ≡ g.found = found_one f.found g.found (ap (λ (x : FoundAt). x.found) k) in
    let n : f.state ≡ g.state = ap (λ (x : FoundAt). x.next) k in
    ((λ i. Ok (record { found = m i; state = n i })), ap (λ (x : PayloadRead). x.contexts) q, ap (λ (x : PayloadRead). x.stats) q, ap (λ (x : PayloadRead). x.block) q)
read_one (Err m) (Err n) c c' t t' b b' q =
    (ap Err (same_no m n (ap (λ (x : PayloadRead). x.answer) q)), ap (λ (x : PayloadRead). x.contexts) q, ap (λ (x : PayloadRead). x.stats) q, ap (λ (x : PayloadRead). x.block) q)
read_one (Ok f) (Err n) c c' t t' b b' q = no_both _ n (ap (λ (x : PayloadRead). x.answer) q)
read_one (Err n) (Ok f) c c' t t' b b' q = no_both _ n (sym (ap (λ (x : PayloadRead). x.answer) q))

pub list_one : (r s : Result code.Found ℕ) (t t' : List ℕ) (b b' : List ℤ) → bins_read r t b ≡ bins_read s t' b' → (r ≡ s) × (t ≡ t') × (b ≡ b')
list_one (Ok f) (Ok g) t t' b b' q =
    let m : f ≡ g = found_one f g (same_yes {A = Found} _ _ (ap (λ (x : BinsRead). x.answer) q)) in
    (ap Ok m, ap (λ (x : BinsRead). x.stats) q, ap (λ (x : BinsRead). x.block) q)
list_one (Err m) (Err n) t t' b b' q =
    (ap Err (same_no m n (ap (λ (x : BinsRead). x.answer) q)), ap (λ (x : BinsRead). x.stats) q, ap (λ (x : BinsRead). x.block) q)
list_one (Ok f) (Err n) t t' b b' q = no_both _ n (ap (λ (x : BinsRead). x.answer) q)
list_one (Err n) (Ok f) t t' b b' q = no_both _ n (sym (ap (λ (x : BinsRead). x.answer) q))

-- ---- writer, of blocks and of scales
list_written_one : (r s : Result ℕ ℕ) → written_says r ≡ written_says s → r ≡ s
list_written_one (Ok a) (Ok b) q = ap Ok (same_yes a b q)
list_written_one (Err a) (Err b) q = ap Err (same_no a b q)
list_written_one (Ok a) (Err b) q = no_both a b q
list_written_one (Err a) (Ok b) q = no_both b a (sym q)

pub written_one : (r s : Result ℕ ℕ) (t t' m m' : List ℕ) → bins_written r t m ≡ bins_written s t' m' → (r ≡ s) × (t ≡ t') × (m ≡ m')
written_one r s t t' m m' q = (list_written_one r s (ap (λ (x : BinsWritten). x.answer) q), ap (λ (x : BinsWritten). x.stats) q, ap (λ (x : BinsWritten). x.room) q)

pub scale_written_one : (r s : Result ℕ ℕ) (m m' : List ℕ) → scaled.bins_written r m ≡ scaled.bins_written s m' → (r ≡ s) × (m ≡ m')
scale_written_one r s m m' q = (list_written_one r s (ap (λ (x : scales.BinsWritten). x.answer) q), ap (λ (x : scales.BinsWritten). x.room) q)

-- ---- plain
pub made_one : (r s : Result Params ℕ) → made_says r ≡ made_says s → r ≡ s
made_one (Ok p) (Ok q) e = ap Ok (same_yes p q e)
made_one (Err m) (Err n) e = ap Err (same_no m n e)
made_one (Ok p) (Err n) e = no_both p n e
made_one (Err n) (Ok p) e = no_both p n (sym e)

-- ---- scale
read_scale_one : (r s : scaled.Read) → scaled.read_says r ≡ scaled.read_says s → r ≡ s
read_scale_one (Ok f) (Ok g) q = ap (λ (x : scales.ScaleAt). scaled.found x.scale x.next) (same_yes {A = scales.ScaleAt} _ _ q)
read_scale_one (Err m) (Err n) q = ap Err (same_no m n q)
read_scale_one (Ok f) (Err n) q = no_both _ n q
read_scale_one (Err n) (Ok f) q = no_both _ n (sym q)

pub scale_one : (r s : scaled.Read) (c c' : List ℕ) → scaled.payload_read r c ≡ scaled.payload_read s c' → (r ≡ s) × (c ≡ c')
scale_one r s c c' q = (read_scale_one r s (ap (λ (x : scales.PayloadRead). x.answer) q), ap (λ (x : scales.PayloadRead). x.contexts) q)

pub scale_list_one : (r s : scaled.ReadList) → scaled.bins_read r ≡ scaled.bins_read s → r ≡ s
scale_list_one (Ok y) (Ok z) q = ap Ok (same_yes y z q)
scale_list_one (Err m) (Err n) q = ap Err (same_no m n q)
scale_list_one (Ok y) (Err n) q = no_both y n q
scale_list_one (Err n) (Ok y) q = no_both y n (sym q)
