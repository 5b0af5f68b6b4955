-- The number that a step of a reader is refused by is the one that its caller hands on: of a step, the head, the sub-blocks, the block, H.264's block, the scale. Assumes nothing.
use Rattle.std.specs.Prelude.{ℕ, ◌≡◌, Result, Ok, Err}
use Rattle.std.proofs.Common.{refl, sym, ap, subst, ◌∙◌}
use Rattle.bins.specs.declared.state.Refusal.{Refusal}
use Rattle.bins.specs.Syn.{Out}
use Rattle.bins.specs.Laws.{RefusedBy}
use Rattle.bins.specs.Sources.{Cursor, stopped, Step, refused_at}
use Rattle.hevc_head.specs.declared.head.Headed.{Headed}
use Rattle.hevc_subblock.specs.declared.coeffs.Carried.{Carried}
use Rattle.hevc_block.specs.declared.block.Blocked.{Blocked}
use Rattle.hevc_scale_syntax.specs.declared.syntax.Scaled.{Scaled}

-- ---- what is refused; of what was read, number 0 behind it
abbrev pub refusal_of : Step → Refusal
refusal_of (Ok t) = refused_at 0 t.next
refusal_of (Err n) = n

abbrev pub headed_refusal : Result Headed Refusal → Refusal
headed_refusal (Ok h) = refused_at 0 h.next
headed_refusal (Err n) = n

abbrev pub carried_refusal : Result Carried Refusal → Refusal
carried_refusal (Ok c) = refused_at 0 c.next
carried_refusal (Err n) = n

-- ---- by which number alone
abbrev pub step_no : Step → ℕ
step_no (Ok t) = 0
step_no (Err n) = n.number

abbrev pub blocked_no : Result Blocked Refusal → ℕ
blocked_no (Ok b) = 0
blocked_no (Err n) = n.number

abbrev pub scaled_no : Result Scaled Refusal → ℕ
scaled_no (Ok s) = 0
scaled_no (Err n) = n.number

-- ---- handed on
-- one law: a refusal that can be had back from what it is told as is had back from what was told
pub handed_on : {T B : Type 0} (told : Result T Refusal → B) (back : B → Refusal) (r : Result T Refusal) (m : Refusal) (n : B) → back (told (Err m)) ≡ m → r ≡ Err m → n ≡ told r → m ≡ back n
handed_on told back r m n h q e = sym h ∙ ap back (sym (e ∙ ap told q))

pub refused_as : {A : Type 0} (o : Out Cursor A) (r : Step) (m n : Refusal) → RefusedBy m o → r ≡ stopped m → n ≡ refusal_of r → RefusedBy n o
refused_as o r m n h q e = subst (λ k. RefusedBy k o) (handed_on refusal_of (λ k. k) r m n refl q e) h

pub headed_number : (r : Result Headed Refusal) (m n : Refusal) → r ≡ Err m → n ≡ headed_refusal r → r ≡ Err n
headed_number r m n q e = q ∙ ap Err (handed_on headed_refusal (λ k. k) r m n refl q e)

pub carried_number : (r : Result Carried Refusal) (m n : Refusal) → r ≡ Err m → n ≡ carried_refusal r → r ≡ Err n
carried_number r m n q e = q ∙ ap Err (handed_on carried_refusal (λ k. k) r m n refl q e)

pub step_number : (r : Step) (m : Refusal) (n : ℕ) → r ≡ stopped m → n ≡ step_no r → r ≡ stopped (refused_at n m.at)
step_number r m n q e = q ∙ ap Err (handed_on step_no (λ k. refused_at k m.at) r m n refl q e)

pub blocked_number : (r : Result Blocked Refusal) (m : Refusal) (n : ℕ) → r ≡ Err m → n ≡ blocked_no r → r ≡ Err (refused_at n m.at)
blocked_number r m n q e = q ∙ ap Err (handed_on blocked_no (λ k. refused_at k m.at) r m n refl q e)

pub scaled_number : (r : Result Scaled Refusal) (m : Refusal) (n : ℕ) → r ≡ Err m → n ≡ scaled_no r → r ≡ Err (refused_at n m.at)
scaled_number r m n q e = q ∙ ap Err (handed_on scaled_no (λ k. refused_at k m.at) r m n refl q e)
