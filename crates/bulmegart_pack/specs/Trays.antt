-- What a tray packed answers and leaves behind in C's form.
use Rattle.std.specs.Prelude.{ℕ, ◌≡◌, refl, List, Result, Ok, Err}
use Rattle.std.proofs.Common.{ap, ◌∙◌}
use Rattle.packer.specs.IntoCode.{packing_says}
use Rattle.hevc_tray_packer.specs.declared.entries.TrayPacking.{TrayPacking}
use Rattle.hevc_tray_packer.specs.Rows.{TrayPacked}
use Rattle.hevc_tray_packer.specs.Promise.{tray_says}
use Rattle.bulmegart_blocks.specs.declared.lists.WriteAnswer.{WriteAnswer}
use Rattle.bulmegart_blocks.specs.Lists.{write_given}
use Rattle.bulmegart_pack.specs.declared.trays.PackTrayAnswer.{PackTrayAnswer}
use Rattle.bulmegart_pack.specs.Packed.{packing_answer}

pub record TrayLeft : Type 0 where
  pub answer : PackTrayAnswer
  pub room : List ℕ

abbrev pub tray_left : PackTrayAnswer → List ℕ → TrayLeft
tray_left answer room = record { answer = answer; room = room }

-- an answer with its count of lists
abbrev pub counted : ℕ → WriteAnswer → PackTrayAnswer
counted done w = record { number = w.number; done = done; length = w.length }

abbrev pub tray_seen : TrayPacked → TrayLeft
tray_seen t = tray_left (counted t.done (write_given t.packed.answer)) t.packed.room

-- ---- as the code has it
said : (done : ℕ) (p : Result ℕ ℕ) (room : List ℕ) → tray_left (counted done (write_given (packing_answer p))) room ≡ tray_seen (record { done = done; packed = packing_says p room })
said done (Ok n) room = refl
said done (Err n) room = refl

pub tray_seen_lem : (t : TrayPacking) (a : WriteAnswer) (room : List ℕ) (x : TrayPacked) → a ≡ write_given (packing_answer t.packing) → tray_says t room ≡ x
    → tray_left (counted t.done a) room ≡ tray_seen x
tray_seen_lem t a room x p q = ap (λ (w : WriteAnswer). tray_left (counted t.done w) room) p ∙ said t.done t.packing room ∙ ap tray_seen q
