-- The code that packs a list into a room: each way out is what pack_into says. Assumes nothing.
use Rattle.std.specs.Prelude.{ℕ, ◌+◌, ◌*◌, ◌/◌, ◌≤◌, ◌<◌, ◌≡◌, refl, Bool, true, false, List, ◌++◌, length, drop, leb, Result, Ok, Err}
use Rattle.std.proofs.Common.{sym, ap, ap₂, ◌∙◌, arith, leb-true}
use Rattle.cabac.specs.Numbers.{accepted, refused}
use Rattle.packing.specs.Pack.{begun, writing, entries_of, packed_from}
use Rattle.packing.specs.PayloadLaws.{payload_length, begun_wide}
use Rattle.packing.proofs.PacksLaws.{packed_n, entries_length}
use Rattle.packing.specs.Entries.{BinsPacked, payload_from, pack_into}
use Rattle.packing.proofs.EntriesLaws.{into_long, into_fits}
use Rattle.packer.specs.WalkLaws.{Laid}

abbrev pub packing_says : Result ℕ ℕ → List ℕ → BinsPacked
packing_says (Ok n) room = record { answer = accepted n; room = room }
packing_says (Err n) room = record { answer = refused n; room = room }

said : (m n : ℕ) (a b : List ℕ) → m ≡ n → a ≡ b → ◌≡◌ {A = BinsPacked} (record { answer = accepted m; room = a }) (record { answer = accepted n; room = b })
said m n a b p q = cc

-- a payload has nine bits, and at most seven for each entry
pub payload_few : (contexts bins : List ℕ) → length (payload_from contexts bins) ≤ (length bins / 2 * 7 + 16) / 8
payload_few contexts bins =
    omega (arith, payload_length (packed_from contexts bins).enc, packed_n (entries_of bins) (writing begun contexts) begun_wide, entries_length bins)

-- where so many bytes are lent it is written at once
pub at_once : (contexts bins room : List ℕ) (b : Bool) → b ≡ leb ((length bins / 2 * 7 + 16) / 8) (length room) → b ≡ true → (m : ℕ) (room₂ cs₂ : List ℕ)
    → Laid room contexts true bins m room₂ cs₂ → packing_says (Ok m) room₂ ≡ pack_into contexts bins room
at_once contexts bins room b q h m room₂ cs₂ d =
    let P = payload_from contexts bins in
    let fits : length P ≤ length room = omega (arith, payload_few contexts bins, leb-true ((length bins / 2 * 7 + 16) / 8) (length room) (sym q ∙ h)) in
    let k = d.told in
    said m (length P) room₂ _ k (d.ink refl (omega (arith, k)) ∙ ap (λ z. P ++ drop z room) k) ∙ sym (into_fits contexts bins room fits)

-- counted: n is the length
module _ (contexts bins room : List ℕ) (n : ℕ) (room₁ cs₁ : List ℕ) (c : Laid room contexts false bins n room₁ cs₁) where
  pub no_room : length room₁ < n → packing_says (Err 12) room₁ ≡ pack_into contexts bins room
  no_room h =
      ap (λ z. packing_says (Err 12) z) (c.dry refl) ∙ sym (into_long contexts bins room (omega (arith, c.told, c.long)))

  pub all_written : n ≤ length room₁ → (again : List ℕ) → again ≡ contexts → (m : ℕ) (room₂ cs₂ : List ℕ) → Laid room₁ again true bins m room₂ cs₂
      → packing_says (Ok m) room₂ ≡ pack_into contexts bins room
  all_written h again q m room₂ cs₂ d =
      let P = payload_from contexts bins in
      let e : room₁ ≡ room = c.dry refl in
      let a : payload_from again bins ≡ P = ap (λ cs. payload_from cs bins) q in
      let k : m ≡ length P = d.told ∙ ap length a in
      let r : room₂ ≡ P ++ drop (length P) room = d.ink refl (omega (arith, c.told)) ∙ ap₂ (λ x y. x ++ y) a (ap₂ (λ x y. drop x y) k e) in
      said m (length P) room₂ _ k r ∙ sym (into_fits contexts bins room (omega (arith, c.told, c.long)))
