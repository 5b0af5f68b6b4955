-- Laws of frames that are laid out: each field is where the book looks for it. Assumes nothing.
use Rattle.std.specs.Prelude.{ℕ, zero, suc, ◌+◌, ◌-◌, ◌/◌, ◌%◌, ◌≤◌, ◌<◌, ◌≡◌, refl, Bool, true, false, cond, ◌&&◌, List, [], ◌∷◌, ◌++◌, leb, eqb, length, take, get_or}
use Rattle.std.proofs.Common.{arith, sym, ◌∙◌, take_at, leb-true, eqb-true, le-leb, eq-eqb, ne_eqb}
use Rattle.std.proofs.Math.Path.{ap}
use Rattle.std.proofs.Math.ListN.{drop, get_or-append}
use Rattle.std.proofs.Math.Seq.{drop_at, drop-append-add}
use Rattle.std.proofs.lemmas.Bool.{lt-leb}
use Rattle.bins.specs.Tags.{context_count}
use Rattle.frame.specs.Frame.{byte_of, values_of, payload_of, quantiser_of, params_of, flags_refusal}
use Rattle.press_frame.specs.Pressed.{frame_of, handed_refusal}

-- ---- what is handed in
pub record Handed (room : ℕ) (head values : List ℕ) : Type 0 where
  pub wide : 4234 ≤ room
  pub six : length head ≡ 6
  pub many : length values ≡ context_count
  pub flags : flags_refusal head ≡ 0

and_one : (a b : Bool) → (a && b) ≡ true → a ≡ true
and_one true b h = refl
and_one false b h = h

and_two : (a b : Bool) → (a && b) ≡ true → b ≡ true
and_two true b h = h
and_two false b h = absurd (let y : ◌≡◌ {A = ℕ} 0 1 = cc in omega arith)

pub handed : (room : ℕ) (head values : List ℕ) → handed_refusal room head values ≡ 0 → Handed room head values
unfolding handed_refusal
handed room head values = go (leb 4234 room && (eqb (length head) 6 && eqb (length values) context_count)) refl
  where
    go : (t : Bool) → (leb 4234 room && (eqb (length head) 6 && eqb (length values) context_count)) ≡ t → cond t (flags_refusal head) 4 ≡ 0 → Handed room head values
    go true q z =
        let rest = and_two (leb 4234 room) (eqb (length head) 6 && eqb (length values) context_count) q in
        record {
          wide = leb-true 4234 room (and_one (leb 4234 room) (eqb (length head) 6 && eqb (length values) context_count) q);
          six = eqb-true (length head) 6 (and_one (eqb (length head) 6) (eqb (length values) context_count) rest);
          many = eqb-true (length values) context_count (and_two (eqb (length head) 6) (eqb (length values) context_count) rest);
          flags = z;
        }
    go false q z = absurd (let y : ◌≡◌ {A = ℕ} 4 0 = z in omega arith)

-- ---- the fields of a frame
module _ (head values payload : List ℕ) (six : length head ≡ 6) (many : length values ≡ context_count) where
  abbrev behind : List ℕ
  behind = (length payload / 256 ∷ length payload % 256 ∷ []) ++ (values ++ payload)

  byte_same : (i : ℕ) → i < 6 → byte_of (frame_of head values payload) i ≡ byte_of head i
  unfolding frame_of
  byte_same i h = get_or-append head behind 0 i (omega arith)

  pub params_same : params_of (frame_of head values payload) ≡ params_of head
  unfolding params_of
  params_same =
      rw (byte_same 0 (omega arith), byte_same 1 (omega arith), byte_same 2 (omega arith), byte_same 3 (omega arith), byte_same 5 (omega arith))

  pub flags_same : flags_refusal (frame_of head values payload) ≡ flags_refusal head
  unfolding flags_refusal
  flags_same = rw (byte_same 1 (omega arith), byte_same 5 (omega arith))

  pub quantiser_same : quantiser_of (frame_of head values payload) ≡ quantiser_of head
  quantiser_same = byte_same 4 (omega arith)

  eight : drop 8 (frame_of head values payload) ≡ values ++ payload
  unfolding frame_of
  eight =
      ap (λ (k : ℕ). drop (k + 2) (head ++ behind)) (sym six)
      ∙ drop-append-add head behind 2

  pub values_same : values_of (frame_of head values payload) ≡ values
  values_same = ap (take context_count) eight ∙ take_at values payload context_count many

  pub payload_same : payload_of (frame_of head values payload) ≡ payload
  unfolding frame_of
  payload_same =
      ap (λ (k : ℕ). drop (k + 132) (head ++ behind)) (sym six)
      ∙ drop-append-add head behind 132
      ∙ drop_at values payload 130 many
