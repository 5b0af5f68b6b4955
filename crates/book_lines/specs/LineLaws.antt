-- Laws of lines. However a text is cut, piece after piece writes what the definition says of the whole. Assumes nothing.
use Prim.Native.Nat.{ℕ, zero, suc}
use Rattle.std.proofs.Common.{◌∙◌}
use Rattle.std.specs.Prelude.{◌≡◌, Bool, take}
use Rattle.std.proofs.Math.Path.{refl, sym, ap}
use Rattle.std.proofs.Math.Bool.{true, false}
use mathlib.Core.List.{List, [], ◌∷◌, ◌++◌, append_assoc}
use Rattle.std.proofs.Math.Dec.{eqb}
use Rattle.std.proofs.Math.Seq.{take-nil}
use Rattle.book_lines.specs.Lines.{Line, ended, line_feed, last_line, lines_from, written, program}
use Rattle.book_lines.specs.Steps.{most_held, Reading, begun, grown, step_state, step_out, fed_state, fed_out, end_out, pieces_out, joined}

-- ---- a cut anywhere
pub fed_state_lem : (r : Reading) (a s : List ℕ) → fed_state r (a ++ s) ≡ fed_state (fed_state r a) s
unfolding fed_state
fed_state_lem r [] s = refl
fed_state_lem r (b ∷ a) s = fed_state_lem (step_state r b) a s

pub fed_out_lem : {A : Type 0} (f : ℕ → Line → List A) (r : Reading) (a s : List ℕ) → fed_out f r (a ++ s) ≡ fed_out f r a ++ fed_out f (fed_state r a) s
unfolding fed_out fed_state
fed_out_lem f r [] s = refl
fed_out_lem {A} f r (b ∷ a) s =
    ap (λ (l : List A). step_out f r b ++ l) (fed_out_lem f (step_state r b) a s)
    ∙ sym (append_assoc (step_out f r b) (fed_out f (step_state r b) a) (fed_out f (fed_state (step_state r b) a) s))

pub pieces_one : {A : Type 0} (f : ℕ → Line → List A) (r : Reading) (cs : List (List ℕ))
    → pieces_out f r cs ≡ fed_out f r (joined cs) ++ end_out f (fed_state r (joined cs))
unfolding pieces_out joined fed_out fed_state
pieces_one f r [] = refl
pieces_one {A} f r (c ∷ cs) =
    ap (λ (l : List A). fed_out f r c ++ l) (pieces_one f (fed_state r c) cs)
    ∙ sym (append_assoc (fed_out f r c) (fed_out f (fed_state r c) (joined cs)) (end_out f (fed_state (fed_state r c) (joined cs))))
    ∙ ap (λ (l : List A). l ++ end_out f (fed_state (fed_state r c) (joined cs))) (sym (fed_out_lem f r c (joined cs)))
    ∙ ap (λ (q : Reading). fed_out f r (c ++ joined cs) ++ end_out f q) (sym (fed_state_lem r c (joined cs)))

-- ---- what f says does not hang on bytes behind the 8,469th
abbrev pub Clips : {A : Type 0} → (ℕ → Line → List A) → Type 0
Clips f = (n : ℕ) (l : List ℕ) (e : Bool) → f n (record { text = take most_held l; finished = e }) ≡ f n (record { text = l; finished = e })

take_more : (k : ℕ) (h x : List ℕ) → take k (take k h ++ x) ≡ take k (h ++ x)
take_more zero h x = refl
take_more (suc k) [] x = refl
take_more (suc k) (b ∷ h) x = ap (λ (l : List ℕ). b ∷ l) (take_more k h x)

-- ---- one byte
module _ {A : Type 0} (f : ℕ → Line → List A) (r : Reading) (b : ℕ) where
  pub out_end : eqb b line_feed ≡ true → step_out f r b ≡ f r.number (ended r.held)
  unfolding step_out
  out_end q = rw q

  pub out_none : eqb b line_feed ≡ false → step_out f r b ≡ []
  unfolding step_out
  out_none q = rw q

pub state_end : (r : Reading) (b : ℕ) → eqb b line_feed ≡ true → step_state r b ≡ record { number = suc r.number; held = [] }
unfolding step_state
state_end r b q = rw q

pub state_more : (r : Reading) (b : ℕ) → eqb b line_feed ≡ false → step_state r b ≡ record { number = r.number; held = grown r.held b }
unfolding step_state
state_more r b q = rw q

-- all that is written of a text, from a state
abbrev pub rest : {A : Type 0} → (ℕ → Line → List A) → Reading → List ℕ → List A
rest f r s = fed_out f r s ++ end_out f (fed_state r s)

rest_step : {A : Type 0} (f : ℕ → Line → List A) (r : Reading) (b : ℕ) (s : List ℕ) → rest f r (b ∷ s) ≡ step_out f r b ++ rest f (step_state r b) s
unfolding fed_out fed_state
rest_step f r b s = append_assoc (step_out f r b) (fed_out f (step_state r b) s) (end_out f (fed_state (step_state r b) s))

module _ (b : ℕ) (h s : List ℕ) where
  pub lines_end : eqb b line_feed ≡ true → lines_from h (b ∷ s) ≡ ended h ∷ lines_from [] s
  unfolding lines_from
  lines_end q = rw q

  pub lines_more : eqb b line_feed ≡ false → lines_from h (b ∷ s) ≡ lines_from (h ++ (b ∷ [])) s
  unfolding lines_from
  lines_more q = rw q

abbrev clipped : ℕ → List ℕ → Reading
clipped n h = record { number = n; held = take most_held h }

module _ {A : Type 0} (f : ℕ → Line → List A) (c : Clips f) where
  last_clipped : (n : ℕ) (h : List ℕ) → end_out f (clipped n h) ≡ written f n (last_line h)
  unfolding end_out last_line written most_held
  last_clipped n [] = refl
  last_clipped n (b ∷ h) = ap (λ (l : List A). l ++ []) (c n (b ∷ h) false)

  whole_end : (n b : ℕ) (h s : List ℕ) → eqb b line_feed ≡ true → rest f (clipped (suc n) []) s ≡ written f (suc n) (lines_from [] s)
      → rest f (clipped n h) (b ∷ s) ≡ written f n (lines_from h (b ∷ s))
  unfolding written
  whole_end n b h s q i =
      let e : clipped (suc n) [] ≡ step_state (clipped n h) b =
      ap (λ (l : List ℕ). record { number = suc n; held = l }) (take-nil most_held) ∙ sym (state_end (clipped n h) b q) in
      rest_step f (clipped n h) b s
      ∙ ap (λ (l : List A). l ++ rest f (step_state (clipped n h) b) s) (out_end f (clipped n h) b q ∙ c n h true)
      ∙ ap (λ (x : Reading). f n (ended h) ++ rest f x s) (sym e)
      ∙ ap (λ (l : List A). f n (ended h) ++ l) i
      ∙ ap (written f n) (sym (lines_end b h s q))

  whole_more : (n b : ℕ) (h s : List ℕ) → eqb b line_feed ≡ false
      → rest f (clipped n (h ++ (b ∷ []))) s ≡ written f n (lines_from (h ++ (b ∷ [])) s)
      → rest f (clipped n h) (b ∷ s) ≡ written f n (lines_from h (b ∷ s))
  unfolding grown
  whole_more n b h s q i =
      let e : step_state (clipped n h) b ≡ clipped n (h ++ (b ∷ [])) =
      state_more (clipped n h) b q ∙ ap (λ (l : List ℕ). record { number = n; held = l }) (take_more most_held h (b ∷ [])) in
      rest_step f (clipped n h) b s
      ∙ ap (λ (l : List A). l ++ rest f (step_state (clipped n h) b) s) (out_none f (clipped n h) b q)
      ∙ ap (λ (x : Reading). rest f x s) e
      ∙ i
      ∙ ap (written f n) (sym (lines_more b h s q))

  pub fed_whole : (n : ℕ) (h s : List ℕ) → rest f (clipped n h) s ≡ written f n (lines_from h s)
  unfolding fed_out fed_state lines_from
  fed_whole n h [] = last_clipped n h
  fed_whole n h (b ∷ s) = go (eqb b line_feed) refl (fed_whole (suc n) [] s) (fed_whole n (h ++ (b ∷ [])) s)
    where
      go : (t : Bool) → eqb b line_feed ≡ t → rest f (clipped (suc n) []) s ≡ written f (suc n) (lines_from [] s)
          → rest f (clipped n (h ++ (b ∷ []))) s ≡ written f n (lines_from (h ++ (b ∷ [])) s)
          → rest f (clipped n h) (b ∷ s) ≡ written f n (lines_from h (b ∷ s))
      go true q i j = whole_end n b h s q i
      go false q i j = whole_more n b h s q j

  -- THE law of a streaming program: however the text is cut, what is written piece after piece and at the end is what the definition says
  -- of the whole text
  pub cut : (cs : List (List ℕ)) → pieces_out f begun cs ≡ program f (joined cs)
  cut cs =
      pieces_one f begun cs
      ∙ ap (λ (l : List ℕ). rest f (record { number = 1; held = l }) (joined cs)) (sym (take-nil most_held))
      ∙ fed_whole 1 [] (joined cs)
