-- Whether two answers of the block reader are the same, field by field; it is yes exactly of equal ones. Assumes nothing.
use Rattle.std.specs.Prelude.{ℕ, ◌≡◌, refl, Bool, true, false, ◌&&◌, eqb, Result, Err, Ok}
use Rattle.std.proofs.Common.{ap, sym, true≢false, eqb-true, eq-eqb}
use Rattle.std.specs.Bool.{beq}
use Rattle.bins.specs.declared.state.Engine.{Engine}
use Rattle.hevc_residual.specs.declared.params.Rdpcm.{Rdpcm}
use Rattle.hevc_residual.specs.declared.params.Rdpcm.TheVariants as rdpcm
use Rattle.hevc_residual.specs.declared.answers.Found.{Found}
use Rattle.hevc_residual.specs.declared.answers.ReadBlock.{ReadBlock}

abbrev pub code_of : Rdpcm → ℕ
code_of rdpcm.None = 0
code_of rdpcm.Horizontal = 1
code_of rdpcm.Vertical = 2

abbrev pub same_found : Found → Found → Bool
same_found a b =
    (((beq a.skip b.skip && eqb (code_of a.rdpcm) (code_of b.rdpcm)) && eqb a.column b.column) && eqb a.row b.row)
    && eqb a.greatest b.greatest

abbrev pub same_state : Engine → Engine → Bool
same_state a b =
    (((beq a.ended b.ended && eqb a.past b.past) && eqb a.range b.range) && eqb a.offset b.offset)
    && eqb a.position.0 b.position.0

abbrev pub same_answer : Result ReadBlock ℕ → Result ReadBlock ℕ → Bool
same_answer (Ok f) (Ok g) = same_found f.found g.found && same_state f.state g.state
same_answer (Ok f) (Err m) = false
same_answer (Err n) (Ok g) = false
same_answer (Err n) (Err m) = eqb n m

-- ---- yes exactly of equal ones
both : (a b : Bool) → (a && b) ≡ true → (a ≡ true) × (b ≡ true)
both true b q = (refl, q)
both false b q = absurd (true≢false (sym q))

bool_yes : (a b : Bool) → beq a b ≡ true → a ≡ b
bool_yes true true q = refl
bool_yes true false q = absurd (true≢false (sym q))
bool_yes false true q = absurd (true≢false (sym q))
bool_yes false false q = refl

bool_same : (a : Bool) → beq a a ≡ true
bool_same true = refl
bool_same false = refl

code_yes : (a b : Rdpcm) → eqb (code_of a) (code_of b) ≡ true → a ≡ b
code_yes rdpcm.None rdpcm.None q = refl
code_yes rdpcm.None rdpcm.Horizontal q = absurd (true≢false (sym q))
code_yes rdpcm.None rdpcm.Vertical q = absurd (true≢false (sym q))
code_yes rdpcm.Horizontal rdpcm.None q = absurd (true≢false (sym q))
code_yes rdpcm.Horizontal rdpcm.Horizontal q = refl
code_yes rdpcm.Horizontal rdpcm.Vertical q = absurd (true≢false (sym q))
code_yes rdpcm.Vertical rdpcm.None q = absurd (true≢false (sym q))
code_yes rdpcm.Vertical rdpcm.Horizontal q = absurd (true≢false (sym q))
code_yes rdpcm.Vertical rdpcm.Vertical q = refl

found_yes : (a b : Found) → same_found a b ≡ true → a ≡ b
found_yes a b q =
    let g = both _ _ q in
    let r = both _ _ g.0 in
    let c = both _ _ r.0 in
    let s = both _ _ c.0 in
    let p : a.skip ≡ b.skip = bool_yes a.skip b.skip s.0 in
    let d : a.rdpcm ≡ b.rdpcm = code_yes a.rdpcm b.rdpcm s.1 in
    let e : a.column ≡ b.column = eqb-true a.column b.column c.1 in
    let f : a.row ≡ b.row = eqb-true a.row b.row r.1 in
    let h : a.greatest ≡ b.greatest = eqb-true a.greatest b.greatest g.1 in
    let w : ◌≡◌ {A = Found} (record { skip = a.skip; rdpcm = a.rdpcm; column = a.column; row = a.row; greatest = a.greatest }) (record { skip = b.skip; rdpcm = b.rdpcm; column = b.column; row = b.row; greatest = b.greatest }) = cc in
    w

state_yes : (a b : Engine) → same_state a b ≡ true → a ≡ b
state_yes a b q =
    let g = both _ _ q in
    let r = both _ _ g.0 in
    let c = both _ _ r.0 in
    let s = both _ _ c.0 in
    let p : a.ended ≡ b.ended = bool_yes a.ended b.ended s.0 in
    let d : a.past ≡ b.past = eqb-true a.past b.past s.1 in
    let e : a.range ≡ b.range = eqb-true a.range b.range c.1 in
    let f : a.offset ≡ b.offset = eqb-true a.offset b.offset r.1 in
    let h : a.position ≡ b.position = ap (λ (k : ℕ). record { 0 = k }) (eqb-true a.position.0 b.position.0 g.1) in
    let w : ◌≡◌ {A = Engine} (record { range = a.range; offset = a.offset; position = a.position; ended = a.ended; past = a.past }) (record { range = b.range; offset = b.offset; position = b.position; ended = b.ended; past = b.past }) = cc in
    w

pub answer_yes : (a b : Result ReadBlock ℕ) → same_answer a b ≡ true → a ≡ b
answer_yes (Ok f) (Ok g) q =
    let h = both _ _ q in
    let x : f.found ≡ g.found = found_yes f.found g.found h.0 in
    let y : f.state ≡ g.state = state_yes f.state g.state h.1 in
    λ i. Ok (record { found = x i; state = y i })
answer_yes (Ok f) (Err m) q = absurd (true≢false (sym q))
answer_yes (Err n) (Ok g) q = absurd (true≢false (sym q))
answer_yes (Err n) (Err m) q = ap Err (eqb-true n m q)

eqb_same : (n : ℕ) → eqb n n ≡ true
eqb_same n = eq-eqb n n refl

pub answer_same : (a : Result ReadBlock ℕ) → same_answer a a ≡ true
answer_same (Ok b) =
    rw (
      bool_same b.found.skip,
      eqb_same (code_of b.found.rdpcm),
      eqb_same b.found.column,
      eqb_same b.found.row,
      eqb_same b.found.greatest,
      bool_same b.state.ended,
      eqb_same b.state.past,
      eqb_same b.state.range,
      eqb_same b.state.offset,
      eqb_same b.state.position.0,
    )
answer_same (Err n) = eqb_same n
