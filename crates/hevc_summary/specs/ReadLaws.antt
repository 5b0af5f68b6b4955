-- The ways out of the code that reads into a kept block. Assumes nothing.
use Prim.Native.Nat.{ℕ, zero, suc}
use Rattle.std.specs.Prelude.{◌≡◌, refl, Bool, true, false, ◌&&◌, ltb, eqb, ℤ, Result, Ok, Err}
use Rattle.std.proofs.Math.Path.{sym, ap, ap₂}
use Rattle.std.proofs.Common.{subst, ◌∙◌, arith}
use Rattle.std.proofs.Math.Bool.{cond}
use mathlib.Core.List.{List, [], ◌∷◌}
use borrow.Author.Tests.{eq-eqb, ne_eqb}
use Rattle.cabac.specs.Numbers.{Answer, accepted, refused, ◌or_else◌, payload_refusal}
use Rattle.cabac.specs.NumberLaws.{or_else_first, or_else_rest}
use Rattle.bins.specs.declared.state.Engine.{Engine}
use Rattle.hevc_residual.specs.declared.params.Params.{Params}
use Rattle.hevc_residual.specs.Numbers.{parameter_refusal}
use Rattle.hevc_residual.specs.Remainder.{log2_transform_range}
use Rattle.hevc_residual.specs.Entries.{FoundAt, Found, PayloadRead, BinsRead, read_payload, read_bins}
use Rattle.hevc_residual.specs.declared.answers.Found.{Found as Found'}
use Rattle.hevc_residual.specs.declared.answers.ReadBlock.{ReadBlock}
use Rattle.hevc_residual.specs.Answers.{payload_read, bins_read}
use Rattle.hevc_summary.specs.declared.kept.Form.{Form}
use Rattle.hevc_summary.specs.declared.kept.Whole.{Whole}
use Rattle.hevc_summary.specs.Summary.{Kept}
use Rattle.hevc_summary.specs.Entries.{form_refusal, whole_from, fresh_counts, fresh_sums, counted, touched, other_form, block_refusal, kept_by, KeptRead, read_refusal, read_kept_by, read_kept, KeptList, list_kept_by, list_kept}
use Rattle.hevc_summary.specs.EntryLaws.{payload_left, bins_left}
use Rattle.hevc_summary.specs.Agree.{kept_of, read_says, list_says, kept_read, kept_list}

-- ---- 4
module _ (f : Form) (p : Params) where
  pub other_size : (f.log2 ≡ p.log2 → ⊥) → 4 ≡ other_form f p
  unfolding other_form
  other_size h = rw (ne_eqb f.log2 p.log2 h)

  module _ (s : f.log2 ≡ p.log2) (bits : ℕ) (e : bits ≡ log2_transform_range p) where
    pub other_range : (f.bits ≡ bits → ⊥) → 4 ≡ other_form f p
    unfolding other_form
    other_range h = rw (eq-eqb f.log2 p.log2 s, ne_eqb f.bits (log2_transform_range p) (λ q. h (q ∙ sym e)))

    pub same_form : f.bits ≡ bits → 0 ≡ other_form f p
    unfolding other_form
    same_form h = rw (eq-eqb f.log2 p.log2 s, eq-eqb f.bits (log2_transform_range p) (h ∙ e))

  module _ (levels : List ℤ) where
    pub block_first : (n : ℕ) → n ≡ parameter_refusal p levels → (n ≡ 0 → ⊥) → n ≡ block_refusal f p levels
    unfolding block_refusal
    block_first n q h = or_else_first n (parameter_refusal p levels) _ q h

    module _ (z : 0 ≡ parameter_refusal p levels) where
      pub block_second : (n : ℕ) → n ≡ form_refusal f levels → (n ≡ 0 → ⊥) → n ≡ block_refusal f p levels
      unfolding block_refusal
      block_second n q h = or_else_rest n (parameter_refusal p levels) _ z (or_else_first n (form_refusal f levels) _ q h)

      pub block_third : 0 ≡ form_refusal f levels → (n : ℕ) → n ≡ other_form f p → n ≡ block_refusal f p levels
      unfolding block_refusal
      block_third y n q = or_else_rest n (parameter_refusal p levels) _ z (or_else_rest n (form_refusal f levels) _ y q)

    pub read_first : (l : List ℕ) (n : ℕ) → n ≡ payload_refusal l → (n ≡ 0 → ⊥) → n ≡ read_refusal f l p levels
    unfolding read_refusal
    read_first l n q h = or_else_first n (payload_refusal l) _ q h

    pub read_rest : (l : List ℕ) → 0 ≡ payload_refusal l → (n : ℕ) → n ≡ block_refusal f p levels → n ≡ read_refusal f l p levels
    unfolding read_refusal
    read_rest l z n q = or_else_rest n (payload_refusal l) _ z q

-- ---- what is kept behind a reading that came to the block, or did not
module _ (log2 : ℕ) (levels : List ℤ) (counts sums : List ℕ) (w : Whole) (came : Bool) (levels' : List ℤ) where
  kept_came : came ≡ true → (counts' sums' : List ℕ) (w' : Whole) → counts' ≡ fresh_counts log2 levels' counts → sums' ≡ fresh_sums log2 levels' sums
      → w' ≡ whole_from log2 counts' sums' → kept_of levels' counts' sums' w' ≡ kept_by came log2 levels' (kept_of levels counts sums w)
  unfolding kept_by counted
  kept_came t counts' sums' w' c d o =
      let m = o ∙ ap₂ (λ (x y : List ℕ). whole_from log2 x y) c d in
      let a : kept_of levels' counts' sums' w' ≡ counted log2 levels' (kept_of levels counts sums w) = cc in
      a ∙ ap (λ (b : Bool). cond b (counted log2 levels' (kept_of levels counts sums w)) (kept_of levels counts sums w)) (sym t)

  kept_not : came ≡ false → levels' ≡ levels → kept_of levels' counts sums w ≡ kept_by came log2 levels' (kept_of levels counts sums w)
  unfolding kept_by
  kept_not t q =
      ap (λ (x : List ℤ). kept_of x counts sums w) q
      ∙ ap (λ (b : Bool). cond b (counted log2 levels' (kept_of levels counts sums w)) (kept_of levels counts sums w)) (sym t)

-- ---- from a payload
read_answer : (r : Result ReadBlock ℕ) (cs stats : List ℕ) (levels : List ℤ) → (payload_read r cs stats levels).answer ≡ read_says r
read_answer (Ok b) cs stats levels = refl
read_answer (Err n) cs stats levels = refl

read_parts : (r : Result ReadBlock ℕ) (cs stats : List ℕ) (levels : List ℤ)
    → record { answer = read_says r; contexts = cs; stats = stats; block = levels } ≡ payload_read r cs stats levels
read_parts (Ok b) cs stats levels = refl
read_parts (Err n) cs stats levels = refl

pub read_came_got : (r : Result ReadBlock ℕ) (b : ReadBlock) → r ≡ Ok b → true ≡ touched (read_says r)
unfolding touched
read_came_got r b q = ap (λ (x : Result ReadBlock ℕ). touched (read_says x)) (sym q)

pub read_came_is : (r : Result ReadBlock ℕ) (n : ℕ) → r ≡ Err n → ltb 6 n ≡ touched (read_says r)
unfolding touched
read_came_is r n q = ap (λ (x : Result ReadBlock ℕ). touched (read_says x)) (sym q)

module _ (f : Form) (l : List ℕ) (e : Engine) (contexts stats : List ℕ) (p : Params) (levels : List ℤ) (counts sums : List ℕ) (w : Whole) where
  abbrev before : Kept
  before = kept_of levels counts sums w

  pub read_refused : (n : ℕ) → n ≡ read_refusal f l p levels → (n ≡ 0 → ⊥)
      → kept_read (record { read = Err n; whole = w }) contexts stats levels counts sums ≡ read_kept f l e contexts stats p (kept_of levels counts sums w)
  unfolding read_kept
  read_refused n q h = go (read_refusal f l p levels) q
    where
      go : (m : ℕ) → n ≡ m
          → kept_read (record { read = Err n; whole = w }) contexts stats levels counts sums ≡ read_kept_by m f l e contexts stats p before
      go zero u = absurd (h u)
      go (suc m) u = unfold read_kept_by in ap (λ (x : ℕ). kept_read (record { read = Err x; whole = w }) contexts stats levels counts sums) u

  module _ (z : 0 ≡ read_refusal f l p levels) (r : Result ReadBlock ℕ) (cs stats' : List ℕ) (levels' : List ℤ)
      (q : payload_read r cs stats' levels' ≡ read_payload l e contexts stats p levels) where
    abbrev seen : PayloadRead → KeptRead
    seen x = record { answer = x.answer; contexts = x.contexts; stats = x.stats; kept = kept_by (touched x.answer) f.log2 x.block before }

    to_read : record { answer = read_says r; contexts = cs; stats = stats'; kept = kept_by (touched (read_says r)) f.log2 levels' before }
        ≡ read_kept f l e contexts stats p before
    unfolding read_kept read_kept_by
    to_read = ap seen (read_parts r cs stats' levels' ∙ q) ∙ ap (λ (n : ℕ). read_kept_by n f l e contexts stats p before) z

    pub read_came : touched (read_says r) ≡ true → (counts' sums' : List ℕ) (w' : Whole) → counts' ≡ fresh_counts f.log2 levels' counts
        → sums' ≡ fresh_sums f.log2 levels' sums → w' ≡ whole_from f.log2 counts' sums'
        → kept_read (record { read = r; whole = w' }) cs stats' levels' counts' sums' ≡ read_kept f l e contexts stats p (kept_of levels counts sums w)
    read_came t counts' sums' w' c d o =
        ap (λ (x : Kept). record { answer = read_says r; contexts = cs; stats = stats'; kept = x })
        (kept_came f.log2 levels counts sums w (touched (read_says r)) levels' t counts' sums' w' c d o) ∙ to_read

    pub read_unmoved : touched (read_says r) ≡ false → levels' ≡ levels
    read_unmoved t =
        let a : touched (read_payload l e contexts stats p levels).answer ≡ false =
        ap (λ (x : PayloadRead). touched x.answer) (sym q) ∙ ap touched (read_answer r cs stats' levels') ∙ t in
        ap (λ (x : PayloadRead). x.block) (read_parts r cs stats' levels' ∙ q) ∙ payload_left l e contexts stats p levels a

    pub read_not : touched (read_says r) ≡ false
        → kept_read (record { read = r; whole = w }) cs stats' levels' counts sums ≡ read_kept f l e contexts stats p (kept_of levels counts sums w)
    read_not t =
        ap (λ (x : Kept). record { answer = read_says r; contexts = cs; stats = stats'; kept = x })
        (kept_not f.log2 levels counts sums w (touched (read_says r)) levels' t (read_unmoved t)) ∙ to_read

-- ---- from a bin list
list_answer : (r : Result Found' ℕ) (stats : List ℕ) (levels : List ℤ) → (bins_read r stats levels).answer ≡ list_says r
list_answer (Ok g) stats levels = refl
list_answer (Err n) stats levels = refl

list_parts : (r : Result Found' ℕ) (stats : List ℕ) (levels : List ℤ) → record { answer = list_says r; stats = stats; block = levels } ≡ bins_read r stats levels
list_parts (Ok g) stats levels = refl
list_parts (Err n) stats levels = refl

pub list_came_got : (r : Result Found' ℕ) (g : Found') → r ≡ Ok g → true ≡ touched (list_says r)
unfolding touched
list_came_got r g q = ap (λ (x : Result Found' ℕ). touched (list_says x)) (sym q)

pub list_came_is : (r : Result Found' ℕ) (n : ℕ) → r ≡ Err n → ltb 6 n ≡ touched (list_says r)
unfolding touched
list_came_is r n q = ap (λ (x : Result Found' ℕ). touched (list_says x)) (sym q)

module _ (f : Form) (l stats : List ℕ) (p : Params) (levels : List ℤ) (counts sums : List ℕ) (w : Whole) where
  abbrev before' : Kept
  before' = kept_of levels counts sums w

  pub list_refused : (n : ℕ) → n ≡ block_refusal f p levels → (n ≡ 0 → ⊥)
      → kept_list (record { read = Err n; whole = w }) stats levels counts sums ≡ list_kept f l stats p (kept_of levels counts sums w)
  unfolding list_kept
  list_refused n q h = go (block_refusal f p levels) q
    where
      go : (m : ℕ) → n ≡ m → kept_list (record { read = Err n; whole = w }) stats levels counts sums ≡ list_kept_by m f l stats p before'
      go zero u = absurd (h u)
      go (suc m) u = unfold list_kept_by in ap (λ (x : ℕ). kept_list (record { read = Err x; whole = w }) stats levels counts sums) u

  module _ (z : 0 ≡ block_refusal f p levels) (r : Result Found' ℕ) (stats' : List ℕ) (levels' : List ℤ) (q : bins_read r stats' levels' ≡ read_bins l stats p levels) where
    abbrev seen' : BinsRead → KeptList
    seen' x = record { answer = x.answer; stats = x.stats; kept = kept_by (touched x.answer) f.log2 x.block before' }

    to_list : record { answer = list_says r; stats = stats'; kept = kept_by (touched (list_says r)) f.log2 levels' before' } ≡ list_kept f l stats p before'
    unfolding list_kept list_kept_by
    to_list = ap seen' (list_parts r stats' levels' ∙ q) ∙ ap (λ (n : ℕ). list_kept_by n f l stats p before') z

    pub list_came : touched (list_says r) ≡ true → (counts' sums' : List ℕ) (w' : Whole) → counts' ≡ fresh_counts f.log2 levels' counts
        → sums' ≡ fresh_sums f.log2 levels' sums → w' ≡ whole_from f.log2 counts' sums'
        → kept_list (record { read = r; whole = w' }) stats' levels' counts' sums' ≡ list_kept f l stats p (kept_of levels counts sums w)
    list_came t counts' sums' w' c d o =
        ap (λ (x : Kept). record { answer = list_says r; stats = stats'; kept = x })
        (kept_came f.log2 levels counts sums w (touched (list_says r)) levels' t counts' sums' w' c d o) ∙ to_list

    pub list_unmoved : touched (list_says r) ≡ false → levels' ≡ levels
    list_unmoved t =
        let a : touched (read_bins l stats p levels).answer ≡ false =
        ap (λ (x : BinsRead). touched x.answer) (sym q) ∙ ap touched (list_answer r stats' levels') ∙ t in
        ap (λ (x : BinsRead). x.block) (list_parts r stats' levels' ∙ q) ∙ bins_left l stats p levels a

    pub list_not : touched (list_says r) ≡ false
        → kept_list (record { read = r; whole = w }) stats' levels' counts sums ≡ list_kept f l stats p (kept_of levels counts sums w)
    list_not t =
        ap (λ (x : Kept). record { answer = list_says r; stats = stats'; kept = x })
        (kept_not f.log2 levels counts sums w (touched (list_says r)) levels' t (list_unmoved t)) ∙ to_list
