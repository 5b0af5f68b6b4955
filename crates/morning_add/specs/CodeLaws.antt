-- Laws as the code meets them: a frame, a line, what it adds to one size and to four, a piece. Assumes nothing.
use Rattle.std.specs.Prelude.{ℕ, ◌+◌, ◌-◌, ◌≤◌, ◌<◌, min, ◌≡◌, Bool, true, false, cond, ◌&&◌, ◌||◌, leb, length, take, get_or, set, ℤ, Err}
use Rattle.std.proofs.Common.{arith, sym, ◌∙◌, le-leb, eq-eqb, ne_eqb}
use Rattle.std.proofs.Math.Path.{refl, ap}
use mathlib.Core.List.{List, []}
use Rattle.std.proofs.Math.Dec.{eqb}
use Rattle.text_fields.specs.Spelled.{octets_of}
use Rattle.book_lines.specs.declared.pending.Pending.{Pending}
use Rattle.book_lines.specs.Lines.{Line, line_of}
use Rattle.book_lines.specs.Form.{form_refusal}
use Rattle.book_lines.specs.Steps.{Reading, reading, step_state, step_out, fed_state, fed_out}
use Rattle.book_lines.specs.CodeLaws.{fed_next, out_next, fed_all, out_all}
use Rattle.frame.specs.Frame.{byte_of}
use Rattle.frame.specs.Verdict.{verdict, levels_of, Verdict, ok}
use Rattle.book_answers.specs.CodeLaws.{judged_form, judged_frame}
use Rattle.figures.specs.declared.add.Totals.{Totals}
use Rattle.figures.specs.declared.add.Added.{Added}
use Rattle.counting.specs.Count.{gather}
use Rattle.figures.specs.Figures.{Event, block, refusal, Figures, figures_of}
use Rattle.figures.specs.Entries.{After, unless_refused, begin_refusal, begin, begun, add, add_block, add_refusal, number_refusal, with_refusal}
use Rattle.figures.specs.Agree.{held, after_of}
use Rattle.morning_add.specs.declared.adding.One.{One}
use Rattle.morning_add.specs.declared.adding.Sizes.{Sizes}
use Rattle.morning_add.specs.Sums.{event_by, framed, line_event, event_line, Sum, plus, Four, four_plus, added, no_sum, no_sums}
use Rattle.morning_add.specs.Agree.{event_of, sum_of, four_of, LineRead, block_read}
use Rattle.morning_add.specs.SumLaws.{added_append}

-- ---- a frame
module _ (bytes : List ℕ) (levels : List ℤ) (v : Verdict) (w : v ≡ verdict bytes) where
  pub frame_ok : (log2 greatest past : ℕ) → log2 ≡ byte_of bytes 0 → levels ≡ levels_of bytes → v ≡ ok greatest past
      → event_of (block_read log2 past) levels ≡ framed (verdict bytes) bytes
  unfolding event_of event_by
  frame_ok log2 greatest past q b o =
      ap (λ (x : ℕ). block x levels past) q
      ∙ ap (λ (x : List ℤ). block (byte_of bytes 0) x past) b
      ∙ ap (λ (x : Verdict). framed x bytes) (sym o ∙ w)

  pub frame_no : (n : ℕ) → v ≡ Err n → event_of (Err n) levels ≡ framed (verdict bytes) bytes
  unfolding event_of event_by
  frame_no n o = ap (λ (x : Verdict). framed x bytes) (sym o ∙ w)

-- ---- a line
module _ (l : List ℕ) (e : Bool) (n : ℕ) (f : n ≡ form_refusal (line_of l e)) (levels : List ℤ) where
  pub line_form : (n ≡ 0 → ⊥) → event_of (Err n) levels ≡ line_event (line_of l e)
  unfolding event_of line_event event_by
  line_form h = ap (λ (x : Verdict). framed x (octets_of l)) (judged_form l e n f h)

  pub line_frame : n ≡ 0 → (r : LineRead) (bytes : List ℕ) → bytes ≡ octets_of l → event_of r levels ≡ framed (verdict bytes) bytes
      → event_of r levels ≡ line_event (line_of l e)
  unfolding line_event
  line_frame z r bytes b w =
      w
      ∙ ap (λ (x : List ℕ). framed (verdict x) x) b
      ∙ ap (λ (x : Verdict). framed x (octets_of l)) (judged_frame l e n f z (octets_of l) (verdict (octets_of l)) refl refl)

-- ---- a block, to one size
or_true : (a : Bool) → true ≡ (a || true)
or_true true = refl
or_true false = refl

or_false : (a : Bool) → a ≡ (a || false)
or_false true = refl
or_false false = refl

module _ (o : One) (b s g b' s' g' : List ℕ) (log2 past : ℕ) (levels : List ℤ) (a : Added)
    (h : (k : List ℕ) → after_of a b' s' g' k ≡ add_block (held o.totals b s g k) log2 levels past) where
  summed : (k : List ℕ) (t : Bool) → t ≡ (o.full || eqb a.number 23)
      → sum_of (record { totals = a.totals; full = t }) b' s' g' k ≡ plus (sum_of o b s g k) (block log2 levels past)
  unfolding plus add
  summed k t q =
      ap (λ (x : Bool). record { figures = held a.totals b' s' g' k; full = x }) q
      ∙ ap (λ (x : After). record { figures = x.figures; full = o.full || eqb x.answer 23 }) (h k)

  pub to_full : a.number ≡ 23 → (k : List ℕ) → sum_of (record { totals = a.totals; full = true }) b' s' g' k ≡ plus (sum_of o b s g k) (block log2 levels past)
  to_full e k = summed k true (or_true o.full ∙ ap (λ (x : Bool). o.full || x) (sym (eq-eqb a.number 23 e)))

  pub to_more : (a.number ≡ 23 → ⊥) → (k : List ℕ)
      → sum_of (record { totals = a.totals; full = o.full }) b' s' g' k ≡ plus (sum_of o b s g k) (block log2 levels past)
  to_more e k = summed k o.full (or_false o.full ∙ ap (λ (x : Bool). o.full || x) (sym (ne_eqb a.number 23 e)))

-- ---- the number of a refusal: it changes the tallies alone, and those of each size alike
tallied : List ℕ → ℕ → List ℕ
tallied k n = cond (leb 1 n && leb n 24) (set k (n - 1) (min 65535 (get_or k (n - 1) 0 + 1))) k

plus_refusal : (o : One) (b s g k : List ℕ) (n : ℕ) → sum_of o b s g (tallied k n) ≡ plus (sum_of o b s g k) (refusal n)
unfolding tallied plus add add_refusal number_refusal unless_refused with_refusal
plus_refusal o b s g k n = go (leb 1 n && leb n 24) refl
  where
    go : (t : Bool) → (leb 1 n && leb n 24) ≡ t → sum_of o b s g (tallied k n) ≡ plus (sum_of o b s g k) (refusal n)
    go true q = rw (q, sym (or_false o.full))
    go false q = rw (q, sym (or_false o.full))

left_tallied : (t : Totals) (k k' : List ℕ) (n : ℕ) (r : Added) → ((b s g : List ℕ) → after_of r b s g k' ≡ add_refusal (held t b s g k) n) → k' ≡ tallied k n
unfolding tallied add_refusal number_refusal unless_refused with_refusal
left_tallied t k k' n r h = ap (λ (x : After). x.figures.tallies) (h [] [] []) ∙ go (leb 1 n && leb n 24) refl
  where
    go : (t' : Bool) → (leb 1 n && leb n 24) ≡ t' → (add_refusal (held t [] [] [] k) n).figures.tallies ≡ tallied k n
    go true q = rw q
    go false q = rw q

-- ---- four sizes
abbrev four : Sum → Sum → Sum → Sum → Four
four a b c d = record { of4 = a; of8 = b; of16 = c; of32 = d }

four_is : (a b c d a' b' c' d' : Sum) → a ≡ a' → b ≡ b' → c ≡ c' → d ≡ d' → four a b c d ≡ four a' b' c' d'
four_is a b c d a' b' c' d' p q r s =
    ap (λ (x : Sum). four x b c d) p
    ∙ ap (λ (x : Sum). four a' x c d) q
    ∙ ap (λ (x : Sum). four a' b' x d) r
    ∙ ap (λ (x : Sum). four a' b' c' x) s

module _ (z : Sizes) (b4 s4 g4 b8 s8 g8 b16 s16 g16 b32 s32 g32 k : List ℕ) where
  pub four_block : (x y u v : One) (b4' s4' g4' b8' s8' g8' b16' s16' g16' b32' s32' g32' : List ℕ) (e : Event)
      → ((k : List ℕ) → sum_of x b4' s4' g4' k ≡ plus (sum_of z.of4 b4 s4 g4 k) e)
      → ((k : List ℕ) → sum_of y b8' s8' g8' k ≡ plus (sum_of z.of8 b8 s8 g8 k) e)
      → ((k : List ℕ) → sum_of u b16' s16' g16' k ≡ plus (sum_of z.of16 b16 s16 g16 k) e)
      → ((k : List ℕ) → sum_of v b32' s32' g32' k ≡ plus (sum_of z.of32 b32 s32 g32 k) e)
      → (e' : Event) → e ≡ e'
      → four_of (record { of4 = x; of8 = y; of16 = u; of32 = v }) b4' s4' g4' b8' s8' g8' b16' s16' g16' b32' s32' g32' k
      ≡ four_plus (four_of z b4 s4 g4 b8 s8 g8 b16 s16 g16 b32 s32 g32 k) e'
  four_block x y u v b4' s4' g4' b8' s8' g8' b16' s16' g16' b32' s32' g32' e p q r s e' w =
      four_is _ _ _ _ _ _ _ _ (p k) (q k) (r k) (s k) ∙ ap (λ (x : Event). four_plus (four_of z b4 s4 g4 b8 s8 g8 b16 s16 g16 b32 s32 g32 k) x) w

  pub four_refusal : (k' : List ℕ) (t : Totals) (n : ℕ) (r : Added)
      → ((b s g : List ℕ) → after_of r b s g k' ≡ add_refusal (held t b s g k) n)
      → (e' : Event) → refusal n ≡ e'
      → four_of z b4 s4 g4 b8 s8 g8 b16 s16 g16 b32 s32 g32 k' ≡ four_plus (four_of z b4 s4 g4 b8 s8 g8 b16 s16 g16 b32 s32 g32 k) e'
  four_refusal k' t n r h e' w =
      ap (λ (x : List ℕ). four_of z b4 s4 g4 b8 s8 g8 b16 s16 g16 b32 s32 g32 x) (left_tallied t k k' n r h)
      ∙ four_is _ _ _ _ _ _ _ _ (plus_refusal z.of4 b4 s4 g4 k n) (plus_refusal z.of8 b8 s8 g8 k n) (plus_refusal z.of16 b16 s16 g16 k n) (plus_refusal z.of32 b32 s32 g32 k n)
      ∙ ap (λ (x : Event). four_plus (four_of z b4 s4 g4 b8 s8 g8 b16 s16 g16 b32 s32 g32 k) x) w

-- ---- before anything is added
pub begins : (fs : Figures) (log2 : ℕ) (a : After) → 2 ≤ log2 → log2 ≤ 5 → a ≡ begin fs log2 → a.figures ≡ begun log2
unfolding begin begin_refusal unless_refused
begins fs log2 a h k e = ap (λ (x : After). x.figures) e ∙ rw (le-leb 2 log2 h, le-leb log2 5 k)

-- no tally knows its size
same_tallies : (n m : ℕ) → (begun n).tallies ≡ (begun m).tallies
unfolding begun figures_of gather
same_tallies n m = refl

sum_begun : (n m : ℕ) (t : Totals) (b s g k k' : List ℕ) → held t b s g k ≡ begun n → k' ≡ (begun m).tallies → sum_of (record { totals = t; full = false }) b s g k' ≡ no_sum n
sum_begun n m t b s g k k' e q =
    ap (λ (x : List ℕ). sum_of (record { totals = t; full = false }) b s g x) (q ∙ same_tallies m n ∙ ap (λ (x : Figures). x.tallies) (sym e))
    ∙ ap (λ (x : Figures). record { figures = x; full = false }) e

pub book_begun : (t4 t8 t16 t32 : Totals) (b4 s4 g4 b8 s8 g8 b16 s16 g16 b32 s32 g32 k4 k8 k16 k32 : List ℕ)
    → held t4 b4 s4 g4 k4 ≡ begun 2 → held t8 b8 s8 g8 k8 ≡ begun 3 → held t16 b16 s16 g16 k16 ≡ begun 4 → held t32 b32 s32 g32 k32 ≡ begun 5
    → four_of (record {
      of4 = record { totals = t4; full = false };
      of8 = record { totals = t8; full = false };
      of16 = record { totals = t16; full = false };
      of32 = record { totals = t32; full = false };
    }) b4 s4 g4 b8 s8 g8 b16 s16 g16 b32 s32 g32 k32 ≡ no_sums
book_begun t4 t8 t16 t32 b4 s4 g4 b8 s8 g8 b16 s16 g16 b32 s32 g32 k4 k8 k16 k32 p q r s =
    let z : k32 ≡ (begun 5).tallies = ap (λ (x : Figures). x.tallies) s in
    four_is _ _ _ _ _ _ _ _ (sum_begun 2 5 t4 b4 s4 g4 k4 k32 p z) (sum_begun 3 5 t8 b8 s8 g8 k8 k32 q z) (sum_begun 4 5 t16 b16 s16 g16 k16 k32 r z)
    (sum_begun 5 5 t32 b32 s32 g32 k32 k32 s z)

-- what a variant of the code's says
pub event_block : (log2 past : ℕ) (levels : List ℤ) (e : LineRead) → e ≡ block_read log2 past → block log2 levels past ≡ event_of e levels
unfolding event_of
event_block log2 past levels e q = ap (λ (x : LineRead). event_of x levels) (sym q)

pub event_no : (n : ℕ) (levels : List ℤ) (e : LineRead) → e ≡ Err n → refusal n ≡ event_of e levels
unfolding event_of
event_no n levels e q = ap (λ (x : LineRead). event_of x levels) (sym q)

-- ---- a line that has ended
pub line_added : (f f' : Four) (n : ℕ) (l : Line) (e : Event) → e ≡ line_event l → f' ≡ four_plus f e → f' ≡ added f (event_line n l)
unfolding added event_line
line_added f f' n l e q w = w ∙ ap (λ (x : Event). four_plus f x) q

pub none_added : (f : Four) (es : List Event) → [] ≡ es → f ≡ added f es
unfolding added
none_added f es q = ap (added f) q

pub added_as : (f f' : Four) (es es' : List Event) → f' ≡ added f es → es ≡ es' → f' ≡ added f es'
added_as f f' es es' w q = w ∙ ap (added f) q

-- ---- a piece: what its first i bytes added, from p₀ with line₀ and f₀ to p with line and f
pub record Fed (piece line₀ line : List ℕ) (f₀ f : Four) (p₀ p : Pending) (i : ℕ) : Type 0 where
  pub state : reading line p ≡ fed_state (reading line₀ p₀) (take i piece)
  pub sums : f ≡ added f₀ (fed_out event_line (reading line₀ p₀) (take i piece))
  pub holds : p.held ≤ 8469
  pub later : p₀.number ≤ p.number
  pub numbers : p.number ≤ p₀.number + i

pub fed_begun : (piece line : List ℕ) (f : Four) (p : Pending) → p.held ≤ 8469 → Fed piece line line f f p p 0
unfolding fed_state fed_out added
fed_begun piece line f p h = record { state = refl; sums = refl; holds = h; later = omega arith; numbers = omega arith }

module _ (piece line₀ line line' : List ℕ) (f₀ f f' : Four) (p₀ p p' : Pending) (i : ℕ) (w : Fed piece line₀ line f₀ f p₀ p i) where
  pub fed_more : i < length piece → reading line' p' ≡ step_state (reading line p) (get_or piece i 0)
      → f' ≡ added f (step_out event_line (reading line p) (get_or piece i 0))
      → p'.held ≤ 8469 → p.number ≤ p'.number → p'.number ≤ p.number + 1
      → Fed piece line₀ line' f₀ f' p₀ p' (i + 1)
  fed_more h e g a c d =
      let r = reading line₀ p₀ in
      let x = get_or piece i 0 in
      record {
        state = e ∙ ap (λ (q : Reading). step_state q x) w.state ∙ fed_next r piece i h;
        sums =
            g
            ∙ ap (λ (q : Reading). added f (step_out event_line q x)) w.state
            ∙ ap (λ (y : Four). added y (step_out event_line (fed_state r (take i piece)) x)) w.sums
            ∙ added_append f₀ (fed_out event_line r (take i piece)) (step_out event_line (fed_state r (take i piece)) x)
            ∙ ap (added f₀) (out_next r piece i h event_line);
        holds = a;
        later = let z = w.later in omega arith;
        numbers = let z = w.numbers in omega arith;
      }

module _ (piece line₀ line : List ℕ) (f₀ f : Four) (p₀ p : Pending) (i : ℕ) (w : Fed piece line₀ line f₀ f p₀ p i) (h : length piece ≤ i) where
  pub fed_state_all : reading line p ≡ fed_state (reading line₀ p₀) piece
  fed_state_all = w.state ∙ fed_all (reading line₀ p₀) piece i h

  pub fed_sums_all : f ≡ added f₀ (fed_out event_line (reading line₀ p₀) piece)
  fed_sums_all = w.sums ∙ ap (added f₀) (out_all (reading line₀ p₀) piece i h event_line)
