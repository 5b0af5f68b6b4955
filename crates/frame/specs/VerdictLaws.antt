-- Laws of verdicts, as the code meets them. Assumes nothing.
use Rattle.std.specs.Prelude.{ℕ, zero, suc, ◌+◌, ◌-◌, ◌≤◌, ◌<◌, ◌≡◌, Bool, true, false, cond, ◌&&◌, List, [], ◌∷◌, ◌++◌, leb, eqb, length, take, drop, get_or, replicate, ℤ, pos, Result, Ok, Err}
use Rattle.std.proofs.Common.{arith, sym, subst, ◌∙◌, length-take, length-drop, take_all, le-leb, eq-eqb}
use Rattle.std.proofs.Math.Path.{refl, ap}
use Rattle.std.proofs.lemmas.Bool.{lt-leb}
use Rattle.bins.specs.declared.state.Engine.{Engine}
use Rattle.bins.specs.Tags.{context_count}
use Rattle.cabac.specs.Numbers.{Answer, accepted, refused, ◌or_else◌, payload_refusal}
use Rattle.cabac.specs.Entries.{start, state_says, values_refusal, contexts_after, statistics_after}
use Rattle.cabac.specs.Contexts.{initial_all}
use Rattle.hevc_residual.specs.declared.params.Params.{Params}
use Rattle.hevc_residual.specs.Numbers.{parameter_refusal}
use Rattle.hevc_residual.specs.Entries.{FoundAt, PayloadRead, read_payload}
use Rattle.hevc_residual.specs.AllOff.{all_off}
use Rattle.hevc_residual.specs.declared.answers.ReadBlock.{ReadBlock}
use Rattle.hevc_residual.specs.Answers.{payload_read}
use Rattle.frame.specs.Frame.{payload_of, values_of, byte_of, quantiser_of, params_of, flags_refusal}
use Rattle.frame.specs.Verdict.{no_levels, checks_of, read_verdict, read_from, started_verdict, verdict_by, verdict, started_levels, levels_by, levels_of, Verdict, ok}

-- ---- a frame's parts
pub tail_is : (bytes : List ℕ) → take (length bytes - 138) (drop 138 bytes) ≡ payload_of bytes
tail_is bytes = take_all (length bytes - 138) (drop 138 bytes) (omega (arith, length-drop 138 bytes))

pub params_is : (bytes : List ℕ) (a b c : ℕ) → a ≡ get_or bytes 0 0 → b ≡ get_or bytes 2 0 → c ≡ get_or bytes 3 0
    → all_off a (eqb (get_or bytes 1 0) 1) b c (eqb (get_or bytes 5 0) 1) ≡ params_of bytes
unfolding params_of
params_is bytes a b c p q r = rw (p, q, r)

-- ---- checks
pub flags_luma : (bytes : List ℕ) → 1 < get_or bytes 1 0 → 4 ≡ flags_refusal bytes
unfolding flags_refusal
flags_luma bytes h = rw (lt-leb (get_or bytes 1 0) 1 h)

pub flags_hiding : (bytes : List ℕ) → get_or bytes 1 0 ≤ 1 → 1 < get_or bytes 5 0 → 4 ≡ flags_refusal bytes
unfolding flags_refusal
flags_hiding bytes h k = rw (le-leb (get_or bytes 1 0) 1 h, lt-leb (get_or bytes 5 0) 1 k)

pub flags_none : (bytes : List ℕ) → get_or bytes 1 0 ≤ 1 → get_or bytes 5 0 ≤ 1 → 0 ≡ flags_refusal bytes
unfolding flags_refusal
flags_none bytes h k = rw (le-leb (get_or bytes 1 0) 1 h, le-leb (get_or bytes 5 0) 1 k)

or_first : (n m : ℕ) → (n ≡ 0 → ⊥) → n ≡ (n or_else m)
unfolding ◌or_else◌
or_first zero m h = absurd (h refl)
or_first (suc n) m h = refl

or_second : (n m : ℕ) → n ≡ 0 → m ≡ (n or_else m)
unfolding ◌or_else◌
or_second zero m h = refl
or_second (suc n) m h = absurd (omega arith)

module _ (bytes : List ℕ) (a : ℕ) (p : a ≡ payload_refusal (payload_of bytes)) where
  pub checks_payload : (a ≡ 0 → ⊥) → a ≡ checks_of bytes
  unfolding checks_of
  checks_payload h =
      or_first a (flags_refusal bytes or_else parameter_refusal (params_of bytes) no_levels) h
      ∙ ap (λ (x : ℕ). x or_else flags_refusal bytes or_else parameter_refusal (params_of bytes) no_levels) p

  pub checks_flags : (b : ℕ) → a ≡ 0 → b ≡ flags_refusal bytes → (b ≡ 0 → ⊥) → b ≡ checks_of bytes
  unfolding checks_of
  checks_flags b z q h =
      or_first b (parameter_refusal (params_of bytes) no_levels) h
      ∙ ap (λ (x : ℕ). x or_else parameter_refusal (params_of bytes) no_levels) q
      ∙ or_second (payload_refusal (payload_of bytes)) (flags_refusal bytes or_else parameter_refusal (params_of bytes) no_levels) (sym p ∙ z)

  pub checks_last : (b c : ℕ) (q : Params) → a ≡ 0 → b ≡ flags_refusal bytes → b ≡ 0 → q ≡ params_of bytes → c ≡ parameter_refusal q no_levels → c ≡ checks_of bytes
  unfolding checks_of
  checks_last b c q z f y g r =
      r
      ∙ ap (λ (x : Params). parameter_refusal x no_levels) g
      ∙ or_second (flags_refusal bytes) (parameter_refusal (params_of bytes) no_levels) (sym f ∙ y)
      ∙ or_second (payload_refusal (payload_of bytes)) (flags_refusal bytes or_else parameter_refusal (params_of bytes) no_levels) (sym p ∙ z)

-- ---- the verdict
no_is : (m : ℕ) (bytes : List ℕ) → (m ≡ 0 → ⊥) → Err m ≡ verdict_by m bytes
unfolding verdict_by
no_is zero bytes h = absurd (h refl)
no_is (suc m) bytes h = refl

none_by : (m : ℕ) (bytes : List ℕ) → (m ≡ 0 → ⊥) → no_levels ≡ levels_by m bytes
unfolding levels_by
none_by zero bytes h = absurd (h refl)
none_by (suc m) bytes h = refl

module _ (bytes : List ℕ) (n : ℕ) (e : n ≡ checks_of bytes) where
  pub verdict_checks : (n ≡ 0 → ⊥) → Err n ≡ verdict bytes
  unfolding verdict
  verdict_checks h = no_is n bytes h ∙ ap (λ (x : ℕ). verdict_by x bytes) e

  pub levels_checks : (n ≡ 0 → ⊥) → no_levels ≡ levels_of bytes
  unfolding levels_of
  levels_checks h = none_by n bytes h ∙ ap (λ (x : ℕ). levels_by x bytes) e

  levels_behind : n ≡ 0 → started_levels bytes (start (payload_of bytes)) ≡ levels_of bytes
  unfolding levels_of levels_by
  levels_behind z = ap (λ (x : ℕ). levels_by x bytes) (sym z ∙ e)

  pub levels_ready : (s : Result Engine ℕ) (x : Engine) (b : List ℤ) → n ≡ 0 → state_says s ≡ start (payload_of bytes) → s ≡ Ok x → b ≡ started_levels bytes (accepted x)
      → b ≡ levels_of bytes
  levels_ready s x b z q r w =
      w ∙ ap (started_levels bytes) (ap state_says (sym r) ∙ q) ∙ levels_behind z

  pub levels_refused : (s : Result Engine ℕ) (m : ℕ) → n ≡ 0 → state_says s ≡ start (payload_of bytes) → s ≡ Err m → no_levels ≡ levels_of bytes
  unfolding started_levels
  levels_refused s m z q r = ap (started_levels bytes) (ap state_says (sym r) ∙ q) ∙ levels_behind z

  verdict_behind : n ≡ 0 → started_verdict bytes (start (payload_of bytes)) ≡ verdict bytes
  unfolding verdict verdict_by
  verdict_behind z = ap (λ (x : ℕ). verdict_by x bytes) (sym z ∙ e)

  pub verdict_ready : (s : Result Engine ℕ) (x : Engine) (v : Verdict) → n ≡ 0 → state_says s ≡ start (payload_of bytes) → s ≡ Ok x → v ≡ started_verdict bytes (accepted x)
      → v ≡ verdict bytes
  verdict_ready s x v z q r w =
      w ∙ ap (started_verdict bytes) (ap state_says (sym r) ∙ q) ∙ verdict_behind z

  pub verdict_refused : (s : Result Engine ℕ) (m : ℕ) → n ≡ 0 → state_says s ≡ start (payload_of bytes) → s ≡ Err m → Err m ≡ verdict bytes
  unfolding started_verdict
  verdict_refused s m z q r = ap (started_verdict bytes) (ap state_says (sym r) ∙ q) ∙ verdict_behind z

-- ---- the block
values_all : (bytes : List ℕ) → 138 ≤ length bytes → values_refusal (values_of bytes) ≡ 0
unfolding values_refusal
values_all bytes h = rw (eq-eqb (length (values_of bytes)) context_count (length-take context_count (drop 8 bytes) ∙ (omega (arith, length-drop 8 bytes))))

contexts_zero : (n : ℕ) (cs values : List ℕ) (q : ℕ) → n ≡ 0 → contexts_after n cs values q ≡ initial_all q values
unfolding contexts_after
contexts_zero n cs values q z = ap (λ (x : ℕ). contexts_after x cs values q) z

statistics_zero : (n : ℕ) (ss : List ℕ) → n ≡ 0 → statistics_after n ss ≡ replicate 4 0
unfolding statistics_after
statistics_zero n ss z = ap (λ (x : ℕ). statistics_after x ss) z

-- what the reader's call is handed, and what it answers
module _ (bytes cs ss cs' ss' cs'' ss'' : List ℕ) (b'' : List ℤ) (n : ℕ) (p : Params) (e : Engine) (h : 138 ≤ length bytes)
    (i : n ≡ values_refusal (values_of bytes)) (j : cs' ≡ contexts_after n cs (values_of bytes) (quantiser_of bytes)) (k : ss' ≡ statistics_after n ss)
    (g : p ≡ params_of bytes) (P : List ℕ) (w : P ≡ payload_of bytes) (b : List ℤ) (v : b ≡ no_levels) where
  zero_is : n ≡ 0
  zero_is = i ∙ values_all bytes h

  handed : (r : Result ReadBlock ℕ) → payload_read r cs'' ss'' b'' ≡ read_payload P e cs' ss' p b → payload_read r cs'' ss'' b'' ≡ read_from bytes e
  handed r q =
      q
      ∙ ap (λ (x : List ℤ). read_payload P e cs' ss' p x) v
      ∙ ap (λ (x : List ℕ). read_payload x e cs' ss' p no_levels) w
      ∙ ap (λ (x : List ℕ). read_payload (payload_of bytes) e x ss' p no_levels) (j ∙ contexts_zero n cs (values_of bytes) (quantiser_of bytes) zero_is)
      ∙ ap (λ (x : List ℕ). read_payload (payload_of bytes) e (initial_all (quantiser_of bytes) (values_of bytes)) x p no_levels) (k ∙ statistics_zero n ss zero_is)
      ∙ ap (λ (x : Params). read_payload (payload_of bytes) e (initial_all (quantiser_of bytes) (values_of bytes)) (replicate 4 0) x no_levels) g

  says : (r : Result ReadBlock ℕ) → payload_read r cs'' ss'' b'' ≡ read_payload P e cs' ss' p b
      → read_verdict (payload_read r cs'' ss'' b'').answer ≡ started_verdict bytes (accepted e)
  unfolding started_verdict
  says r q = ap (λ (x : PayloadRead). read_verdict x.answer) (handed r q)

  leaves : (r : Result ReadBlock ℕ) → payload_read r cs'' ss'' b'' ≡ read_payload P e cs' ss' p b → b'' ≡ started_levels bytes (accepted e)
  unfolding started_levels
  leaves r q = block_of r ∙ ap (λ (x : PayloadRead). x.block) (handed r q)
    where
      block_of : (r : Result ReadBlock ℕ) → b'' ≡ (payload_read r cs'' ss'' b'').block
      block_of (Ok f) = refl
      block_of (Err n) = refl

  pub read_ok : (r : Result ReadBlock ℕ) (f : ReadBlock) → payload_read r cs'' ss'' b'' ≡ read_payload P e cs' ss' p b
      → r ≡ Ok f → (ok f.found.greatest f.state.past ≡ started_verdict bytes (accepted e)) × (b'' ≡ started_levels bytes (accepted e))
  unfolding read_verdict
  read_ok r f q u = (ap (λ (z : Result ReadBlock ℕ). read_verdict (payload_read z cs'' ss'' b'').answer) (sym u) ∙ says r q, leaves r q)

  pub read_no : (r : Result ReadBlock ℕ) (m : ℕ) → payload_read r cs'' ss'' b'' ≡ read_payload P e cs' ss' p b
      → r ≡ Err m → (Err m ≡ started_verdict bytes (accepted e)) × (b'' ≡ started_levels bytes (accepted e))
  unfolding read_verdict
  read_no r m q u = (ap (λ (z : Result ReadBlock ℕ). read_verdict (payload_read z cs'' ss'' b'').answer) (sym u) ∙ says r q, leaves r q)
