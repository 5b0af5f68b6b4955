-- The plain entry points' ways out. Assumes nothing.
use Prim.Native.Nat.{ℕ, zero, suc, ◌≤◌, ◌<◌}
use Rattle.std.specs.Prelude.{◌≡◌, refl, List, [], ◌∷◌, Bool, true, false, not, ◌&&◌, ◌||◌, cond, ltb, eqb, ℤ, Err}
use Rattle.std.proofs.Math.Path.{sym, ap}
use Rattle.std.proofs.Common.{◌∙◌, arith}
use Rattle.std.proofs.Math.Dec.{leb}
use borrow.Author.Tests.{eq-eqb, ne_eqb, le-leb, lt-leb, ltb-true, ltb-false}
use Rattle.bins.specs.declared.state.Engine.{Engine}
use Rattle.cabac.specs.Numbers.{◌or_else◌, payload_refusal, state_refusal, ended_refusal}
use Rattle.cabac.specs.NumberLaws.{or_else_assoc, or_else_zero, or_else_first, or_else_rest}
use Rattle.hevc_residual.specs.declared.params.Params.{Params}
use Rattle.hevc_residual.specs.declared.params.Rdpcm.{Rdpcm}
use Rattle.hevc_residual.specs.Wanted.{Wanted}
use Rattle.hevc_residual.specs.Refusal.{write_refusal}
use Rattle.hevc_residual.specs.Numbers.{parameter_refusal, contexts_refusal, statistics_refusal}
use Rattle.hevc_residual.specs.Entries.{PayloadRead, read_payload_by, read_payload, BinsRead, read_bins_by, read_bins, BinsWritten, wanted_from, write_bins_by, write_bins}
use Rattle.hevc_residual.specs.Answers.{payload_read, bins_read}
use Rattle.hevc_checks.specs.ChecksAgree.{above_refusal}
use Rattle.hevc_residual.specs.Answers.{bins_written}
use Rattle.hevc_plain.specs.Plain.{plain_params, zeros, plain_refusal, read_plain, read_plain_bins, write_plain}
use Rattle.hevc_plain.specs.PlainLaws.{plain_full, plain_full_bins, plain_full_write}

-- ---- 24, by what it is given for
unfoldable pub scan_refusal : Params → ℕ
scan_refusal p = cond (eqb p.scan 0 || leb p.log2 3) 0 24

abbrev pub plain_checks : List ℕ → Params → List ℤ → ℕ
plain_checks stats p block = parameter_refusal p block or_else plain_refusal p stats

module _ (p : Params) where
  pub scan_zero : p.scan ≡ 0 → 0 ≡ scan_refusal p
  unfolding scan_refusal
  scan_zero h = rw (eq-eqb p.scan 0 h)

  pub scan_large : (p.scan ≡ 0 → ⊥) → 3 < p.log2 → 24 ≡ scan_refusal p
  unfolding scan_refusal
  scan_large h k = rw (ne_eqb p.scan 0 h, lt-leb p.log2 3 k)

  pub scan_small : (p.scan ≡ 0 → ⊥) → p.log2 ≤ 3 → 0 ≡ scan_refusal p
  unfolding scan_refusal
  scan_small h k = rw (ne_eqb p.scan 0 h, le-leb p.log2 3 k)

above_zeros : (l : List ℕ) → above_refusal 0 l ≡ cond (zeros l) 0 3
unfolding above_refusal zeros ◌or_else◌
above_zeros [] = refl
above_zeros (s ∷ l) = go (ltb 0 s) refl (above_zeros l)
  where
    go : (d : Bool) → ltb 0 s ≡ d → above_refusal 0 l ≡ cond (zeros l) 0 3 → (cond d 3 0 or_else above_refusal 0 l) ≡ cond (eqb s 0 && zeros l) 0 3
    go true q u = let h : eqb s 0 ≡ false = ne_eqb s 0 (λ z. omega (arith, ltb-true 0 s q)) in rw h
    go false q u = let h : eqb s 0 ≡ true = eq-eqb s 0 (omega (arith, ltb-false 0 s q)) in rw h u

module _ (p : Params) (stats : List ℕ) where
  abbrev options : Bool
  options = p.persistent || (p.skip_context || (p.explicit_rdpcm || (p.implicit_rdpcm || (p.aligning || p.extended))))

  pub not_8 : (p.depth ≡ 8 → ⊥) → 24 ≡ plain_refusal p stats
  unfolding plain_refusal plain_params
  not_8 h = rw (ne_eqb p.depth 8 h)

  not_scan : (d e : Bool) → (◌≡◌ {A = ℕ} 0 (cond d 0 24) → ⊥) → ◌≡◌ {A = ℕ} 24 (cond ((d && e) && zeros stats) 0 24)
  not_scan true e h = absurd (h refl)
  not_scan false e h = refl

  pub scan_wide : p.depth ≡ 8 → (k : ℕ) → k ≡ scan_refusal p → (k ≡ 0 → ⊥) → 24 ≡ plain_refusal p stats
  unfolding plain_refusal plain_params scan_refusal
  scan_wide a k q h = rw (eq-eqb p.depth 8 a) (not_scan (eqb p.scan 0 || leb p.log2 3) (not options) (λ z. h (q ∙ sym z)))

  -- an option is on
  not_options : (c d : Bool) → options ≡ true → ◌≡◌ {A = ℕ} 24 (cond ((c && (d && not options)) && zeros stats) 0 24)
  not_options c d q = rw q (go c d)
    where
      go : (c d : Bool) → ◌≡◌ {A = ℕ} 24 (cond ((c && (d && not true)) && zeros stats) 0 24)
      go true true = refl
      go true false = refl
      go false d = refl

  pub option_on : options ≡ true → 24 ≡ plain_refusal p stats
  unfolding plain_refusal plain_params
  option_on q = not_options (eqb p.depth 8) (eqb p.scan 0 || leb p.log2 3) q

  pub is_persistent : p.persistent ≡ true → 24 ≡ plain_refusal p stats
  is_persistent q = option_on (rw q)

  or_true : (a b : Bool) → b ≡ true → (a || b) ≡ true
  or_true true b q = refl
  or_true false b q = q

  pub is_context : p.skip_context ≡ true → 24 ≡ plain_refusal p stats
  is_context q = option_on (or_true p.persistent _ (rw q))

  pub is_explicit : p.explicit_rdpcm ≡ true → 24 ≡ plain_refusal p stats
  is_explicit q = option_on (or_true p.persistent _ (or_true p.skip_context _ (rw q)))

  pub is_implicit : p.implicit_rdpcm ≡ true → 24 ≡ plain_refusal p stats
  is_implicit q = option_on (or_true p.persistent _ (or_true p.skip_context _ (or_true p.explicit_rdpcm _ (rw q))))

  pub is_aligning : p.aligning ≡ true → 24 ≡ plain_refusal p stats
  is_aligning q = option_on (or_true p.persistent _ (or_true p.skip_context _ (or_true p.explicit_rdpcm _ (or_true p.implicit_rdpcm _ (rw q)))))

  pub is_extended : p.extended ≡ true → 24 ≡ plain_refusal p stats
  is_extended q = option_on (or_true p.persistent _ (or_true p.skip_context _ (or_true p.explicit_rdpcm _ (or_true p.implicit_rdpcm _ (or_true p.aligning _ q)))))

  -- the statistics decide, all else being plain
  module _ (a : p.depth ≡ 8) (b : 0 ≡ scan_refusal p) (c : p.persistent ≡ false) (d : p.skip_context ≡ false) (e : p.explicit_rdpcm ≡ false) (f : p.implicit_rdpcm ≡ false) (g : p.aligning ≡ false) (h : p.extended ≡ false) where
    pass : (d : Bool) → ◌≡◌ {A = ℕ} 0 (cond d 0 24) → d ≡ true
    pass true q = refl
    pass false q = absurd (omega arith)

    left : plain_refusal p stats ≡ cond (zeros stats) 0 24
    unfolding plain_refusal plain_params scan_refusal
    left = let u = pass (eqb p.scan 0 || leb p.log2 3) b in rw (eq-eqb p.depth 8 a, u, c, d, e, f, g, h)

    zeros_no : (d : Bool) (k : ℕ) → k ≡ cond d 0 3 → (k ≡ 0 → ⊥) → ◌≡◌ {A = ℕ} 24 (cond d 0 24)
    zeros_no true k q n = absurd (n q)
    zeros_no false k q n = refl

    zeros_yes : (d : Bool) (k : ℕ) → k ≡ cond d 0 3 → k ≡ 0 → ◌≡◌ {A = ℕ} 0 (cond d 0 24)
    zeros_yes true k q n = refl
    zeros_yes false k q n = absurd (omega arith)

    pub statistics_on : (k : ℕ) → k ≡ above_refusal 0 stats → (k ≡ 0 → ⊥) → 24 ≡ plain_refusal p stats
    statistics_on k q n = zeros_no (zeros stats) k (q ∙ above_zeros stats) n ∙ sym left

    pub all_plain : (k : ℕ) → k ≡ above_refusal 0 stats → k ≡ 0 → 0 ≡ plain_refusal p stats
    all_plain k q n = zeros_yes (zeros stats) k (q ∙ above_zeros stats) n ∙ sym left

-- ---- 4, 24
module _ (stats : List ℕ) (p : Params) (block : List ℤ) where
  pub checks_first : (n : ℕ) → n ≡ parameter_refusal p block → (n ≡ 0 → ⊥) → n ≡ plain_checks stats p block
  checks_first n q h = or_else_first n (parameter_refusal p block) (plain_refusal p stats) q h

  pub checks_second : 0 ≡ parameter_refusal p block → (n : ℕ) → n ≡ plain_refusal p stats → n ≡ plain_checks stats p block
  checks_second z n q = or_else_rest n (parameter_refusal p block) (plain_refusal p stats) z q

-- ---- the entry points: refused by a number of these checks, or left to the full one
module _ (l : List ℕ) (e : Engine) (contexts stats : List ℕ) (p : Params) (block : List ℤ) where
  abbrev rest : ℕ
  rest = state_refusal l e or_else contexts_refusal contexts or_else statistics_refusal stats or_else ended_refusal e

  refused_by_lem : (n k : ℕ) → n ≡ k → (n ≡ 0 → ⊥) → payload_read (Err n) contexts stats block ≡ read_payload_by k l e contexts stats p block
  unfolding read_payload_by
  refused_by_lem n zero q h = absurd (h q)
  refused_by_lem n (suc k) q h = ap (λ m. payload_read (Err m) contexts stats block) q

  pub payload_first : (n : ℕ) → n ≡ payload_refusal l → (n ≡ 0 → ⊥) → payload_read (Err n) contexts stats block ≡ read_plain l e contexts stats p block
  unfolding read_plain
  payload_first n q h = refused_by_lem n _ (or_else_first n (payload_refusal l) _ q h) h

  pub payload_second : 0 ≡ payload_refusal l → (n : ℕ) → n ≡ plain_checks stats p block → (n ≡ 0 → ⊥) → payload_read (Err n) contexts stats block ≡ read_plain l e contexts stats p block
  unfolding read_plain
  payload_second z n q h =
      refused_by_lem n _ (or_else_rest n (payload_refusal l) _ z (or_else_first n (parameter_refusal p block or_else plain_refusal p stats) rest q h ∙ or_else_assoc (parameter_refusal p block) (plain_refusal p stats) rest)) h

  pub payload_left : 0 ≡ plain_checks stats p block → (r : PayloadRead) → r ≡ read_payload l e contexts stats p block → r ≡ read_plain l e contexts stats p block
  payload_left z r q = q ∙ sym (plain_full l e contexts stats p block (or_else_zero (parameter_refusal p block) (plain_refusal p stats) z).1)

module _ (bins stats : List ℕ) (p : Params) (block : List ℤ) where
  pub bins_first : (n : ℕ) → n ≡ plain_checks stats p block → (n ≡ 0 → ⊥) → bins_read (Err n) stats block ≡ read_plain_bins bins stats p block
  unfolding read_plain_bins
  bins_first n q h =
      go _ (or_else_first n (parameter_refusal p block or_else plain_refusal p stats) (statistics_refusal stats) q h ∙ or_else_assoc (parameter_refusal p block) (plain_refusal p stats) (statistics_refusal stats))
    where
      go : (k : ℕ) → n ≡ k → bins_read (Err n) stats block ≡ read_bins_by k bins stats p block
      go zero u = absurd (h u)
      go (suc k) u = unfold read_bins_by in ap (λ m. bins_read (Err m) stats block) u

  pub bins_left : 0 ≡ plain_checks stats p block → (r : BinsRead) → r ≡ read_bins bins stats p block → r ≡ read_plain_bins bins stats p block
  bins_left z r q = q ∙ sym (plain_full_bins bins stats p block (or_else_zero (parameter_refusal p block) (plain_refusal p stats) z).1)

module _ (p : Params) (stats : List ℕ) (block : List ℤ) (skip : Bool) (rdpcm : Rdpcm) (room : List ℕ) where
  abbrev w : Wanted
  w = wanted_from p block skip rdpcm

  pub write_first : (n : ℕ) → n ≡ plain_checks stats p block → (n ≡ 0 → ⊥) → bins_written (Err n) stats room ≡ write_plain p stats block skip rdpcm room
  unfolding write_plain
  write_first n q h =
      go _ (or_else_first n (parameter_refusal p block or_else plain_refusal p stats) (statistics_refusal stats or_else write_refusal p w) q h
      ∙ or_else_assoc (parameter_refusal p block) (plain_refusal p stats) (statistics_refusal stats or_else write_refusal p w))
    where
      go : (k : ℕ) → n ≡ k → bins_written (Err n) stats room ≡ write_bins_by k p stats w room
      go zero u = absurd (h u)
      go (suc k) u = unfold write_bins_by in ap (λ m. bins_written (Err m) stats room) u

  pub write_left_lem : 0 ≡ plain_checks stats p block → (r : BinsWritten) → r ≡ write_bins p stats block skip rdpcm room → r ≡ write_plain p stats block skip rdpcm room
  write_left_lem z r q = q ∙ sym (plain_full_write p stats block skip rdpcm room (or_else_zero (parameter_refusal p block) (plain_refusal p stats) z).1)
