-- A plain record is made from what is left to say: what is made is plain, and every plain record is made so. Assumes nothing.
use Rattle.std.specs.Prelude.{ℕ, zero, suc, ◌≤◌, ◌<◌, Bool, ◌&&◌, cond, leb, replicate, ℤ, Result, Ok, Err}
use Rattle.std.proofs.Math.Path.{◌≡◌, refl, subst}
use Rattle.std.proofs.Common.{sym, ap, ◌∙◌, arith}
use mathlib.Core.List.{List}
use Rattle.std.proofs.Math.Bool.{true, false}
use Rattle.std.proofs.Math.ListN.{length}
use borrow.Author.Tests.{le-leb, lt-leb}
use Rattle.cabac.specs.Numbers.{Answer, accepted, refused, ◌or_else◌, unless}
use Rattle.cabac.specs.NumberLaws.{or_else_zero, or_else_first, or_else_rest, unless_no, unless_yes}
use Rattle.hevc_residual.specs.declared.params.Params.{Params}
use Rattle.hevc_residual.specs.Wanted.{area}
use Rattle.hevc_residual.specs.Numbers.{within_limits, parameter_refusal}
use Rattle.hevc_residual.specs.LimitLaws.{parameter_passed}
use Rattle.hevc_plain.specs.Plain.{plain_params, zeros, plain_refusal, plain_of, limits_refusal, plain_record}
use Rattle.hevc_plain.specs.PlainLaws.{Plain, plain_passed}

abbrev pub made_says : Result Params ℕ → Answer Params
made_says (Ok p) = accepted p
made_says (Err n) = refused n

-- ---- the code's ways out
module _ (log2 scan : ℕ) where
  pub limits_least : log2 < 2 → 4 ≡ limits_refusal log2 scan
  unfolding limits_refusal
  limits_least h = rw (lt-leb 2 log2 h)

  pub limits_most : 2 ≤ log2 → 5 < log2 → 4 ≡ limits_refusal log2 scan
  unfolding limits_refusal
  limits_most a h = rw (le-leb 2 log2 a, lt-leb log2 5 h)

  pub limits_scan : 2 ≤ log2 → log2 ≤ 5 → 2 < scan → 4 ≡ limits_refusal log2 scan
  unfolding limits_refusal
  limits_scan a b h = rw (le-leb 2 log2 a, le-leb log2 5 b, lt-leb scan 2 h)

  pub limits_fine : 2 ≤ log2 → log2 ≤ 5 → scan ≤ 2 → 0 ≡ limits_refusal log2 scan
  unfolding limits_refusal
  limits_fine a b h = rw (le-leb 2 log2 a, le-leb log2 5 b, le-leb scan 2 h)

module _ (log2 : ℕ) (luma : Bool) (scan : ℕ) (hiding skipAllowed lossless inter : Bool) where
  abbrev asked : Params
  asked = plain_of log2 luma scan hiding skipAllowed lossless inter

  pub record_first : (n : ℕ) → n ≡ limits_refusal log2 scan → (n ≡ 0 → ⊥) → refused n ≡ plain_record log2 luma scan hiding skipAllowed lossless inter
  unfolding plain_record
  record_first n q h = unless_no n _ asked (or_else_first n (limits_refusal log2 scan) (plain_refusal asked (replicate 4 0)) q h) h

  pub record_second : 0 ≡ limits_refusal log2 scan → (n : ℕ) → n ≡ plain_refusal asked (replicate 4 0) → (n ≡ 0 → ⊥)
      → refused n ≡ plain_record log2 luma scan hiding skipAllowed lossless inter
  unfolding plain_record
  record_second z n q h = unless_no n _ asked (or_else_rest n (limits_refusal log2 scan) (plain_refusal asked (replicate 4 0)) z q) h

  pub record_made : 0 ≡ limits_refusal log2 scan → 0 ≡ plain_refusal asked (replicate 4 0) → accepted asked ≡ plain_record log2 luma scan hiding skipAllowed lossless inter
  unfolding plain_record
  record_made z q = unless_yes _ asked asked (or_else_rest 0 (limits_refusal log2 scan) (plain_refusal asked (replicate 4 0)) z q) refl

-- ---- what is made is plain: it passes 4, with a block of n·n places, and 24, with statistics of 0
made_by : (p q : Params) (k : ℕ) → unless k p ≡ accepted q → (0 ≡ k) × (p ≡ q)
unfolding unless
made_by p q zero e = (refl, cc)
made_by p q (suc k) e = let z : ◌≡◌ {A = ℕ} 0 1 = cc in absurd (omega arith)

pub record_plain : (log2 : ℕ) (luma : Bool) (scan : ℕ) (hiding skipAllowed lossless inter : Bool) (p : Params) → plain_record log2 luma scan hiding skipAllowed lossless inter ≡ accepted p
    → (p ≡ plain_of log2 luma scan hiding skipAllowed lossless inter) × Plain p × ((block : List ℤ) → area p ≤ length block → 0 ≡ parameter_refusal p block) × (0 ≡ plain_refusal p (replicate 4 0))
record_plain log2 luma scan hiding skipAllowed lossless inter p q =
    let m = plain_of log2 luma scan hiding skipAllowed lossless inter in
    let e : unless (limits_refusal log2 scan or_else plain_refusal m (replicate 4 0)) m ≡ accepted p = unfold plain_record in q in
    let a = made_by m p (limits_refusal log2 scan or_else plain_refusal m (replicate 4 0)) e in
    let b = or_else_zero (limits_refusal log2 scan) (plain_refusal m (replicate 4 0)) a.0 in
    subst (λ (p : Params). (p ≡ m) × Plain p × ((block : List ℤ) → area p ≤ length block → 0 ≡ parameter_refusal p block) × (0 ≡ plain_refusal p (replicate 4 0))) a.1
    (refl, (plain_passed m (replicate 4 0) b.1).0, λ block h. limits m block h b.0, b.1)
  where
    limits : (m : Params) (block : List ℤ) → area m ≤ length block → 0 ≡ limits_refusal m.log2 m.scan → 0 ≡ parameter_refusal (plain_of m.log2 m.luma m.scan m.hiding m.skip_allowed m.lossless m.inter) block
    limits m block h z = unfold parameter_refusal within_limits limits_refusal in go (leb 2 m.log2) (leb m.log2 5) (leb m.scan 2) (leb (area m) (length block)) (le-leb (area m) (length block) h) z
      where
        go : (a b c d : Bool) → d ≡ true → ◌≡◌ {A = ℕ} 0 (cond (a && (b && c)) 0 4) → ◌≡◌ {A = ℕ} 0 (cond (a && (b && (c && (true && (true && d))))) 0 4)
        go true true true d q z = rw q
        go true true false d q z = absurd (omega arith)
        go true false c d q z = absurd (omega arith)
        go false b c d q z = absurd (omega arith)

-- p with its other fields
abbrev with_all : Params → ℕ → Bool → Bool → Bool → Bool → Bool → Bool → Params
with_all p depth persistent context explicit implicit aligning extended =
    record {
      log2 = p.log2;
      luma = p.luma;
      scan = p.scan;
      depth = depth;
      hiding = p.hiding;
      skip_allowed = p.skip_allowed;
      lossless = p.lossless;
      persistent = persistent;
      skip_context = context;
      explicit_rdpcm = explicit;
      implicit_rdpcm = implicit;
      inter = p.inter;
      aligning = aligning;
      extended = extended;
    }

-- ---- and every plain record is made so: whatever passes 4 and 24, with any block and statistics
pub plain_made : (p : Params) (stats : List ℕ) (block : List ℤ) → 0 ≡ parameter_refusal p block → 0 ≡ plain_refusal p stats
    → plain_record p.log2 p.luma p.scan p.hiding p.skip_allowed p.lossless p.inter ≡ accepted p
plain_made p stats block a b =
    let l = (parameter_passed p block a).0 in
    let c = (plain_passed p stats b).0 in
    let e = as-made p c in
    sym (record_made p.log2 p.luma p.scan p.hiding p.skip_allowed p.lossless p.inter
    (limits_fine p.log2 p.scan l.least l.most l.scan) (subst (λ (m : Params). 0 ≡ plain_refusal m (replicate 4 0)) e (without p stats b)))
    ∙ ap accepted (sym e)
  where
    as-made : (p : Params) → Plain p → p ≡ plain_of p.log2 p.luma p.scan p.hiding p.skip_allowed p.lossless p.inter
    as-made p h =
        ap (λ (d : ℕ). with_all p d p.persistent p.skip_context p.explicit_rdpcm p.implicit_rdpcm p.aligning p.extended) h.depth
        ∙ ap (λ (d : Bool). with_all p 8 d p.skip_context p.explicit_rdpcm p.implicit_rdpcm p.aligning p.extended) h.persistent
        ∙ ap (λ (d : Bool). with_all p 8 false d p.explicit_rdpcm p.implicit_rdpcm p.aligning p.extended) h.context
        ∙ ap (λ (d : Bool). with_all p 8 false false d p.implicit_rdpcm p.aligning p.extended) h.explicit
        ∙ ap (λ (d : Bool). with_all p 8 false false false d p.aligning p.extended) h.implicit
        ∙ ap (λ (d : Bool). with_all p 8 false false false false d p.extended) h.aligning
        ∙ ap (λ (d : Bool). with_all p 8 false false false false false d) h.extended

    without : (p : Params) (stats : List ℕ) → 0 ≡ plain_refusal p stats → 0 ≡ plain_refusal p (replicate 4 0)
    without p stats z = unfold plain_refusal zeros in go (plain_params p) (zeros stats) z
      where
        go : (a b : Bool) → ◌≡◌ {A = ℕ} 0 (cond (a && b) 0 24) → ◌≡◌ {A = ℕ} 0 (cond (a && true) 0 24)
        go true b z = refl
        go false b z = absurd (omega arith)
