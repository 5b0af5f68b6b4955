-- The checks and n·n as the code has them: one lemma for each way out. Assumes nothing.
use Rattle.std.specs.Prelude.{ℕ, zero, suc, ◌+◌, ◌≤◌, ◌<◌, ◌≡◌, Bool, cond, ◌||◌, ℤ, replicate, ltb}
use Rattle.std.proofs.Math.Path.{refl, sym, ap, subst}
use Rattle.std.proofs.Common.{◌∙◌, arith, add-one}
use Rattle.std.proofs.Math.Bool.{true, false}
use mathlib.Core.List.{List, [], ◌∷◌}
use Rattle.std.proofs.Math.ListN.{length, get_or, drop, drop_of_length-le}
use Rattle.std.proofs.Math.Seq.{drop-cons}
use borrow.Author.Tests.{ltb-false, lt-leb, le-leb}
use Rattle.bins.specs.CodeLaws.{Packed}
use Rattle.cabac.specs.Numbers.{◌or_else◌, context_refusal}
use Rattle.cabac.specs.NumberLaws.{or_else_first, or_else_rest, or_else_zero}
use Rattle.hevc_residual.specs.declared.params.Params.{Params}
use Rattle.hevc_residual.specs.Wanted.{area}
use Rattle.hevc_residual.specs.Numbers.{within_limits, parameter_refusal, contexts_refusal, statistic_refusal, statistics_refusal}
use Rattle.hevc_checks.specs.ChecksAgree.{bins_checks, above_refusal}

-- ---- 4
module _ (p : Params) (block : List ℤ) where
  pub parameter_small : p.log2 < 2 → 4 ≡ parameter_refusal p block
  unfolding parameter_refusal within_limits
  parameter_small h = rw (lt-leb 2 p.log2 h)

  pub parameter_large : 2 ≤ p.log2 → 5 < p.log2 → 4 ≡ parameter_refusal p block
  unfolding parameter_refusal within_limits
  parameter_large a h = rw (le-leb 2 p.log2 a, lt-leb p.log2 5 h)

  module _ (a : 2 ≤ p.log2) (b : p.log2 ≤ 5) where
    pub parameter_scan : 2 < p.scan → 4 ≡ parameter_refusal p block
    unfolding parameter_refusal within_limits
    parameter_scan h = rw (le-leb 2 p.log2 a, le-leb p.log2 5 b, lt-leb p.scan 2 h)

    pub parameter_shallow : p.scan ≤ 2 → p.depth < 8 → 4 ≡ parameter_refusal p block
    unfolding parameter_refusal within_limits
    parameter_shallow c h = rw (le-leb 2 p.log2 a, le-leb p.log2 5 b, le-leb p.scan 2 c, lt-leb 8 p.depth h)

    pub parameter_deep : p.scan ≤ 2 → 8 ≤ p.depth → 16 < p.depth → 4 ≡ parameter_refusal p block
    unfolding parameter_refusal within_limits
    parameter_deep c d h = rw (le-leb 2 p.log2 a, le-leb p.log2 5 b, le-leb p.scan 2 c, le-leb 8 p.depth d, lt-leb p.depth 16 h)

    module _ (c : p.scan ≤ 2) (d : 8 ≤ p.depth) (e : p.depth ≤ 16) (n : ℕ) (q : n ≡ area p) where
      pub parameter_short : length block < n → 4 ≡ parameter_refusal p block
      unfolding parameter_refusal within_limits
      parameter_short h =
          let k : length block < area p = subst (λ m. length block < m) q h in
          rw (le-leb 2 p.log2 a, le-leb p.log2 5 b, le-leb p.scan 2 c, le-leb 8 p.depth d, le-leb p.depth 16 e, lt-leb (area p) (length block) k)

      pub parameter_fine : n ≤ length block → 0 ≡ parameter_refusal p block
      unfolding parameter_refusal within_limits
      parameter_fine h =
          let k : area p ≤ length block = subst (λ m. m ≤ length block) q h in
          rw (le-leb 2 p.log2 a, le-leb p.log2 5 b, le-leb p.scan 2 c, le-leb 8 p.depth d, le-leb p.depth 16 e, le-leb (area p) (length block) k)

-- ---- 3, of bytes
module _ (m : ℕ) (l : List ℕ) where
  -- whether one was above, then the rest
  abbrev pub so_far : Bool → List ℕ → ℕ
  so_far above rest = cond above 3 0 or_else above_refusal m rest

  above_next : (above over : Bool) (r : ℕ) → (cond above 3 0 or_else (cond over 3 0 or_else r)) ≡ (cond (above || over) 3 0 or_else r)
  unfolding ◌or_else◌
  above_next true true r = refl
  above_next true false r = refl
  above_next false true r = refl
  above_next false false r = refl

  pub above_on : (i : ℕ) (above : Bool) → i < length l → so_far above (drop i l) ≡ above_refusal m l → so_far (above || ltb m (get_or l i 0)) (drop (i + 1) l) ≡ above_refusal m l
  unfolding above_refusal
  above_on i above h q =
      let d : drop i l ≡ get_or l i 0 ∷ drop (suc i) l = drop-cons l i 0 h in
      let s : so_far above (drop i l) ≡ so_far (above || ltb m (get_or l i 0)) (drop (suc i) l) = ap (so_far above) d ∙ above_next above (ltb m (get_or l i 0)) (above_refusal m (drop (suc i) l)) in
      rw (add-one i) (sym s ∙ q)

  pub above_starts : so_far false (drop 0 l) ≡ above_refusal m l
  unfolding ◌or_else◌
  above_starts = refl

  above_or : (above : Bool) → (cond above 3 0 or_else 0) ≡ cond above 3 0
  unfolding ◌or_else◌
  above_or true = refl
  above_or false = refl

  pub above_ends : (i : ℕ) (above : Bool) → length l ≤ i → so_far above (drop i l) ≡ above_refusal m l → cond above 3 0 ≡ above_refusal m l
  unfolding above_refusal
  above_ends i above h q = let d : drop i l ≡ [] = drop_of_length-le l h in sym (above_or above) ∙ sym (ap (so_far above) d) ∙ q

pub above_contexts : (l : List ℕ) → above_refusal 127 l ≡ contexts_refusal l
unfolding above_refusal contexts_refusal context_refusal
above_contexts [] = refl
above_contexts (c ∷ l) = ap (λ n. cond (ltb 127 c) 3 0 or_else n) (above_contexts l)

pub above_statistics : (l : List ℕ) → above_refusal 84 l ≡ statistics_refusal l
unfolding above_refusal statistics_refusal statistic_refusal
above_statistics [] = refl
above_statistics (s ∷ l) = ap (λ n. cond (ltb 84 s) 3 0 or_else n) (above_statistics l)

above_passed : (m : ℕ) (l : List ℕ) → 0 ≡ above_refusal m l → (i : ℕ) → get_or l i 0 ≤ m
unfolding above_refusal
above_passed m [] q i = omega arith
above_passed m (b ∷ l) q zero =
    let z = or_else_zero (cond (ltb m b) 3 0) (above_refusal m l) q in
    go (ltb m b) refl z.0
  where
    go : (a : Bool) → ltb m b ≡ a → ◌≡◌ {A = ℕ} 0 (cond a 3 0) → b ≤ m
    go true u z = absurd (omega arith)
    go false u z = ltb-false m b u
above_passed m (b ∷ l) q (suc i) = above_passed m l (or_else_zero (cond (ltb m b) 3 0) (above_refusal m l) q).1 i

pub contexts_packed : (l : List ℕ) → 0 ≡ contexts_refusal l → Packed l
contexts_packed l q i = let h = above_passed 127 l (q ∙ sym (above_contexts l)) i in omega arith

pub zeros_packed : (n : ℕ) → Packed (replicate n 0)
zeros_packed zero i = omega arith
zeros_packed (suc n) zero = omega arith
zeros_packed (suc n) (suc i) = zeros_packed n i

module _ (stats : List ℕ) (p : Params) (block : List ℤ) where
  pub bins_first : (n : ℕ) → n ≡ parameter_refusal p block → (n ≡ 0 → ⊥) → n ≡ bins_checks stats p block
  bins_first n q h = or_else_first n (parameter_refusal p block) (statistics_refusal stats) q h

  pub bins_second : 0 ≡ parameter_refusal p block → (n : ℕ) → n ≡ above_refusal 84 stats → n ≡ bins_checks stats p block
  bins_second z n q = or_else_rest n (parameter_refusal p block) (statistics_refusal stats) z (q ∙ above_statistics stats)
