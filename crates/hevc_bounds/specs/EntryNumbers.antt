-- Which numbers the two block readers give. Behind its checks a payload gives 7 or 8, and 7 only where alignment is on; a list gives 8 or 13. So 7 cannot
-- arise at bin level. Readings of the residual's bounds. Assumes nothing.
use Rattle.std.specs.Prelude.{ℕ, zero, suc, ◌≡◌, refl, true, List, [], ◌∷◌, ℤ}
use Rattle.std.proofs.Common.{sym, ◌∙◌, arith}
use Rattle.std.proofs.Math.Path.{ap, subst}
use Rattle.bins.specs.declared.state.Engine.{Engine}
use Rattle.bins.specs.Syn.{Out, Reading, run, by_engine, by_list}
use Rattle.cabac.specs.Numbers.{refused, ◌or_else◌, payload_refusal, state_refusal, ended_refusal}
use Rattle.cabac.specs.NumberLaws.{or_else_zero}
use Rattle.hevc_residual.specs.declared.params.Params.{Params}
use Rattle.hevc_residual.specs.Residual.{Block, residual}
use Rattle.hevc_residual.specs.Numbers.{parameter_refusal, contexts_refusal, statistics_refusal}
use Rattle.hevc_residual.specs.Limits.{Accepted, Statistics}
use Rattle.hevc_residual.specs.LimitLaws.{parameter_passed, statistics_passed}
use Rattle.hevc_residual.specs.Entries.{Found, FoundAt, read_by_engine, read_payload_by, read_payload, read_from_list, read_bins_by, read_bins}
use Rattle.trees.specs.Every.{Each}
use Rattle.trees.specs.Reached.{Why, ByEngine, ByList, each_refused, each_list_refused}
use Rattle.hevc_bounds.specs.Among.{among, differ, same, Gives, gives_or, gives_payload, gives_parameter, gives_state, gives_contexts, gives_statistics, gives_ended, given}
use Rattle.hevc_bounds.specs.Pieces.{bins_most, residual_bounds}
use Rattle.hevc_bounds.specs.ResidualBounds.{Whole, kept_none, residual_each}

-- the number that the checks give
abbrev pub payload_number : List ℕ → Engine → List ℕ → List ℕ → Params → List ℤ → ℕ
payload_number l e contexts stats p block =
    payload_refusal l
    or_else parameter_refusal p block
    or_else state_refusal l e
    or_else contexts_refusal contexts
    or_else statistics_refusal stats
    or_else ended_refusal e

abbrev pub bins_number : List ℕ → Params → List ℤ → ℕ
bins_number stats p block = parameter_refusal p block or_else statistics_refusal stats

-- ---- behind the checks
module _ (p : Params) (stats : List ℕ) where
  tree_bounds : (a : Accepted p) → Statistics stats → Each (residual_bounds p bins_most) (Whole p (λ l c. Unit {0}) stats bins_most) 0 (residual p stats)
  tree_bounds a st = residual_each p a (kept_none p) stats st

  by_engine_lem : Accepted p → Statistics stats → (l contexts : List ℕ) (block : List ℤ) (r : Reading) (o : Out Reading Block) → run (by_engine l) (residual p stats) r ≡ o
      → (n : ℕ) → (read_by_engine p contexts stats block o).answer ≡ refused n → (m : ℕ) × ByEngine (residual_bounds p bins_most) n m
  unfolding read_by_engine
  by_engine_lem a st l contexts block r (Out.ok b s) q n e = differ e
  by_engine_lem a st l contexts block r (Out.no k s) q n e =
      subst (λ (z : ℕ). (m : ℕ) × ByEngine (residual_bounds p bins_most) z m) (same k n e) (each_refused l (tree_bounds a st) r k s q)

  by_list_lem : Accepted p → Statistics stats → (l : List ℕ) (block : List ℤ) (o : Out (List ℕ) Block) → run by_list (residual p stats) l ≡ o
      → (n : ℕ) → (read_from_list p stats block o).answer ≡ refused n → (m : ℕ) × ByList (residual_bounds p bins_most) n m
  unfolding read_from_list
  by_list_lem a st l block (Out.ok b []) q n e = differ e
  by_list_lem a st l block (Out.ok b (x ∷ s)) q n e = (0, Why.missed (sym (same 13 n e)))
  by_list_lem a st l block (Out.no k s) q n e =
      let z = each_list_refused (tree_bounds a st) l k s q in
      subst (λ (z : ℕ). (m : ℕ) × ByList (residual_bounds p bins_most) z m) (same k n e) (z.0, z.2)

-- what the payload reader is refused by where its checks pass: the tree's 8, or 7 at an alignment
pub payload_behind : (l : List ℕ) (e : Engine) (contexts stats : List ℕ) (p : Params) (block : List ℤ) → 0 ≡ payload_number l e contexts stats p block
    → (n : ℕ) → (read_payload l e contexts stats p block).answer ≡ refused n → (m : ℕ) × ByEngine (residual_bounds p bins_most) n m
unfolding read_payload read_payload_by
payload_behind l e contexts stats p block z n q =
    let a = or_else_zero (payload_refusal l) _ z in
    let b = or_else_zero (parameter_refusal p block) _ a.1 in
    let c = or_else_zero (state_refusal l e) _ b.1 in
    let d = or_else_zero (contexts_refusal contexts) _ c.1 in
    let f = or_else_zero (statistics_refusal stats) _ d.1 in
    let r : Reading = record { engine = e; contexts = contexts } in
    by_engine_lem p stats (parameter_passed p block b.0).0 (statistics_passed stats f.0) l contexts block r (run (by_engine l) (residual p stats) r) refl n
    (ap (λ (k : ℕ). (read_payload_by k l e contexts stats p block).answer) z ∙ q)

-- and the bin reader: the tree's 8, or 13
pub bins_behind : (bins stats : List ℕ) (p : Params) (block : List ℤ) → 0 ≡ bins_number stats p block
    → (n : ℕ) → (read_bins bins stats p block).answer ≡ refused n → (m : ℕ) × ByList (residual_bounds p bins_most) n m
unfolding read_bins read_bins_by
bins_behind bins stats p block z n q =
    let a = or_else_zero (parameter_refusal p block) (statistics_refusal stats) z in
    by_list_lem p stats (parameter_passed p block a.0).0 (statistics_passed stats a.1) bins block (run by_list (residual p stats) bins) refl n
    (ap (λ (k : ℕ). (read_bins_by k bins stats p block).answer) z ∙ q)

-- ---- the same as numbers
engine_among : (p : Params) (ms : List ℕ) (n m : ℕ) → ByEngine (residual_bounds p bins_most) n m → among ms 7 ≡ true → among ms 8 ≡ true → among ms n ≡ true
engine_among p ms n m (Why.stopped h) x y = subst (λ (z : ℕ). among ms z ≡ true) (sym h.0) y
engine_among p ms n m (Why.missed h) x y = absurd h
engine_among p ms n m (Why.unaligned h g) x y = subst (λ (z : ℕ). among ms z ≡ true) (sym g) x

list_among : (p : Params) (ms : List ℕ) (n m : ℕ) → ByList (residual_bounds p bins_most) n m → among ms 8 ≡ true → among ms 13 ≡ true → among ms n ≡ true
list_among p ms n m (Why.stopped h) x y = subst (λ (z : ℕ). among ms z ≡ true) (sym h.0) x
list_among p ms n m (Why.missed g) x y = subst (λ (z : ℕ). among ms z ≡ true) (sym g) y
list_among p ms n m (Why.unaligned h g) x y = subst (λ (z : ℕ). among ms z ≡ true) (sym g) y

pub payload_7_or_8 : (l : List ℕ) (e : Engine) (contexts stats : List ℕ) (p : Params) (block : List ℤ) → 0 ≡ payload_number l e contexts stats p block
    → (n : ℕ) → (read_payload l e contexts stats p block).answer ≡ refused n → among (7 ∷ 8 ∷ []) n ≡ true
payload_7_or_8 l e contexts stats p block z n q = let w = payload_behind l e contexts stats p block z n q in engine_among p (7 ∷ 8 ∷ []) n w.0 w.1 refl refl

-- 7 only where alignment is on
pub payload_7 : (l : List ℕ) (e : Engine) (contexts stats : List ℕ) (p : Params) (block : List ℤ) → 0 ≡ payload_number l e contexts stats p block
    → (read_payload l e contexts stats p block).answer ≡ refused 7 → p.aligning ≡ true
payload_7 l e contexts stats p block z q = let w = payload_behind l e contexts stats p block z 7 q in go w.0 w.1
  where
    go : (m : ℕ) → ByEngine (residual_bounds p bins_most) 7 m → p.aligning ≡ true
    go m (Why.stopped h) = absurd (omega (arith, h.0))
    go m (Why.missed h) = absurd h
    go m (Why.unaligned h g) = h.0

pub bins_8_or_13 : (bins stats : List ℕ) (p : Params) (block : List ℤ) → 0 ≡ bins_number stats p block
    → (n : ℕ) → (read_bins bins stats p block).answer ≡ refused n → among (8 ∷ 13 ∷ []) n ≡ true
bins_8_or_13 bins stats p block z n q = let w = bins_behind bins stats p block z n q in list_among p (8 ∷ 13 ∷ []) n w.0 w.1 refl refl

-- ---- all of them, the checks' too
pub payload_numbers : (l : List ℕ) (e : Engine) (contexts stats : List ℕ) (p : Params) (block : List ℤ)
    → (n : ℕ) → (read_payload l e contexts stats p block).answer ≡ refused n → among (1 ∷ 2 ∷ 4 ∷ 3 ∷ 6 ∷ 7 ∷ 8 ∷ []) n ≡ true
payload_numbers l e contexts stats p block n q = go (payload_number l e contexts stats p block) refl
  where
    ms : List ℕ
    ms = 1 ∷ 2 ∷ 4 ∷ 3 ∷ 6 ∷ 7 ∷ 8 ∷ []

    checks : Gives ms (payload_number l e contexts stats p block)
    checks =
        gives_or ms (payload_refusal l) _ (gives_payload ms refl refl l) (gives_or ms (parameter_refusal p block) _ (gives_parameter ms refl p block)
        (gives_or ms (state_refusal l e) _ (gives_state ms refl l e) (gives_or ms (contexts_refusal contexts) _ (gives_contexts ms refl contexts)
        (gives_or ms (statistics_refusal stats) _ (gives_statistics ms refl stats) (gives_ended ms refl e)))))

    go : (k : ℕ) → payload_number l e contexts stats p block ≡ k → among ms n ≡ true
    go zero z = let w = payload_behind l e contexts stats p block (sym z) n q in engine_among p ms n w.0 w.1 refl refl
    go (suc k) z =
        given ms {A = FoundAt} k n (subst (Gives ms) z checks)
        (unfold read_payload read_payload_by in ap (λ (i : ℕ). (read_payload_by i l e contexts stats p block).answer) (sym z) ∙ q)

pub bins_numbers : (bins stats : List ℕ) (p : Params) (block : List ℤ)
    → (n : ℕ) → (read_bins bins stats p block).answer ≡ refused n → among (4 ∷ 3 ∷ 8 ∷ 13 ∷ []) n ≡ true
bins_numbers bins stats p block n q = go (bins_number stats p block) refl
  where
    ms : List ℕ
    ms = 4 ∷ 3 ∷ 8 ∷ 13 ∷ []

    checks : Gives ms (bins_number stats p block)
    checks = gives_or ms (parameter_refusal p block) (statistics_refusal stats) (gives_parameter ms refl p block) (gives_statistics ms refl stats)

    go : (k : ℕ) → bins_number stats p block ≡ k → among ms n ≡ true
    go zero z = let w = bins_behind bins stats p block (sym z) n q in list_among p ms n w.0 w.1 refl refl
    go (suc k) z =
        given ms {A = Found} k n (subst (Gives ms) z checks)
        (unfold read_bins read_bins_by in ap (λ (i : ℕ). (read_bins_by i bins stats p block).answer) (sym z) ∙ q)

-- so there is no 7 at bin level
pub bins_never_7 : (bins stats : List ℕ) (p : Params) (block : List ℤ) → (read_bins bins stats p block).answer ≡ refused 7 → ⊥
bins_never_7 bins stats p block q = let h = bins_numbers bins stats p block 7 q in let z : ◌≡◌ {A = ℕ} 0 1 = cc in omega arith
