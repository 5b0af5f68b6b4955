-- Which numbers the scale's readers give: behind its checks a payload none, a list 13 alone. Readings of the scale's bounds. Assumes nothing.
use Rattle.std.specs.Prelude.{ℕ, zero, suc, ◌≤◌, ◌≡◌, refl, Bool, true, false, cond, List, [], ◌∷◌, ℤ, ltb}
use Rattle.std.proofs.Common.{sym, subst, ◌∙◌, arith, ltb-false}
use Rattle.std.proofs.Math.Path.{ap}
use Rattle.bins.specs.declared.state.Engine.{Engine}
use Rattle.bins.specs.Syn.{Out, Reading, run, by_engine, by_list}
use Rattle.cabac.specs.Numbers.{refused, ◌or_else◌, payload_refusal, state_refusal, ended_refusal}
use Rattle.cabac.specs.NumberLaws.{or_else_zero}
use Rattle.hevc_residual.specs.Numbers.{contexts_refusal}
use Rattle.trees.specs.Reached.{Why, each_refused, each_list_refused}
use Rattle.hevc_bounds.specs.Among.{among, differ, same, Gives, gives_cond, gives_or, gives_payload, gives_state, gives_contexts, gives_ended, given}
use Rattle.hevc_cross.specs.Scale.{scale}
use Rattle.hevc_cross.specs.Entries.{component_refusal, ScaleAt, read_by_engine, read_payload_by, read_payload, read_from_list, read_bins_by, read_bins}
use Rattle.hevc_cross.specs.ScaleBounds.{scale_bounds, scale_each}

-- the number that the checks give
abbrev pub payload_number : List ℕ → Engine → List ℕ → ℕ → ℕ
payload_number l e contexts c =
    payload_refusal l or_else component_refusal c or_else state_refusal l e or_else contexts_refusal contexts or_else ended_refusal e

component_few : (c : ℕ) → 0 ≡ component_refusal c → c ≤ 1
unfolding component_refusal
component_few c q = go (ltb 1 c) refl q
  where
    go : (d : Bool) → ltb 1 c ≡ d → ◌≡◌ {A = ℕ} 0 (cond d 4 0) → c ≤ 1
    go true e q = absurd (omega arith)
    go false e q = ltb-false 1 c e

by_engine_lem : (c : ℕ) → c ≤ 1 → (l contexts : List ℕ) (r : Reading) (o : Out Reading ℤ) → run (by_engine l) (scale c) r ≡ o → (n : ℕ) → (read_by_engine contexts o).answer ≡ refused n → ⊥
unfolding read_by_engine
by_engine_lem c h l contexts r (Out.ok z s) q n e = differ e
by_engine_lem c h l contexts r (Out.no k s) q n e = let w = each_refused l (scale_each {n = 0} (λ z. z) c h) r k s q in none k w.0 w.1
  where
    none : (k m : ℕ) → Why scale_bounds (λ r. ⊥) (λ r. r ≡ 7) k m → ⊥
    none k m (Why.stopped x) = x
    none k m (Why.missed x) = x
    none k m (Why.unaligned x y) = x

by_list_lem : (c : ℕ) → c ≤ 1 → (l : List ℕ) (o : Out (List ℕ) ℤ) → run by_list (scale c) l ≡ o → (n : ℕ) → read_from_list o ≡ refused n → n ≡ 13
unfolding read_from_list
by_list_lem c h l (Out.ok z []) q n e = differ e
by_list_lem c h l (Out.ok z (x ∷ s)) q n e = sym (same 13 n e)
by_list_lem c h l (Out.no k s) q n e = let w = each_list_refused (scale_each {n = 0} (λ z. z) c h) l k s q in sym (same k n e) ∙ missed k w.0 w.2
  where
    missed : (k m : ℕ) → Why scale_bounds (λ r. r ≡ 13) (λ r. r ≡ 13) k m → k ≡ 13
    missed k m (Why.stopped x) = absurd x
    missed k m (Why.missed x) = x
    missed k m (Why.unaligned x y) = y

-- behind its checks the payload reader is never refused
pub payload_never : (l : List ℕ) (e : Engine) (contexts : List ℕ) (c : ℕ) → 0 ≡ payload_number l e contexts c → (n : ℕ) → (read_payload l e contexts c).answer ≡ refused n → ⊥
unfolding read_payload read_payload_by
payload_never l e contexts c z n q =
    let a = or_else_zero (payload_refusal l) _ z in
    let b = or_else_zero (component_refusal c) _ a.1 in
    let r : Reading = record { engine = e; contexts = contexts } in
    by_engine_lem c (component_few c b.0) l contexts r (run (by_engine l) (scale c) r) refl n (ap (λ (k : ℕ). (read_payload_by k l e contexts c).answer) z ∙ q)

-- and the bin reader by 13 alone
pub bins_13 : (bins : List ℕ) (c : ℕ) → 0 ≡ component_refusal c → (n : ℕ) → read_bins bins c ≡ refused n → n ≡ 13
unfolding read_bins read_bins_by
bins_13 bins c z n q = by_list_lem c (component_few c z) bins (run by_list (scale c) bins) refl n (ap (λ (k : ℕ). read_bins_by k bins c) z ∙ q)

gives_component : (ms : List ℕ) → among ms 4 ≡ true → (c : ℕ) → Gives ms (component_refusal c)
unfolding component_refusal
gives_component ms h c = gives_cond ms (ltb 1 c) 4 0 h refl

pub payload_numbers : (l : List ℕ) (e : Engine) (contexts : List ℕ) (c n : ℕ) → (read_payload l e contexts c).answer ≡ refused n → among (1 ∷ 2 ∷ 4 ∷ 3 ∷ 6 ∷ []) n ≡ true
payload_numbers l e contexts c n q = go (payload_number l e contexts c) refl
  where
    ms : List ℕ
    ms = 1 ∷ 2 ∷ 4 ∷ 3 ∷ 6 ∷ []

    checks : Gives ms (payload_number l e contexts c)
    checks =
        gives_or ms (payload_refusal l) _ (gives_payload ms refl refl l) (gives_or ms (component_refusal c) _ (gives_component ms refl c)
        (gives_or ms (state_refusal l e) _ (gives_state ms refl l e) (gives_or ms (contexts_refusal contexts) _ (gives_contexts ms refl contexts) (gives_ended ms refl e))))

    go : (k : ℕ) → payload_number l e contexts c ≡ k → among ms n ≡ true
    go zero z = absurd (payload_never l e contexts c (sym z) n q)
    go (suc k) z =
        given ms {A = ScaleAt} k n (subst (Gives ms) z checks)
        (unfold read_payload read_payload_by in ap (λ (i : ℕ). (read_payload_by i l e contexts c).answer) (sym z) ∙ q)

pub bins_numbers : (bins : List ℕ) (c n : ℕ) → read_bins bins c ≡ refused n → among (4 ∷ 13 ∷ []) n ≡ true
bins_numbers bins c n q = go (component_refusal c) refl
  where
    ms : List ℕ
    ms = 4 ∷ 13 ∷ []

    go : (k : ℕ) → component_refusal c ≡ k → among ms n ≡ true
    go zero z = subst (λ (i : ℕ). among ms i ≡ true) (sym (bins_13 bins c (sym z) n q)) refl
    go (suc k) z =
        given ms {A = ℤ} k n (subst (Gives ms) z (gives_component ms refl c))
        (unfold read_bins read_bins_by in ap (λ (i : ℕ). read_bins_by i bins c) (sym z) ∙ q)
