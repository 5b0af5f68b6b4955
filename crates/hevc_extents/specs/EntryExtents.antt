-- The extents that the two block readers hand back, of the lent block as they leave it. Assumes nothing.
use Rattle.std.specs.Prelude.{ℕ, zero, suc, ◌≡◌, ℤ, drop}
use Rattle.std.proofs.Math.Path.{refl, subst}
use mathlib.Core.List.{List, [], ◌∷◌}
use Rattle.std.proofs.Common.{arith}
use Rattle.bins.specs.declared.state.Engine.{Engine}
use Rattle.bins.specs.Syn.{Out, Reading, run, by_engine, by_list}
use Rattle.cabac.specs.Numbers.{Answer, accepted, refused, ◌or_else◌, payload_refusal, state_refusal, ended_refusal}
use Rattle.cabac.specs.NumberLaws.{or_else_zero}
use Rattle.hevc_residual.specs.declared.params.Params.{Params}
use Rattle.hevc_residual.specs.Wanted.{area}
use Rattle.hevc_residual.specs.Extent.{Extents}
use Rattle.hevc_residual.specs.Residual.{Block, residual}
use Rattle.hevc_residual.specs.Numbers.{parameter_refusal, contexts_refusal, statistics_refusal}
use Rattle.hevc_residual.specs.Limits.{Accepted, Statistics}
use Rattle.hevc_residual.specs.LimitLaws.{parameter_passed, statistics_passed}
use Rattle.hevc_residual.specs.Entries.{Found, FoundAt, found_of, read_by_engine, read_payload_by, read_payload, read_from_list, read_bins_by, read_bins}
use Rattle.hevc_extents.specs.ExtentLaws.{residual_extents}

not_both : {A : Type 0} (n : ℕ) (f : A) → ◌≡◌ {A = Answer A} (refused n) (accepted f) → ⊥
not_both n f q = let z : ◌≡◌ {A = ℕ} 0 1 = cc in omega arith

accepted_one : {A : Type 0} (f g : A) → ◌≡◌ {A = Answer A} (accepted f) (accepted g) → f ≡ g
accepted_one f g q = cc

abbrev Told : Params → Found → List ℤ → Type 0
Told p f block = Extents p block f.column f.row

module _ (p : Params) (stats : List ℕ) (block : List ℤ) (a : Accepted p) (st : Statistics stats) where
  by_engine_lem : (l contexts : List ℕ) (r : Reading) (o : Out Reading Block) → run (by_engine l) (residual p stats) r ≡ o → (f : FoundAt)
      → (read_by_engine p contexts stats block o).answer ≡ accepted f → Told p f.found (read_by_engine p contexts stats block o).block
  unfolding read_by_engine
  by_engine_lem l contexts r (Out.ok b r') q f e =
      let z = accepted_one (record { found = found_of b; next = r'.engine }) f e in
      subst (λ (g : FoundAt). Told p g.found (read_by_engine p contexts stats block (Out.ok b r')).block) z
      (residual_extents p a (by_engine l) stats st r b r' q (drop (area p) block))
  by_engine_lem l contexts r (Out.no n r') q f e = absurd (not_both n f e)

  by_list_lem : (l : List ℕ) (o : Out (List ℕ) Block) → run by_list (residual p stats) l ≡ o → (f : Found)
      → (read_from_list p stats block o).answer ≡ accepted f → Told p f (read_from_list p stats block o).block
  unfolding read_from_list
  by_list_lem l (Out.ok b []) q f e =
      subst (λ (g : Found). Told p g (read_from_list p stats block (Out.ok b [])).block) (accepted_one (found_of b) f e)
      (residual_extents p a by_list stats st l b [] q (drop (area p) block))
  by_list_lem l (Out.ok b (x ∷ m)) q f e = absurd (not_both 13 f e)
  by_list_lem l (Out.no n m) q f e = absurd (not_both n f e)

pub payload_extents : (l : List ℕ) (e : Engine) (contexts stats : List ℕ) (p : Params) (block : List ℤ) (f : FoundAt)
    → (read_payload l e contexts stats p block).answer ≡ accepted f
    → Extents p (read_payload l e contexts stats p block).block f.found.column f.found.row
unfolding read_payload
payload_extents l e contexts stats p block f q = go (payload_refusal l or_else rest) refl q
  where
    rest : ℕ
    rest = parameter_refusal p block or_else state_refusal l e or_else contexts_refusal contexts or_else statistics_refusal stats or_else ended_refusal e

    go : (n : ℕ) → n ≡ (payload_refusal l or_else rest) → (read_payload_by n l e contexts stats p block).answer ≡ accepted f
        → Told p f.found (read_payload_by n l e contexts stats p block).block
    go zero z q =
        let a = or_else_zero (payload_refusal l) rest z in
        let b = or_else_zero (parameter_refusal p block) _ a.1 in
        let c = or_else_zero (state_refusal l e) _ b.1 in
        let d = or_else_zero (contexts_refusal contexts) _ c.1 in
        let g = or_else_zero (statistics_refusal stats) _ d.1 in
        let r : Reading = record { engine = e; contexts = contexts } in
        unfold read_payload_by in by_engine_lem p stats block (parameter_passed p block b.0).0 (statistics_passed stats g.0) l contexts r (run (by_engine l) (residual p stats) r) refl f (unfold read_payload_by in q)
    go (suc n) z q = absurd (not_both (suc n) f (unfold read_payload_by in q))

pub list_extents : (bins stats : List ℕ) (p : Params) (block : List ℤ) (f : Found)
    → (read_bins bins stats p block).answer ≡ accepted f
    → Extents p (read_bins bins stats p block).block f.column f.row
unfolding read_bins
list_extents bins stats p block f q = go (parameter_refusal p block or_else statistics_refusal stats) refl q
  where
    go : (n : ℕ) → n ≡ (parameter_refusal p block or_else statistics_refusal stats) → (read_bins_by n bins stats p block).answer ≡ accepted f
        → Told p f (read_bins_by n bins stats p block).block
    go zero z q =
        let a = or_else_zero (parameter_refusal p block) (statistics_refusal stats) z in
        unfold read_bins_by in by_list_lem p stats block (parameter_passed p block a.0).0 (statistics_passed stats a.1) bins (run by_list (residual p stats) bins) refl f (unfold read_bins_by in q)
    go (suc n) z q = absurd (not_both (suc n) f (unfold read_bins_by in q))
