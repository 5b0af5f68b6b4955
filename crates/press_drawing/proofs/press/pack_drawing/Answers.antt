use native.Mathlib.Omega.{arith}
use mathlib.Core.Path.{◌≡◌, refl, sym, subst, ◌∙◌}
use Rattle.std.specs.Prelude.{ℕ, Result, Ok, Err}
use Rattle.std.specs.Result.{MatchResult, IsErrAnd}
use Rattle.std.proofs.lemmas.Result.{err_from_is_err_and}
use Rattle.press_frame.specs.PressCode.{payload_fits, payload_count, frame_said, no_said}
use Rattle.press_drawing.proofs.press.pack_drawing.Goals as goal

-- ---- an answer whose number was told anew
got : (r s : Result ℕ ℕ) (Q : ℕ → ℕ → Type 0) → MatchResult r (λ x. s ≡ Ok x) (λ e. IsErrAnd s (Q e)) → (n : ℕ) → s ≡ Ok n → r ≡ Ok n
got (Ok x) s Q h n q = sym h ∙ q
got (Err e) s Q h n q =
    let p = err_from_is_err_and s h in
    let u : Ok n ≡ Err p.0 = sym q ∙ p.1 in
    let z : ◌≡◌ {A = ℕ} 0 1 = cc in absurd (omega arith)

told : (r s : Result ℕ ℕ) (Q : ℕ → ℕ → Type 0) → MatchResult r (λ x. s ≡ Ok x) (λ e. IsErrAnd s (Q e)) → (m : ℕ) → s ≡ Err m → (e : ℕ) × (r ≡ Err e) × Q e m
told (Ok x) s Q h m q =
    let u : Ok x ≡ Err m = sym h ∙ q in
    let z : ◌≡◌ {A = ℕ} 0 1 = cc in absurd (omega arith)
told (Err e) s Q h m q =
    let p = err_from_is_err_and s h in
    let u : Err p.0 ≡ Err m = sym p.1 ∙ q in
    let y : p.0 ≡ m = cc in
    (e, refl, subst (Q e) y p.2)

pub returns-in_err-n : goal.returns-in_err-n
returns-in_err-n c =
    let a = c.args in
    let p = err_from_is_err_and c.from_residual.result c.from_residual.ensures.1 in
    let t = told c.pack_bins.result c.map_err.result _ c.map_err.ensures.cases _ c.in_err-n.was in
    rw (p.1, p.2) (
      no_said a.head.now a.values.now a.list.now _ _ _ _ _ _ _ _ c.requires.1 c.init_contexts.ensures.0 c.init_contexts.ensures.1
          c.init_contexts.ensures.2 c.params.ensures c.pack_bins.ensures.0 _ _ t.1 t.2,
      refl,
    )

pub slice_bounds-payload-end : goal.slice_bounds-payload-end
slice_bounds-payload-end c =
    let a = c.args in
    (payload_fits a.head.now a.values.now a.list.now _ _ _ _ _ _ _ _ c.requires.1 c.init_contexts.ensures.0 c.init_contexts.ensures.1
    c.init_contexts.ensures.2 c.params.ensures c.pack_bins.ensures.0 _ (got _ _ _ c.map_err.ensures.cases _ c.in_ok-n.was)).1

pub slice_bounds-put_frame-end : goal.slice_bounds-put_frame-end
slice_bounds-put_frame-end c =
    let a = c.args in
    payload_count a.head.now a.values.now a.list.now _ _ _ _ _ _ _ _ c.requires.1 c.init_contexts.ensures.0 c.init_contexts.ensures.1
    c.init_contexts.ensures.2 c.params.ensures c.pack_bins.ensures.0 _ (got _ _ _ c.map_err.ensures.cases _ c.in_ok-n.was)

pub put_frame-requires : goal.put_frame-requires
put_frame-requires c =
    let a = c.args in
    let h = c.requires in
    let n = got _ _ _ c.map_err.ensures.cases _ c.in_ok-n.was in
    let fits = payload_fits a.head.now a.values.now a.list.now _ _ _ _ _ _ _ _ c.requires.1 c.init_contexts.ensures.0 c.init_contexts.ensures.1
    c.init_contexts.ensures.2 c.params.ensures c.pack_bins.ensures.0 _ n in
    let count = payload_count a.head.now a.values.now a.list.now _ _ _ _ _ _ _ _ c.requires.1 c.init_contexts.ensures.0 c.init_contexts.ensures.1
    c.init_contexts.ensures.2 c.params.ensures c.pack_bins.ensures.0 _ n in
    (h.0, h.1, omega (arith, fits.0, count), h.2)

pub returns : goal.returns
returns c =
    let a = c.args in (
      frame_said a.head.now a.values.now a.list.now _ _ _ _ _ _ _ _ c.requires.1 c.init_contexts.ensures.0 c.init_contexts.ensures.1
          c.init_contexts.ensures.2 c.params.ensures c.pack_bins.ensures.0 _ _ (got _ _ _ c.map_err.ensures.cases _ c.in_ok-n.was)
          c.put_frame.ensures,
      tt,
    )
