-- Laws of the two answers: each way through their code. Assumes nothing.
use Rattle.std.specs.Prelude.{ℕ, zero, suc, ◌-◌, ◌*◌, ◌/◌, ◌%◌, ◌^◌, ◌≤◌, ◌<◌, ◌≡◌, refl, Bool, true, false, List, ℤ, pos, nat_abs, get_or, set, take, length}
use Rattle.std.proofs.Common.{arith, sym, ap, subst, ◌∙◌, length-set, eqb-true, ltb-true}
use Rattle.cabac.specs.Numbers.{◌or_else◌}
use Rattle.cabac.specs.NumberLaws.{or_else_rest}
use Rattle.hevc_residual.specs.declared.params.Params.{Params}
use Rattle.hevc_residual.specs.Scan.{spot}
use Rattle.hevc_residual.specs.Wanted.{area, outer_of}
use Rattle.hevc_residual.specs.Remainder.{log2_transform_range}
use Rattle.hevc_residual.specs.Numbers.{parameter_refusal}
use Rattle.hevc_residual.specs.Limits.{Accepted}
use Rattle.hevc_residual.specs.LimitLaws.{parameter_passed, parameter_same}
use Rattle.hevc_residual.specs.Refusal.{write_refusal}
use Rattle.press_strokes.specs.Advice.{First, drawn, refusal_of, is_far, is_far_by, is_off_in, is_off_at, stroke_of, changed, accepts, is_taken}
use Rattle.press_strokes.specs.StrokeLaws.{taken_accepted}
use Rattle.press_advice.specs.Says.{FarAt, OffAt, Suggested}

-- ---- the number
pub refused_first : (p : Params) (levels : List ℤ) (a : ℕ) → a ≡ parameter_refusal p levels → (a ≡ 0 → ⊥) → a ≡ refusal_of p levels
unfolding refusal_of ◌or_else◌
refused_first p levels a e h = go a h ∙ ap (λ (k : ℕ). k or_else write_refusal p (drawn (take (area p) levels))) e
  where
    go : (k : ℕ) → (k ≡ 0 → ⊥) → k ≡ (k or_else write_refusal p (drawn (take (area p) levels)))
    go zero h = absurd (h refl)
    go (suc k) h = refl

pub refused_then : (p : Params) (levels : List ℤ) (a n : ℕ) → a ≡ parameter_refusal p levels → a ≡ 0 → n ≡ write_refusal p (drawn (take (area p) levels)) → n ≡ refusal_of p levels
unfolding refusal_of
refused_then p levels a n e z q = or_else_rest n (parameter_refusal p levels) (write_refusal p (drawn (take (area p) levels))) (sym z ∙ e) q

pub passed : (p : Params) (levels : List ℤ) (a : ℕ) → a ≡ parameter_refusal p levels → a ≡ 0 → Accepted p
passed p levels a e z = (parameter_passed p levels (sym z ∙ e)).0

pub wide : (p : Params) (levels : List ℤ) (a : ℕ) → a ≡ parameter_refusal p levels → a ≡ 0 → area p ≤ length levels
wide p levels a e z = (parameter_passed p levels (sym z ∙ e)).1

-- ---- places
pub far_found : (p : Params) (levels : List ℤ) (n t i : ℕ) → refusal_of p levels ≡ 8 → n ≡ area p → t ≡ log2_transform_range p → First (is_far_by t levels) n i → i < n → FarAt p levels i
far_found p levels n t i r a e f h =
    let g : First (is_far p levels) n i = subst (λ (k : ℕ). First (is_far_by k levels) n i) e f in
    record { number = r; within = omega arith; is = g.at h; first = g.before }

pub off_found : (p : Params) (levels : List ℤ) (n i x y k : ℕ) → refusal_of p levels ≡ 11 → k ≡ area p → First (is_off_in p (take k levels)) (4 ^ (p.log2 - 2)) i → n ≡ 4 ^ (p.log2 - 2)
    → i < n → get_or (outer_of p) i (spot 0 0) ≡ spot x y → OffAt p levels x y
off_found p levels n i x y k r q f e h s =
    let g : First (is_off_in p (take (area p) levels)) (4 ^ (p.log2 - 2)) i = subst (λ (m : ℕ). First (is_off_in p (take m levels)) (4 ^ (p.log2 - 2)) i) q f in
    record { number = r; is = sym (ap (is_off_at p levels) s) ∙ g.at (omega arith); turn = i; place = s; first = g.before }

-- ---- the change
module _ (p : Params) (levels : List ℤ) (z : 0 ≡ parameter_refusal p levels) (c : ℕ) (f : First (is_taken p levels) (3 * area p) c) where
  pub suggested : c < 3 * area p → (i k : ℕ) (v : ℤ) → i ≡ c / 3 → k ≡ c % 3 → v ≡ stroke_of k (get_or levels i (pos 0)) → Suggested p levels i v
  suggested h i k v a b q =
      let w : v ≡ stroke_of (c % 3) (get_or levels (c / 3) (pos 0)) = q ∙ ap (λ (x : ℕ). stroke_of x (get_or levels i (pos 0))) b ∙ ap (λ (x : ℕ). stroke_of (c % 3) (get_or levels x (pos 0))) a in
      let same : set levels i v ≡ changed levels c = ap (λ (x : ℕ). set levels x v) a ∙ ap (set levels (c / 3)) w in
      let yes : accepts p (set levels i v) ≡ true = ap (accepts p) same ∙ taken_accepted p levels c (f.at h) in
      let enough : area p ≤ length (set levels i v) = omega (arith, (parameter_passed p levels z).1, length-set levels i v) in
      let none : write_refusal p (drawn (take (area p) (set levels i v))) ≡ 0 = eqb-true (write_refusal p (drawn (take (area p) (set levels i v)))) 0 yes in
      record {
        taken = sym (refused_then p (set levels i v) 0 0 (parameter_same p levels (set levels i v) z enough) refl (sym none));
        change = c;
        place = a;
        stroke = w;
        first = f.before;
      }

  pub nothing_taken : 3 * area p ≤ c → (j : ℕ) → j < 3 * area p → is_taken p levels j ≡ false
  nothing_taken h j l = f.before j (omega arith)
