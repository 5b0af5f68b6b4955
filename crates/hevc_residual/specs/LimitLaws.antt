-- What document 01's limits on parameters and statistics say, and what stays within bounds by them. Assumes nothing.
use Rattle.std.specs.Prelude.{ℕ, zero, suc, ◌+◌, ◌-◌, ◌*◌, ◌/◌, ◌^◌, ◌≤◌, ◌<◌, min, max, ◌≡◌, refl, Bool, true, false, ◌&&◌, cond, List, [], ◌∷◌, leb, ltb, ℤ, length, set}
use Rattle.std.proofs.Common.{arith, pow-suc, pow_pos, pow_mono, leb-true, le-leb, ltb-true, ltb-false}
use Rattle.cabac.specs.NumberLaws.{or_else_zero}
use Rattle.hevc_residual.specs.declared.params.Params.{Params}
use Rattle.hevc_residual.specs.Wanted.{area}
use Rattle.hevc_residual.specs.Remainder.{log2_transform_range, in_range, rice_next, stat_next}
use Rattle.hevc_residual.specs.Limits.{Accepted, Statistics}
use Rattle.hevc_residual.specs.Numbers.{within_limits, parameter_refusal, statistic_refusal, statistics_refusal}

-- ---- parameters
pub parameter_passed : (p : Params) (block : List ℤ) → 0 ≡ parameter_refusal p block → Accepted p × (area p ≤ length block)
unfolding parameter_refusal within_limits
parameter_passed p block z = go (leb 2 p.log2) refl (leb p.log2 5) refl (leb p.scan 2) refl (leb 8 p.depth) refl (leb p.depth 16) refl (leb (area p) (length block)) refl z
  where
    go : (a : Bool) → leb 2 p.log2 ≡ a → (b : Bool) → leb p.log2 5 ≡ b → (c : Bool) → leb p.scan 2 ≡ c → (d : Bool) → leb 8 p.depth ≡ d
        → (e : Bool) → leb p.depth 16 ≡ e → (f : Bool) → leb (area p) (length block) ≡ f
        → ◌≡◌ {A = ℕ} 0 (cond (a && (b && (c && (d && (e && f))))) 0 4) → Accepted p × (area p ≤ length block)
    go true qa true qb true qc true qd true qe true qf z =
        (record { least = leb-true 2 p.log2 qa; most = leb-true p.log2 5 qb; scan = leb-true p.scan 2 qc; depth = leb-true p.depth 16 qe }, leb-true (area p) (length block) qf)
    go true qa true qb true qc true qd true qe false qf z = absurd (omega arith)
    go true qa true qb true qc true qd false qe f qf z = absurd (omega arith)
    go true qa true qb true qc false qd e qe f qf z = absurd (omega arith)
    go true qa true qb false qc d qd e qe f qf z = absurd (omega arith)
    go true qa false qb c qc d qd e qe f qf z = absurd (omega arith)
    go false qa b qb c qc d qd e qe f qf z = absurd (omega arith)

-- another block with room for n·n places passes too
pub parameter_same : (p : Params) (block other : List ℤ) → 0 ≡ parameter_refusal p block → area p ≤ length other → 0 ≡ parameter_refusal p other
unfolding parameter_refusal within_limits
parameter_same p block other z h = go (leb 2 p.log2) (leb p.log2 5) (leb p.scan 2) (leb 8 p.depth) (leb p.depth 16) (leb (area p) (length block)) z
  where
    go : (a b c d e f : Bool) → ◌≡◌ {A = ℕ} 0 (cond (a && (b && (c && (d && (e && f))))) 0 4)
        → ◌≡◌ {A = ℕ} 0 (cond (a && (b && (c && (d && (e && leb (area p) (length other)))))) 0 4)
    go true true true true true f z = rw (le-leb (area p) (length other) h)
    go true true true true false f z = absurd (omega arith)
    go true true true false e f z = absurd (omega arith)
    go true true false d e f z = absurd (omega arith)
    go true false c d e f z = absurd (omega arith)
    go false b c d e f z = absurd (omega arith)

-- ---- statistics
pub statistics_passed : (stats : List ℕ) → 0 ≡ statistics_refusal stats → Statistics stats
unfolding statistics_refusal statistic_refusal
statistics_passed [] q i = omega arith
statistics_passed (s ∷ stats) q zero = go (ltb 84 s) refl (or_else_zero (cond (ltb 84 s) 3 0) (statistics_refusal stats) q).0
  where
    go : (a : Bool) → ltb 84 s ≡ a → ◌≡◌ {A = ℕ} 0 (cond a 3 0) → s ≤ 84
    go true u z = absurd (omega arith)
    go false u z = ltb-false 84 s u
statistics_passed (s ∷ stats) q (suc i) = statistics_passed stats (or_else_zero (cond (ltb 84 s) 3 0) (statistics_refusal stats) q).1 i

pub stats_set : (stats : List ℕ) (i v : ℕ) → Statistics stats → v ≤ 84 → Statistics (set stats i v)
stats_set [] i v p h j = p j
stats_set (c ∷ cs) zero v p h zero = h
stats_set (c ∷ cs) zero v p h (suc j) = p (suc j)
stats_set (c ∷ cs) (suc i) v p h zero = p zero
stats_set (c ∷ cs) (suc i) v p h (suc j) = stats_set cs i v (λ k. p (suc k)) h j

-- ---- the coefficient range
pub range_small : (p : Params) → p.depth ≤ 16 → log2_transform_range p ≤ 22
range_small p h = go p.extended
  where
    go : (d : Bool) → cond d (max 15 (p.depth + 6)) 15 ≤ 22
    go true = omega arith
    go false = omega arith

pub range_most : (T : ℕ) (neg : Bool) (m : ℕ) → in_range T neg m ≡ true → m ≤ 2 ^ T
range_most T true m h = leb-true m (2 ^ T) h
range_most T false m h = omega (arith, ltb-true m (2 ^ T) h)

-- ---- Rice parameter and statistic, behind a level in that range
-- powers in order have their exponents in order
pub pow_below : (i j : ℕ) → 2 ^ i < 2 ^ j → i < j
pow_below i j h = go (ltb i j) refl
  where
    go : (d : Bool) → ltb i j ≡ d → i < j
    go true e = ltb-true i j e
    go false e = let p : 2 ^ j ≤ 2 ^ i = pow_mono (ltb-false i j e) in absurd (omega arith)

pub rice_most : (p : Params) (r m : ℕ) → r ≤ 21 → m ≤ 2 ^ 22 → rice_next p r m ≤ 21
unfolding rice_next
rice_most p r m h k = go (ltb (3 * 2 ^ r) m) refl p.persistent
  where
    go : (d : Bool) → ltb (3 * 2 ^ r) m ≡ d → (e : Bool) → cond d (cond e (r + 1) (min (r + 1) 4)) r ≤ 21
    go false q e = h
    go true q false = omega arith
    go true q true = let l : suc r < 22 = pow_below (suc r) 22 (omega (arith, ltb-true (3 * 2 ^ r) m q, pow-suc 2 r, pow_pos r)) in omega arith

pub stat_most : (s v : ℕ) → s ≤ 84 → v < 2 ^ 22 → stat_next s v ≤ 84
unfolding stat_next
stat_most s v h k = go (leb (3 * 2 ^ (s / 4)) v) refl (ltb (2 * v) (2 ^ (s / 4)) && ltb 0 s)
  where
    go : (d : Bool) → leb (3 * 2 ^ (s / 4)) v ≡ d → (e : Bool) → cond d (s + 1) (cond e (s - 1) s) ≤ 84
    go false q true = omega arith
    go false q false = h
    go true q e =
        let l : suc (s / 4) < 22 = pow_below (suc (s / 4)) 22 (omega (arith, leb-true (3 * 2 ^ (s / 4)) v q, pow-suc 2 (s / 4), pow_pos (s / 4))) in
        omega arith

pub cond_most : (d : Bool) (x y n : ℕ) → x ≤ n → y ≤ n → cond d x y ≤ n
cond_most true x y n h k = h
cond_most false x y n h k = k
