-- Laws of flags, and of an answer that stands behind their check. They assume nothing.
use Rattle.std.specs.Prelude.{ℕ, zero, suc, ◌≤◌, ◌<◌, ◌≡◌, ltb}
use Rattle.std.proofs.Common.{ap, ◌∙◌, arith, lt-ltb, le-ltb}
use Rattle.bins.specs.declared.state.Engine.{Engine}
use Rattle.cabac.specs.Numbers.{Answer, refused, ◌or_else◌}
use Rattle.bulmegart.specs.Records.{flag_refusal, behind}

-- ---- flags
pub flag_over : (b : ℕ) → 1 < b → 4 ≡ flag_refusal b
unfolding flag_refusal
flag_over b h = rw (lt-ltb 1 b h)

pub flag_fine : (b : ℕ) → b ≤ 1 → 0 ≡ flag_refusal b
unfolding flag_refusal
flag_fine b h = rw (le-ltb 1 b h)

pub or_both : (n a a' b b' : ℕ) → n ≡ (a or_else b) → a ≡ a' → b ≡ b' → n ≡ (a' or_else b')
or_both n a a' b b' q p r = q ∙ ap (λ x. x or_else b) p ∙ ap (λ x. a' or_else x) r

-- ---- an answer behind the flags' check, by any form of it
pub behind_no : {A R : Type 0} (given : Answer A → R) (a : Answer A) (n k : ℕ) (r : R) → n ≡ k → (n ≡ 0 → ⊥) → r ≡ given (refused n) → r ≡ given (behind k a)
unfolding behind
behind_no given a n zero r q h e = absurd (h q)
behind_no given a n (suc k) r q h e = e ∙ ap (λ m. given (refused m)) q

pub behind_yes : {A R : Type 0} (given : Answer A → R) (f : Engine → Answer A) (said : Answer A) (n k : ℕ) (e e' : Engine) (r : R)
    → n ≡ k → n ≡ 0 → r ≡ given said → said ≡ f e → e ≡ e' → r ≡ given (behind k (f e'))
unfolding behind
behind_yes given f said n zero e e' r q z p s h = p ∙ ap given s ∙ ap (λ x. given (f x)) h
behind_yes given f said n (suc k) e e' r q z p s h = absurd (omega arith)
