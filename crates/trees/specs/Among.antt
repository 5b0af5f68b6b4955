-- Which numbers checks give, for any syntax. Assumes nothing.
use Prim.Native.Nat.{ℕ, zero, suc}
use Rattle.std.specs.Prelude.{◌≡◌, Bool, true, false, ◌||◌, cond, ltb, eqb, length}
use Rattle.std.proofs.Math.Path.{refl}
use Rattle.std.proofs.Common.{subst, arith, ne_eqb}
use mathlib.Core.List.{List, [], ◌∷◌}
use Rattle.bins.specs.declared.state.Engine.{Engine}
use Rattle.cabac.specs.Numbers.{Answer, accepted, refused, ◌or_else◌, payload_refusal, possible, state_refusal, context_refusal, ended_refusal}
use Rattle.trees.specs.Lent.{contexts_refusal}

-- whether a number is one of those
abbrev pub among : List ℕ → ℕ → Bool
among [] n = false
among (m ∷ ms) n = eqb n m || among ms n

-- ---- two answers
pub differ : {A X : Type 0} {a : A} {n : ℕ} → ◌≡◌ {A = Answer A} (accepted a) (refused n) → X
differ q = let z : ◌≡◌ {A = ℕ} 0 1 = cc in absurd (omega arith)

pub same : {A : Type 0} (m n : ℕ) → ◌≡◌ {A = Answer A} (refused m) (refused n) → m ≡ n
same m n q = cc

-- ---- numbers that are 0 or among some
module _ (ms : List ℕ) where
  abbrev pub Gives : ℕ → Type 0
  Gives n = among (0 ∷ ms) n ≡ true

  pub gives_cond : (b : Bool) (x y : ℕ) → Gives x → Gives y → Gives (cond b x y)
  gives_cond true x y h k = h
  gives_cond false x y h k = k

  pub gives_or : (m n : ℕ) → Gives m → Gives n → Gives (m or_else n)
  unfolding ◌or_else◌
  gives_or zero n h k = k
  gives_or (suc m) n h k = h

  pub gives_payload : among ms 1 ≡ true → among ms 2 ≡ true → (l : List ℕ) → Gives (payload_refusal l)
  unfolding payload_refusal
  gives_payload h k l = gives_cond (ltb (length l) 2) 1 _ h (gives_cond (ltb 16777216 (length l)) 2 0 k refl)

  pub gives_state : among ms 3 ≡ true → (l : List ℕ) (e : Engine) → Gives (state_refusal l e)
  unfolding state_refusal
  gives_state h l e = gives_cond (possible l e) 0 3 refl h

  pub gives_contexts : among ms 3 ≡ true → (cs : List ℕ) → Gives (contexts_refusal cs)
  unfolding contexts_refusal context_refusal
  gives_contexts h [] = refl
  gives_contexts h (c ∷ cs) = gives_or (cond (ltb 127 c) 3 0) (contexts_refusal cs) (gives_cond (ltb 127 c) 3 0 h refl) (gives_contexts h cs)

  pub gives_ended : among ms 6 ≡ true → (e : Engine) → Gives (ended_refusal e)
  unfolding ended_refusal
  gives_ended h e = gives_cond e.ended 6 0 h refl

  -- a number that is given is not 0
  pub given : {A : Type 0} (m n : ℕ) → Gives (suc m) → ◌≡◌ {A = Answer A} (refused (suc m)) (refused n) → among ms n ≡ true
  given m n h q =
      let k : among ms (suc m) ≡ true = rw (ne_eqb (suc m) 0 (λ z. omega arith)) at h in
      subst (λ (z : ℕ). among ms z ≡ true) (same (suc m) n q) k
