-- Where the judgement is "never", the theorem of hevc_depends speaks: the two calls give the same. Assumes nothing.
use Rattle.std.specs.Prelude.{ℕ, zero, suc, ◌≤◌, ◌<◌, ◌≡◌, refl, Bool, true, false, cond, List, ltb, ℤ}
use Rattle.std.proofs.Common.{sym, subst, ◌∙◌, arith, lt-ltb, le-ltb, ltb-false}
use Rattle.std.proofs.Math.Path.{ap}
use Rattle.bins.specs.declared.state.Engine.{Engine}
use Rattle.bins.specs.Bits.{bit_at, ends}
use Rattle.bins.specs.Engine.{place}
use Rattle.cabac.specs.Numbers.{payload_refusal}
use Rattle.differs.specs.Differ.{first_difference, difference_agrees, difference_fits}
use Rattle.hevc_residual.specs.declared.params.Params.{Params}
use Rattle.hevc_residual.specs.Entries.{read_payload}
use Rattle.hevc_residual.specs.Answers.{payload_checks}
use Rattle.hevc_depends.specs.Reached.{reached, drew_past}
use Rattle.hevc_depends.specs.Depends.{Shown}
use Rattle.hevc_depends.proofs.DependsLaws.{depends}
use Rattle.hevc_reached.specs.declared.entries.ReachedAt.{ReachedAt}
use Rattle.hevc_reached.specs.Reading.{reached_all}
use Rattle.hevc_differ.specs.declared.entries.Judgement.{Judgement}
use Rattle.hevc_differ.specs.declared.entries.Judgement.TheVariants as says
use Rattle.hevc_differ.specs.Judgement.{by_place, judged_by, judgement}

-- ---- the code's ways out
pub place_here : (d r : ℕ) → d < r → says.Here d r ≡ by_place d r
unfolding by_place
place_here d r h = rw (lt-ltb d r h)

pub place_never : (d r : ℕ) → r ≤ d → says.Never d r ≡ by_place d r
unfolding by_place
place_never d r h = rw (le-ltb d r h)

unread : (n m k d r : ℕ) → (n ≡ 0 → ⊥) → says.Unread n ≡ judged_by n m k d r
unfolding judged_by
unread zero m k d r h = absurd (h refl)
unread (suc n) m k d r h = refl

unreadable : (m k d r : ℕ) → (m ≡ 0 → ⊥) → says.Unreadable m ≡ judged_by 0 m k d r
unfolding judged_by
unreadable zero k d r h = absurd (h refl)
unreadable (suc m) k d r h = refl

past : (k d r : ℕ) → (k ≡ 0 → ⊥) → says.Past k ≡ judged_by 0 0 k d r
unfolding judged_by
past zero d r h = absurd (h refl)
past (suc k) d r h = refl

by_place_lem : (d r : ℕ) → by_place d r ≡ judged_by 0 0 0 d r
unfolding judged_by
by_place_lem d r = refl

module _ (l m : List ℕ) (e : Engine) (contexts stats : List ℕ) (p : Params) (block : List ℤ) where
  abbrev checks : ℕ
  checks = payload_checks l e contexts stats p block

  abbrev drawn : ℕ
  drawn = drew_past l e contexts stats p block

  abbrev end : ℕ
  end = place (reached l e contexts stats p block)

  pub all_past : (r : ReachedAt) → r ≡ reached_all l e contexts stats p block → r.past ≡ drew_past l e contexts stats p block
  unfolding reached_all
  all_past r q = ap (λ (z : ReachedAt). z.past) q

  pub all_place : (r : ReachedAt) → r ≡ reached_all l e contexts stats p block → r.state.position.0 ≡ place (reached l e contexts stats p block)
  unfolding reached_all
  all_place r q = ap (λ (z : ReachedAt). z.state.position.0) q

  pub judged_unread : (n : ℕ) → n ≡ payload_checks l e contexts stats p block → (n ≡ 0 → ⊥) → says.Unread n ≡ judgement l m e contexts stats p block
  unfolding judgement
  judged_unread n q h = unread n (payload_refusal m) drawn (first_difference l m) end h ∙ ap (λ k. judged_by k (payload_refusal m) drawn (first_difference l m) end) q

  module _ (z : 0 ≡ payload_checks l e contexts stats p block) where
    pub judged_unreadable : (n : ℕ) → n ≡ payload_refusal m → (n ≡ 0 → ⊥) → says.Unreadable n ≡ judgement l m e contexts stats p block
    unfolding judgement
    judged_unreadable n q h =
        unreadable n drawn (first_difference l m) end h
        ∙ ap (λ k. judged_by 0 k drawn (first_difference l m) end) q
        ∙ ap (λ k. judged_by k (payload_refusal m) drawn (first_difference l m) end) z

    module _ (y : 0 ≡ payload_refusal m) where
      behind : (k : ℕ) → k ≡ drawn → judged_by 0 0 k (first_difference l m) end ≡ judgement l m e contexts stats p block
      unfolding judgement
      behind k q =
          ap (λ k. judged_by 0 0 k (first_difference l m) end) q
          ∙ ap (λ k. judged_by 0 k drawn (first_difference l m) end) y
          ∙ ap (λ k. judged_by k (payload_refusal m) drawn (first_difference l m) end) z

      pub judged_past : (k : ℕ) → k ≡ drew_past l e contexts stats p block → (k ≡ 0 → ⊥) → says.Past k ≡ judgement l m e contexts stats p block
      judged_past k q h = past k (first_difference l m) end h ∙ behind k q

      pub judged_place : 0 ≡ drew_past l e contexts stats p block → (d r : ℕ) → d ≡ first_difference l m → r ≡ place (reached l e contexts stats p block)
          → (j : Judgement) → j ≡ by_place d r → j ≡ judgement l m e contexts stats p block
      judged_place q d r u v j w =
          w ∙ ap (λ i. by_place i r) u ∙ ap (by_place (first_difference l m)) v ∙ by_place_lem (first_difference l m) end ∙ behind 0 q

-- ---- what "never" says
pub record Apart (n m k d r : ℕ) : Type 0 where
  pub checks : 0 ≡ n
  pub second : 0 ≡ m
  pub drew : k ≡ 0
  pub before : r ≤ d

never_place : (d r i j : ℕ) → by_place d r ≡ says.Never i j → r ≤ d
unfolding by_place
never_place d r i j q = go (ltb d r) refl q
  where
    go : (b : Bool) → ltb d r ≡ b → cond b (says.Here d r) (says.Never d r) ≡ says.Never i j → r ≤ d
    go true u v = let z : ◌≡◌ {A = ℕ} 0 1 = cc in absurd (omega arith)
    go false u v = ltb-false d r u

never_apart : (n m k d r i j : ℕ) → judged_by n m k d r ≡ says.Never i j → Apart n m k d r
unfolding judged_by
never_apart (suc n) m k d r i j q = let z : ◌≡◌ {A = ℕ} 0 1 = cc in absurd (omega arith)
never_apart zero (suc m) k d r i j q = let z : ◌≡◌ {A = ℕ} 0 1 = cc in absurd (omega arith)
never_apart zero zero (suc k) d r i j q = let z : ◌≡◌ {A = ℕ} 0 1 = cc in absurd (omega arith)
never_apart zero zero zero d r i j q = record { checks = refl; second = refl; drew = refl; before = never_place d r i j q }

-- THE theorem: where the judgement is "never", whatever is given back is equal, the state reached too, and the second call draws none past its end
pub never_knows : (l m : List ℕ) (e : Engine) (contexts stats : List ℕ) (p : Params) (block : List ℤ) (i j : ℕ)
    → judgement l m e contexts stats p block ≡ says.Never i j → Shown e contexts stats p block l m
unfolding judgement
never_knows l m e contexts stats p block i j q =
    let a = never_apart (payload_checks l e contexts stats p block) (payload_refusal m) (drew_past l e contexts stats p block) (first_difference l m)
    (place (reached l e contexts stats p block)) i j q in
    depends e contexts stats p block l m a.checks a.second a.drew (omega (arith, a.before, (difference_fits l m).1))
    (λ k h. difference_agrees l m k (omega (arith, a.before)))
