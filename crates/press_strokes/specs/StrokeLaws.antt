-- Laws of a single change: each way through the code of one. Assumes nothing.
use Rattle.std.specs.Prelude.{ℕ, ◌+◌, ◌-◌, ◌*◌, ◌/◌, ◌%◌, ◌≤◌, ◌<◌, ◌≡◌, refl, Bool, true, false, not, ◌&&◌, cond, List, eqb, ltb, ℤ, pos, nat_abs, get_or, set, ◌^◌}
use Rattle.std.proofs.Common.{arith, sym, ap, ◌∙◌, eq-eqb, ne_eqb, eqb-true, lt-ltb, le-ltb, ltb-true}
use Rattle.tables.specs.Table.{le_below}
use Rattle.hevc_residual.specs.declared.params.Params.{Params}
use Rattle.hevc_residual.specs.Wanted.{area}
use Rattle.press_strokes.specs.Advice.{sign_behind, magnitude_behind, stroke_of, movable, accepts, changed, is_taken}

pub area_few : (p : Params) → p.log2 ≤ 5 → area p ≤ 1024
area_few p h = le_below (λ k. 4 ^ k) (λ _. 1024) 6 tt p.log2 (omega arith)

pub sign_turned : (k : ℕ) (s : Bool) → k ≡ 2 → not s ≡ sign_behind k s
sign_turned k s q = rw (eq-eqb k 2 q)

pub sign_kept : (k : ℕ) (s : Bool) → (k ≡ 2 → ⊥) → s ≡ sign_behind k s
sign_kept k s h = rw (ne_eqb k 2 h)

pub one_more : (k m : ℕ) → k ≡ 0 → m + 1 ≡ magnitude_behind k m
one_more k m q = rw (eq-eqb k 0 q)

pub one_less : (k m : ℕ) → (k ≡ 0 → ⊥) → k ≡ 1 → m - 1 ≡ magnitude_behind k m
one_less k m h q = rw (ne_eqb k 0 h, eq-eqb k 1 q)

pub none_more : (k m : ℕ) → (k ≡ 0 → ⊥) → (k ≡ 1 → ⊥) → m ≡ magnitude_behind k m
none_more k m h l = rw (ne_eqb k 0 h, ne_eqb k 1 l)

-- ---- a change that is asked for
module _ (p : Params) (levels : List ℤ) (c m : ℕ) (e : m ≡ nat_abs (get_or levels (c / 3) (pos 0))) where
  taken_by : (a b : Bool) → ltb 0 (nat_abs (get_or levels (c / 3) (pos 0))) ≡ a → ltb (nat_abs (get_or levels (c / 3) (pos 0))) 4194304 ≡ b
      → is_taken p levels c ≡ ((a && b) && accepts p (changed levels c))
  unfolding is_taken
  taken_by a b q r = rw (q, r)

  pub zero_stays : m ≡ 0 → false ≡ is_taken p levels c
  zero_stays z = sym (taken_by false (ltb (nat_abs (get_or levels (c / 3) (pos 0))) 4194304) (le-ltb 0 (nat_abs (get_or levels (c / 3) (pos 0))) (omega arith)) refl)

  pub far_stays : (m ≡ 0 → ⊥) → 4194303 < m → false ≡ is_taken p levels c
  far_stays n h = sym (taken_by true false (lt-ltb 0 (nat_abs (get_or levels (c / 3) (pos 0))) (omega arith)) (le-ltb (nat_abs (get_or levels (c / 3) (pos 0))) 4194304 (omega arith)))

  pub asked : (m ≡ 0 → ⊥) → m ≤ 4194303 → (r : Bool) (l : ℤ) → l ≡ stroke_of (c % 3) (get_or levels (c / 3) (pos 0)) → r ≡ accepts p (set levels (c / 3) l) → r ≡ is_taken p levels c
  asked n h r l q a =
      a ∙ ap (λ (x : ℤ). accepts p (set levels (c / 3) x)) q
      ∙ sym (taken_by true true (lt-ltb 0 (nat_abs (get_or levels (c / 3) (pos 0))) (omega arith)) (lt-ltb (nat_abs (get_or levels (c / 3) (pos 0))) 4194304 (omega arith)))

-- what a change that is taken says: of a level that is moved, and the writer's own answer
module _ (p : Params) (levels : List ℤ) (c : ℕ) (q : is_taken p levels c ≡ true) where
  abbrev size : ℕ
  size = nat_abs (get_or levels (c / 3) (pos 0))

  abbrev ok : Bool
  ok = accepts p (changed levels c)

  by_parts : ((ltb 0 size && ltb size 4194304) && ok) ≡ true
  unfolding is_taken
  by_parts = q

  parts : (a b d : Bool) → ((a && b) && d) ≡ true → (a ≡ true) × (b ≡ true) × (d ≡ true)
  parts true true true h = (refl, refl, refl)
  parts true true false h = absurd (let y : ◌≡◌ {A = ℕ} 0 1 = cc in omega arith)
  parts true false d h = absurd (let y : ◌≡◌ {A = ℕ} 0 1 = cc in omega arith)
  parts false b d h = absurd (let y : ◌≡◌ {A = ℕ} 0 1 = cc in omega arith)

  pub taken_accepted : accepts p (changed levels c) ≡ true
  taken_accepted = (parts (ltb 0 size) (ltb size 4194304) ok by_parts).2

  pub taken_least : 0 < size
  taken_least = ltb-true 0 size (parts (ltb 0 size) (ltb size 4194304) ok by_parts).0

  pub taken_most : size < 4194304
  taken_most = ltb-true size 4194304 (parts (ltb 0 size) (ltb size 4194304) ok by_parts).1
