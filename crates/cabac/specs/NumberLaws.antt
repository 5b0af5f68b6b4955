-- The numbers, one after the other: what a check that passed says, and what an answer by number is. Assumes nothing.
use Rattle.std.specs.Prelude.{ℕ, zero, suc, ◌-◌, ◌≤◌, ◌<◌, Bool, ◌&&◌, ◌||◌, cond, List, Ok, Err}
use Rattle.std.proofs.Math.Path.{◌≡◌, refl}
use Rattle.std.proofs.Common.{ap, arith}
use Rattle.std.proofs.Math.Bool.{true, false}
use Rattle.std.proofs.Math.ListN.{length}
use Rattle.std.proofs.Math.Dec.{ltb, leb}
use borrow.Author.Tests.{ltb-true, ltb-false, leb-true, lt-ltb, le-ltb, lt-leb, le-leb}
use Rattle.bins.specs.declared.state.Engine.{Engine}
use Rattle.bins.specs.Bits.{ends, past_most}
use Rattle.bins.specs.Engine.{place}
use Rattle.bins.specs.EngineRuns.{Runs}
use Rattle.cabac.specs.Numbers.{accepted, refused, ◌or_else◌, checked, unless, payload_refusal, possible, state_refusal, context_refusal, count_refusal, offset_refusal, ended_refusal, alignment_refusal}

-- ---- a number and then another
pub or_else_assoc : (a b c : ℕ) → ((a or_else b) or_else c) ≡ (a or_else b or_else c)
unfolding ◌or_else◌
or_else_assoc zero b c = refl
or_else_assoc (suc a) b c = refl

pub or_else_first : (n a b : ℕ) → n ≡ a → (n ≡ 0 → ⊥) → n ≡ (a or_else b)
unfolding ◌or_else◌
or_else_first n zero b q h = absurd (h q)
or_else_first n (suc a) b q h = q

pub or_else_rest : (n a b : ℕ) → 0 ≡ a → n ≡ b → n ≡ (a or_else b)
unfolding ◌or_else◌
or_else_rest n zero b p q = q
or_else_rest n (suc a) b p q = absurd (omega arith)

pub or_else_zero : (a b : ℕ) → 0 ≡ (a or_else b) → (0 ≡ a) × (0 ≡ b)
unfolding ◌or_else◌
or_else_zero zero b q = (refl, q)
or_else_zero (suc a) b q = absurd (omega arith)

-- ---- a number as a check answers it
pub checked_none : (n : ℕ) → n ≡ 0 → Ok tt ≡ checked n
unfolding checked
checked_none zero q = refl
checked_none (suc n) q = absurd (omega arith)

pub checked_some : (n : ℕ) → (n ≡ 0 → ⊥) → Err n ≡ checked n
unfolding checked
checked_some zero h = absurd (h refl)
checked_some (suc n) h = refl

pub checked_ok : (n : ℕ) {u : Unit {0}} → Ok u ≡ checked n → 0 ≡ n
unfolding checked
checked_ok zero q = refl
checked_ok (suc n) q = let z : ◌≡◌ {A = ℕ} 0 1 = cc in absurd (omega arith)

pub checked_err : (n m : ℕ) → Err m ≡ checked n → (m ≡ n) × (m ≡ 0 → ⊥)
unfolding checked
checked_err zero m q = let z : ◌≡◌ {A = ℕ} 0 1 = cc in absurd (omega arith)
checked_err (suc n) m q = let e : m ≡ suc n = cc in (e, λ z. omega arith)

pub checked_first : (m a b : ℕ) → Err m ≡ checked a → Err m ≡ checked (a or_else b)
unfolding ◌or_else◌
checked_first m zero b q = let e = checked_err zero m q in absurd (e.1 e.0)
checked_first m (suc a) b q = q

pub checked_rest : (a b : ℕ) → 0 ≡ a → checked b ≡ checked (a or_else b)
unfolding ◌or_else◌
checked_rest zero b q = refl
checked_rest (suc a) b q = absurd (omega arith)

-- ---- an answer by number
pub unless_no : {A : Type 0} (n k : ℕ) (a : A) → n ≡ k → (n ≡ 0 → ⊥) → refused n ≡ unless k a
unfolding unless
unless_no n zero a q h = absurd (h q)
unless_no n (suc k) a q h = ap refused q

pub unless_yes : {A : Type 0} (k : ℕ) (a b : A) → 0 ≡ k → a ≡ b → accepted a ≡ unless k b
unfolding unless
unless_yes zero a b q h = ap accepted h
unless_yes (suc k) a b q h = absurd (omega arith)

-- ---- 1 and 2
module _ (l : List ℕ) where
  pub payload_short : length l < 2 → 1 ≡ payload_refusal l
  unfolding payload_refusal
  payload_short h = rw (lt-ltb (length l) 2 h)

  pub payload_long : 2 ≤ length l → 16777216 < length l → 2 ≡ payload_refusal l
  unfolding payload_refusal
  payload_long h k = rw (le-ltb (length l) 2 h, lt-ltb 16777216 (length l) k)

  pub payload_fine : 2 ≤ length l → length l ≤ 16777216 → 0 ≡ payload_refusal l
  unfolding payload_refusal
  payload_fine h k = rw (le-ltb (length l) 2 h, le-ltb 16777216 (length l) k)

  pub payload_passed : 0 ≡ payload_refusal l → length l ≤ 16777216
  unfolding payload_refusal
  payload_passed q = go (ltb (length l) 2) refl (ltb 16777216 (length l)) refl q
    where
      go : (a : Bool) → ltb (length l) 2 ≡ a → (b : Bool) → ltb 16777216 (length l) ≡ b → ◌≡◌ {A = ℕ} 0 (cond a 1 (cond b 2 0)) → length l ≤ 16777216
      go true p b r z = absurd (omega arith)
      go false p true r z = absurd (omega arith)
      go false p false r z = ltb-false 16777216 (length l) r

  pub payload_two : 0 ≡ payload_refusal l → 2 ≤ length l
  unfolding payload_refusal
  payload_two q = go (ltb (length l) 2) refl q
    where
      go : (a : Bool) → ltb (length l) 2 ≡ a → ◌≡◌ {A = ℕ} 0 (cond a 1 (cond (ltb 16777216 (length l)) 2 0)) → 2 ≤ length l
      go true p z = absurd (omega arith)
      go false p z = ltb-false (length l) 2 p

-- ---- 3
module _ (l : List ℕ) (e : Engine) where
  pub state_beyond : ends l < place e → 3 ≡ state_refusal l e
  unfolding state_refusal possible
  state_beyond h = rw (lt-leb (place e) (ends l) h)

  pub state_uncounted : place e ≤ ends l → past_most < e.past → 3 ≡ state_refusal l e
  unfolding state_refusal possible
  state_uncounted h k = rw (le-leb (place e) (ends l) h, lt-leb e.past past_most k)

  module _ (h : place e ≤ ends l) (k : e.past ≤ past_most) where
    pub state_ended : e.ended ≡ true → 0 ≡ state_refusal l e
    unfolding state_refusal possible
    state_ended q = rw (le-leb (place e) (ends l) h, le-leb e.past past_most k, q)

    pub state_low : e.ended ≡ false → e.range < 256 → 3 ≡ state_refusal l e
    unfolding state_refusal possible
    state_low q a = rw (le-leb (place e) (ends l) h, le-leb e.past past_most k, q, lt-leb 256 e.range a)

    pub state_high : e.ended ≡ false → 256 ≤ e.range → 510 < e.range → 3 ≡ state_refusal l e
    unfolding state_refusal possible
    state_high q a b = rw (le-leb (place e) (ends l) h, le-leb e.past past_most k, q, le-leb 256 e.range a, lt-leb e.range 510 b)

    pub state_over : e.ended ≡ false → 256 ≤ e.range → e.range ≤ 510 → e.range ≤ e.offset → 3 ≡ state_refusal l e
    unfolding state_refusal possible
    state_over q a b c =
        rw (le-leb (place e) (ends l) h, le-leb e.past past_most k, q, le-leb 256 e.range a, le-leb e.range 510 b, le-ltb e.offset e.range c)

    pub state_fine : e.ended ≡ false → 256 ≤ e.range → e.range ≤ 510 → e.offset < e.range → 0 ≡ state_refusal l e
    unfolding state_refusal possible
    state_fine q a b c =
        rw (le-leb (place e) (ends l) h, le-leb e.past past_most k, q, le-leb 256 e.range a, le-leb e.range 510 b, lt-ltb e.offset e.range c)

  pub state_fits : 0 ≡ state_refusal l e → place e ≤ ends l
  unfolding state_refusal possible
  state_fits q = go (leb (place e) (ends l)) refl q
    where
      go : (a : Bool) → leb (place e) (ends l) ≡ a
          → ◌≡◌ {A = ℕ} 0 (cond (a && (leb e.past past_most && (e.ended || (leb 256 e.range && (leb e.range 510 && ltb e.offset e.range))))) 0 3)
          → place e ≤ ends l
      go true p z = leb-true (place e) (ends l) p
      go false p z = absurd (omega arith)

  pub state_counts : 0 ≡ state_refusal l e → e.past ≤ past_most
  unfolding state_refusal possible
  state_counts q = go (leb e.past past_most) refl (rw (le-leb (place e) (ends l) (state_fits q)) at q)
    where
      go : (a : Bool) → leb e.past past_most ≡ a
          → ◌≡◌ {A = ℕ} 0 (cond (a && (e.ended || (leb 256 e.range && (leb e.range 510 && ltb e.offset e.range)))) 0 3) → e.past ≤ past_most
      go true p z = leb-true e.past past_most p
      go false p z = absurd (omega arith)

  pub state_runs : 0 ≡ payload_refusal l → 0 ≡ state_refusal l e → e.ended ≡ false → Runs l e
  unfolding state_refusal possible
  state_runs short q n = go (leb 256 e.range) refl (leb e.range 510) refl (ltb e.offset e.range) refl (rw (le-leb (place e) (ends l) (state_fits q), le-leb e.past past_most (state_counts q), n) at q)
    where
      go : (a : Bool) → leb 256 e.range ≡ a → (b : Bool) → leb e.range 510 ≡ b → (c : Bool) → ltb e.offset e.range ≡ c
          → ◌≡◌ {A = ℕ} 0 (cond (a && (b && c)) 0 3) → Runs l e
      go true p true r true s z =
          record {
            short = payload_passed l short;
            fits = state_fits q;
            counts = state_counts q;
            least = leb-true 256 e.range p;
            most = leb-true e.range 510 r;
            below = ltb-true e.offset e.range s;
          }
      go true p true r false s z = absurd (omega arith)
      go true p false r c s z = absurd (omega arith)
      go false p b r c s z = absurd (omega arith)

-- ---- a context, a count, a start, the end
pub context_high : (ctx : ℕ) → 127 < ctx → 3 ≡ context_refusal ctx
unfolding context_refusal
context_high ctx h = rw (lt-ltb 127 ctx h)

pub context_fine : (ctx : ℕ) → ctx ≤ 127 → 0 ≡ context_refusal ctx
unfolding context_refusal
context_fine ctx h = rw (le-ltb 127 ctx h)

pub count_high : (c : ℕ) → 32 < c → 4 ≡ count_refusal c
unfolding count_refusal
count_high c h = rw (lt-ltb 32 c h)

pub count_fine : (c : ℕ) → c ≤ 32 → 0 ≡ count_refusal c
unfolding count_refusal
count_fine c h = rw (le-ltb 32 c h)

pub count_passed : (c : ℕ) → 0 ≡ count_refusal c → c ≤ 32
unfolding count_refusal
count_passed c q = go (ltb 32 c) refl q
  where
    go : (b : Bool) → ltb 32 c ≡ b → ◌≡◌ {A = ℕ} 0 (cond b 4 0) → c ≤ 32
    go true p z = absurd (omega arith)
    go false p z = ltb-false 32 c p

pub offset_high : (e : Engine) → 510 ≤ e.offset → 5 ≡ offset_refusal e
unfolding offset_refusal
offset_high e h = rw (le-leb 510 e.offset h)

pub offset_fine : (e : Engine) → e.offset < 510 → 0 ≡ offset_refusal e
unfolding offset_refusal
offset_fine e h = rw (lt-leb 510 e.offset h)

pub ended_is : (e : Engine) → e.ended ≡ true → 6 ≡ ended_refusal e
unfolding ended_refusal
ended_is e q = rw q

pub ended_not : (e : Engine) → e.ended ≡ false → 0 ≡ ended_refusal e
unfolding ended_refusal
ended_not e q = rw q

pub alignment_high : (e : Engine) → 256 ≤ e.offset → 7 ≡ alignment_refusal e
unfolding alignment_refusal
alignment_high e h = rw (le-leb 256 e.offset h)

pub alignment_fine : (e : Engine) → e.offset < 256 → 0 ≡ alignment_refusal e
unfolding alignment_refusal
alignment_fine e h = rw (lt-leb 256 e.offset h)
