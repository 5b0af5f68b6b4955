-- Each function over a kept block: what it leaves is true, and after a refusal everything is as it was. Assumes nothing.
use Prim.Native.Nat.{ℕ, zero, suc, ◌+◌, ◌-◌, ◌^◌, ◌≤◌, ◌<◌}
use Rattle.std.specs.Prelude.{◌≡◌, refl, Bool, ◌&&◌, ◌||◌, List, [], ◌∷◌, ◌++◌, leb, ltb, ℤ, pos, nat_abs, length, get_or, set, take, drop, replicate}
use Rattle.std.proofs.Common.{sym, subst, ◌∙◌, length-set, get_or-set_same, get_or-set_other, leb-true, ltb-true, ltb-false, lt-ltb, eqb-true}
use Rattle.std.proofs.Math.Path.{ap}
use Rattle.std.proofs.Math.Bool.{true, false, cond}
use native.Mathlib.Omega.{arith}
use Rattle.std.proofs.Math.Dec.{eqb}
use Rattle.std.proofs.lemmas.Bool.{eqb-false}
use Rattle.cabac.specs.Numbers.{Answer, accepted, refused, ◌or_else◌, payload_refusal}
use Rattle.cabac.specs.NumberLaws.{or_else_zero}
use Rattle.bins.specs.declared.state.Engine.{Engine}
use Rattle.hevc_residual.specs.declared.params.Params.{Params}
use Rattle.hevc_residual.specs.Numbers.{within_limits, parameter_refusal}
use Rattle.hevc_residual.specs.Remainder.{log2_transform_range}
use Rattle.hevc_residual.specs.Entries.{read_payload_by, read_payload, read_bins_by, read_bins}
use Rattle.hevc_bounds.specs.Among.{among}
use Rattle.hevc_bounds.specs.EntryNumbers.{payload_number, bins_number, payload_7_or_8, bins_8_or_13}
use Rattle.hevc_summary.specs.declared.kept.Form.{Form}
use Rattle.hevc_summary.specs.Summary.{Kept, True, Keeps, Frame, sub_most, area, sub_of, sum_in, level_at}
use Rattle.hevc_summary.specs.Entries.{is_form, form_refusal, place_refusal, level_refusal, counted, After, unless_refused, recount, zeros, clear, set_at, set_refusal, set_level, copy_refusal, copied, copy_in, touched, other_form, block_refusal, kept_by, read_refusal, read_kept_by, read_kept, list_kept_by, list_kept}
use Rattle.hevc_summary.specs.TrueLaws.{set_true, set_frame}

-- ---- what passes the looks
pub record Formed (f : Form) (levels : List ℤ) : Type 0 where
  pub least : 2 ≤ f.log2
  pub most : f.log2 ≤ 5
  pub low : 15 ≤ f.bits
  pub high : f.bits ≤ 22
  pub long : area f.log2 ≤ length levels

pub form_passed : (f : Form) (levels : List ℤ) → 0 ≡ form_refusal f levels → Formed f levels
unfolding form_refusal is_form
form_passed f levels z =
    go (leb 2 f.log2) refl (leb f.log2 5) refl (leb 15 f.bits) refl (leb f.bits 22) refl (leb (area f.log2) (length levels)) refl z
  where
    go : (a : Bool) → leb 2 f.log2 ≡ a → (b : Bool) → leb f.log2 5 ≡ b → (c : Bool) → leb 15 f.bits ≡ c → (d : Bool) → leb f.bits 22 ≡ d
        → (e : Bool) → leb (area f.log2) (length levels) ≡ e
        → ◌≡◌ {A = ℕ} 0 (cond (a && (b && (c && (d && e)))) 0 4) → Formed f levels
    go true qa true qb true qc true qd true qe z =
        record { least = leb-true 2 f.log2 qa; most = leb-true f.log2 5 qb; low = leb-true 15 f.bits qc; high = leb-true f.bits 22 qd; long = leb-true (area f.log2) (length levels) qe }
    go true qa true qb true qc true qd false qe z = absurd (omega arith)
    go true qa true qb true qc false qd e qe z = absurd (omega arith)
    go true qa true qb false qc d qd e qe z = absurd (omega arith)
    go true qa false qb c qc d qd e qe z = absurd (omega arith)
    go false qa b qb c qc d qd e qe z = absurd (omega arith)

pub place_passed : (f : Form) (place : ℕ) → 0 ≡ place_refusal f place → place < area f.log2
unfolding place_refusal
place_passed f place z = go (ltb place (area f.log2)) refl z
  where
    go : (a : Bool) → ltb place (area f.log2) ≡ a → ◌≡◌ {A = ℕ} 0 (cond a 0 4) → place < area f.log2
    go true q z = ltb-true place (area f.log2) q
    go false q z = absurd (omega arith)

pub record Copied (f g : Form) (from levels : List ℤ) : Type 0 where
  pub to : Formed f levels
  pub other : Formed g from
  pub size : f.log2 ≡ g.log2

pub copy_passed : (f g : Form) (from levels : List ℤ) → 0 ≡ copy_refusal f g from levels → Copied f g from levels
unfolding copy_refusal
copy_passed f g from levels z =
    let a = or_else_zero (form_refusal f levels) _ z in
    let b = or_else_zero (form_refusal g from) _ a.1 in
    record { to = form_passed f levels a.0; other = form_passed g from b.0; size = go (eqb f.log2 g.log2) refl (eqb f.bits g.bits) b.1 }
  where
    go : (o : Bool) → eqb f.log2 g.log2 ≡ o → (d : Bool) → ◌≡◌ {A = ℕ} 0 (cond (o && d) 0 4) → f.log2 ≡ g.log2
    go true q d z = eqb-true f.log2 g.log2 q
    go false q d z = absurd (omega arith)

-- ---- what each change promises beside its equation: refused, everything is as it was
pub refused_keeps : (log2 n : ℕ) (k : Kept) → (n ≡ 0 → ⊥) → Keeps log2 (n ≡ 0) k k
refused_keeps log2 n k h = record { fresh = λ z. absurd (h z); stays = λ u. u }

pub same_frame : (log2 place : ℕ) (k : Kept) → Frame log2 place k k
same_frame log2 place k = record { levels = λ p h. refl; counts = λ s h. refl; sums = λ s h. refl; long = refl }

-- counted anew, it is true whatever stood before
pub fresh_keeps : {P : Type 0} (log2 : ℕ) (k k' : Kept) → True log2 k' → Keeps log2 P k k'
fresh_keeps log2 k k' t = record { fresh = λ _. t; stays = λ _. t }

unless_kept : (n : ℕ) (k k' : Kept) → 0 ≡ n → (unless_refused n k k').kept ≡ k'
unfolding unless_refused
unless_kept zero k k' z = refl
unless_kept (suc n) k k' z = absurd (omega arith)

set_passed : (f : Form) (k : Kept) (place : ℕ) (v : ℤ) → 0 ≡ set_refusal f k place v → Formed f k.levels × (place < area f.log2)
unfolding set_refusal
set_passed f k place v q =
    let a = or_else_zero (form_refusal f k.levels) _ q in
    (form_passed f k.levels a.0, place_passed f place (or_else_zero (place_refusal f place) (level_refusal f v) a.1).0)

-- set: what was true stays so, and the frame
pub set_promised : (f : Form) (place : ℕ) (v : ℤ) (k : Kept) (x : After) → x ≡ set_level f place v k → 0 ≡ set_refusal f k place v
    → sum_in f.log2 (set k.levels place v) (sub_of f.log2 place) ≤ sub_most → 64 ≤ length k.counts → 64 ≤ length k.sums
    → (True f.log2 k → True f.log2 x.kept) × Frame f.log2 place k x.kept
unfolding set_level
set_promised f place v k x e z own h g =
    let q : set_at f.log2 place v k ≡ x.kept = sym (ap (λ (y : After). y.kept) e ∙ unless_kept (set_refusal f k place v) k (set_at f.log2 place v k) z) in
    let r = set_passed f k place v z in
    let p = r.0 in (
      λ t. subst (True f.log2) q (set_true f.log2 p.least p.most place v k r.1 own h g t),
      subst (Frame f.log2 place k) q (set_frame f.log2 place v k),
    )

-- ---- the readers: what passed, what they came to, what they left alone
module _ (f : Form) (p : Params) (levels : List ℤ) where
  four : (b : Bool) → cond b 0 4 ≤ 4
  four true = omega arith
  four false = omega arith

  or_low : (a b : ℕ) → a ≤ 4 → b ≤ 4 → (a or_else b) ≤ 4
  unfolding ◌or_else◌
  or_low zero b h k = k
  or_low (suc a) b h k = h

  pub block_low : block_refusal f p levels ≤ 4
  unfolding block_refusal parameter_refusal form_refusal other_form
  block_low =
      or_low (cond (within_limits p levels) 0 4) _ (four (within_limits p levels)) (or_low (cond (is_form f levels) 0 4) _ (four (is_form f levels)) (four (eqb f.log2 p.log2 && eqb f.bits (log2_transform_range p))))

  pub read_low : (l : List ℕ) → read_refusal f l p levels ≤ 4
  unfolding read_refusal payload_refusal
  read_low l = or_low (payload_refusal l) (block_refusal f p levels) (two (ltb (length l) 2) (ltb 16777216 (length l))) block_low
    where
      two : (a b : Bool) → cond a 1 (cond b 2 0) ≤ 4
      two true b = omega arith
      two false true = omega arith
      two false false = omega arith

  pub block_passed : 0 ≡ block_refusal f p levels → 0 ≡ form_refusal f levels
  unfolding block_refusal
  block_passed q = (or_else_zero (form_refusal f levels) _ (or_else_zero (parameter_refusal p levels) _ q).1).0

  pub read_passed : (l : List ℕ) → 0 ≡ read_refusal f l p levels → 0 ≡ form_refusal f levels
  unfolding read_refusal
  read_passed l q = block_passed (or_else_zero (payload_refusal l) _ q).1

came_by : {A : Type 0} (a : Answer A) → ((n : ℕ) → a ≡ refused n → 6 < n) → touched a ≡ true
unfolding touched
came_by (accepted r) h = refl
came_by (refused n) h = lt-ltb 6 n (h n refl)

above : (a b n : ℕ) → 6 < a → 6 < b → among (a ∷ b ∷ []) n ≡ true → 6 < n
above a b n h k q = go (eqb n a) refl (eqb n b) refl q
  where
    go : (x : Bool) → eqb n a ≡ x → (y : Bool) → eqb n b ≡ y → (x || (y || false)) ≡ true → 6 < n
    go true qx y qy q = omega (arith, eqb-true n a qx)
    go false qx true qy q = omega (arith, eqb-true n b qy)
    go false qx false qy q = let w : ◌≡◌ {A = ℕ} 0 1 = cc in absurd (omega arith)

clash : {X : Type 0} (b : Bool) → b ≡ true → b ≡ false → X
clash b p q = let w : ◌≡◌ {A = ℕ} 0 1 = cc in absurd (omega arith)

-- a reading that did not come to the block left it
pub payload_left : (l : List ℕ) (e : Engine) (contexts stats : List ℕ) (p : Params) (block : List ℤ)
    → touched (read_payload l e contexts stats p block).answer ≡ false → (read_payload l e contexts stats p block).block ≡ block
payload_left l e contexts stats p block t = go (payload_number l e contexts stats p block) refl
  where
    go : (k : ℕ) → payload_number l e contexts stats p block ≡ k → (read_payload l e contexts stats p block).block ≡ block
    go zero z =
        clash (touched (read_payload l e contexts stats p block).answer)
        (came_by (read_payload l e contexts stats p block).answer
        (λ n q. above 7 8 n (omega arith) (omega arith) (payload_7_or_8 l e contexts stats p block (sym z) n q))) t
    go (suc k) z = unfold read_payload read_payload_by in ap (λ (i : ℕ). (read_payload_by i l e contexts stats p block).block) z

pub bins_left : (bins stats : List ℕ) (p : Params) (block : List ℤ)
    → touched (read_bins bins stats p block).answer ≡ false → (read_bins bins stats p block).block ≡ block
bins_left bins stats p block t = go (bins_number stats p block) refl
  where
    go : (k : ℕ) → bins_number stats p block ≡ k → (read_bins bins stats p block).block ≡ block
    go zero z =
        clash (touched (read_bins bins stats p block).answer)
        (came_by (read_bins bins stats p block).answer
        (λ n q. above 8 13 n (omega arith) (omega arith) (bins_8_or_13 bins stats p block (sym z) n q))) t
    go (suc k) z = unfold read_bins read_bins_by in ap (λ (i : ℕ). (read_bins_by i bins stats p block).block) z

-- ---- what reading promises beside its equation: refused before the reader, or by a reader that did not come to the block, everything is as it was
pub low_keeps : (A : Type 0) (log2 n m : ℕ) (k : Kept) → n ≡ m → m ≤ 4 → Keeps log2 (touched {A = A} (refused n) ≡ true) k k
unfolding touched
low_keeps A log2 n m k e h = record { fresh = λ q. absurd (omega (arith, e, h, ltb-true 6 n q)); stays = λ u. u }

pub not_keeps : {A : Type 0} (log2 : ℕ) (a : Answer A) (k k' : Kept) → touched a ≡ false → k ≡ k' → Keeps log2 (touched a ≡ true) k k'
not_keeps log2 a k k' t e = record { fresh = λ q. clash (touched a) q t; stays = λ u. subst (True log2) e u }
