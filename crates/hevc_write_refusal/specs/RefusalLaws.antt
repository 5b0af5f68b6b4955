-- Laws of what a writer refuses: each loop of the code, each way out of it, and what a block that is not refused has. Assumes nothing.
use Prim.Native.Nat.{ℕ, zero, suc, ◌+◌, ◌-◌, ◌*◌, ◌/◌, ◌%◌, ◌^◌, ◌≤◌, ◌<◌, max}
use Rattle.std.specs.Prelude.{◌≡◌, ◌↔◌, refl, Bool, true, false, ◌&&◌, ◌||◌, cond, IsTrue, EachIndex, ℤ, pos, negsuc, nat_abs, eqb, leb, ltb}
use Rattle.std.proofs.Math.Path.{sym, ap, ap₂}
use Rattle.std.proofs.Common.{◌∙◌, add-one, pow_pos, pow_mono, drop_of_length-le, ltb-true, ltb-false, leb-true, leb-false, le-leb, eq-eqb, ne_eqb, eqb-true}
use Rattle.std.proofs.Math.Bool.{not}
use Rattle.std.specs.Bool.{beq}
use mathlib.Core.List.{List, [], ◌∷◌}
use native.Mathlib.Omega.{arith}
use Rattle.std.proofs.Math.ListN.{length, get_or, drop}
use Rattle.std.proofs.Math.Seq.{drop-cons}
use Rattle.std.proofs.lemmas.Bool.{lt-leb}
use Rattle.bins.specs.Engine.{bit_no}
use Rattle.bins.specs.Readers.{odd}
use Rattle.hevc_residual.specs.declared.params.Params.{Params}
use Rattle.hevc_residual.specs.declared.params.Rdpcm.{Rdpcm}
use Rattle.hevc_residual.specs.Scan.{Spot, spot}
use Rattle.hevc_residual.specs.Wanted.{Wanted, negative, outer_of, inner_of, down_from, is_sig, sig_places, wanted_in, none}
use Rattle.hevc_residual.specs.Head.{skip_coded, rdpcm_coded, rdpcm_flag}
use Rattle.hevc_residual.specs.Remainder.{log2_transform_range, in_range}
use Rattle.hevc_residual.specs.SubBlock.{sign_hidden}
use Rattle.hevc_residual.specs.Refusal.{all_zero, not_coded, too_far, sum_over, disagrees, any_disagrees, write_refusal}
use Rattle.hevc_scans.specs.ScanLaws.{scan_order_lem, square_is}
use Rattle.hevc_head_rules.specs.declared.head.Head.{Head}
use Rattle.hevc_places.specs.declared.places.Places.{Places}
use Rattle.hevc_places.specs.Packing.{unpack, unpacked}
use Rattle.hevc_places.specs.PackingLaws.{unpack_last, sixteen_pow}
use Rattle.hevc_rules.specs.CoeffsAgree.{hides}
use Rattle.hevc_residual.specs.Limits.{Accepted}
use Rattle.hevc_wanted.specs.Shown.{Shows, is_level, sum_below}
use Rattle.hevc_wanted.specs.ShownLaws.{places_shown}
use Rattle.hevc_write_refusal.specs.RefusalAgree.{Chosen, Handed, lowest_of, sign_off, disagrees_in, reach_of}

-- ---- choices of the code
pub and_on : (a b r : Bool) → a ≡ true → r ≡ b → r ≡ (a && b)
and_on a b r q e = rw q e

pub and_off : (a b : Bool) → a ≡ false → false ≡ (a && b)
and_off a b q = rw q

pub or_on : (a b : Bool) → a ≡ true → true ≡ (a || b)
or_on a b q = rw q

pub or_off : (a b r : Bool) → a ≡ false → r ≡ b → r ≡ (a || b)
or_off a b r q e = rw q e

pub differ_on : (a b : Bool) → a ≡ true → not b ≡ not (beq a b)
differ_on true true q = refl
differ_on true false q = refl
differ_on false b q = let z : ◌≡◌ {A = ℕ} 0 1 = cc in absurd (omega arith)

pub differ_off : (a b : Bool) → a ≡ false → b ≡ not (beq a b)
differ_off false true q = refl
differ_off false false q = refl
differ_off true b q = let z : ◌≡◌ {A = ℕ} 0 1 = cc in absurd (omega arith)

-- ---- 9
pub record Zeros (l : List ℤ) (i : ℕ) : Type 0 where
  pub few : i ≤ length l
  pub left : all_zero (drop i l) ≡ all_zero l

pub zeros_begin : (l : List ℤ) → Zeros l 0
zeros_begin l = record { few = omega arith; left = refl }

module _ (l : List ℤ) (i m : ℕ) (z : Zeros l i) (h : i < length l) (q : m ≡ nat_abs (get_or l i (pos 0))) where
  zeros_next : (b : Bool) → eqb (nat_abs (get_or l i (pos 0))) 0 ≡ b → all_zero l ≡ (b && all_zero (drop (i + 1) l))
  unfolding all_zero
  zeros_next b e =
      let d : drop i l ≡ get_or l i (pos 0) ∷ drop (suc i) l = drop-cons l i (pos 0) h in
      sym z.left ∙ ap all_zero d ∙ rw (add-one i, e)

  pub zeros_on : m ≤ 0 → Zeros l (i + 1)
  zeros_on n = record { few = omega arith; left = sym (zeros_next true (eq-eqb (nat_abs (get_or l i (pos 0))) 0 (omega arith))) }

  pub zeros_not : 0 < m → false ≡ all_zero l
  zeros_not n = sym (zeros_next false (ne_eqb (nat_abs (get_or l i (pos 0))) 0 (λ e. omega arith)))

pub zeros_end : (l : List ℤ) (i : ℕ) → Zeros l i → length l ≤ i → true ≡ all_zero l
unfolding all_zero
zeros_end l i z h = sym (ap all_zero (drop_of_length-le l h)) ∙ z.left

-- a test of every level at once
zeros_each : (l : List ℤ) → all_zero l ≡ true → EachIndex l (λ k. nat_abs (get_or l k (pos 0)) ≡ 0)
unfolding all_zero
zeros_each [] q = λ k h. absurd (omega arith)
zeros_each (v ∷ l) q = go (eqb (nat_abs v) 0) refl q (zeros_each l)
  where
    go : (d : Bool) → eqb (nat_abs v) 0 ≡ d → (d && all_zero l) ≡ true → (all_zero l ≡ true → EachIndex l (λ k. nat_abs (get_or l k (pos 0)) ≡ 0))
        → EachIndex (v ∷ l) (λ k. nat_abs (get_or (v ∷ l) k (pos 0)) ≡ 0)
    go true e u r zero h = eqb-true (nat_abs v) 0 e
    go true e u r (suc k) h = r u k (omega arith)
    go false e u r k h = let z : ◌≡◌ {A = ℕ} 0 1 = cc in absurd (omega arith)

each_zero : (l : List ℤ) → EachIndex l (λ k. nat_abs (get_or l k (pos 0)) ≡ 0) → all_zero l ≡ true
unfolding all_zero
each_zero [] f = refl
each_zero (v ∷ l) f = rw (eq-eqb (nat_abs v) 0 (f 0 (omega arith))) (each_zero l (λ k h. f (suc k) (omega arith)))

-- a test of each level is the test of all
pub zeros_told : (l : List ℤ) (b : Bool) → IsTrue b ↔ EachIndex l (λ k. nat_abs (get_or l k (pos 0)) ≡ 0) → b ≡ all_zero l
zeros_told l true t = sym (each_zero l (t.0 refl))
zeros_told l false t = go (all_zero l) refl
  where
    go : (d : Bool) → all_zero l ≡ d → false ≡ d
    go true q = t.1 (zeros_each l q)
    go false q = refl

-- ---- 8
-- what is in range is told by how far it reaches
pub reach_range : (t : ℕ) (z : ℤ) → not (in_range t (negative z) (nat_abs z)) ≡ leb (2 ^ t) (reach_of z)
reach_range t (pos n) = go (ltb n (2 ^ t)) refl
  where
    go : (d : Bool) → ltb n (2 ^ t) ≡ d → not d ≡ leb (2 ^ t) n
    go true q = sym (lt-leb (2 ^ t) n (ltb-true n (2 ^ t) q))
    go false q = sym (le-leb (2 ^ t) n (ltb-false n (2 ^ t) q))
reach_range t (negsuc n) = go (leb (suc n) (2 ^ t)) refl
  where
    go : (d : Bool) → leb (suc n) (2 ^ t) ≡ d → not d ≡ leb (2 ^ t) n
    go true q = sym (lt-leb (2 ^ t) n (leb-true (suc n) (2 ^ t) q))
    go false q = sym (le-leb (2 ^ t) n (omega (arith, leb-false (suc n) (2 ^ t) q)))

pub reach_low : (z : ℤ) (m : ℕ) → m ≡ nat_abs z → negative z ≡ true → (1 ≤ m) × (m - 1 ≡ reach_of z)
reach_low (pos n) m e q = let z : ◌≡◌ {A = ℕ} 0 1 = cc in absurd (omega arith)
reach_low (negsuc n) m e q = (omega arith, omega arith)

pub reach_high : (z : ℤ) (m : ℕ) → m ≡ nat_abs z → negative z ≡ false → m ≡ reach_of z
reach_high (pos n) m e q = e
reach_high (negsuc n) m e q = let z : ◌≡◌ {A = ℕ} 0 1 = cc in absurd (omega arith)

most_either : (k a b : ℕ) → leb k (max a b) ≡ (leb k a || leb k b)
most_either k a b = go (leb k a) (leb k b) refl refl
  where
    go : (d e : Bool) → leb k a ≡ d → leb k b ≡ e → leb k (max a b) ≡ (d || e)
    go true e q r = le-leb k (max a b) (omega (arith, leb-true k a q))
    go false true q r = le-leb k (max a b) (omega (arith, leb-true k b r))
    go false false q r = lt-leb k (max a b) (omega (arith, leb-false k a q, leb-false k b r))

or_assoc : (a b c : Bool) → ((a || b) || c) ≡ (a || (b || c))
or_assoc true b c = refl
or_assoc false b c = refl

-- the levels before place i reach as far as most
pub record Reaches (t : ℕ) (l : List ℤ) (i most : ℕ) : Type 0 where
  pub few : i ≤ length l
  pub left : (leb (2 ^ t) most || too_far t (drop i l)) ≡ too_far t l

pub reaches_begins : (t : ℕ) (l : List ℤ) → Reaches t l 0 0
reaches_begins t l = record { few = omega arith; left = ap (λ (b : Bool). b || too_far t l) (lt-leb (2 ^ t) 0 (pow_pos t)) }

pub reaches_on : (t : ℕ) (l : List ℤ) (i most : ℕ) → Reaches t l i most → i < length l → (r : ℕ) → r ≡ reach_of (get_or l i (pos 0)) → Reaches t l (i + 1) (max most r)
unfolding too_far
reaches_on t l i most z h r q =
    let d : drop i l ≡ get_or l i (pos 0) ∷ drop (suc i) l = drop-cons l i (pos 0) h in
    let e : too_far t (drop i l) ≡ (leb (2 ^ t) r || too_far t (drop (i + 1) l)) =
    ap (λ (m : List ℤ). too_far t m) d
    ∙ ap₂ (λ (b : Bool) (k : ℕ). b || too_far t (drop k l)) (reach_range t (get_or l i (pos 0)) ∙ ap (leb (2 ^ t)) (sym q)) (sym (add-one i)) in
    record {
      few = omega arith;
      left =
          ap (λ (b : Bool). b || too_far t (drop (i + 1) l)) (most_either (2 ^ t) most r) ∙ or_assoc (leb (2 ^ t) most) (leb (2 ^ t) r) (too_far t (drop (i + 1) l))
          ∙ ap (λ (b : Bool). leb (2 ^ t) most || b) (sym e) ∙ z.left;
    }

pub two_shift : (t : ℕ) → t ≤ 22 → 1 * 2 ^ t % 4294967296 ≡ 2 ^ t
two_shift t h = let m : 2 ^ t ≤ 2 ^ 22 = pow_mono h in omega arith

or_nothing : (a : Bool) → (a || false) ≡ a
or_nothing true = refl
or_nothing false = refl

pub reaches_ends : (t : ℕ) (l : List ℤ) (i most : ℕ) → Reaches t l i most → length l ≤ i → leb (2 ^ t) most ≡ too_far t l
unfolding too_far
reaches_ends t l i most z h =
    sym (ap (λ (m : List ℤ). leb (2 ^ t) most || too_far t m) (drop_of_length-le l h) ∙ or_nothing (leb (2 ^ t) most)) ∙ z.left

-- ---- 11
pub lowest_is : (s : Places) → (s.packed / 2 ^ (4 * (s.count - 1))) % 16 ≡ lowest_of s
lowest_is s =
    let n = s.count - 1 in
    sym (unpack_last n s.packed ∙ ap (λ z. s.packed / z % 16) (sixteen_pow n))

-- the levels at places that have none add nothing
pub sum_shown : (lv : ℕ → Wanted → ℤ) (w : Wanted) (levels : List ℤ) → Shows lv w levels → (n : ℕ) → n ≤ 16
    → sum_over lv w (down_from (is_sig lv w) n) ≡ sum_below levels n
unfolding down_from sum_over sum_below
sum_shown lv w levels s zero h = refl
sum_shown lv w levels s (suc n) h = go (is_sig lv w n) refl (sum_shown lv w levels s n (omega arith)) (ap nat_abs (s n (omega arith)))
  where
    go : (b : Bool) → is_sig lv w n ≡ b → sum_over lv w (down_from (is_sig lv w) n) ≡ sum_below levels n → nat_abs (get_or levels n (pos 0)) ≡ nat_abs (lv n w)
        → sum_over lv w (cond (is_sig lv w n) (n ∷ down_from (is_sig lv w) n) (down_from (is_sig lv w) n)) ≡ nat_abs
        (get_or levels n (pos 0)) + sum_below levels n
    go true q e a = rw q (omega arith)
    go false q e a = rw q (omega (arith, ltb-false 0 (nat_abs (lv n w)) q))

module _ (p : Params) (h : Head) (levels : List ℤ) (s : Places) (e : unpacked s ≡ down_from (is_level levels) 16)
    (lv : ℕ → Wanted → ℤ) (w : Wanted) (c : Chosen h w)
    (g : Shows lv w levels) where
  sig : unpacked s ≡ sig_places lv w
  sig = e ∙ places_shown lv w levels g

  pub none_agrees : s.count ≡ 0 → false ≡ disagrees p w lv (sig_places lv w)
  unfolding disagrees unpack
  none_agrees q = ap (λ n. disagrees p w lv (unpack s.packed n)) (sym q) ∙ ap (λ (ks : List ℕ). disagrees p w lv ks) sig

  front : 0 < s.count → s.packed % 16 ∷ unpack (s.packed / 16) (s.count - 1) ≡ sig_places lv w
  unfolding unpack
  front n = let q : suc (s.count - 1) ≡ s.count = omega arith in ap (λ n. unpack s.packed n) q ∙ sig

  hides_wanted : hides p w.skip w.rdpcm s ≡ hides p h.skip h.rdpcm s
  hides_wanted = ap₂ (λ (a : Bool) (r : Rdpcm). hides p a r s) c.skip c.rdpcm

  disagrees_by : (n : 0 < s.count) (b : Bool) → hides p h.skip h.rdpcm s ≡ b
      → disagrees p w lv (sig_places lv w) ≡ (b && not (beq (negative (lv (lowest_of s) w)) (odd (sum_over lv w (sig_places lv w)))))
  unfolding disagrees
  disagrees_by n b q =
      ap (λ (ks : List ℕ). disagrees p w lv ks) (sym (front n))
      ∙ ap₂ (λ (x : Bool) (ks : List ℕ). x && not (beq (negative (lv (lowest_of s) w)) (odd (sum_over lv w ks)))) (hides_wanted ∙ q) (front n)

  bit_no_lem : (b : Bool) (r : ℕ) → r ≡ bit_no b → r ≡ 0 → b ≡ false
  bit_no_lem true r q z = absurd (omega arith)
  bit_no_lem false r q z = refl

  bit_yes : (b : Bool) (r : ℕ) → r ≡ bit_no b → (r ≡ 0 → ⊥) → b ≡ true
  bit_yes true r q z = refl
  bit_yes false r q z = absurd (z (omega arith))

  pub coded_agrees : (s.count ≡ 0 → ⊥) → (r : ℕ) → r ≡ bit_no (hides p h.skip h.rdpcm s) → r ≡ 0 → false ≡ disagrees p w lv (sig_places lv w)
  coded_agrees n r q z = sym (disagrees_by (omega arith) false (bit_no_lem (hides p h.skip h.rdpcm s) r q z))

  pub hidden_disagrees : (s.count ≡ 0 → ⊥) → (r : ℕ) → r ≡ bit_no (hides p h.skip h.rdpcm s) → (r ≡ 0 → ⊥) → (o : Bool) → o ≡ sign_off levels s
      → o ≡ disagrees p w lv (sig_places lv w)
  hidden_disagrees n r q z o f =
      let low : lowest_of s < 16 = omega (arith, lowest_is s) in
      f ∙ ap₂ (λ (v : ℤ) (m : ℕ). not (beq (negative v) (odd m))) (g (lowest_of s) low) (sym (sum_shown lv w levels g 16 (omega arith)))
      ∙ sym (disagrees_by (omega arith) true (bit_yes (hides p h.skip h.rdpcm s) r q z))

-- a sub-block with no level, and a block whose signs are never hidden
pub bare_agrees : (p : Params) (w : Wanted) (lv : ℕ → Wanted → ℤ) (ks : List ℕ) → none ks ≡ true → false ≡ disagrees p w lv ks
unfolding disagrees none
bare_agrees p w lv [] q = refl
bare_agrees p w lv (k ∷ ks) q = let z : ◌≡◌ {A = ℕ} 0 1 = cc in absurd (omega arith)

shown_agrees : (p : Params) (w : Wanted) (lv : ℕ → Wanted → ℤ) (ks : List ℕ) → p.hiding ≡ false → disagrees p w lv ks ≡ false
unfolding disagrees sign_hidden
shown_agrees p w lv [] q = refl
shown_agrees p w lv (k ∷ ks) q = rw q

pub nothing_hidden : (p : Params) (w : Wanted) (inner l : List Spot) → p.hiding ≡ false → false ≡ any_disagrees p w inner l
unfolding any_disagrees
nothing_hidden p w inner [] q = refl
nothing_hidden p w inner (s ∷ l) q =
    nothing_hidden p w inner l q
    ∙ sym (ap (λ (b : Bool). b || any_disagrees p w inner l) (shown_agrees p w (wanted_in p inner s) (sig_places (wanted_in p inner s) w) q))

-- the loop over sub-blocks
outer_long : (p : Params) → Accepted p → length (outer_of p) ≡ 4 ^ (p.log2 - 2)
outer_long p a =
    let k : p.log2 - 2 ≤ 3 = omega (arith, a.most) in
    (scan_order_lem (p.log2 - 2) p.scan k a.scan).long ∙ square_is (p.log2 - 2) k

pub record Agreeing (p : Params) (h : Head) (block : List ℤ) (i : ℕ) : Type 0 where
  pub few : i ≤ 4 ^ (p.log2 - 2)
  pub left : (w : Wanted) → Handed h block w → any_disagrees p w (inner_of p) (drop i (outer_of p)) ≡ any_disagrees p w (inner_of p) (outer_of p)

pub agreeing_begins : (p : Params) (h : Head) (block : List ℤ) → Agreeing p h block 0
agreeing_begins p h block = record { few = omega arith; left = λ w g. refl }

module _ (p : Params) (a : Accepted p) (h : Head) (block : List ℤ) (i : ℕ) (l : Agreeing p h block i) (n : i < 4 ^ (p.log2 - 2)) (r : Bool)
    (e : (w : Wanted) → Handed h block w → r ≡ disagrees_in p w (get_or (outer_of p) i (spot 0 0))) where
  agreeing_next : (w : Wanted) → Handed h block w
      → any_disagrees p w (inner_of p) (outer_of p) ≡ (r || any_disagrees p w (inner_of p) (drop (i + 1) (outer_of p)))
  unfolding any_disagrees
  agreeing_next w g =
      let k : i < length (outer_of p) = omega (arith, outer_long p a) in
      let d : drop i (outer_of p) ≡ get_or (outer_of p) i (spot 0 0) ∷ drop (suc i) (outer_of p) = drop-cons (outer_of p) i (spot 0 0) k in
      sym (l.left w g) ∙ ap (λ (m : List Spot). any_disagrees p w (inner_of p) m) d
      ∙ ap₂ (λ (b : Bool) (k : ℕ). b || any_disagrees p w (inner_of p) (drop k (outer_of p))) (sym (e w g)) (sym (add-one i))

  pub agreeing_on : r ≡ false → Agreeing p h block (i + 1)
  agreeing_on q = record {
    few = omega arith;
    left = λ w g. sym (agreeing_next w g ∙ ap (λ (b : Bool). b || any_disagrees p w (inner_of p) (drop (i + 1) (outer_of p))) q);
  }

  pub agreeing_not : r ≡ true → (w : Wanted) → Handed h block w → true ≡ any_disagrees p w (inner_of p) (outer_of p)
  agreeing_not q w g = sym (agreeing_next w g ∙ ap (λ (b : Bool). b || any_disagrees p w (inner_of p) (drop (i + 1) (outer_of p))) q)

pub agreeing_ends : (p : Params) → Accepted p → (h : Head) (block : List ℤ) (i : ℕ) → Agreeing p h block i → 4 ^ (p.log2 - 2) ≤ i
    → (w : Wanted) → Handed h block w → false ≡ any_disagrees p w (inner_of p) (outer_of p)
unfolding any_disagrees
agreeing_ends p a h block i l n w g =
    let k : length (outer_of p) ≤ i = omega (arith, outer_long p a) in
    sym (ap (λ (m : List Spot). any_disagrees p w (inner_of p) m) (drop_of_length-le (outer_of p) k)) ∙ l.left w g

-- ---- the number
module _ (p : Params) (skip : Bool) (rdpcm : Rdpcm) (block : List ℤ) where
  abbrev asked : Wanted
  asked = record { skip = skip; rdpcm = rdpcm; levels = block }

  pub asked_handed : (h : Head) → h.skip ≡ skip → h.rdpcm ≡ rdpcm → Handed h block asked
  asked_handed h a b = record { chosen = record { skip = sym a; rdpcm = sym b }; levels = refl }

  by_tests : (a b c d : Bool) → all_zero block ≡ a → not_coded p asked ≡ b → too_far (log2_transform_range p) block ≡ c
      → any_disagrees p asked (inner_of p) (outer_of p) ≡ d → cond a 9 (cond b 10 (cond c 8 (cond d 11 0))) ≡ write_refusal p asked
  unfolding write_refusal
  by_tests a b c d e f g h = rw (e, f, g, h)

  abbrev farther : Bool
  farther = too_far (log2_transform_range p) block

  abbrev differing : Bool
  differing = any_disagrees p asked (inner_of p) (outer_of p)

  -- the tests as the code has them: a, b, c and d answer 9, 10, 8 and 11
  module _ (a : Bool) (u : a ≡ all_zero block) where
    pub gives_nine : a ≡ true → 9 ≡ write_refusal p asked
    gives_nine i = by_tests true (not_coded p asked) farther differing (sym u ∙ i) refl refl refl

    module _ (i : a ≡ false) (b : Bool) (v : b ≡ ((skip && not (skip_coded p)) || (rdpcm_flag rdpcm && not (rdpcm_coded p skip)))) where
      coded_is_lem : not_coded p asked ≡ b
      unfolding not_coded
      coded_is_lem = sym v

      pub gives_ten : b ≡ true → 10 ≡ write_refusal p asked
      gives_ten j = by_tests false true farther differing (sym u ∙ i) (coded_is_lem ∙ j) refl refl

      module _ (j : b ≡ false) (T : ℕ) (t : T ≡ log2_transform_range p) (c : Bool) (w : c ≡ too_far T block) where
        far_is : farther ≡ c
        far_is = sym (w ∙ ap (λ n. too_far n block) t)

        pub gives_eight : c ≡ true → 8 ≡ write_refusal p asked
        gives_eight k = by_tests false false true differing (sym u ∙ i) (coded_is_lem ∙ j) (far_is ∙ k) refl

        module _ (k : c ≡ false) (d : Bool) (x : d ≡ differing) where
          pub gives_eleven : d ≡ true → 11 ≡ write_refusal p asked
          gives_eleven l = by_tests false false false true (sym u ∙ i) (coded_is_lem ∙ j) (far_is ∙ k) (sym x ∙ l)

          pub gives_none : d ≡ false → 0 ≡ write_refusal p asked
          gives_none l = by_tests false false false false (sym u ∙ i) (coded_is_lem ∙ j) (far_is ∙ k) (sym x ∙ l)
