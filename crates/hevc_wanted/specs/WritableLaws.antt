-- What a block that is not refused has: levels of small magnitude, and one at its last place. Assumes nothing.
use Prim.Native.Nat.{ℕ, zero, suc, ◌+◌, ◌-◌, ◌*◌, ◌/◌, ◌%◌, ◌^◌, ◌≤◌, ◌<◌}
use Rattle.std.proofs.Math.Path.{◌≡◌, refl, sym, ap, ap₂, subst}
use Rattle.std.proofs.Common.{◌∙◌, pow-add}
use Rattle.std.specs.Prelude.{Bool, ◌&&◌, cond, List, [], ◌∷◌, ℤ, pos, eqb, length, get_or}
use Rattle.std.proofs.Math.Bool.{true, false}
use native.Mathlib.Omega.{arith}
use Rattle.std.proofs.Math.IntN.{nat_abs}
use Rattle.std.proofs.Math.Dec.{ltb}
use Rattle.std.proofs.Math.Pow.{pow_mono}
use borrow.Author.Tests.{ltb-true, lt-ltb, eqb-false}
use Rattle.hevc_residual.specs.declared.params.Params.{Params}
use Rattle.hevc_residual.specs.Scan.{Spot, spot}
use Rattle.hevc_residual.specs.Wanted.{Wanted, area, width, cell_of, level_at, outer_of, inner_of, spot_in, wanted_in, is_sig}
use Rattle.hevc_residual.specs.Head.{last_wanted}
use Rattle.hevc_residual.specs.Remainder.{log2_transform_range}
use Rattle.hevc_residual.specs.Refusal.{all_zero, not_coded, too_far, any_disagrees, write_refusal}
use Rattle.hevc_scans.specs.ScanLaws.{scan_order_lem, square_is}
use Rattle.hevc_scans.specs.CellLaws.{cell_onto}
use Rattle.hevc_residual.specs.LimitLaws.{range_small}
use Rattle.trees.specs.LevelLaws.{near_all}
use Rattle.hevc_residual.specs.Limits.{Accepted}
use Rattle.hevc_wanted.specs.LastLaws.{last_suc}

-- ---- none of the refusals holds
pub record Writable (p : Params) (w : Wanted) : Type 0 where
  pub some : all_zero w.levels ≡ false
  pub coded : not_coded p w ≡ false
  pub near : too_far (log2_transform_range p) w.levels ≡ false
  pub agree : any_disagrees p w (inner_of p) (outer_of p) ≡ false

pub writable : (p : Params) (w : Wanted) → write_refusal p w ≡ 0 → Writable p w
unfolding write_refusal
writable p w q =
    go (all_zero w.levels) (not_coded p w) (too_far (log2_transform_range p) w.levels)
    (any_disagrees p w (inner_of p) (outer_of p)) refl refl refl refl q
  where
    go : (a b c d : Bool) → all_zero w.levels ≡ a → not_coded p w ≡ b → too_far (log2_transform_range p) w.levels ≡ c
        → any_disagrees p w (inner_of p) (outer_of p) ≡ d → ◌≡◌ {A = ℕ} (cond a 9 (cond b 10 (cond c 8 (cond d 11 0)))) 0 → Writable p w
    go true b c d e f g h z = absurd (omega arith)
    go false true c d e f g h z = absurd (omega arith)
    go false false true d e f g h z = absurd (omega arith)
    go false false false true e f g h z = absurd (omega arith)
    go false false false false e f g h z = record { some = e; coded = f; near = g; agree = h }

-- ---- magnitudes
pub levels_small : (p : Params) (w : Wanted) → p.depth ≤ 16 → write_refusal p w ≡ 0 → (i : ℕ) → nat_abs (get_or w.levels i (pos 0)) ≤ 4194304
levels_small p w h q i =
    let m : 2 ^ log2_transform_range p ≤ 2 ^ 22 = pow_mono (range_small p h) in
    omega (arith, near_all (log2_transform_range p) w.levels (writable p w q).near i)

-- ---- some level is not 0
some_level : (l : List ℤ) → all_zero l ≡ false → (i : ℕ) × (i < length l) × (0 < nat_abs (get_or l i (pos 0)))
unfolding all_zero
some_level [] q = let z : ◌≡◌ {A = ℕ} 0 1 = cc in absurd (omega arith)
some_level (v ∷ l) q = go (eqb (nat_abs v) 0) refl q (λ r. some_level l r)
  where
    go : (b : Bool) → eqb (nat_abs v) 0 ≡ b → (b && all_zero l) ≡ false
        → (all_zero l ≡ false → (i : ℕ) × (i < length l) × (0 < nat_abs (get_or l i (pos 0))))
        → (i : ℕ) × (i < length (v ∷ l)) × (0 < nat_abs (get_or (v ∷ l) i (pos 0)))
    go true e r f = let s = f r in (suc s.0, omega (arith, s.1), s.2)
    go false e r f = let n : nat_abs v ≡ 0 → ⊥ = eqb-false (nat_abs v) 0 e in (0, omega arith, omega arith)

-- ---- the last place with a level has one
module _ (p : Params) (outer inner : List Spot) (w : Wanted) where
  abbrev sig_at : ℕ → Bool
  sig_at m = is_sig (wanted_in p inner (get_or outer (m / 16) (spot 0 0))) w (m % 16)

  last_found : (n m : ℕ) → m < n → sig_at m ≡ true → 0 < nat_abs (level_at p w (last_wanted p outer inner w n))
  unfolding wanted_in
  last_found zero m h q = absurd (omega arith)
  last_found (suc n) m h q = go (sig_at n) refl (λ l. last_found n m l q)
    where
      go : (b : Bool) → sig_at n ≡ b → (m < n → 0 < nat_abs (level_at p w (last_wanted p outer inner w n)))
          → 0 < nat_abs (level_at p w (last_wanted p outer inner w (suc n)))
      go true e f =
          subst (λ (s : Spot). 0 < nat_abs (level_at p w s)) (sym (last_suc p outer inner w n true e))
          (ltb-true 0 (nat_abs (level_at p w (spot_in inner (get_or outer (n / 16) (spot 0 0)) (n % 16)))) e)
      go false e f =
          let d : m ≡ n → ⊥ = λ k. let y : ◌≡◌ {A = Bool} true false = sym q ∙ ap sig_at k ∙ e in let z : ◌≡◌ {A = ℕ} 0 1 = cc in omega arith in
          subst (λ (s : Spot). 0 < nat_abs (level_at p w s)) (sym (last_suc p outer inner w n false e)) (f (omega arith))

module _ (p : Params) (a : Accepted p) (w : Wanted) (long : length w.levels ≡ area p) where
  few : p.log2 - 2 ≤ 3
  few = omega (arith, a.most)

  whole : 2 ^ p.log2 ≡ 4 * width p
  whole =
      let q : 2 + (p.log2 - 2) ≡ p.log2 = omega (arith, a.least) in
      sym (sym (pow-add 2 2 (p.log2 - 2)) ∙ ap (λ n. 2 ^ n) q)

  square : area p ≡ 16 * (width p * width p)
  square =
      let q : 2 + (p.log2 - 2) ≡ p.log2 = omega (arith, a.least) in
      sym (ap (λ n. 16 * n) (square_is (p.log2 - 2) few) ∙ sym (pow-add 4 2 (p.log2 - 2)) ∙ ap (λ n. 4 ^ n) q)

  sig_at_lem : (i k c : ℕ) → k < 16 → cell_of p (spot_in (inner_of p) (get_or (outer_of p) i (spot 0 0)) k) ≡ c → 0 < nat_abs (get_or w.levels c (pos 0))
      → sig_at p (outer_of p) (inner_of p) w (16 * i + k) ≡ true
  unfolding wanted_in
  sig_at_lem i k c h e n =
      let d : (16 * i + k) / 16 ≡ i = omega arith in
      let m : (16 * i + k) % 16 ≡ k = omega arith in
      ap₂ (λ u v. is_sig (wanted_in p (inner_of p) (get_or (outer_of p) u (spot 0 0))) w v) d m
      ∙ ap (λ j. ltb 0 (nat_abs (get_or w.levels j (pos 0)))) e ∙ lt-ltb 0 (nat_abs (get_or w.levels c (pos 0))) n

  pub last_level : write_refusal p w ≡ 0 → 0 < nat_abs (level_at p w (last_wanted p (outer_of p) (inner_of p) w (area p)))
  unfolding spot_in
  last_level q =
      let s = some_level w.levels (writable p w q).some in
      let positive : 2 ^ 0 ≤ width p = pow_mono {i = 0} {j = p.log2 - 2} (omega arith) in
      let e : area p ≡ 2 ^ p.log2 * 2 ^ p.log2 = square ∙ omega (arith, ap₂ ◌*◌ whole whole) in
      let c : s.0 < 2 ^ p.log2 * 2 ^ p.log2 = omega (arith, s.1) in
      let out = scan_order_lem (p.log2 - 2) p.scan few a.scan in
      let inn = scan_order_lem 2 p.scan (omega arith) a.scan in
      let g = cell_onto (outer_of p) (inner_of p) (width p) out inn (2 ^ p.log2) whole (omega arith) s.0 c in
      let n : 16 * g.0 + g.1 < area p = omega (arith, square, g.2, g.3) in
      last_found p (outer_of p) (inner_of p) w (area p) (16 * g.0 + g.1) n (sig_at_lem g.0 g.1 s.0 g.3 g.4 s.2)
