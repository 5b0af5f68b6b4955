-- The scale's writer, call after call, and its ways out. Assumes nothing.
use Prim.Native.Nat.{ℕ, zero, suc, ◌+◌, ◌*◌, ◌≤◌}
use Rattle.std.specs.Prelude.{◌≡◌, Bool, true, false, cond, ◌||◌, eqb, ℤ, nat_abs, length, drop, Option, Some, None, Ok, Err}
use Rattle.std.proofs.Math.Path.{refl, ap}
use Rattle.std.proofs.Common.{sym, subst, ◌∙◌, arith}
use mathlib.Core.List.{List, [], ◌++◌}
use Rattle.std.proofs.Math.Dec.{leb}
use borrow.Author.Tests.{eq-eqb, ne_eqb, eqb-true, le-leb, lt-leb}
use Rattle.bins.specs.Tags.{tag}
use Rattle.bins.specs.Syn.{done, ◌>>=◌, Written, write}
use Rattle.bins.specs.Readers.{prefix_s}
use Rattle.cabac.specs.Numbers.{◌or_else◌}
use Rattle.hevc_residual.specs.Wanted.{Wanted, negative}
use Rattle.hevc_residual.specs.declared.params.Rdpcm.TheVariants as of_rdpcm
use Rattle.hevc_residual.specs.Remainder.{signed}
use Rattle.pen.specs.declared.room.Pen.{Pen}
use Rattle.pen.specs.Sheet.{Sheet, sheet, entered, entered_all, Wrote, Counts}
use Rattle.pen.specs.SheetLaws.{wrote_none, wrote_on, wrote_bin, wrote_call}
use Rattle.pen.specs.RoomPuts.{pen_at, counted_same, counted_long, counted_short, written_all}
use Rattle.hevc_cross.specs.Scale.{at_value, at_sign, magnitude, value_s, sign_s, scale_s, is_scale, scale}
use Rattle.hevc_cross.specs.ScaleLaws.{rising, rises, scale_same, signed_back, zero_back}
use Rattle.hevc_cross.specs.Entries.{component_refusal, scale_refusal, write_bins_by, write_bins}
use Rattle.hevc_cross.specs.EntryLaws.{writes_refused, writes_fits, writes_over}
use Rattle.hevc_cross.specs.Exact.{ReadsAs, written}
use Rattle.hevc_scale_writer.specs.WriteAgree.{value_of, only}
use Rattle.hevc_scale.specs.EntriesAgree.{bins_written}

-- ---- the value of a magnitude
module _ (m : ℕ) where
  pub value_0 : m ≡ 0 → Some 0 ≡ value_of m
  unfolding value_of
  value_0 a = rw (eq-eqb m 0 a)

  module _ (a : m ≡ 0 → ⊥) where
    pub value_1 : m ≡ 1 → Some 1 ≡ value_of m
    unfolding value_of
    value_1 b = rw (ne_eqb m 0 a, eq-eqb m 1 b)

    module _ (b : m ≡ 1 → ⊥) where
      pub value_2 : m ≡ 2 → Some 2 ≡ value_of m
      unfolding value_of
      value_2 c = rw (ne_eqb m 0 a, ne_eqb m 1 b, eq-eqb m 2 c)

      module _ (c : m ≡ 2 → ⊥) where
        pub value_3 : m ≡ 4 → Some 3 ≡ value_of m
        unfolding value_of
        value_3 d = rw (ne_eqb m 0 a, ne_eqb m 1 b, ne_eqb m 2 c, eq-eqb m 4 d)

        module _ (d : m ≡ 4 → ⊥) where
          pub value_4 : m ≡ 8 → Some 4 ≡ value_of m
          unfolding value_of
          value_4 e = rw (ne_eqb m 0 a, ne_eqb m 1 b, ne_eqb m 2 c, ne_eqb m 4 d, eq-eqb m 8 e)

          pub value_none : (m ≡ 8 → ⊥) → None ≡ value_of m
          unfolding value_of
          value_none e = rw (ne_eqb m 0 a, ne_eqb m 1 b, ne_eqb m 2 c, ne_eqb m 4 d, ne_eqb m 8 e)

-- what the value says of the scale
pub value_says : (z : ℤ) (o : Option ℕ) → o ≡ value_of (nat_abs z)
    → (o ≡ None → is_scale z ≡ false) × ((v : ℕ) → o ≡ Some v → (v ≤ 4) × (nat_abs z ≡ magnitude v) × (is_scale z ≡ true))
unfolding value_of is_scale
value_says z o q =
    go (eqb (nat_abs z) 0) refl (eqb (nat_abs z) 1) refl (eqb (nat_abs z) 2) refl (eqb (nat_abs z) 4) refl (eqb (nat_abs z) 8) refl q
  where
    none_some : {X : Type 0} (v : ℕ) → o ≡ Some v → o ≡ None → X
    none_some v p k = let y : ◌≡◌ {A = ℕ} 0 1 = cc in absurd (omega arith)

    same : (v w : ℕ) → o ≡ Some v → o ≡ Some w → v ≡ w
    same v w p k = cc

    go : (a : Bool) → eqb (nat_abs z) 0 ≡ a → (b : Bool) → eqb (nat_abs z) 1 ≡ b → (c : Bool) → eqb (nat_abs z) 2 ≡ c → (d : Bool) → eqb (nat_abs z) 4 ≡ d
        → (e : Bool) → eqb (nat_abs z) 8 ≡ e
        → o ≡ cond a (Some 0) (cond b (Some 1) (cond c (Some 2) (cond d (Some 3) (cond e (Some 4) None))))
        → (o ≡ None → (a || (b || (c || (d || e)))) ≡ false) × ((v : ℕ) → o ≡ Some v → (v ≤ 4) × (nat_abs z ≡ magnitude v) × ((a || (b || (c || (d || e)))) ≡ true))
    go true p b p₁ c p₂ d p₃ e p₄ q = (none_some 0 q, λ v k. let u = same 0 v q k in (omega (arith, u), eqb-true (nat_abs z) 0 p ∙ ap magnitude u, refl))
    go false p true p₁ c p₂ d p₃ e p₄ q = (none_some 1 q, λ v k. let u = same 1 v q k in (omega (arith, u), eqb-true (nat_abs z) 1 p₁ ∙ ap magnitude u, refl))
    go false p false p₁ true p₂ d p₃ e p₄ q = (none_some 2 q, λ v k. let u = same 2 v q k in (omega (arith, u), eqb-true (nat_abs z) 2 p₂ ∙ ap magnitude u, refl))
    go false p false p₁ false p₂ true p₃ e p₄ q = (none_some 3 q, λ v k. let u = same 3 v q k in (omega (arith, u), eqb-true (nat_abs z) 4 p₃ ∙ ap magnitude u, refl))
    go false p false p₁ false p₂ false p₃ true p₄ q = (none_some 4 q, λ v k. let u = same 4 v q k in (omega (arith, u), eqb-true (nat_abs z) 8 p₄ ∙ ap magnitude u, refl))
    go false p false p₁ false p₂ false p₃ false p₄ q = ((λ k. refl), λ v k. none_some v k q)

-- ---- bins
counts : (z : ℤ) (w : Wanted) (v : ℕ) → v ≤ 4 → nat_abs z ≡ magnitude v → Counts (λ g t. leb (magnitude (suc g)) (nat_abs (only z t))) w v 4
counts z w v h e = (
  λ g k. le-leb (magnitude (suc g)) (nat_abs z) (omega (arith, e, rising (suc g) v k h)),
  λ k. lt-leb (magnitude (suc v)) (nat_abs z) (omega (arith, e, rises v)),
)

module _ (c v : ℕ) (s s' : Sheet) (h : v ≤ 4)
    (p : (want : ℕ → Wanted → Bool) (w : Wanted) → Counts want w v 4 → Wrote (prefix_s (at_value + 4 * c) 0 4 0 want) (done v) w s s')
    (z : ℤ) (w : Wanted) (e : nat_abs z ≡ magnitude v) where
  value_put : Wrote (scale_s (only z) c) (sign_s (only z) c v) w s s'
  unfolding scale_s
  value_put =
      wrote_call w (value_s (only z) c >>= sign_s (only z) c) (value_s (only z) c) (sign_s (only z) c) v s s s'
      (wrote_none w (value_s (only z) c >>= sign_s (only z) c) s) (p (λ g t. leb (magnitude (suc g)) (nat_abs (only z t))) w (counts z w v h e))

  pub none_put : v ≡ 0 → Wrote (scale_s (only z) c) (done z) w s s'
  none_put q =
      subst (λ (y : ℤ). Wrote (scale_s (only z) c) (done y) w s s') (zero_back z (e ∙ ap magnitude q))
      (subst (λ i. Wrote (scale_s (only z) c) (sign_s (only z) c i) w s s') q value_put)

  pub sign_put : (v ≡ 0 → ⊥) → (sign : Bool) → negative z ≡ sign → (s'' : Sheet) → s'' ≡ entered (tag (at_sign + c) sign) s' → Wrote (scale_s (only z) c) (done z) w s s''
  sign_put k sign q s'' g =
      wrote_on w (scale_s (only z) c) (sign_s (only z) c v) (done z) s s' s'' value_put
      (subst (λ (t : Sheet). Wrote (sign_s (only z) c v) (done z) w s' t) (sym (g ∙ ap (λ b. entered (tag (at_sign + c) b) s') (sym q))) (one v e k))
    where
      one : (i : ℕ) → nat_abs z ≡ magnitude i → (i ≡ 0 → ⊥) → Wrote (sign_s (only z) c i) (done z) w s' (entered (tag (at_sign + c) (negative z)) s')
      one zero e k = absurd (k refl)
      one (suc i) e k =
          subst (λ (y : ℤ). Wrote (sign_s (only z) c (suc i)) (done y) w s' (entered (tag (at_sign + c) (negative z)) s')) (signed_back z (magnitude (suc i)) e)
          (wrote_bin w (at_sign + c) (λ t. negative (only z t)) (λ b. done (signed b (magnitude (suc i)))) s')

-- ---- the entry point's ways out
-- a block that nothing is wanted of
abbrev pub any : Wanted
any = record { skip = false; rdpcm = of_rdpcm.None; levels = [] }

module _ (c : ℕ) (z : ℤ) (room : List ℕ) where
  pub refused_first : (n : ℕ) → n ≡ component_refusal c → (n ≡ 0 → ⊥) → bins_written (Err n) room ≡ write_bins c z room
  unfolding write_bins
  refused_first n q h = go (component_refusal c) q
    where
      go : (k : ℕ) → n ≡ k → bins_written (Err n) room ≡ write_bins_by (k or_else scale_refusal z) c z room
      go zero u = absurd (h u)
      go (suc k) u = unfold write_bins_by ◌or_else◌ in ap (λ m. bins_written (Err m) room) u

  module _ (h : 0 ≡ component_refusal c) where
    pub refused_second : is_scale z ≡ false → bins_written (Err 4) room ≡ write_bins c z room
    refused_second e = sym (writes_refused c z room h e)

    module _ (e : is_scale z ≡ true) where
      list : (l : List ℕ) × ReadsAs c l z × (write (scale c) z ≡ Written.ok z l)
      list = written c z e

      -- what was written has come to its end
      put_sheet : (s s' : Sheet) → Wrote (scale_s (only z) c) (done z) any s s' → entered_all list.0 s ≡ s'
      unfolding write entered_all
      put_sheet s s' p =
          let d = p.leads z list.0 (scale_same c (only z) (λ t. t) any z refl ∙ list.2) in
          let em : d.0 ≡ [] = cc in
          d.2 ∙ ap (λ (l : List ℕ). entered_all l s') em

      -- counted out
      module _ (room' : List ℕ) (pen : Pen) (p : Wrote (scale_s (only z) c) (done z) any (sheet room (pen_at 0 false false)) (sheet room' pen)) where
        counted : entered_all list.0 (sheet room (pen_at 0 false false)) ≡ sheet room' pen
        counted = put_sheet (sheet room (pen_at 0 false false)) (sheet room' pen) p

        room_same : room' ≡ room
        room_same = counted_same room list.0 room' pen counted

        -- 12
        pub no_room : pen.over ≡ true → bins_written (Err 12) room' ≡ write_bins c z room
        no_room o =
            ap (λ r. bins_written (Err 12) r) room_same
            ∙ sym (writes_over c z room h e z list.0 list.2 (counted_long room list.0 room' pen counted o))

        -- written
        pub all_written : pen.over ≡ false → (room'' : List ℕ) (pen' : Pen)
            → Wrote (scale_s (only z) c) (done z) any (sheet room' (pen_at 0 false true)) (sheet room'' pen') → bins_written (Ok pen'.at) room'' ≡ write_bins c z room
        all_written o room'' pen' q =
            let l = list.0 in
            let k : length l ≤ length room = counted_short room l room' pen counted o in
            let f : sheet room'' pen' ≡ sheet (l ++ drop (length l) room) (pen_at (length l) false true) =
            sym (put_sheet (sheet room' (pen_at 0 false true)) (sheet room'' pen') q)
            ∙ ap (λ r. entered_all l (sheet r (pen_at 0 false true))) room_same ∙ written_all l room k in
            ap (λ (t : Sheet). bins_written (Ok t.pen.at) t.room) f ∙ sym (writes_fits c z room h e z l list.2 k)
