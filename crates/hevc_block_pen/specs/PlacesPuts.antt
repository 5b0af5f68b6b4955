-- The significance loop as its code puts it: what is left to write. Assumes nothing.
use Rattle.std.specs.Prelude.{ℕ, suc, ◌+◌, ◌-◌, ◌≤◌, ◌<◌, ◌≡◌, refl, Bool, true, false, cond, ◌&&◌, List, [], ◌∷◌, ◌++◌, ℤ, nat_abs, ltb, eqb, length}
use Rattle.std.proofs.Common.{sym, ◌∙◌}
use Rattle.std.proofs.Math.Path.{ap, subst}
use native.Mathlib.Omega.{arith}
use Rattle.bins.specs.Engine.{bit_no}
use Rattle.bins.specs.Tags.{context_count, tag}
use Rattle.bins.specs.Syn.{done, bin, ◌>>=◌}
use Rattle.hevc_residual.specs.Wanted.{Wanted, is_sig, none}
use Rattle.hevc_residual.specs.SubBlock.{places_s}
use Rattle.hevc_places.specs.declared.places.Places.{Places}
use Rattle.hevc_places.specs.Packing.{Packs, unpack, unpacked}
use Rattle.hevc_places.specs.PackingLaws.{bit_back, unpack_none}
use Rattle.hevc_places.specs.PlacesLaws.{places_end, places_more, on_from, by_infer}
use Rattle.pen.specs.Sheet.{Sheet, entered, Wrote}
use Rattle.pen.specs.SheetLaws.{entered_long, wrote_none, wrote_bin, wrote_call}
use Rattle.hevc_wanted.specs.Shown.{Shows, is_level}

module _ (levels : List ℤ) (ctx : ℕ → ℕ) (infer : Bool) (below : ℕ) (met : Places) (s : Sheet) where
  -- in the loop, with the places below k to come and those in t put
  pub record Putting (k : ℕ) (t : Places) (s' : Sheet) : Type 0 where
    pub low : k ≤ below
    pub few : t.count + k ≤ 16
    pub packs : Packs t
    pub long : length s'.room ≡ length s.room
    pub left : (lv : ℕ → Wanted → ℤ) (w : Wanted) → Shows lv w levels
        → Wrote (places_s lv ctx infer below (unpacked met)) (places_s lv ctx infer k (unpacked t)) w s s'

  pub putting_begins : Packs met → met.count + below ≤ 16 → Putting below met s
  putting_begins p r =
      record { low = omega arith; few = r; packs = p; long = refl; left = λ lv w h. wrote_none w (places_s lv ctx infer below (unpacked met)) s }

  module _ (k : ℕ) (t : Places) (s' : Sheet) (h : Putting k t s') where
    pub putting_ends : k ≤ 0 → Packs t
        × ((lv : ℕ → Wanted → ℤ) (w : Wanted) → Shows lv w levels → Wrote (places_s lv ctx infer below (unpacked met)) (done (unpacked t)) w s s')
    putting_ends z =
        let e : k ≡ 0 = omega arith in (
          h.packs,
          λ lv w sh. subst (λ u. Wrote (places_s lv ctx infer below (unpacked met)) u w s s')
              (ap (λ i. places_s lv ctx infer i (unpacked t)) e ∙ places_end lv ctx infer (unpacked t)) (h.left lv w sh),
        )

    -- a is what inferred answered
    module _ (some : 0 < k) (a : Bool) (is : a ≡ (eqb (k - 1) 0 && (infer && eqb t.count 0))) where
      turned : (lv : ℕ → Wanted → ℤ)
          → places_s lv ctx infer k (unpacked t) ≡ by_infer a (bin (ctx (k - 1)) (λ v. is_sig lv v (k - 1)) done >>= on_from lv ctx infer (k - 1) (unpacked t))
      turned lv =
          let e : k ≡ suc (k - 1) = omega arith in
          let b : (eqb (k - 1) 0 && (infer && none (unpacked t))) ≡ a =
          ap (λ z. eqb (k - 1) 0 && (infer && z)) (unpack_none t.count t.packed) ∙ sym is in
          ap (λ i. places_s lv ctx infer i (unpacked t)) e ∙ places_more lv ctx infer (k - 1) (unpacked t)
          ∙ ap (λ z. by_infer z (bin (ctx (k - 1)) (λ v. is_sig lv v (k - 1)) done >>= on_from lv ctx infer (k - 1) (unpacked t))) b

      pub putting_inferred : a ≡ true → Packs (record { packed = 0; count = 1 })
          × ((lv : ℕ → Wanted → ℤ) (w : Wanted) → Shows lv w levels → Wrote (places_s lv ctx infer below (unpacked met)) (done (unpack 0 1)) w s s')
      unfolding unpack
      putting_inferred q = (
        record { small = omega arith; few = omega arith },
        λ lv w sh. subst (λ u. Wrote (places_s lv ctx infer below (unpacked met)) u w s s')
            (turned lv ∙ ap (λ z. by_infer z (bin (ctx (k - 1)) (λ v. is_sig lv v (k - 1)) done >>= on_from lv ctx infer (k - 1) (unpacked t))) q) (h.left lv w sh),
      )

      -- v is the bin's value, m the places behind it
      pub putting_on : a ≡ false → (number : ℕ) → number ≡ ctx (k - 1) → (v : ℕ) → v ≡ bit_no (is_level levels (k - 1)) → (m : Places)
          → Packs m × (unpacked m ≡ cond (eqb v 1) (unpacked t ++ ((k - 1) ∷ [])) (unpacked t)) × (m.count ≡ t.count + v) → v ≤ 1
          → Putting (k - 1) m (entered (tag number (eqb v 1)) s')
      putting_on off number nq v vq m d few =
          let c = ctx (k - 1) in
          let sig : is_level levels (k - 1) ≡ eqb v 1 = sym (ap (λ z. eqb z 1) vq ∙ bit_back (is_level levels (k - 1))) in
          record {
            low = omega (arith, h.low);
            few = omega (arith, h.few, d.2);
            packs = d.0;
            long = entered_long (tag number (eqb v 1)) s' ∙ h.long;
            left = λ lv w sh.
                let want : Wanted → Bool = λ o. is_sig lv o (k - 1) in
                let whole = places_s lv ctx infer below (unpacked met) in
                let is-so : want w ≡ eqb v 1 = ap (λ z. ltb 0 (nat_abs z)) (sym (sh (k - 1) (omega (arith, h.few)))) ∙ sig in
                let f : Wrote whole (bin c want done >>= on_from lv ctx infer (k - 1) (unpacked t)) w s s' =
                subst (λ u. Wrote whole u w s s')
                (turned lv ∙ ap (λ z. by_infer z (bin c want done >>= on_from lv ctx infer (k - 1) (unpacked t))) off) (h.left lv w sh) in
                let g : Wrote (bin c want done) (done (eqb v 1)) w s' (entered (tag number (eqb v 1)) s') =
                subst (λ n. Wrote (bin c want done) (done (eqb v 1)) w s' (entered (tag n (eqb v 1)) s')) (sym nq)
                (subst (λ b. Wrote (bin c want done) (done b) w s' (entered (tag c b) s')) is-so (wrote_bin w c want done s')) in
                subst (λ u. Wrote whole (places_s lv ctx infer (k - 1) u) w s (entered (tag number (eqb v 1)) s')) (sym d.1)
                (wrote_call w whole (bin c want done) (on_from lv ctx infer (k - 1) (unpacked t)) (eqb v 1) s s' (entered (tag number (eqb v 1)) s') f g);
          }

-- a context's number that was worked out
pub put_number : (number m : ℕ) → number ≡ m → m < context_count → number < 32768
put_number number m q h = omega arith
