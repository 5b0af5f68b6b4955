-- The scale's syntax, call after call. Assumes nothing.
use Rattle.std.specs.Prelude.{ℕ, zero, suc, ◌+◌, ◌-◌, ◌*◌, ◌%◌, ◌^◌, ◌≤◌, ◌≡◌, Bool, true, false, List, leb, eqb, ℤ, pos, nat_abs, ◌-ℤ◌}
use Rattle.std.proofs.Math.Path.{refl}
use Rattle.std.proofs.Common.{sym, ap, subst, ◌∙◌, arith, SFits, to_z, of_z, to_z-of_z, eq-eqb, ne_eqb}
use Rattle.std.specs.Int.{w32}
use Rattle.bins.specs.declared.state.Interval.{Interval}
use Rattle.bins.specs.declared.state.Refusal.{Refusal}
use Rattle.bins.specs.Syn.{done, bin, ◌>>=◌, Out}
use Rattle.bins.specs.Readers.{flag_if, prefix_s}
use Rattle.bins.specs.Sources.{Cursor, cursor, by_code, Step, got}
use Rattle.bins.specs.Laws.{RefusedBy}
use Rattle.hevc_residual.specs.Wanted.{Wanted, S, negative}
use Rattle.hevc_residual.specs.Remainder.{signed}
use Rattle.hevc_elements.specs.Agree.{Reads, from, Says, SaysFlag, says_ok}
use Rattle.hevc_elements.specs.ShapeLaws.{run_done}
use Rattle.trees.specs.Every.{Free, Each, each_done, each_bin, each_bind}
use Rattle.trees.specs.Reached.{each_run}
use Rattle.hevc_head.specs.HeadLaws.{Behind, Answered, behind_number, behind_flag_lem, prefix_few}
use Rattle.hevc_cross.specs.Scale.{at_value, at_sign, magnitude, value_s, sign_s, scale_s}
use Rattle.level_sizes.specs.SignLaws.{minus_fits, minus_is, plus_is}
use Rattle.hevc_cross.specs.ScaleLaws.{rising}
use Rattle.hevc_scale_syntax.specs.Agree.{nothing}

module _ (s : Bool) (l : List ℕ) (x : Interval) (cs : List ℕ) (c : ℕ) where
  abbrev pub whole : S ℤ
  whole = scale_s nothing c

  -- v is the value read, t what is left behind it
  abbrev pub Left : ℕ → Interval → List ℕ → Type 0
  Left v y ds = Behind s l (scale_s nothing c) x cs (sign_s nothing c v) y ds

  abbrev pub NoScale : Refusal → Type 0
  NoScale n = RefusedBy n (from s l (scale_s nothing c) x cs)

  begun : Reads s l x cs → Behind s l (scale_s nothing c) x cs (value_s nothing c >>= sign_s nothing c) x cs
  unfolding scale_s
  begun h = record { reads = h; left = refl }

  module _ (r : Step) (es : List ℕ) (e : (w : ℕ → Wanted → Bool) → Says r es (from s l (prefix_s (at_value + 4 * c) 0 4 0 w) x cs)) where
    pub value_few : (v : ℕ) (z : Interval) → r ≡ got v z → v ≤ 4
    value_few v z q =
        (each_run (by_code s l) (prefix_few {B = Wanted} (at_value + 4 * c) 0 4 0 (λ g t. false) 4 (omega arith)) (cursor x cs) v (cursor z es)
        (says_ok r v z es _ (e (λ g t. false)) q)).1

    pub value_read : Reads s l x cs → Answered r (λ v z. Left v z es) NoScale
    value_read h =
        behind_number s l (scale_s nothing c) x cs (value_s nothing c) (sign_s nothing c) x cs (begun h) r es
        (e (λ g t. leb (magnitude (suc g)) (nat_abs (nothing t))))

  -- no sign behind 0
  pub none_got : (v : ℕ) (y : Interval) (ds : List ℕ) → Left v y ds → v ≡ 0 → from s l (scale_s nothing c) x cs ≡ Out.ok (pos 0) (cursor y ds)
  none_got zero y ds h q = h.left ∙ run_done s l (pos 0) y ds
  none_got (suc v) y ds h q = absurd (omega arith)

  -- the sign
  sign_left : (v : ℕ) (y : Interval) (ds : List ℕ) → Left (suc v) y ds
      → Behind s l (scale_s nothing c) x cs (flag_if true (at_sign + c) (λ (t : Wanted). negative (nothing t)) >>= λ b. done (signed b (magnitude (suc v)))) y ds
  unfolding ◌>>=◌
  sign_left v y ds h = h

  pub sign_read : (v : ℕ) (y : Interval) (ds : List ℕ) → Left v y ds → (v ≡ 0 → ⊥) → (r : Step) (es : List ℕ)
      → ((w : Wanted → Bool) → SaysFlag r es (from s l (bin (at_sign + c) w done) y ds))
      → Answered r (λ b z. from s l (scale_s nothing c) x cs ≡ Out.ok (signed (eqb b 1) (magnitude v)) (cursor z es)) NoScale
  sign_read zero y ds h k r es e = absurd (k refl)
  sign_read (suc v) y ds h k r es e =
      let a = behind_flag_lem s l (scale_s nothing c) x cs true true (at_sign + c) (at_sign + c) (λ (t : Wanted). negative (nothing t)) (λ b. done (signed b (magnitude (suc v)))) y ds
      (sign_left v y ds h) refl refl r es e in
      record {
        ok = λ b z q. (a.ok b z q).left ∙ run_done s l (signed (eqb b 1) (magnitude (suc v))) z es;
        no = a.no;
      }

-- ---- a magnitude as the code shifts it, and its sign
pub shifted_is : (v : ℕ) → 1 ≤ v → v ≤ 4 → 1 * 2 ^ (v - 1) % 4294967296 ≡ magnitude v
shifted_is zero h k = absurd (omega arith)
shifted_is (suc zero) h k = refl
shifted_is (suc (suc zero)) h k = refl
shifted_is (suc (suc (suc zero))) h k = refl
shifted_is (suc (suc (suc (suc zero)))) h k = refl
shifted_is (suc (suc (suc (suc (suc v))))) h k = absurd (omega arith)

magnitude_few : (v : ℕ) → v ≤ 4 → magnitude v ≤ 8
magnitude_few v k = omega (arith, rising v 4 k (omega arith))

-- m is the magnitude of v
module _ (v : ℕ) (k : v ≤ 4) (m : ℕ) (q : m ≡ magnitude v) where
  few : m ≤ 8
  few = omega (arith, magnitude_few v k)

  pub plus_fits : SFits w32 (pos m)
  plus_fits = record { sfits = omega (arith, few) }

  pub minus_few : SFits w32 (pos 0 -ℤ to_z w32 m)
  minus_few = minus_fits m (omega (arith, few))

  pub minus_value : (sign : ℕ) → sign ≡ 1 → to_z w32 (of_z w32 (pos 0 -ℤ to_z w32 m)) ≡ signed (eqb sign 1) (magnitude v)
  minus_value sign e = minus_is (eqb sign 1) m (eq-eqb sign 1 e) (omega (arith, few)) ∙ ap (signed (eqb sign 1)) q

  pub plus_value : (sign : ℕ) → (sign ≡ 1 → ⊥) → to_z w32 m ≡ signed (eqb sign 1) (magnitude v)
  plus_value sign e = plus_is (eqb sign 1) m (ne_eqb sign 1 e) (omega (arith, few)) ∙ ap (signed (eqb sign 1)) q

-- a scale handed on as 32 bits stays as it is
scale_fits : (d : Bool) (m : ℕ) → m ≤ 8 → SFits w32 (signed d m)
scale_fits true zero h = record { sfits = omega arith }
scale_fits true (suc m) h = record { sfits = omega arith }
scale_fits false zero h = record { sfits = omega arith }
scale_fits false (suc m) h = record { sfits = omega arith }

pub scale_kept : (v : ℕ) (d : Bool) → v ≤ 4 → (y : ℤ) → y ≡ signed d (magnitude v) → signed d (magnitude v) ≡ to_z w32 (of_z w32 y)
scale_kept v d h y q = sym (to_z-of_z (subst (SFits w32) (sym q) (scale_fits d (magnitude v) (magnitude_few v h))) ∙ q)

-- ---- every scale that is read fits 32 bits
sign_few : (c v m : ℕ) → v ≤ 4 → Each Free (λ z k. SFits w32 z) m (sign_s nothing c v)
sign_few c zero m h = each_done (scale_fits false 0 (omega arith))
sign_few c (suc v) m h = each_bin tt (λ b. each_done (scale_fits b (magnitude (suc v)) (magnitude_few (suc v) h)))

pub scale_stays : (s : Bool) (l : List ℕ) (x : Interval) (cs : List ℕ) (c : ℕ) (z : ℤ) (y : Cursor) → from s l (scale_s nothing c) x cs ≡ Out.ok z y → to_z w32 (of_z w32 z) ≡ z
unfolding scale_s
scale_stays s l x cs c z y q =
    to_z-of_z (each_run (by_code s l)
    (each_bind (prefix_few (at_value + 4 * c) 0 4 0 (λ g t. leb (magnitude (suc g)) (nat_abs (nothing t))) 4 (omega arith)) (sign_few c))
    (cursor x cs) z y q).1
