-- The scale's tree, exact: every list reads as one of the nine, and what is written for one of them reads as it. Assumes nothing.
use Prim.Native.Nat.{ℕ, zero, suc, ◌+◌, ◌*◌, ◌/◌, ◌^◌, ◌≤◌, ◌<◌}
use Rattle.std.specs.Prelude.{◌≡◌, refl, Bool, true, false, cond, ◌||◌, List, [], ltb, leb, eqb, ℤ, negsuc}
use Rattle.std.proofs.Common.{sym, ap, ◌∙◌, pow-suc, pow_pos, pow_mono, ltb-true, ltb-false, eqb-true}
use Rattle.std.proofs.Math.Path.{subst}
use native.Mathlib.Omega.{arith}
use Rattle.std.proofs.Math.IntN.{pos, nat_abs}
use Rattle.bins.specs.Syn.{Syn, done, bin, ◌>>=◌, Took, took, refused, Source, Out, onward, run, Written, also, write}
use Rattle.bins.specs.Tags.{context_count, tag}
use Rattle.bins.specs.Readers.{prefix_s}
use Rattle.bins.specs.WriteLaws.{behind, then_write, write_bind}
use Rattle.bins.specs.Laws.{run_bind, then_run}
use Rattle.hevc_residual.specs.Wanted.{negative}
use Rattle.hevc_residual.specs.Remainder.{signed}
use Rattle.trees.specs.TreeLaws.{Writes, writes_done, writes_bin, writes_bind, Exact, exact_done, exact_bin, exact_bind}
use Rattle.trees.specs.ReaderLaws.{Rising, Group, prefix_writes, prefix_exact}
use Rattle.hevc_cross.specs.Scale.{at_value, at_sign, magnitude, value_s, sign_s, scale_s, is_scale}

-- the contexts that are lent end with those of the sign
pub all_lent : at_sign + 2 ≡ context_count
all_lent = refl

-- ---- magnitudes rise
pub rising : Rising magnitude 4
rising zero j h k = omega arith
rising (suc i) zero h k = absurd (omega arith)
rising (suc i) (suc j) h k = pow_mono {i = i} {j = j} (omega arith)

pub rises : (v : ℕ) → magnitude v < magnitude (suc v)
rises zero = omega arith
rises (suc v) = let p = pow-suc 2 v in let q = pow_pos v in omega (arith, p, q)

-- the value of a magnitude is found between its bounds
pub group_value : (m a v : ℕ) → Group magnitude 4 m a → v ≤ 4 → m ≡ magnitude v → a ≡ v
group_value m a v g h e = go (ltb a v) refl (ltb v a) refl
  where
    go : (x : Bool) → ltb a v ≡ x → (y : Bool) → ltb v a ≡ y → a ≡ v
    go true p y q =
        let i : a < v = ltb-true a v p in
        absurd (omega (arith, g.over (omega arith), rising (suc a) v (omega arith) h))
    go false p true q =
        let i : v < a = ltb-true v a q in
        absurd (omega (arith, g.under, rises v, rising (suc v) a (omega arith) g.upto))
    go false p false q = omega (arith, ltb-false a v p, ltb-false v a q)

-- ---- the nine
pub is_magnitude : (z : ℤ) → is_scale z ≡ true → (v : ℕ) × (v ≤ 4) × (nat_abs z ≡ magnitude v)
unfolding is_scale
is_magnitude z q = go (nat_abs z) (eqb (nat_abs z) 0) refl (eqb (nat_abs z) 1) refl (eqb (nat_abs z) 2) refl (eqb (nat_abs z) 4) refl (eqb (nat_abs z) 8) refl q
  where
    go : (m : ℕ) (a : Bool) → eqb m 0 ≡ a → (b : Bool) → eqb m 1 ≡ b → (c : Bool) → eqb m 2 ≡ c → (d : Bool) → eqb m 4 ≡ d → (e : Bool) → eqb m 8 ≡ e
        → (a || (b || (c || (d || e)))) ≡ true → (v : ℕ) × (v ≤ 4) × (m ≡ magnitude v)
    go m true p b p₁ c p₂ d p₃ e p₄ q = (0, omega arith, eqb-true m 0 p)
    go m false p true p₁ c p₂ d p₃ e p₄ q = (1, omega arith, eqb-true m 1 p₁)
    go m false p false p₁ true p₂ d p₃ e p₄ q = (2, omega arith, eqb-true m 2 p₂)
    go m false p false p₁ false p₂ true p₃ e p₄ q = (3, omega arith, eqb-true m 4 p₃)
    go m false p false p₁ false p₂ false p₃ true p₄ q = (4, omega arith, eqb-true m 8 p₄)
    go m false p false p₁ false p₂ false p₃ false p₄ q = let z : ◌≡◌ {A = ℕ} 0 1 = cc in absurd (omega arith)

pub signed_back : (z : ℤ) (m : ℕ) → nat_abs z ≡ m → signed (negative z) m ≡ z
signed_back (pos n) m q = ap pos (sym q)
signed_back (negsuc n) zero q = absurd (omega arith)
signed_back (negsuc n) (suc m) q = let e : m ≡ n = omega arith in ap negsuc e

pub zero_back : (z : ℤ) → nat_abs z ≡ 0 → pos 0 ≡ z
zero_back (pos n) q = ap pos (sym q)
zero_back (negsuc n) q = absurd (omega arith)

-- ---- written
module _ {B : Type 0} (w : B → ℤ) (c : ℕ) (b : B) where
  pub scale_writes : is_scale (w b) ≡ true → Writes (scale_s w c) b (λ a. a ≡ w b)
  unfolding scale_s
  scale_writes h =
      let m = is_magnitude (w b) h in
      writes_bind (prefix_writes magnitude 4 (λ t. nat_abs (w t)) b (at_value + 4 * c) 0 (omega arith))
      (λ a g. signed-writes a (subst (λ v. nat_abs (w b) ≡ magnitude v) (sym (group_value (nat_abs (w b)) a m.0 g m.1 m.2)) m.2))
    where
      signed-writes : (a : ℕ) → nat_abs (w b) ≡ magnitude a → Writes (sign_s w c a) b (λ z. z ≡ w b)
      signed-writes zero e = writes_done (zero_back (w b) e)
      signed-writes (suc v) e = writes_bin (writes_done (signed_back (w b) (magnitude (suc v)) e))

-- ---- read
-- what a value and a sign say
says_value : (z : ℤ) (v : ℕ) (d : Bool) → v ≤ 3 → signed d (magnitude (suc v)) ≡ z → Group magnitude 4 (nat_abs z) (suc v) × (negative z ≡ d)
says_value z v d h q = subst (λ (y : ℤ). Group magnitude 4 (nat_abs y) (suc v) × (negative y ≡ d)) q (of (magnitude (suc v)) d (pow_pos v) refl)
  where
    group : (m : ℕ) → m ≡ magnitude (suc v) → Group magnitude 4 m (suc v)
    group m e = record { upto = omega arith; under = omega arith; over = λ k. omega (arith, rises (suc v)) }

    of : (m : ℕ) (d : Bool) → 0 < m → m ≡ magnitude (suc v) → Group magnitude 4 (nat_abs (signed d m)) (suc v) × (negative (signed d m) ≡ d)
    of zero d k e = absurd (omega arith)
    of (suc m) true k e = (group (suc m) e, refl)
    of (suc m) false k e = (group (suc m) e, refl)

pub none_nine : is_scale (pos 0) ≡ true
unfolding is_scale
none_nine = refl

pub nine : (v : ℕ) (d : Bool) → v ≤ 3 → is_scale (signed d (magnitude (suc v))) ≡ true
unfolding is_scale
nine zero true h = refl
nine zero false h = refl
nine (suc zero) true h = refl
nine (suc zero) false h = refl
nine (suc (suc zero)) true h = refl
nine (suc (suc zero)) false h = refl
nine (suc (suc (suc zero))) true h = refl
nine (suc (suc (suc zero))) false h = refl
nine (suc (suc (suc (suc v)))) d h = absurd (omega arith)

module _ {B : Type 0} (w : B → ℤ) (c : ℕ) (b : B) where
  pub scale_exact : Exact (scale_s w c) b (λ a. is_scale a ≡ true) (λ a. a ≡ w b)
  unfolding scale_s
  scale_exact = exact_bind (prefix_exact magnitude 4 (λ t. nat_abs (w t)) b rising (at_value + 4 * c) 0) signed-exact
    where
      none-wanted : pos 0 ≡ w b → Group magnitude 4 (nat_abs (w b)) 0
      none-wanted q = subst (λ (z : ℤ). Group magnitude 4 (nat_abs z) 0) q (record { upto = omega arith; under = omega arith; over = λ k. omega arith })

      signed-exact : (a : ℕ) → a ≤ 4 → Exact (sign_s w c a) b (λ z. (is_scale z ≡ true) × (z ≡ w b → Group magnitude 4 (nat_abs (w b)) a)) (λ z. z ≡ w b)
      signed-exact zero h = exact_done (none_nine, none-wanted)
      signed-exact (suc v) h = exact_bin (λ d. exact_done
          ((nine v d (omega arith), λ q. (says_value (w b) v d (omega arith) q).0), λ q. (says_value (w b) v d (omega arith) q).1))

-- ---- no source looks at what is wanted
onward_any : {S A : Type 0} (t : Took S) (s : S) (f g : Bool → S → Out S A) → ((d : Bool) (s' : S) → f d s' ≡ g d s') → onward t s f ≡ onward t s g
unfolding onward
onward_any (took d s') s f g h = h d s'
onward_any (refused n) s f g h = refl

prefix_any : {S B C : Type 0} (src : Source S) (base sh n g : ℕ) (w : ℕ → B → Bool) (v : ℕ → C → Bool) (s : S)
    → run src (prefix_s base sh n g w) s ≡ run src (prefix_s base sh n g v) s
unfolding run prefix_s
prefix_any src base sh zero g w v s = refl
prefix_any {B = B} {C = C} src base sh (suc n) g w v s =
    onward_any (src.on_bin (base + g / 2 ^ sh) s) s
    (λ d s'. run {B = B} src (elim d [ true ↦ prefix_s base sh n (suc g) w | false ↦ done g ]) s')
    (λ d s'. run {B = C} src (elim d [ true ↦ prefix_s base sh n (suc g) v | false ↦ done g ]) s')
    (λ d s'. elim d as (λ x. run src (elim x as (λ y. Syn B ℕ) [ true ↦ prefix_s base sh n (suc g) w | false ↦ done g ]) s' ≡ run src (elim x as (λ y. Syn C ℕ) [ true ↦ prefix_s base sh n (suc g) v | false ↦ done g ]) s') [ true ↦ prefix_any src base sh n (suc g) w v s' | false ↦ refl ])

sign_any : {S B C : Type 0} (src : Source S) (c : ℕ) (w : B → ℤ) (v : C → ℤ) (a : ℕ) (s : S) → run src (sign_s w c a) s ≡ run src (sign_s v c a) s
unfolding run
sign_any src c w v zero s = refl
sign_any src c w v (suc a) s = refl

then_any : {S B C : Type 0} (src : Source S) (c : ℕ) (w : B → ℤ) (v : C → ℤ) (o : Out S ℕ) → then_run src (sign_s w c) o ≡ then_run src (sign_s v c) o
then_any src c w v (Out.ok a s) = sign_any src c w v a s
then_any src c w v (Out.no n s) = refl

pub scale_any : {S B C : Type 0} (src : Source S) (c : ℕ) (w : B → ℤ) (v : C → ℤ) (s : S) → run src (scale_s w c) s ≡ run src (scale_s v c) s
unfolding scale_s
scale_any src c w v s =
    run_bind src (value_s w c) (sign_s w c) s
    ∙ ap (then_run src (sign_s w c)) (prefix_any src (at_value + 4 * c) 0 4 0 (λ g t. leb (magnitude (suc g)) (nat_abs (w t))) (λ g t. leb (magnitude (suc g)) (nat_abs (v t))) s)
    ∙ then_any src c w v (run src (value_s v c) s)
    ∙ sym (run_bind src (value_s v c) (sign_s v c) s)

-- ---- and what is written is told by the scale alone
prefix_same : {B C : Type 0} (base sh n g : ℕ) (w : ℕ → B → Bool) (v : ℕ → C → Bool) (b : B) (t : C) → ((i : ℕ) → w i b ≡ v i t)
    → write (prefix_s base sh n g w) b ≡ write (prefix_s base sh n g v) t
unfolding write prefix_s
prefix_same base sh zero g w v b t h = refl
prefix_same {B = B} {C = C} base sh (suc n) g w v b t h =
    ap (λ d. also (tag (base + g / 2 ^ sh) d) (write {B = B} {A = ℕ} (elim d [ true ↦ prefix_s base sh n (suc g) w | false ↦ done g ]) b)) (h g)
    ∙ ap (also (tag (base + g / 2 ^ sh) (v g t))) (next (v g t) (prefix_same base sh n (suc g) w v b t h))
  where
    next : (d : Bool) → write (prefix_s base sh n (suc g) w) b ≡ write (prefix_s base sh n (suc g) v) t
        → write {B = B} {A = ℕ} (elim d [ true ↦ prefix_s base sh n (suc g) w | false ↦ done g ]) b ≡ write {B = C} {A = ℕ} (elim d [ true ↦ prefix_s base sh n (suc g) v | false ↦ done g ]) t
    next true q = q
    next false q = refl

sign_same : {B C : Type 0} (c : ℕ) (w : B → ℤ) (v : C → ℤ) (b : B) (t : C) → w b ≡ v t → (a : ℕ) → write (sign_s w c a) b ≡ write (sign_s v c a) t
unfolding write
sign_same c w v b t h zero = refl
sign_same c w v b t h (suc a) = ap (λ (z : ℤ). also (tag (at_sign + c) (negative z)) (Written.ok (signed (negative z) (magnitude (suc a))) [])) h

then_same : {B C : Type 0} (c : ℕ) (w : B → ℤ) (v : C → ℤ) (b : B) (t : C) → w b ≡ v t → (o : Written ℕ) → then_write (sign_s w c) b o ≡ then_write (sign_s v c) t o
then_same c w v b t h (Written.ok a l) = ap (behind l) (sign_same c w v b t h a)
then_same c w v b t h (Written.no n) = refl

pub scale_same : {B C : Type 0} (c : ℕ) (w : B → ℤ) (v : C → ℤ) (b : B) (t : C) → w b ≡ v t → write (scale_s w c) b ≡ write (scale_s v c) t
unfolding scale_s
scale_same c w v b t h =
    write_bind (value_s w c) (sign_s w c) b
    ∙ ap (then_write (sign_s w c) b) (prefix_same (at_value + 4 * c) 0 4 0 (λ g t. leb (magnitude (suc g)) (nat_abs (w t))) (λ g t. leb (magnitude (suc g)) (nat_abs (v t))) b t
    (λ i. ap (λ z. leb (magnitude (suc i)) (nat_abs z)) h))
    ∙ then_same c w v b t h (write (value_s v c) t)
    ∙ sym (write_bind (value_s v c) (sign_s v c) t)
