-- What a tree's writing leads to hangs on its list alone: what a function of the code says of a tree with wants that nothing looks at, it says of every
-- tree that writes the same. Assumes nothing.
use Prim.Native.Nat.{ℕ, zero, suc, ◌+◌, ◌-◌, ◌*◌, ◌/◌, ◌^◌, ◌≤◌, ◌<◌}
use Rattle.std.proofs.Math.Path.{◌≡◌, refl, ap}
use Rattle.std.proofs.Common.{sym, subst, ◌∙◌, arith, ltb-true, ltb-false, lt-ltb, le-ltb}
use Rattle.std.specs.Prelude.{Bool, ltb, leb}
use Rattle.std.proofs.Math.Bool.{true, false}
use Rattle.std.proofs.lemmas.Bool.{lt-leb}
use Rattle.bins.specs.Engine.{bit_no}
use Rattle.bins.specs.Tags.{tag, bypass_no}
use Rattle.bins.specs.Syn.{Syn, done, stop, ◌>>=◌, also, write}
use Rattle.bins.specs.Readers.{odd, bits_s, ones_s}
use Rattle.trees.specs.Shapes.{eg_base, count_s, golomb_s}
use Rattle.trees.specs.Pick.{pick}
use Rattle.pen.specs.Sheet.{Sheet, Wrote, Counts}
use Rattle.pen.specs.SheetLaws.{wrote_then, wrote_call}

wrote_same : {B C A : Type 0} (t u : Syn B A) (w : B) (t' u' : Syn C A) (w' : C) (s s' : Sheet) → write t w ≡ write t' w' → write u w ≡ write u' w'
    → Wrote t u w s s' → Wrote t' u' w' s s'
wrote_same t u w t' u' w' s s' p q h = record { leads = λ a l e. let x = h.leads a l (p ∙ e) in (x.0, sym q ∙ x.1, x.2) }

done_same : {B C A : Type 0} (a : A) (w : B) (w' : C) → write {B = B} (done a) w ≡ write {B = C} (done a) w'
unfolding write
done_same a w w' = refl

-- ---- wants that nothing looks at
abbrev pub bits_p : ℕ → ℕ → Syn ℕ ℕ
bits_p n v = bits_s n 0 (λ t. v)

abbrev pub ones_p : ℕ → ℕ → Syn ℕ ℕ
ones_p most n = ones_s most 0 (λ g t. ltb g n)

abbrev pub count_p : (ℕ → ℕ) → ℕ → ℕ → Syn ℕ ℕ
count_p ctx most n = count_s ctx most 0 (λ g t. ltb g n)

pub counts_plain : (n most w : ℕ) → Counts (λ g (t : ℕ). ltb g n) w n most
counts_plain n most w = (λ g h. lt-ltb g n h, λ h. le-ltb n n (omega arith))

-- ---- bits
module _ {B C : Type 0} (w : B) (w' : C) where
  bits_same : (n x : ℕ) (v : B → ℕ) (v' : C → ℕ) → v w ≡ v' w' → write (bits_s n x v) w ≡ write (bits_s n x v') w'
  unfolding bits_s write
  bits_same zero x v v' q = refl
  bits_same (suc n) x v v' q =
      let o : odd (v w / 2 ^ n) ≡ odd (v' w' / 2 ^ n) = ap (λ i. odd (i / 2 ^ n)) q in
      ap (λ b. also (tag bypass_no b) (write (bits_s n (x * 2 + bit_no b) v) w)) o
      ∙ ap (also (tag bypass_no (odd (v' w' / 2 ^ n)))) (bits_same n (x * 2 + bit_no (odd (v' w' / 2 ^ n))) v v' q)

  -- ---- ones, up to the same count
  both : (c g : ℕ) (t : Syn B ℕ) (t' : Syn C ℕ) (b b' : Bool) → b ≡ b' → (b ≡ true → write t w ≡ write t' w')
      → also {A = ℕ} (tag c b) (write {B = B} (elim b [ true ↦ t | false ↦ done g ]) w) ≡ also {A = ℕ} (tag c b') (write {B = C} (elim b' [ true ↦ t' | false ↦ done g ]) w')
  unfolding write
  both c g t t' true true q f = ap (also (tag c true)) (f refl)
  both c g t t' false false q f = refl
  both c g t t' true false q f = let z : ◌≡◌ {A = ℕ} 0 1 = cc in absurd (omega arith)
  both c g t t' false true q f = let z : ◌≡◌ {A = ℕ} 0 1 = cc in absurd (omega arith)

  module _ (k top : ℕ) (v : ℕ → B → Bool) (v' : ℕ → C → Bool) (c : Counts v w k top) (c' : Counts v' w' k top) where
    same_bit : (g : ℕ) → g ≤ k → g < top → v g w ≡ v' g w'
    same_bit g h t = go (ltb g k) refl
      where
        go : (d : Bool) → ltb g k ≡ d → v g w ≡ v' g w'
        go true q = let l = ltb-true g k q in c.0 g l ∙ sym (c'.0 g l)
        go false q =
            let e : k ≡ g = let l = ltb-false g k q in omega arith in
            subst (λ i. v i w ≡ v' i w') e (c.1 (omega arith) ∙ sym (c'.1 (omega arith)))

    below : (g : ℕ) → g ≤ k → g < top → v g w ≡ true → suc g ≤ k
    below g h t q = go (ltb g k) refl
      where
        go : (d : Bool) → ltb g k ≡ d → suc g ≤ k
        go true e = ltb-true g k e
        go false e =
            let s : k ≡ g = let l = ltb-false g k e in omega arith in
            let f : v g w ≡ false = subst (λ i. v i w ≡ false) s (c.1 (omega arith)) in
            let z : ◌≡◌ {A = ℕ} 0 1 = cc in absurd (omega arith)

    ones_same : (n g : ℕ) → g ≤ k → g + n ≡ top → write (ones_s n g v) w ≡ write (ones_s n g v') w'
    unfolding ones_s write
    ones_same zero g h e = refl
    ones_same (suc n) g h e =
        both bypass_no g (ones_s n (suc g) v) (ones_s n (suc g) v') (v g w) (v' g w') (same_bit g h (omega arith))
        (λ q. ones_same n (suc g) (below g h (omega arith) q) (omega arith))

    count_same : (ctx : ℕ → ℕ) (n g : ℕ) → g ≤ k → g + n ≡ top → write (count_s ctx n g v) w ≡ write (count_s ctx n g v') w'
    unfolding count_s write
    count_same ctx zero g h e = refl
    count_same ctx (suc n) g h e =
        both (ctx g) g (count_s ctx n (suc g) v) (count_s ctx n (suc g) v') (v g w) (v' g w') (same_bit g h (omega arith))
        (λ q. count_same ctx n (suc g) (below g h (omega arith) q) (omega arith))

-- ---- from there to any wants
module _ {B : Type 0} (s s' : Sheet) where
  pub bits_any : (n v : ℕ) → ((w : ℕ) → Wrote (bits_p n v) (done v) w s s') → (want : B → ℕ) (w : B) → want w ≡ v → Wrote (bits_s n 0 want) (done v) w s s'
  bits_any n v h want w q =
      wrote_same (bits_p n v) (done v) 0 (bits_s n 0 want) (done v) w s s' (bits_same 0 w n 0 (λ t. v) want (sym q)) (done_same v 0 w) (h 0)

  pub ones_any : (n most : ℕ) → ((w : ℕ) → Wrote (ones_p most n) (done n) w s s') → (want : ℕ → B → Bool) (w : B) → Counts want w n most
      → Wrote (ones_s most 0 want) (done n) w s s'
  ones_any n most h want w c =
      wrote_same (ones_p most n) (done n) 0 (ones_s most 0 want) (done n) w s s'
      (ones_same 0 w n most (λ g t. ltb g n) want (counts_plain n most 0) c most 0 (omega arith) (omega arith)) (done_same n 0 w) (h 0)

  pub count_any : (ctx : ℕ → ℕ) (n most : ℕ) → ((w : ℕ) → Wrote (count_p ctx most n) (done n) w s s') → (want : ℕ → B → Bool) (w : B) → Counts want w n most
      → Wrote (count_s ctx most 0 want) (done n) w s s'
  count_any ctx n most h want w c =
      wrote_same (count_p ctx most n) (done n) 0 (count_s ctx most 0 want) (done n) w s s'
      (count_same 0 w n most (λ g t. ltb g n) want (counts_plain n most 0) c ctx most 0 (omega arith) (omega arith)) (done_same n 0 w) (h 0)

-- ---- ones, a test that does not stop them, a suffix
pub passed : {B : Type 0} (b : Bool) (t e u : Syn B ℕ) (w : B) (s s' : Sheet) → b ≡ false → Wrote u (pick b t e) w s s' → Wrote u e w s s'
passed b t e u w s s' q h = subst (λ z. Wrote u (pick z t e) w s s') q h

pub taken : {B : Type 0} (b : Bool) (t e u : Syn B ℕ) (w : B) (s s' : Sheet) → b ≡ true → Wrote u (pick b t e) w s s' → Wrote u t w s s'
taken b t e u w s s' q h = subst (λ z. Wrote u (pick z t e) w s s') q h

module _ {B : Type 0} (m : ℕ) (one : ℕ → B → Bool) (test : ℕ → Bool) (len base : ℕ → ℕ) (want : B → ℕ) (w : B) where
  abbrev pub suffixed : ℕ → Syn B ℕ
  suffixed n = bits_s (len n) 0 (λ t. want t - base n) >>= λ u. done (base n + u)

  abbrev pub escaped : Syn B ℕ
  escaped = ones_s m 0 one >>= λ n. pick (test n) (stop 8) (suffixed n)

  pub escaped_written : (v n : ℕ) (s s₁ s₂ : Sheet) → test n ≡ false → want w ≡ v → base n ≤ v → Wrote (ones_s m 0 one) (done n) w s s₁
      → ((x : B → ℕ) (t : B) → x t ≡ v - base n → Wrote (bits_s (len n) 0 x) (done (v - base n)) t s₁ s₂) → Wrote escaped (done v) w s s₂
  escaped_written v n s s₁ s₂ q e b f g =
      let next : ℕ → Syn B ℕ = λ n. pick (test n) (stop 8) (suffixed n) in
      let a : Wrote escaped (suffixed n) w s s₁ = passed (test n) (stop 8) (suffixed n) escaped w s s₁ q (wrote_then w (ones_s m 0 one) next n s s₁ f) in
      let x : want w - base n ≡ v - base n = ap (λ i. i - base n) e in
      let r = wrote_call w escaped (bits_s (len n) 0 (λ t. want t - base n)) (λ u. done (base n + u)) (v - base n) s s₁ s₂ a (g (λ t. want t - base n) w x) in
      let y : base n + (v - base n) ≡ v = omega arith in
      subst (λ i. Wrote escaped (done i) w s s₂) y r

-- ---- Exp-Golomb of order k, whose prefix for v has n ones
pub golomb_written : {B : Type 0} (most k v n : ℕ) (s s₁ s₂ : Sheet) (want : B → ℕ) (w : B) → n < most → want w ≡ v → eg_base k n ≤ v
    → Wrote (ones_s most 0 (λ g t. leb (eg_base k (suc g)) (want t))) (done n) w s s₁
    → ((x : B → ℕ) (t : B) → x t ≡ v - eg_base k n → Wrote (bits_s (n + k) 0 x) (done (v - eg_base k n)) t s₁ s₂)
    → Wrote (golomb_s most k want) (done v) w s s₂
unfolding golomb_s
golomb_written most k v n s s₁ s₂ want w h e b f g =
    escaped_written most (λ g t. leb (eg_base k (suc g)) (want t)) (λ n. leb most n) (λ n. n + k) (λ n. eg_base k n) want w v n s s₁ s₂ (lt-leb most n h) e b f g
