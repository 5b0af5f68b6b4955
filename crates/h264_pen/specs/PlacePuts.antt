-- The significant places as their code puts them. Assumes nothing.
use Rattle.std.specs.Prelude.{ℕ, suc, ◌+◌, ◌-◌, ◌≤◌, ◌<◌, ◌≡◌, Bool, cond, List, [], ◌∷◌, ℤ, nat_abs, length}
use Rattle.std.proofs.Math.Path.{refl, sym, subst}
use Rattle.std.proofs.Common.{ap, ◌∙◌, arith, add-one, lt-ltb, le-ltb, eq-eqb, ne_eqb, eqb-true}
use Rattle.std.proofs.Math.Bool.{true, false}
use Rattle.std.proofs.Math.Dec.{eqb}
use Rattle.std.proofs.lemmas.Bool.{eqb-false}
use Rattle.bins.specs.Tags.{tag}
use Rattle.bins.specs.Syn.{done, bin}
use Rattle.trees.specs.Levels.{down_from}
use Rattle.trees.specs.ListLaws.{down_first}
use Rattle.pen.specs.Sheet.{Sheet, entered, Wrote}
use Rattle.pen.specs.SheetLaws.{wrote_none, wrote_on, wrote_bin}
use Rattle.h264_block.specs.Layout.{at_significance, at_last}
use Rattle.h264_block.specs.Block.{S, level_at, is_sig, sig_places, first_of, places_s}
use Rattle.h264_block.specs.PlaceLaws.{Last}
use Rattle.h264_block.specs.Writable.{Writable}

-- ---- the last place: none above k has a level
pub record Seeking (w : List ℤ) (k : ℕ) : Type 0 where
  pub few : k ≤ 16
  pub above : (j : ℕ) → k ≤ j → j < 16 → is_sig w j ≡ false

module _ (w : List ℤ) where
  pub seek_begins : Seeking w 16
  seek_begins = record { few = omega arith; above = λ j lo hi. absurd (omega arith) }

  module _ (k : ℕ) (h : Seeking w k) (some : 0 < k) where
    pub seek_on : nat_abs (level_at w (k - 1)) ≤ 0 → Seeking w (k - 1)
    seek_on z = record { few = omega (arith, h.few); above = λ j lo hi. go j lo hi (eqb j (k - 1)) refl }
      where
        go : (j : ℕ) → k - 1 ≤ j → j < 16 → (d : Bool) → eqb j (k - 1) ≡ d → is_sig w j ≡ false
        go j lo hi true q = subst (λ i. is_sig w i ≡ false) (sym (eqb-true j (k - 1) q)) (le-ltb 0 (nat_abs (level_at w (k - 1))) z)
        go j lo hi false q = h.above j (omega (arith, eqb-false j (k - 1) q)) hi

    pub seek_found : 0 < nat_abs (level_at w (k - 1)) → Last w (k - 1)
    seek_found z = record { inside = omega (arith, h.few); holds = lt-ltb 0 (nat_abs (level_at w (k - 1))) z; above = λ j lo hi. h.above j (omega arith) hi }

  pub seek_none : {X : Type 0} → Writable w → (k : ℕ) → Seeking w k → k ≤ 0 → X
  seek_none u k h z =
      let s = u.some in
      let f : is_sig w s.0 ≡ false = h.above s.0 (omega arith) s.1 in
      let t = s.2 in
      let y : ◌≡◌ {A = ℕ} 0 1 = let b : true ≡ false = sym t ∙ f in cc in absurd (omega arith)

-- ---- the flags of one place
module _ (n k : ℕ) (ks : List ℕ) where
  behind_last : Bool → S (List ℕ)
  behind_last e = elim e [ true ↦ done (k ∷ ks) | false ↦ places_s n (suc k) (k ∷ ks) ]

  behind_sig : Bool → S (List ℕ)
  behind_sig b = elim b [ true ↦ bin (at_last k) (λ w. eqb (first_of (sig_places w)) k) behind_last | false ↦ places_s n (suc k) ks ]

  is : places_s (suc n) k ks ≡ bin (at_significance k) (λ w. is_sig w k) behind_sig
  unfolding places_s behind_sig behind_last
  is = refl

  sig : (w : List ℤ) (s : Sheet) (b : Bool) → is_sig w k ≡ b → Wrote (places_s (suc n) k ks) (behind_sig b) w s (entered (tag k b) s)
  sig w s b q =
      subst (λ z. Wrote (places_s (suc n) k ks) (behind_sig z) w s (entered (tag k z) s)) q
      (subst (λ t. Wrote t (behind_sig (is_sig w k)) w s (entered (tag k (is_sig w k)) s)) (sym is) (wrote_bin w k (λ w. is_sig w k) behind_sig s))

  last : (w : List ℤ) (s : Sheet) (b : Bool) → eqb (first_of (sig_places w)) k ≡ b → Wrote (behind_sig true) (behind_last b) w s (entered (tag (15 + k) b) s)
  unfolding behind_sig
  last w s b q =
      subst (λ z. Wrote (behind_sig true) (behind_last z) w s (entered (tag (15 + k) z) s)) q (wrote_bin w (15 + k) (λ w. eqb (first_of (sig_places w)) k) behind_last s)

  module _ (w : List ℤ) (s : Sheet) where
    module _ (s₁ : Sheet) (b : Bool) (f : s₁ ≡ entered (tag k b) s) (q : is_sig w k ≡ b) where
      first : Wrote (places_s (suc n) k ks) (behind_sig b) w s s₁
      first = subst (Wrote (places_s (suc n) k ks) (behind_sig b) w s) (sym f) (sig w s b q)

      pub place_none : b ≡ false → Wrote (places_s (suc n) k ks) (places_s n (suc k) (cond b (k ∷ ks) ks)) w s s₁
      unfolding behind_sig
      place_none u =
          subst (λ z. Wrote (places_s (suc n) k ks) (places_s n (suc k) (cond z (k ∷ ks) ks)) w s s₁) (sym u)
          (subst (λ z. Wrote (places_s (suc n) k ks) (behind_sig z) w s s₁) u first)

      module _ (u : b ≡ true) (s₂ : Sheet) where
        both : (e : Bool) → s₂ ≡ entered (tag (15 + k) e) s₁ → eqb (first_of (sig_places w)) k ≡ e → Wrote (places_s (suc n) k ks) (behind_last e) w s s₂
        both e g p =
            wrote_on w (places_s (suc n) k ks) (behind_sig true) (behind_last e) s s₁ s₂
            (subst (λ z. Wrote (places_s (suc n) k ks) (behind_sig z) w s s₁) u first)
            (subst (Wrote (behind_sig true) (behind_last e) w s₁) (sym g) (last w s₁ e p))

        pub place_more : s₂ ≡ entered (tag (15 + k) false) s₁ → eqb (first_of (sig_places w)) k ≡ false
            → Wrote (places_s (suc n) k ks) (places_s n (suc k) (cond b (k ∷ ks) ks)) w s s₂
        unfolding behind_last
        place_more g p =
            subst (λ z. Wrote (places_s (suc n) k ks) (places_s n (suc k) (cond z (k ∷ ks) ks)) w s s₂) (sym u) (both false g p)

        pub place_last : s₂ ≡ entered (tag (15 + k) true) s₁ → eqb (first_of (sig_places w)) k ≡ true → Wrote (places_s (suc n) k ks) (done (k ∷ ks)) w s s₂
        unfolding behind_last
        place_last g p = both true g p

-- ---- all of them: at place k what is left to write
pub record Placing (w : List ℤ) (m : ℕ) (s : Sheet) (k : ℕ) (s' : Sheet) : Type 0 where
  pub few : k ≤ m
  pub long : length s'.room ≡ length s.room
  pub left : Wrote (places_s 15 0 []) (places_s (15 - k) k (down_from (is_sig w) k)) w s s'

module _ (w : List ℤ) (m : ℕ) (at : Last w m) (s : Sheet) where
  whole : sig_places w ≡ m ∷ down_from (is_sig w) m
  whole = down_first (is_sig w) 16 m at.inside at.holds at.above

  first_is_lem : first_of (sig_places w) ≡ m
  first_is_lem = ap first_of whole

  down_more : (k : ℕ) (d : Bool) → is_sig w k ≡ d → cond d (k ∷ down_from (is_sig w) k) (down_from (is_sig w) k) ≡ down_from (is_sig w) (suc k)
  unfolding down_from
  down_more k d e = rw e

  pub placing_begins : Placing w m s 0 s
  unfolding down_from
  placing_begins = record { few = omega arith; long = refl; left = wrote_none w (places_s 15 0 []) s }

  module _ (k : ℕ) (s₁ : Sheet) (h : Placing w m s k s₁) where
    next : k < 15 → Wrote (places_s 15 0 []) (places_s (suc (15 - (k + 1))) k (down_from (is_sig w) k)) w s s₁
    next l = let e : 15 - k ≡ suc (15 - (k + 1)) = omega arith in subst (λ i. Wrote (places_s 15 0 []) (places_s i k (down_from (is_sig w) k)) w s s₁) e h.left

    pub placing_on : k < m → (b : Bool) (s₂ : Sheet) → b ≡ is_sig w k → length s₂.room ≡ length s₁.room
        → ((w : List ℤ) (n : ℕ) (ks : List ℕ) → is_sig w k ≡ b → eqb (first_of (sig_places w)) k ≡ false → Wrote (places_s (suc n) k ks) (places_s n (suc k) (cond b (k ∷ ks) ks)) w s₁ s₂)
        → Placing w m s (k + 1) s₂
    placing_on l b s₂ q long f =
        let i = at.inside in
        let g = f w (15 - (k + 1)) (down_from (is_sig w) k) (sym q) (ne_eqb (first_of (sig_places w)) k (λ z. omega (arith, first_is_lem))) in
        let r = wrote_on w (places_s 15 0 []) (places_s (suc (15 - (k + 1))) k (down_from (is_sig w) k)) (places_s (15 - (k + 1)) (suc k) (cond b (k ∷ down_from (is_sig w) k) (down_from (is_sig w) k))) s s₁ s₂ (next (omega arith)) g in
        let t : Wrote (places_s 15 0 []) (places_s (15 - (k + 1)) (suc k) (down_from (is_sig w) (suc k))) w s s₂ =
        subst (λ z. Wrote (places_s 15 0 []) (places_s (15 - (k + 1)) (suc k) z) w s s₂) (down_more k b (sym q)) r in
        record {
          few = omega arith;
          long = long ∙ h.long;
          left = subst (λ j. Wrote (places_s 15 0 []) (places_s (15 - (k + 1)) j (down_from (is_sig w) j)) w s s₂) (sym (add-one k)) t;
        }

    module _ (over : m ≤ k) where
      here : k ≡ m
      here = omega (arith, h.few)

      -- the last place has its two flags
      pub placing_last : m < 15 → (s₂ s₃ : Sheet) → s₂ ≡ entered (tag m true) s₁ → s₃ ≡ entered (tag (15 + m) true) s₂ → Wrote (places_s 15 0 []) (done (sig_places w)) w s s₃
      placing_last l s₂ s₃ f g =
          let n : Wrote (places_s 15 0 []) (places_s (suc (15 - (m + 1))) m (down_from (is_sig w) m)) w s s₁ =
          subst (λ i. Wrote (places_s 15 0 []) (places_s (suc (15 - (i + 1))) i (down_from (is_sig w) i)) w s s₁) here (next (omega (arith, here))) in
          let p = place_last (15 - (m + 1)) m (down_from (is_sig w) m) w s₁ s₂ true f at.holds refl s₃ g (eq-eqb (first_of (sig_places w)) m first_is_lem) in
          subst (λ z. Wrote (places_s 15 0 []) (done z) w s s₃) (sym whole)
          (wrote_on w (places_s 15 0 []) (places_s (suc (15 - (m + 1))) m (down_from (is_sig w) m)) (done (m ∷ down_from (is_sig w) m)) s s₁ s₃ n p)

      -- place 15 has none
      pub placing_ended : 15 ≤ m → Wrote (places_s 15 0 []) (done (sig_places w)) w s s₁
      unfolding places_s
      placing_ended l =
          let z : 15 - k ≡ 0 = omega (arith, here) in
          let a : Wrote (places_s 15 0 []) (done (k ∷ down_from (is_sig w) k)) w s s₁ = subst (λ i. Wrote (places_s 15 0 []) (places_s i k (down_from (is_sig w) k)) w s s₁) z h.left in
          subst (λ t. Wrote (places_s 15 0 []) (done t) w s s₁) (ap (λ i. i ∷ down_from (is_sig w) i) here ∙ sym whole) a
