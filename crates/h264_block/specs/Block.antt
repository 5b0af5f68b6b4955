-- The residual syntax of one luma 4x4 block of 16 coefficients in H.264 (7.3.5.3.3) as a tree: one definition for every source of bins.
use Rattle.std.specs.Prelude.{ℕ, zero, suc, ◌+◌, ◌-◌, List, [], ◌∷◌, Bool, true, false, cond, get_or, set, replicate, ltb, leb, eqb, ℤ, pos, nat_abs}
use Rattle.bins.specs.Syn.{Syn, done, stop, bin, bypass, ◌>>=◌}
use Rattle.trees.specs.Levels.{negative, signed, in_range, down_from}
use Rattle.trees.specs.Shapes.{count_s, golomb_s}
use Rattle.h264_block.specs.Layout.{at_significance, at_last, at_magnitude}

-- what a writer wants read: 16 levels, by list place
abbrev pub S : Type 0 → Type 0
S A = Syn (List ℤ) A

abbrev pub level_at : List ℤ → ℕ → ℤ
level_at w k = get_or w k (pos 0)

abbrev pub is_sig : List ℤ → ℕ → Bool
is_sig w k = ltb 0 (nat_abs (level_at w k))

-- the places that hold a level, highest first
abbrev pub sig_places : List ℤ → List ℕ
sig_places w = down_from (is_sig w) 16

-- the first of places, highest first: the last place with a level
abbrev pub first_of : List ℕ → ℕ
first_of [] = 0
first_of (k ∷ ks) = k

-- ---- significant places
-- n places from k on have flags, behind the places ks, highest first: a significance flag, and after each 1 a last flag.
-- Place 15 has none, and is inferred if no place was last
unfoldable pub places_s : ℕ → ℕ → List ℕ → S (List ℕ)
places_s zero k ks = done (k ∷ ks)
places_s (suc n) k ks =
    bin (at_significance k) (λ w. is_sig w k) (λ b. elim b [
      | true ↦ bin (at_last k) (λ w. eqb (first_of (sig_places w)) k) (λ e. elim e [
        | true ↦ done (k ∷ ks)
        | false ↦ places_s n (suc k) (k ∷ ks)
      ])
      | false ↦ places_s n (suc k) ks
    ])

-- ---- magnitudes
-- a magnitude less 1, where v is wanted (9.3.2.3, UEG0 with uCoff 14): up to 14 ones with contexts; at 14, Exp-Golomb of order 0 in bypass bins,
-- of which a prefix of 16 ones is 8
unfoldable pub magnitude_s : ℕ → ℕ → (List ℤ → ℕ) → S ℕ
unfolding at_magnitude
magnitude_s ones bigs v =
    count_s (at_magnitude ones bigs) 14 0 (λ g w. leb (suc g) (v w)) >>= λ q. elim (ltb q 14) [
      | true ↦ done q
      | false ↦ golomb_s 16 0 (λ w. v w - 14) >>= λ x. done (14 + x)
    ]

-- the levels at places, highest first, behind so many magnitudes of 1 and so many above 1; out of range is 8, once the sign is read
unfoldable pub levels_s : List ℕ → ℕ → ℕ → List ℤ → S (List ℤ)
unfolding magnitude_s
levels_s [] ones bigs l = done l
levels_s (k ∷ ks) ones bigs l =
    magnitude_s ones bigs (λ w. nat_abs (level_at w k) - 1) >>= λ v.
    bypass (λ w. negative (level_at w k)) (λ neg. elim (in_range 15 neg (suc v)) [
      | true ↦ levels_s ks (cond (ltb 0 v) ones (suc ones)) (cond (ltb 0 v) (suc bigs) bigs) (set l k (signed neg (suc v)))
      | false ↦ stop 8
    ])

-- ---- the whole block
unfoldable pub block : S (List ℤ)
unfolding places_s levels_s
block = places_s 15 0 [] >>= λ ks. levels_s ks 0 0 (replicate 16 (pos 0))
