-- The small choices of a sub-block's code. Assumes nothing.
use Rattle.std.specs.Prelude.{ℕ, suc, ◌+◌, ◌*◌, ◌%◌, ◌≤◌, ◌<◌, ◌≡◌, refl, Bool, true, false, not, ◌||◌, cond, List, [], ◌∷◌, get_or, eqb}
use Rattle.std.proofs.Common.{sym, ap, ◌∙◌, arith, mod-eq_of_lt, mul-le-mul_right, lt-ltb, le-ltb, eq-eqb, ne_eqb}
use Rattle.bins.specs.Engine.{bit_no}
use Rattle.hevc_residual.specs.Layout.{at_coded_sub_block, in_chroma}
use Rattle.hevc_places.specs.declared.places.Places.{Places}
use Rattle.hevc_places.specs.Packing.{unpack}
use Rattle.hevc_rules.specs.SubsAgree.{coded_at, near, flag_number, Met}
use Rattle.hevc_residual.specs.Residual.{ctx_set_by}

-- ---- coded neighbours
module _ (l : List Bool) (w x y : ℕ) where
  pub coded_right : w ≤ x → 0 ≡ bit_no (coded_at l w x y)
  coded_right h = rw (le-ltb x w h)

  pub coded_under : x < w → w ≤ y → 0 ≡ bit_no (coded_at l w x y)
  coded_under h k = rw (lt-ltb x w h, le-ltb y w k)

  pub coded_yes : x < w → y < w → get_or l (y * w + x) false ≡ true → 1 ≡ bit_no (coded_at l w x y)
  coded_yes h k q = rw (lt-ltb x w h, lt-ltb y w k, q)

  pub coded_no : x < w → y < w → get_or l (y * w + x) false ≡ false → 0 ≡ bit_no (coded_at l w x y)
  coded_no h k q = rw (lt-ltb x w h, lt-ltb y w k, q)

  pub grid_inside : x < w → y < w → y * w + x < w * w
  grid_inside h k = let m : suc y * w ≤ w * w = mul-le-mul_right w k in omega arith

bit_most : (b : Bool) → bit_no b ≤ 1
bit_most true = omega arith
bit_most false = omega arith

pub bits_most : (b : Bool) → bit_no b ≤ 1
bits_most b = bit_most b

-- ---- the flag's context
pub flag_number_is : (l : List Bool) (w x y : ℕ) (luma : Bool) (n : ℕ) → n ≡ near l w x y
    → flag_number luma n ≡ at_coded_sub_block + in_chroma luma 2 + bit_no (coded_at l w (x + 1) y || coded_at l w x (y + 1))
flag_number_is l w x y luma n q = go (coded_at l w (x + 1) y) (coded_at l w x (y + 1)) q
  where
    go : (a b : Bool) → n ≡ bit_no a + 2 * bit_no b → flag_number luma n ≡ at_coded_sub_block + in_chroma luma 2 + bit_no (a || b)
    go true true e = rw e
    go true false e = rw e
    go false true e = rw e
    go false false e = rw e

-- ---- the places met
pub met_last : (i last lastin : ℕ) (s : Places) → i ≡ last → lastin ≤ 15 → s ≡ record { packed = lastin; count = 1 } → Met i last lastin s
unfolding unpack
met_last i last lastin s q h e =
    let m : lastin % 16 ≡ lastin = mod-eq_of_lt (omega arith) in
    let t = eq-eqb i last q in
    record {
      packs = rw e (record { small = omega arith; few = omega arith });
      places = rw (e, t) (ap (λ k. k ∷ []) m);
      few = rw e (omega arith);
      none = λ f. let z : ◌≡◌ {A = Bool} true false = sym t ∙ f in let y : ◌≡◌ {A = ℕ} 0 1 = cc in absurd (omega arith);
    }

pub met_none : (i last lastin : ℕ) (s : Places) → (i ≡ last → ⊥) → s ≡ record { packed = 0; count = 0 } → Met i last lastin s
unfolding unpack
met_none i last lastin s q e =
    let t = ne_eqb i last q in
    record { packs = rw e (record { small = omega arith; few = omega arith }); places = rw (e, t); few = rw e (omega arith); none = λ f. rw e refl }

pub square_small : (w : ℕ) → w ≤ 8 → w * w ≤ 64
square_small w h = let a : w * w ≤ 8 * w = mul-le-mul_right w h in omega arith

-- ---- the greater1 set
pub set_first : (luma : Bool) (i : ℕ) (first : Bool) (carry n : ℕ) → first ≡ true → (n ≡ cond (eqb i 0 || not luma) 0 2) × (n ≤ 2)
    → (n ≡ ctx_set_by luma i first carry) × (n ≤ 3)
set_first luma i first carry n q h = (h.0 ∙ rw q (omega arith), omega (arith, h.1))

pub set_more : (luma : Bool) (i : ℕ) (first : Bool) (carry n : ℕ) → first ≡ false → carry ≡ 0 → (n ≡ cond (eqb i 0 || not luma) 0 2) × (n ≤ 2)
    → (n + 1 ≡ ctx_set_by luma i first carry) × (n + 1 ≤ 3)
set_more luma i first carry n q z h = (rw (q, z) (ap (λ k. k + 1) h.0), omega (arith, h.1))

pub set_same : (luma : Bool) (i : ℕ) (first : Bool) (carry n : ℕ) → first ≡ false → (carry ≡ 0 → ⊥) → (n ≡ cond (eqb i 0 || not luma) 0 2) × (n ≤ 2)
    → (n ≡ ctx_set_by luma i first carry) × (n ≤ 3)
set_same luma i first carry n q z h = (h.0 ∙ rw (q, ne_eqb carry 0 z) (omega arith), omega (arith, h.1))
