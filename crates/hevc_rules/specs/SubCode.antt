-- One sub-block over what its code has: where it lies, the places that it begins with, the contexts that it asks for. Assumes nothing.
use Rattle.std.specs.Prelude.{ℕ, ◌+◌, ◌-◌, ◌*◌, ◌^◌, ◌≤◌, ◌<◌, ◌≡◌, refl, Bool, true, false, ◌&&◌, cond, List, [], length, get_or, set, eqb}
use Rattle.std.proofs.Common.{sym, ap, subst, ◌∙◌, arith, length-set, eq-eqb}
use Rattle.bins.specs.Tags.{context_count}
use Rattle.tables.specs.Table.{le_below}
use Rattle.hevc_residual.specs.declared.params.Params.{Params}
use Rattle.hevc_residual.specs.Scan.{spot}
use Rattle.hevc_residual.specs.Wanted.{width, outer_of}
use Rattle.hevc_residual.specs.Head.{skip_or_bypass}
use Rattle.hevc_head_rules.specs.declared.head.Head.{Head}
use Rattle.hevc_places.specs.declared.places.Places.{Places}
use Rattle.hevc_places.specs.declared.places.SigNumbers.{SigNumbers}
use Rattle.hevc_places.specs.PlacesAgree.{sig_number, number_at, Numbers}
use Rattle.hevc_rules.specs.LevelsAgree.{Site}
use Rattle.hevc_rules.specs.SubsAgree.{near, Met}
use Rattle.hevc_rules.specs.SmallLaws.{grid_inside, square_small}
use Rattle.hevc_rules.specs.SubsLaws.{near_small, number_small}

-- ---- where a sub-block lies, w of them in a row
module _ (p : Params) (xs ys w : ℕ) (g : Site p xs ys) (e : w ≡ width p) where
  pub row_few : w ≤ 8
  row_few = let k : 2 ^ (p.log2 - 2) ≤ 8 = le_below (λ k. 2 ^ k) (λ _. 8) 4 tt (p.log2 - 2) (omega (arith, g.most)) in omega arith

  pub column_in : xs < w
  column_in = omega (arith, g.column)

  pub row_in : ys < w
  row_in = omega (arith, g.row)

  pub grid_few : ys * w + xs < 64
  grid_few = omega (arith, grid_inside [] w xs ys column_in row_in, square_small w row_few)

  pub flags_square : (coded : List Bool) → length coded ≡ width p * width p → length coded ≡ w * w
  flags_square coded h = h ∙ ap (λ n. n * n) (sym e)

  pub grid_in : (coded : List Bool) → length coded ≡ width p * width p → ys * w + xs < length coded
  grid_in coded h = subst (λ n. ys * w + xs < n) (sym (flags_square coded h)) (grid_inside coded w xs ys column_in row_in)

pub near_few : (coded : List Bool) (w xs ys n : ℕ) → n ≡ near coded w xs ys → n ≤ 3
near_few coded w xs ys n q = subst (λ k. k ≤ 3) (sym q) (near_small coded w xs ys)

pub marked_length : (coded : List Bool) (k n : ℕ) → length coded ≡ n → length (set coded k true) ≡ n
marked_length coded k n h = length-set coded k true ∙ h

-- ---- the places
pub places_few : (i last lastin below : ℕ) (s : Places) → Met i last lastin s → lastin ≤ 15 → below ≡ cond (eqb i last) lastin 16 → s.count + below ≤ 16
places_few i last lastin below s m h e = go (eqb i last) refl e
  where
    go : (t : Bool) → eqb i last ≡ t → below ≡ cond t lastin 16 → s.count + below ≤ 16
    go true u b = omega (arith, m.few)
    go false u b = omega (arith, m.none u)

-- ---- the contexts
-- those held are those of the syntax at every place that is asked for
pub asked_held : (p : Params) (i last lastin below : ℕ) → lastin ≤ 15 → (p.log2 ≡ 2 → i ≡ last) → below ≡ cond (eqb i last) lastin 16
    → (single : Bool) (near xs ys : ℕ) (s : SigNumbers) → Numbers p single near xs ys s → (k : ℕ) → k < below → number_at s k ≡ sig_number p single near xs ys k
asked_held p i last lastin below h o e single near xs ys s g k u = g.held k (go (eqb i last) e) four
  where
    go : (t : Bool) → below ≡ cond t lastin 16 → k < 16
    go true b = omega arith
    go false b = omega arith

    four : p.log2 ≡ 2 → k < 15
    four f = let w : below ≡ lastin = e ∙ ap (λ z. cond z lastin 16) (eq-eqb i last (o f)) in omega arith

module _ (p : Params) (h : Head) (last lastin i xs ys : ℕ) (q : get_or (outer_of p) i (spot 0 0) ≡ spot xs ys) where
  asked_small : (single : Bool) → single ≡ (p.skip_context && skip_or_bypass p h.skip) → (n near k : ℕ) → Site p xs ys → lastin ≤ 15
      → (p.log2 ≡ 2 → i ≡ last) → n ≡ cond (eqb i last) lastin 16 → k < n → sig_number p single near xs ys k < context_count
  asked_small single e n near k g d o b u = subst (λ (z : Bool). sig_number p z near xs ys k < context_count) (sym e) (number_small p h last lastin i xs ys q n near k g d o b u)

  pub held_small : (single : Bool) → single ≡ (p.skip_context && skip_or_bypass p h.skip) → (n near : ℕ) → Site p xs ys → lastin ≤ 15
      → (p.log2 ≡ 2 → i ≡ last) → n ≡ cond (eqb i last) lastin 16 → (s : SigNumbers) → Numbers p single near xs ys s → (k : ℕ) → k < n → number_at s k < context_count
  held_small single e n near g d o b s m k u =
      subst (λ z. z < context_count) (sym (asked_held p i last lastin n d o b single near xs ys s m k u)) (asked_small single e n near k g d o b u)
