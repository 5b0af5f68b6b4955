-- The whole block as its code reads it. Assumes nothing.
use Rattle.std.specs.Prelude.{ℕ, suc, ◌+◌, ◌≤◌, ◌<◌, ◌≡◌, refl, Bool, length, get_or, set, drop, replicate, ℤ, pos, Ok, Err}
use Rattle.std.proofs.Common.{sym, subst, ◌∙◌, arith, add-one, take_all}
use Rattle.std.proofs.Math.Path.{ap}
use mathlib.Core.List.{List, [], ◌++◌}
use Rattle.std.proofs.Math.Seq.{paste, paste-zero, paste-suc}
use Rattle.std.proofs.lemmas.List.Edits.{length-paste}
use Rattle.bins.specs.declared.state.Interval.{Interval}
use Rattle.bins.specs.declared.state.Refusal.{Refusal}
use Rattle.bins.specs.Syn.{◌>>=◌}
use Rattle.bins.specs.Sources.{cursor, by_code, stopped, Step, got}
use Rattle.bins.specs.Laws.{RefusedBy, bind_ok, bind_no}
use Rattle.trees.specs.Levels.{down_from, greatest_of}
use Rattle.trees.specs.Agree.{Reads, from, reads_on}
use Rattle.h264_block.specs.Block.{S, places_s, levels_s, block}
use Rattle.trees.specs.Reached.{each_run}
use Rattle.h264_block.proofs.BlockBounds.{block_each}
use Rattle.h264_block.specs.Entries.{block_with, cleared}
use Rattle.h264_block.specs.BlockAgree.{marked, SaysPlaces, SaysLevels, SaysBlock, SaysInto}

-- ---- places, then levels
filled : List ℕ → S (List ℤ)
filled ks = levels_s ks 0 0 (replicate 16 (pos 0))

is : block ≡ (places_s 15 0 [] >>= filled)
unfolding block filled
is = refl

filled_is : (s : Bool) (l : List ℕ) (ks : List ℕ) (y : Interval) (ds : List ℕ) → from s l (filled ks) y ds ≡ from s l (levels_s ks 0 0 (replicate 16 (pos 0))) y ds
unfolding filled
filled_is s l ks y ds = refl

module _ (s : Bool) (l : List ℕ) (x : Interval) (cs : List ℕ) (f : Step) (ds : List ℕ) (marks : List Bool) (F : SaysPlaces f s l x cs ds marks) where
  pub block_refused : (m : Refusal) → f ≡ stopped m → RefusedBy m (from s l block x cs)
  block_refused m q =
      let n : SaysPlaces (stopped m) s l x cs ds marks = subst (λ (z : Step). SaysPlaces z s l x cs ds marks) q F in
      let r = bind_no (by_code s l) (places_s 15 0 []) filled (cursor x cs) m n in
      (r.0, ap (λ t. from s l t x cs) is ∙ r.1)

  module _ (v : ℕ) (y : Interval) (q : f ≡ got v y) where
    read : SaysPlaces (got v y) s l x cs ds marks
    read = subst (λ (z : Step). SaysPlaces z s l x cs ds marks) q F

    pub block_reads : Reads s l x cs → Reads s l y ds
    unfolding read
    block_reads h = reads_on s l (places_s 15 0 []) x cs (down_from (marked marks) 16) y ds read h

    -- g is what the levels answered
    pub block_levels : (lv lv' : List ℤ) → lv ≡ replicate 16 (pos 0) → (g : Step) (es : List ℕ) → SaysLevels g s l marks y ds es lv lv' → SaysBlock g s l x cs es lv'
    unfolding read
    block_levels lv lv' e g es G = by g (subst (λ (z : List ℤ). SaysLevels g s l marks y ds es z lv') e G)
      where
        on : from s l block x cs ≡ from s l (levels_s (down_from (marked marks) 16) 0 0 (replicate 16 (pos 0))) y ds
        on = ap (λ t. from s l t x cs) is ∙ bind_ok (by_code s l) (places_s 15 0 []) filled (cursor x cs) (down_from (marked marks) 16) (cursor y ds) read
            ∙ filled_is s l (down_from (marked marks) 16) y ds

        by : (g : Step) → SaysLevels g s l marks y ds es (replicate 16 (pos 0)) lv' → SaysBlock g s l x cs es lv'
        by (Ok t) h = on ∙ h
        by (Err n) h = (h.0, on ∙ h.1)

-- ---- a copy to the front
-- in the loop, at place i
pub record Copying (lent levels now : List ℤ) (i : ℕ) : Type 0 where
  pub few : i ≤ 16
  pub long : length now ≡ length lent
  pub is : now ≡ paste lent 0 levels i

module _ (lent levels : List ℤ) (h : 16 ≤ length lent) where
  pub copy_begins : Copying lent levels lent 0
  copy_begins = record { few = omega arith; long = refl; is = paste-zero lent 0 levels }

  module _ (now : List ℤ) (i : ℕ) (c : Copying lent levels now i) (long : length levels ≡ 16) where
    pub copy_again : i < 16 → (z : ℤ) → Copying lent levels (set now i (get_or levels i z)) (i + 1)
    copy_again k z =
        let o : i ≡ 0 + i = omega arith in
        let e : set now i (get_or levels i z) ≡ paste lent 0 levels (suc i) =
        ap (λ (d : List ℤ). set d i (get_or levels i z)) c.is ∙ ap (λ j. set (paste lent 0 levels i) j (get_or levels i z)) o
        ∙ paste-suc lent 0 levels i z (omega arith) (omega arith) in
        record {
          few = omega arith;
          long = ap length e ∙ length-paste lent 0 levels (suc i) (omega arith) (omega arith);
          is = e ∙ ap (paste lent 0 levels) (sym (add-one i));
        }

    pub copy_ends : 16 ≤ i → now ≡ block_with levels lent
    copy_ends k =
        let e : i ≡ 16 = omega (arith, c.few) in
        c.is ∙ ap (paste lent 0 levels) e ∙ ap (λ (t : List ℤ). t ++ drop 16 lent) (take_all 16 levels (omega arith))

module _ (s : Bool) (l : List ℕ) (x : Interval) (cs ds : List ℕ) (lv : List ℤ) (r : Step) (h : SaysBlock r s l x cs ds lv) where
  pub block_long : (v : ℕ) (y : Interval) → r ≡ got v y → length lv ≡ 16
  block_long v y q =
      (each_run (by_code s l) (block_each {n = 0}) (cursor x cs) lv (cursor y ds) (subst (λ (z : Step). SaysBlock z s l x cs ds lv) q h)).1

  -- ---- into the front of a lent block
  pub into_refused : (m : Refusal) → r ≡ stopped m → (lent lent' : List ℤ) → lent' ≡ cleared lent → SaysInto (stopped m) s l x cs cs lent lent'
  into_refused m q lent lent' e =
      (subst (λ (z : Step). SaysBlock z s l x cs ds lv) q h, refl, e)

  pub into_got : (v : ℕ) (y : Interval) → r ≡ got v y → (lent lent' : List ℤ) → lent' ≡ block_with lv lent → (g : ℕ) → g ≡ greatest_of lv
      → SaysInto (got g y) s l x cs ds lent lent'
  into_got v y q lent lent' e g u = (lv, e, u, subst (λ (z : Step). SaysBlock z s l x cs ds lv) q h)
