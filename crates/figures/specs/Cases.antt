-- Cases computed by the definitions: blocks and a refusal added, and why the order matters past the last block that is taken. Assumes nothing.
use Rattle.std.specs.Prelude.{ℕ, ◌≡◌, refl, List, [], ◌∷◌, get_or, replicate, ℤ, pos, negsuc}
use Rattle.counting.specs.Count.{gather, updated}
use Rattle.cabac.specs.Numbers.{◌or_else◌}
use Rattle.figures.specs.Figures.{Event, block, refusal, Figures, sized, fits, is_block, past_of, nonzero_at, magnitude_at, is_number, each, figures_of, within}
use Rattle.figures.specs.Entries.{unless_refused, begun, block_refusal, with_block, add_block, number_refusal, with_refusal, add_refusal, add, add_all}

-- a 4x4 with one level
abbrev one : ℤ → ℕ → Event
one v past = block 2 (v ∷ replicate 15 (pos 0)) past

-- blocks, sum and greatest at place 0, accepted, past, the tally of 8
abbrev told : Figures → List ℕ
told fs =
    get_or fs.blocks 0 0 ∷ get_or fs.sums 0 0 ∷ get_or fs.greatests 0 0 ∷ fs.totals.accepted ∷ fs.totals.past ∷ get_or fs.tallies 7 0 ∷ []

pub added_case : told (add_all (begun 2) (one (pos 5) 0 ∷ refusal 8 ∷ one (negsuc 8) 7 ∷ [])) ≡ 2 ∷ 14 ∷ 9 ∷ 2 ∷ 7 ∷ 1 ∷ []
unfolding gather updated sized fits is_block past_of nonzero_at magnitude_at is_number each figures_of begun block_refusal with_block add_block number_refusal with_refusal add_refusal add add_all unless_refused ◌or_else◌
added_case = refl

-- where only one block is taken, it is the first: of another order other figures
pub first_taken : within 2 1 (one (pos 5) 0 ∷ one (negsuc 8) 7 ∷ []) ≡ one (pos 5) 0 ∷ []
unfolding sized fits is_block within
first_taken = refl

pub other_taken : within 2 1 (one (negsuc 8) 7 ∷ one (pos 5) 0 ∷ []) ≡ one (negsuc 8) 7 ∷ []
unfolding sized fits is_block within
other_taken = refl
