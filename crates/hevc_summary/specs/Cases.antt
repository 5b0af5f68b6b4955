-- Cases computed by the definitions: changes one after the other from a summary that is not true, and why setting asks that it was true before.
-- Assumes nothing.
use Rattle.std.specs.Prelude.{ℕ, ◌≡◌, refl, List, [], ◌∷◌, replicate, ℤ, pos, negsuc}
use Rattle.counting.specs.Count.{sum_to, updated}
use Rattle.cabac.specs.Numbers.{◌or_else◌}
use Rattle.hevc_summary.specs.declared.kept.Form.{Form}
use Rattle.hevc_summary.specs.Summary.{Kept, count_in, sum_in, map_of}
use Rattle.hevc_summary.specs.Entries.{is_form, form_refusal, place_refusal, level_refusal, whole_from, fresh_counts, fresh_sums, counted, After, unless_refused, recount, zeros, clear, set_at, set_refusal, set_level}

-- an 8x8 of zeros whose records say otherwise
abbrev form : Form
form = record { log2 = 3; bits = 15 }

abbrev lied : Kept
lied =
    record { levels = replicate 64 (pos 0); counts = replicate 64 9; sums = replicate 64 9; whole = record { count = 1; sum = 2; map = 0 } }

-- number, count, sum and map
abbrev told : After → List ℕ
told r = r.answer ∷ r.kept.whole.count ∷ r.kept.whole.sum ∷ r.kept.whole.map ∷ []

-- cleared, it is true; 5 at the top left and -7 at the bottom right are in sub-blocks 0 and 3
pub cleared_case : told (clear form lied) ≡ 0 ∷ 0 ∷ 0 ∷ 0 ∷ []
unfolding sum_to updated count_in sum_in map_of is_form form_refusal whole_from fresh_counts fresh_sums counted unless_refused zeros clear ◌or_else◌
cleared_case = refl

pub set_case : told (set_level form 63 (negsuc 6) (set_level form 0 (pos 5) (clear form lied).kept).kept) ≡ 0 ∷ 2 ∷ 12 ∷ 9 ∷ []
unfolding sum_to updated count_in sum_in map_of is_form form_refusal place_refusal level_refusal whole_from fresh_counts fresh_sums counted unless_refused zeros clear set_at set_refusal set_level ◌or_else◌
set_case = refl

-- setting alone does not make the other records true: 9 in each of three sub-blocks stays, where a fresh count says 1
pub lie_stays : told (set_level form 0 (pos 5) lied) ≡ 0 ∷ 28 ∷ 32 ∷ 15 ∷ []
unfolding sum_to updated count_in sum_in map_of is_form form_refusal place_refusal level_refusal whole_from unless_refused set_at set_refusal set_level ◌or_else◌
lie_stays = refl

pub lie_ends : told (recount form (set_level form 0 (pos 5) lied).kept) ≡ 0 ∷ 1 ∷ 5 ∷ 1 ∷ []
unfolding sum_to updated count_in sum_in map_of is_form form_refusal place_refusal level_refusal whole_from fresh_counts fresh_sums counted unless_refused recount set_at set_refusal set_level ◌or_else◌
lie_ends = refl
