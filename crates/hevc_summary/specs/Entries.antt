-- What each function over a kept block answers and leaves behind, for everything that it can be handed, a summary that is not true among it.
use Rattle.std.specs.Prelude.{ℕ, zero, suc, ◌+◌, ◌-◌, ◌*◌, ◌^◌, min, List, Bool, true, ◌&&◌, cond, ltb, leb, eqb, length, get_or, set, ℤ, pos, nat_abs}
use Rattle.counting.specs.Count.{sum_to, updated}
use Rattle.bins.specs.declared.state.Engine.{Engine}
use Rattle.cabac.specs.Numbers.{Answer, accepted, refused, ◌or_else◌, payload_refusal}
use Rattle.hevc_residual.specs.declared.params.Params.{Params}
use Rattle.hevc_residual.specs.Numbers.{parameter_refusal}
use Rattle.hevc_residual.specs.Entries.{Found, FoundAt, read_payload, read_bins}
use Rattle.hevc_residual.specs.Wanted.{negative}
use Rattle.hevc_residual.specs.Remainder.{in_range, log2_transform_range}
use Rattle.hevc_summary.specs.declared.kept.Form.{Form}
use Rattle.hevc_summary.specs.declared.kept.Whole.{Whole}
use Rattle.hevc_summary.specs.Summary.{Kept, area, subs, sub_of, count_in, sum_in, map_of, level_at}

-- ---- refusals
-- 4: no form of a kept block (size 2 to 5, range 15 to 22), or fewer than n·n places
unfoldable pub is_form : Form → List ℤ → Bool
is_form f levels =
    leb 2 f.log2 && (leb f.log2 5 && (leb 15 f.bits && (leb f.bits 22 && leb (area f.log2) (length levels))))

unfoldable pub form_refusal : Form → List ℤ → ℕ
form_refusal f levels = cond (is_form f levels) 0 4

-- 4: a place outside the block
unfoldable pub place_refusal : Form → ℕ → ℕ
place_refusal f place = cond (ltb place (area f.log2)) 0 4

-- 8: a level outside the range
unfoldable pub level_refusal : Form → ℤ → ℕ
level_refusal f v = cond (in_range f.bits (negative v) (nat_abs v)) 0 8

-- ---- the record of the whole, from those of the sub-blocks. A sum stops at 2^64 - 1, which no fresh count reaches
abbrev pub most : ℕ
most = 2 ^ 64 - 1

unfoldable pub whole_from : ℕ → List ℕ → List ℕ → Whole
whole_from log2 counts sums =
    record {
      count = sum_to (subs log2) (λ s. get_or counts s 0);
      sum = min most (sum_to (subs log2) (λ s. get_or sums s 0));
      map = map_of (subs log2) (λ s. get_or counts s 0);
    }

-- ---- a fresh count of other levels into the records; records of no sub-block of the block stay
unfoldable pub fresh_counts : ℕ → List ℤ → List ℕ → List ℕ
fresh_counts log2 levels counts = updated 0 (subs log2) (λ s _. count_in log2 levels s) counts

unfoldable pub fresh_sums : ℕ → List ℤ → List ℕ → List ℕ
fresh_sums log2 levels sums = updated 0 (subs log2) (λ s _. sum_in log2 levels s) sums

unfoldable pub counted : ℕ → List ℤ → Kept → Kept
counted log2 levels k =
    let counts = fresh_counts log2 levels k.counts in
    let sums = fresh_sums log2 levels k.sums in
    record { levels = levels; counts = counts; sums = sums; whole = whole_from log2 counts sums }

-- ---- what a change answers, and the block behind it
pub record After : Type 0 where
  pub answer : ℕ  -- 0, or the number of the refusal
  pub kept : Kept

unfoldable pub unless_refused : ℕ → Kept → Kept → After
unless_refused zero k k' = record { answer = 0; kept = k' }
unless_refused (suc n) k k' = record { answer = suc n; kept = k }

-- a fresh count of what stands there
unfoldable pub recount : Form → Kept → After
recount f k = unless_refused (form_refusal f k.levels) k (counted f.log2 k.levels k)

-- n·n levels of zero
unfoldable pub zeros : ℕ → List ℤ → List ℤ
zeros n levels = updated (pos 0) n (λ _ _. pos 0) levels

unfoldable pub clear : Form → Kept → After
clear f k = unless_refused (form_refusal f k.levels) k (counted f.log2 (zeros (area f.log2) k.levels) k)

-- one level: its place, its sub-block's record, and the whole record
unfoldable pub set_at : ℕ → ℕ → ℤ → Kept → Kept
set_at log2 place v k =
    let levels = set k.levels place v in
    let s = sub_of log2 place in
    let counts = set k.counts s (count_in log2 levels s) in
    let sums = set k.sums s (sum_in log2 levels s) in
    record { levels = levels; counts = counts; sums = sums; whole = whole_from log2 counts sums }

unfoldable pub set_refusal : Form → Kept → ℕ → ℤ → ℕ
set_refusal f k place v = form_refusal f k.levels or_else place_refusal f place or_else level_refusal f v

unfoldable pub set_level : Form → ℕ → ℤ → Kept → After
set_level f place v k = unless_refused (set_refusal f k place v) k (set_at f.log2 place v k)

-- the first n levels of another block
unfoldable pub copied : ℕ → List ℤ → List ℤ → List ℤ
copied n from levels = updated (pos 0) n (λ place _. level_at from place) levels

-- another block of the same form, its n·n levels. 4: another size or range, or fewer than n·n places
unfoldable pub copy_refusal : Form → Form → List ℤ → List ℤ → ℕ
copy_refusal f g from levels =
    form_refusal f levels or_else form_refusal g from or_else cond (eqb f.log2 g.log2 && eqb f.bits g.bits) 0 4

unfoldable pub copy_in : Form → Form → List ℤ → Kept → After
copy_in f g from k =
    unless_refused (copy_refusal f g from k.levels) k (counted f.log2 (copied (area f.log2) from k.levels) k)

-- ---- reading into a kept block
-- whether the reader came to the block: it was accepted, or refused while it was read (7, 8, 13), which has cleared it
unfoldable pub touched : {A : Type 0} → Answer A → Bool
touched (accepted r) = true
touched (refused n) = ltb 6 n

-- 4: parameters that no block has, no form, or parameters of another size or range
unfoldable pub other_form : Form → Params → ℕ
other_form f p = cond (eqb f.log2 p.log2 && eqb f.bits (log2_transform_range p)) 0 4

unfoldable pub block_refusal : Form → Params → List ℤ → ℕ
block_refusal f p levels = parameter_refusal p levels or_else form_refusal f levels or_else other_form f p

-- the levels that a reading left, counted anew where it came to the block
unfoldable pub kept_by : Bool → ℕ → List ℤ → Kept → Kept
kept_by came log2 levels k = cond came (counted log2 levels k) k

-- from a payload: 1, 2, 4 (also for another size or range), 3, 6, then 7 or 8 in the order of reading
pub record KeptRead : Type 0 where
  pub answer : Answer FoundAt
  pub contexts : List ℕ
  pub stats : List ℕ
  pub kept : Kept

unfoldable pub read_refusal : Form → List ℕ → Params → List ℤ → ℕ
read_refusal f l p levels = payload_refusal l or_else block_refusal f p levels

unfoldable pub read_kept_by : ℕ → Form → List ℕ → Engine → List ℕ → List ℕ → Params → Kept → KeptRead
read_kept_by zero f l e contexts stats p k =
    let r = read_payload l e contexts stats p k.levels in
    record {
      answer = r.answer;
      contexts = r.contexts;
      stats = r.stats;
      kept = kept_by (touched r.answer) f.log2 r.block k;
    }
read_kept_by (suc n) f l e contexts stats p k = record { answer = refused (suc n); contexts = contexts; stats = stats; kept = k }

unfoldable pub read_kept : Form → List ℕ → Engine → List ℕ → List ℕ → Params → Kept → KeptRead
read_kept f l e contexts stats p k = read_kept_by (read_refusal f l p k.levels) f l e contexts stats p k

-- from a bin list: 4 (also for another size or range), 3, then 8 or 13 in the order of reading
pub record KeptList : Type 0 where
  pub answer : Answer Found
  pub stats : List ℕ
  pub kept : Kept

unfoldable pub list_kept_by : ℕ → Form → List ℕ → List ℕ → Params → Kept → KeptList
list_kept_by zero f bins stats p k =
    let r = read_bins bins stats p k.levels in
    record { answer = r.answer; stats = r.stats; kept = kept_by (touched r.answer) f.log2 r.block k }
list_kept_by (suc n) f bins stats p k = record { answer = refused (suc n); stats = stats; kept = k }

unfoldable pub list_kept : Form → List ℕ → List ℕ → Params → Kept → KeptList
list_kept f bins stats p k = list_kept_by (block_refusal f p k.levels) f bins stats p k
