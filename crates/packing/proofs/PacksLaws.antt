-- Request (i) of every syntax: the reader, started on what a list was packed to, with the same contexts, reads that list. Assumes nothing.
use Rattle.std.specs.Prelude.{ℕ, zero, suc, ◌+◌, ◌-◌, ◌*◌, ◌/◌, ◌%◌, ◌^◌, ◌≤◌, ◌<◌, min, ◌≡◌, Bool, true, false, ◌||◌, ◌&&◌, cond, List, [], ◌∷◌, length, get_or, set, ltb, leb}
use Rattle.std.proofs.Math.Path.{refl}
use Rattle.std.proofs.Common.{sym, ap, ap₂, subst, ◌∙◌, arith, lt-ltb, le-ltb, le-leb}
use Rattle.std.specs.Int.Count.{count_leading_zeros}
use Rattle.std.proofs.lemmas.Bool.{lt-leb}
use Rattle.bins.specs.declared.state.Engine.{Engine}
use Rattle.bins.specs.Bits.{bits, ends, after, over}
use Rattle.bins.specs.Engine.{place, fetched, started, Drawn, terminated}
use Rattle.trees.specs.Every.{Bounds, Each}
use Rattle.bins.specs.Syn.{Syn, Out, run, Reading, by_engine, by_list}
use Rattle.tables.specs.Tables.{lps_of}
use Rattle.tables.specs.Bounds.{lps_bounds}
use Rattle.tables.specs.Table.{le_below}
use Rattle.cabac.specs.Numbers.{Answer, accepted, refused, ◌or_else◌, unless, payload_refusal, state_refusal, possible, offset_refusal, ended_refusal}
use Rattle.cabac.specs.NumberLaws.{payload_fine, state_fine, ended_not}
use Rattle.cabac.specs.Entries.{start, terminate}
use Rattle.packing.specs.Pack.{Enc, begun, encoded, Entry, of_context, of_bypass, of_align, entries_of, Writing, writing, favoured, packed_bin, packed_entry, packed, payload_of, packed_from}
use Rattle.packing.specs.FollowLaws.{In, Follows, Wide}
use Rattle.packing.proofs.TreeLaws.{Lent, Back, entry_wide, packed_wide, packed_held, pack_read}
use Rattle.packing.specs.Packs.{entries_most, ReadsBack, Closes}
use Rattle.packing.specs.PayloadLaws.{payload_length, payload_in, begun_wide, started_follows, Ends, payload_ends}

-- ---- how long: at most seven bits an entry, since a range is 2 at least before it is renormalised
shift_few : (r : ℕ) → 2 ≤ r → r ≤ 510 → count_leading_zeros 9 r ≤ 7
unfolding count_leading_zeros
shift_few r h k =
    let e : r - 2 + 2 ≡ r = omega arith in
    subst (λ (z : ℕ). count_leading_zeros 9 z ≤ 7) e (le_below (λ i. count_leading_zeros 9 (i + 2)) (λ i. 7) 509 tt (r - 2) (omega arith))

encoded_n : (b : Bool) (ctx : ℕ) (s : Enc) → Wide s → (encoded b ctx s).n ≤ s.n + 7
unfolding encoded
encoded_n true ctx s h =
    let q = lps_bounds ctx s.range in
    omega (arith, shift_few (s.range - lps_of ctx s.range) (omega (arith, h.least)) (omega (arith, h.most)))
encoded_n false ctx s h =
    let q = lps_bounds ctx s.range in
    omega (arith, shift_few (lps_of ctx s.range) (omega arith) (omega arith))

entry_n : (x : Entry) (w : Writing) → Wide w.enc → (packed_entry x w).enc.n ≤ w.enc.n + 7
unfolding packed_entry packed_bin
entry_n (of_context c b) w h = let ctx = get_or w.contexts c 0 in encoded_n (favoured ctx b) ctx w.enc h
entry_n (of_bypass b) w h = omega arith
entry_n of_align w h = omega arith

pub packed_n : (l : List Entry) (w : Writing) → Wide w.enc → (packed l w).enc.n ≤ w.enc.n + 7 * length l
unfolding packed
packed_n [] w h = omega arith
packed_n (x ∷ l) w h =
    omega (arith, packed_n l (packed_entry x w) (entry_wide x w h), entry_n x w h)

pub entries_length : (l : List ℕ) → length (entries_of l) ≡ length l / 2
unfolding entries_of
entries_length [] = refl
entries_length (x ∷ []) = refl
entries_length (x ∷ y ∷ l) = omega (arith, entries_length l)

-- ---- the theorem
start_at : (l : List ℕ) → 2 ≤ length l → length l ≤ 16777216 → (started l).offset < 510 → start l ≡ accepted (started l)
unfolding start payload_refusal offset_refusal ◌or_else◌ unless
start_at l h k o =
    let a : ltb (length l) 2 ≡ false = le-ltb (length l) 2 h in
    let b : ltb 16777216 (length l) ≡ false = le-ltb 16777216 (length l) k in
    let c : leb 510 (started l).offset ≡ false = lt-leb 510 (started l).offset o in
    rw (a, b, c)

terminate_at : (l : List ℕ) (e : Engine) → 2 ≤ length l → length l ≤ 16777216 → place e ≤ ends l → e.past ≡ 0 → 256 ≤ e.range → e.range ≤ 510
    → e.offset < e.range → e.ended ≡ false → terminate l e ≡ accepted (terminated l e)
unfolding terminate payload_refusal state_refusal possible ended_refusal ◌or_else◌ unless
terminate_at l e h k p clean least most below live =
    let a : ltb (length l) 2 ≡ false = le-ltb (length l) 2 h in
    let b : ltb 16777216 (length l) ≡ false = le-ltb 16777216 (length l) k in
    let c : leb (place e) (ends l) ≡ true = le-leb (place e) (ends l) p in
    let d : leb 256 e.range ≡ true = le-leb 256 e.range least in
    let f : leb e.range 510 ≡ true = le-leb e.range 510 most in
    let g : ltb e.offset e.range ≡ true = lt-ltb e.offset e.range below in
    rw (a, b, c, clean, live, d, f, g)

-- of any syntax whose bins are numbered as contexts are, a list that it reads to its end, no longer than a payload may be
pub packs : {B A : Type 0} {K : Bounds} {Q : A → ℕ → Type 0} {j : ℕ} {t : Syn B A} → Each K Q j t → Lent K → (cs bins : List ℕ) (a : A) → length bins ≤ 2 * entries_most + 1
    → run by_list t bins ≡ Out.ok a []
    → ReadsBack (payload_of (packed_from cs bins).enc) t cs a (packed_from cs bins).contexts
packs {B} {A} {K} {Q} {j} {t} u lent cs bins a few q =
    let w = packed_from cs bins in
    let P = payload_of w.enc in
    let wide = packed_wide (entries_of bins) (writing begun cs) begun_wide in
    let size = payload_length w.enc in
    let long = packed_n (entries_of bins) (writing begun cs) begun_wide in
    let inside = payload_in w.enc wide in
    let held = packed_held P (entries_of bins) (writing begun cs) begun_wide inside in
    let f = started_follows P (omega (arith, size, wide.nine)) in
    let b = pack_read K lent Q j P t bins (writing begun cs) (started P) a [] u.holds begun_wide f inside (omega (arith, size)) q in
    let stood : w ≡ b.stood = b.rest ∙ packed-nil b.stood in
    let follows : Follows P w.enc b.state = subst (λ (z : Writing). Follows P z.enc b.state) (sym stood) b.follows in
    let e = payload_ends w.enc b.state wide follows in
    let two : 2 ≤ length P = omega (arith, size, wide.nine) in
    let most : length P ≤ 16777216 = omega (arith, size, long, entries_length bins) in
    record {
      state = b.state;
      admitted = payload_fine P two most;
      possible = state_fine P (started P) (omega (arith, size, wide.nine, f.at)) (omega (arith, f.clean)) f.live (omega (arith, f.wide)) (omega (arith, f.wide))
          (omega (arith, f.above, f.wide, held.held.most));
      running = ended_not (started P) f.live;
      starts = start_at P two most (omega (arith, f.above, held.held.most));
      reads = b.reads ∙ ap (λ (z : Writing). Out.ok a (record { engine = b.state; contexts = z.contexts })) (sym stood);
      clean = follows.clean;
      ends = terminate_at P b.state two most (omega (arith, size, follows.at)) follows.clean (omega (arith, follows.wide, wide.least)) (omega (arith, follows.wide, wide.most))
          (omega (arith, follows.above, follows.wide, inside.most)) follows.live;
      one = e.one;
      still = e.clean;
      long = size ∙ ap (λ z. (z + 7) / 8) (sym e.stays);
    }
  where
    packed-nil : (w : Writing) → packed (entries_of []) w ≡ w
    packed-nil w = unfold entries_of packed in refl

pub closes : {B A : Type 0} (P : List ℕ) (t : Syn B A) (cs : List ℕ) (a : A) (cs' : List ℕ) (k : ReadsBack P t cs a cs') → Closes P k.state
closes P t cs a cs' k =
    record { clean = k.clean; last = terminated P k.state; ends = k.ends; one = k.one; still = k.still; long = k.long }
