-- A list written entry by entry: what the code's state is behind each prefix of the list, and what stands in the room at the end. Assumes nothing.
use Rattle.std.specs.Prelude.{ℕ, zero, suc, ◌+◌, ◌*◌, ◌/◌, ◌%◌, ◌≤◌, ◌<◌, ◌≡◌, Bool, true, false, List, [], ◌∷◌, ◌++◌, length, get_or, set, take, drop, eqb}
use Rattle.std.proofs.Math.Path.{refl}
use Rattle.std.proofs.Common.{sym, ap, ap₂, subst, ◌∙◌, arith, add-one, length-take, length-set, take-suc, take_all}
use Rattle.std.proofs.Math.ListN.{get_or-eq_default}
use Rattle.std.proofs.Math.Seq.{set_out}
use borrow.Author.Tests.{lt-ltb, le-ltb, ne_eqb}
use Rattle.tables.specs.Bounds.{mps_small, lps_small}
use Rattle.bins.specs.Tags.{context_count, align_tag}
use Rattle.bins.specs.Readers.{odd}
use Rattle.bins.specs.CodeLaws.{Packed, packed_set}
use Rattle.packing.specs.Pack.{Enc, begun, encoded, bypass_enc, align_enc, Entry, of_context, of_bypass, of_align, kind_of, entries_of, Writing, writing, favoured, ctx_after, packed_bin, packed_entry, packed, payload_of, packed_from}
use Rattle.packing.specs.PayloadLaws.{begun_wide, payload_length}
use Rattle.packing.specs.Packs.{entries_most}
use Rattle.packing.proofs.PacksLaws.{packed_n, entries_length}
use Rattle.packer_steps.specs.declared.coder.Coder.{Coder}
use Rattle.packer_steps.specs.Register.{register_of, Steady, Grown, PutOut, last_of}
use Rattle.packer.specs.StandLaws.{Stands, coder_begun, stands_begin, stands_wide, stands_few, stands_contexts, stands_more, stands_out, Closed, stands_flush}

-- ---- contexts stay packed
after_small : (v : Bool) (ctx : ℕ) → ctx < 128 → ctx_after v ctx < 128
unfolding ctx_after
after_small true ctx h = omega (arith, mps_small ctx h)
after_small false ctx h = omega (arith, lps_small ctx h)

entry_packed : (x : Entry) (w : Writing) → Packed w.contexts → Packed (packed_entry x w).contexts
unfolding packed_entry packed_bin
entry_packed (of_context c b) w h = packed_set w.contexts c _ h (after_small (favoured (get_or w.contexts c 0) b) (get_or w.contexts c 0) (h c))
entry_packed (of_bypass b) w h = h
entry_packed of_align w h = h

pub all_packed : (l : List Entry) (w : Writing) → Packed w.contexts → Packed (packed l w).contexts
unfolding packed
all_packed [] w h = h
all_packed (x ∷ l) w h = all_packed l (packed_entry x w) (entry_packed x w h)

-- ---- and as many
entry_sized : (x : Entry) (w : Writing) → length (packed_entry x w).contexts ≡ length w.contexts
unfolding packed_entry packed_bin
entry_sized (of_context c b) w = length-set w.contexts c _
entry_sized (of_bypass b) w = refl
entry_sized of_align w = refl

all_sized : (l : List Entry) (w : Writing) → length (packed l w).contexts ≡ length w.contexts
unfolding packed
all_sized [] w = refl
all_sized (x ∷ l) w = all_sized l (packed_entry x w) ∙ entry_sized x w

-- ---- one entry, as the code tells it
module _ (x : ℕ) where
  pub kind_context : x < 2 * context_count → kind_of x ≡ of_context (x / 2) (odd x)
  unfolding kind_of
  kind_context h = rw (lt-ltb x (2 * context_count) h)

  pub kind_align : x ≡ align_tag → kind_of x ≡ of_align
  unfolding kind_of
  kind_align h = rw h

  pub kind_bypass : 2 * context_count ≤ x → (x ≡ align_tag → ⊥) → kind_of x ≡ of_bypass (odd x)
  unfolding kind_of
  kind_bypass h n = rw (le-ltb x (2 * context_count) h, ne_eqb x align_tag n)

module _ (cs : List ℕ) (s r : Enc) (x : ℕ) where
  pub entry_context : (cs' : List ℕ) (y : ℕ) → x < 2 * context_count
      → r ≡ encoded (favoured (get_or cs (x / 2) 0) (eqb (x % 2) 1)) (get_or cs (x / 2) 0) s
      → y ≡ ctx_after (favoured (get_or cs (x / 2) 0) (eqb (x % 2) 1)) (get_or cs (x / 2) 0) → cs' ≡ set cs (x / 2) y
      → writing r cs' ≡ packed_entry (kind_of x) (writing s cs)
  entry_context cs' y h p q e =
      ap₂ (λ (u : Enc) (l : List ℕ). writing u l) p (e ∙ ap (set cs (x / 2)) q)
      ∙ sym (ap (λ k. packed_entry k (writing s cs)) (kind_context x h) ∙ unfold packed_entry packed_bin in refl)

  -- a context that is not lent is 0
  pub entry_none : x < 2 * context_count → length cs ≤ x / 2 → r ≡ encoded (favoured 0 (eqb (x % 2) 1)) 0 s → writing r cs ≡ packed_entry (kind_of x) (writing s cs)
  entry_none h k p =
      let z : get_or cs (x / 2) 0 ≡ 0 = get_or-eq_default cs 0 k in
      entry_context cs _ h (p ∙ ap (λ v. encoded (favoured v (eqb (x % 2) 1)) v s) (sym z)) refl (sym (set_out cs (x / 2) _ k))

  pub entry_bypass : 2 * context_count ≤ x → (x ≡ align_tag → ⊥) → r ≡ bypass_enc (eqb (x % 2) 1) s → writing r cs ≡ packed_entry (kind_of x) (writing s cs)
  entry_bypass h n p =
      ap (λ (u : Enc). writing u cs) p ∙ sym (ap (λ k. packed_entry k (writing s cs)) (kind_bypass x h n) ∙ unfold packed_entry in refl)

  pub entry_align_lem : x ≡ align_tag → r ≡ align_enc s → writing r cs ≡ packed_entry (kind_of x) (writing s cs)
  entry_align_lem h p =
      ap (λ (u : Enc). writing u cs) p ∙ sym (ap (λ k. packed_entry k (writing s cs)) (kind_align x h) ∙ unfold packed_entry in refl)

-- ---- a list and then one entry
packed_more : (l : List Entry) (x : Entry) (w : Writing) → packed (l ++ (x ∷ [])) w ≡ packed_entry x (packed l w)
unfolding packed
packed_more [] x w = refl
packed_more (y ∷ l) x w = packed_more l x (packed_entry y w)

-- what a list's bytes are packed to, r being the length that is told, room and contexts those behind
pub record Laid (o cs : List ℕ) (wr : Bool) (bins : List ℕ) (r : ℕ) (room contexts : List ℕ) : Type 0 where
  pub told : r ≡ length (payload_of (packed_from cs bins).enc)
  pub moved : contexts ≡ (packed_from cs bins).contexts
  pub sized : length contexts ≡ length cs
  pub long : length room ≡ length o
  pub ink : wr ≡ true → r ≤ length o → room ≡ payload_of (packed_from cs bins).enc ++ drop r o
  pub dry : wr ≡ false → room ≡ o

-- ---- an entry by its place among the bytes
pub entry_at : (bins : List ℕ) (k : ℕ) → 2 * k + 1 < length bins → get_or (entries_of bins) k of_align ≡ kind_of (get_or bins (2 * k) 0 + 256 * get_or bins (2 * k + 1) 0)
unfolding entries_of
entry_at [] k h = absurd (omega arith)
entry_at (x ∷ []) k h = absurd (omega arith)
entry_at (x ∷ y ∷ l) zero h = refl
entry_at (x ∷ y ∷ l) (suc k) h =
    let a : 2 * suc k ≡ suc (suc (2 * k)) = omega arith in
    let b : 2 * suc k + 1 ≡ suc (suc (2 * k + 1)) = omega arith in
    entry_at l k (omega arith) ∙ sym (ap₂ (λ i j. kind_of (get_or (x ∷ y ∷ l) i 0 + 256 * get_or (x ∷ y ∷ l) j 0)) a b)

-- ---- the loop: so many entries are written, from a lent room o and contexts cs
abbrev written : List ℕ → List ℕ → ℕ → Writing
written cs bins j = packed (take j (entries_of bins)) (writing begun cs)

pub record Written (o cs : List ℕ) (wr : Bool) (bins : List ℕ) (done : ℕ) (room : List ℕ) (c : Coder) (contexts : List ℕ) : Type 0 where
  pub few : 2 * done ≤ length bins
  pub stands : Stands o wr room c (written cs bins done).enc
  pub bits : c.bits ≤ 16
  pub same : contexts ≡ (written cs bins done).contexts

module _ (o cs : List ℕ) (wr : Bool) (bins : List ℕ) (p : Packed cs) (short : length bins ≤ 2 * entries_most + 1) where
  pub written_begin : Written o cs wr bins 0 o coder_begun cs
  written_begin = record { few = omega arith; stands = unfold packed in stands_begin o wr; bits = omega arith; same = unfold packed in refl }

  prefix_short : (j : ℕ) → 2 * j ≤ length bins → (written cs bins j).enc.n ≤ 134217728
  prefix_short j h =
      let l : length (take j (entries_of bins)) ≤ entries_most = simp length-take (omega arith) in
      omega (arith, packed_n (take j (entries_of bins)) (writing begun cs) begun_wide)

  pub written_steady : (done : ℕ) (room : List ℕ) (c : Coder) (contexts : List ℕ) → Written o cs wr bins done room c contexts → Steady c × Packed contexts
  written_steady done room c contexts h = (
    record {
      wide = h.stands.wide;
      nine = h.stands.nine;
      few = h.bits;
      short = omega (arith, prefix_short done h.few, h.stands.above.place);
    },
    subst Packed (sym h.same) (all_packed (take done (entries_of bins)) (writing begun cs) p),
  )

  -- one entry more: d is the coder behind it, before a byte goes to the room
  module _ (done : ℕ) (room : List ℕ) (c d : Coder) (contexts contexts' : List ℕ) (x : ℕ) (h : Written o cs wr bins done room c contexts) (k : 2 * done + 1 < length bins)
      (q : writing (register_of d) contexts' ≡ packed_entry (kind_of x) (writing (register_of c) contexts)) (at : d.at ≡ c.at) where
    pub written_grown : Grown d
    written_grown =
        let s = (written cs bins done).enc in
        record {
          wide = stands_wide o wr room c d (kind_of x) s contexts contexts' h.stands q at;
          nine = (stands_more o wr room c d (kind_of x) s contexts contexts' h.stands q at).nine;
          few = omega (arith, h.bits, stands_few o wr room c d (kind_of x) s contexts contexts' h.stands q at);
          short = omega (arith, (written_steady done room c contexts h).0.short);
        }

    pub written_more : (room' : List ℕ) (r : Coder) → x ≡ get_or bins (2 * done) 0 + 256 * get_or bins (2 * done + 1) 0 → PutOut wr room d room' r → Written o cs wr bins (done + 1) room' r contexts'
    written_more room' r e out =
        let es = entries_of bins in
        let w = written cs bins done in
        let there : get_or es done of_align ≡ kind_of x = entry_at bins done k ∙ ap kind_of (sym e) in
        let t : take (done + 1) es ≡ take done es ++ (kind_of x ∷ []) =
        ap (λ n. take n es) (add-one done) ∙ take-suc es done of_align (omega (arith, entries_length bins)) ∙ ap (λ y. take done es ++ (y ∷ [])) there in
        let u : packed_entry (kind_of x) w ≡ written cs bins (done + 1) = sym (ap (λ l. packed l (writing begun cs)) t ∙ packed_more (take done es) (kind_of x) (writing begun cs)) in
        let v : writing w.enc contexts ≡ w = ap (writing w.enc) h.same in
        let z : packed_entry (kind_of x) (writing w.enc contexts) ≡ written cs bins (done + 1) = ap (packed_entry (kind_of x)) v ∙ u in
        let m = stands_more o wr room c d (kind_of x) w.enc contexts contexts' h.stands q at in
        let n = stands_out o wr room room' d r (packed_entry (kind_of x) (writing w.enc contexts)).enc m written_grown out in
        record {
          few = omega arith;
          stands = subst (λ (y : Writing). Stands o wr room' r y.enc) z n.0;
          bits = n.1;
          same = stands_contexts o wr room c d (kind_of x) w.enc contexts contexts' h.stands q at ∙ ap (λ (y : Writing). y.contexts) z;
        }

  pub laid : (done : ℕ) (room : List ℕ) (c : Coder) (contexts room' : List ℕ) (r : ℕ) → Written o cs wr bins done room c contexts → length bins ≤ 2 * done + 1
      → r ≡ c.at + 2 → room' ≡ last_of wr c room → Laid o cs wr bins r room' contexts
  laid done room c contexts room' r h k e q =
      let s = (packed_from cs bins).enc in
      let all : written cs bins done ≡ packed_from cs bins = ap (λ l. packed l (writing begun cs)) (take_all done (entries_of bins) (omega (arith, entries_length bins))) in
      let d : Closed o wr s r room' = subst (λ (w : Writing). Closed o wr w.enc r room') all (stands_flush o wr room room' c _ r h.stands (written_steady done room c contexts h).0 e q) in
      let moved : contexts ≡ (packed_from cs bins).contexts = h.same ∙ ap (λ (w : Writing). w.contexts) all in
      record {
        told = d.told ∙ sym (payload_length s);
        moved = moved;
        sized = ap length moved ∙ all_sized (entries_of bins) (writing begun cs);
        long = d.long;
        ink = d.ink;
        dry = d.dry;
      }
