-- A whole tree: a payload in the interval that a bin list makes is read as that list. Assumes nothing.
use Rattle.std.specs.Prelude.{ℕ, zero, suc, ◌+◌, ◌-◌, ◌*◌, ◌/◌, ◌%◌, ◌^◌, ◌≤◌, ◌<◌, refl, Bool, not, ◌&&◌, cond, List, [], ◌∷◌, length, get_or, set, ltb, leb, eqb}
use Rattle.std.proofs.Math.Path.{◌≡◌}
use Rattle.std.proofs.Common.{sym, ap, ap₂, subst, ◌∙◌, arith, lt-ltb, le-ltb, eq-eqb, ne_eqb, eqb-true}
use Rattle.std.proofs.Math.Bool.{true, false}
use Rattle.std.specs.Bool.{beq}
use Rattle.std.proofs.lemmas.Bool.{eqb-false}
use Rattle.bins.specs.declared.state.Engine.{Engine}
use Rattle.bins.specs.Bits.{bits, ends}
use Rattle.bins.specs.Engine.{bit_no, place, decided, bypassed, range_aligned}
use Rattle.bins.specs.Tags.{context_count, tag, bypass_no, align_tag, low, high, is_entry}
use Rattle.bins.specs.Readers.{odd}
use Rattle.bins.specs.Syn.{Syn, done, stop, bin, bypass, align, Took, took, refused, Out, onward, run, Reading, engine_bin, engine_bypass, engine_align, by_engine, pick_bin, bin_of, list_bin, list_align, by_list}
use Rattle.bins.specs.Laws.{run_bin, run_bypass, run_align}
use Rattle.trees.specs.Every.{Bounds, Every}
use Rattle.packing.specs.Pack.{Enc, Entry, of_context, of_bypass, of_align, kind_of, entries_of, Writing, writing, encoded, bypass_enc, align_enc, favoured, ctx_after, packed_bin, packed_entry, packed}
use Rattle.packing.specs.FollowLaws.{In, Follows, Wide, Held, held_trans, encoded_wide, bypass_wide, align_wide, encoded_held, bypass_held, align_held, Goes, bin_goes, bypass_goes, align_goes}

-- ---- what is asked of a syntax: the numbers of its bins are numbers of contexts, so that an entry says by itself what it is
abbrev pub Lent : Bounds → Type 0
Lent K = (c : ℕ) → K.contexts c → c < context_count

-- ---- the interval of any list is a writer's, and narrows
pub entry_wide : (x : Entry) (w : Writing) → Wide w.enc → Wide (packed_entry x w).enc
unfolding packed_entry packed_bin
entry_wide (of_context c b) w h = let ctx = get_or w.contexts c 0 in encoded_wide (favoured ctx b) ctx w.enc h
entry_wide (of_bypass b) w h = bypass_wide b w.enc h
entry_wide of_align w h = align_wide w.enc h

pub packed_wide : (l : List Entry) (w : Writing) → Wide w.enc → Wide (packed l w).enc
unfolding packed
packed_wide [] w h = h
packed_wide (x ∷ l) w h = packed_wide l (packed_entry x w) (entry_wide x w h)

entry_held : (l : List ℕ) (x : Entry) (w : Writing) → Wide w.enc → In l (packed_entry x w).enc → Held l w.enc (packed_entry x w).enc
unfolding packed_entry packed_bin
entry_held l (of_context c b) w h i = let ctx = get_or w.contexts c 0 in encoded_held l (favoured ctx b) ctx w.enc h i
entry_held l (of_bypass b) w h i = bypass_held l b w.enc i
entry_held l of_align w h i = align_held l w.enc h i

pub packed_held : (l : List ℕ) (bins : List Entry) (w : Writing) → Wide w.enc → In l (packed bins w).enc → Held l w.enc (packed bins w).enc
unfolding packed
packed_held l [] w h i = record { held = i; short = omega arith }
packed_held l (x ∷ bins) w h i =
    let u = packed_entry x w in
    let r = packed_held l bins u (entry_wide x w h) i in
    held_trans l w.enc u.enc _ (entry_held l x w h r.held) r

-- ---- what an entry that a list reader took says by itself
pub kind_bin : (c : ℕ) (b : Bool) → c < context_count → kind_of (tag c b) ≡ of_context c b
unfolding kind_of
kind_bin c b h = go b
  where
    go : (b : Bool) → kind_of (tag c b) ≡ of_context c b
    go true =
        let t : ltb (2 * c + 1) (2 * context_count) ≡ true = lt-ltb (2 * c + 1) (2 * context_count) (omega arith) in
        let q : (2 * c + 1) / 2 ≡ c = omega arith in
        let o : eqb ((2 * c + 1) % 2) 1 ≡ true = eq-eqb ((2 * c + 1) % 2) 1 (omega arith) in
        rw (t, q, o)
    go false =
        let t : ltb (2 * c + 0) (2 * context_count) ≡ true = lt-ltb (2 * c + 0) (2 * context_count) (omega arith) in
        let q : (2 * c + 0) / 2 ≡ c = omega arith in
        let o : eqb ((2 * c + 0) % 2) 1 ≡ false = ne_eqb ((2 * c + 0) % 2) 1 (λ z. omega arith) in
        rw (t, q, o)

pub kind_bypass : (b : Bool) → kind_of (tag bypass_no b) ≡ of_bypass b
unfolding kind_of
kind_bypass true = refl
kind_bypass false = refl

pub kind_align : kind_of align_tag ≡ of_align
unfolding kind_of
kind_align = refl

-- two bytes that are an entry are its number
entry_number : (x y t : ℕ) → is_entry x y t ≡ true → x + 256 * y ≡ t
unfolding is_entry
entry_number x y t q = go (eqb x (low t)) refl (eqb y (high t)) refl q
  where
    go : (u : Bool) → eqb x (low t) ≡ u → (v : Bool) → eqb y (high t) ≡ v → u && v ≡ true → x + 256 * y ≡ t
    go true e true f h = omega (arith, eqb-true x (low t) e, eqb-true y (high t) f)
    go true e false f h = let z : ◌≡◌ {A = ℕ} 0 1 = cc in absurd (omega arith)
    go false e v f h = let z : ◌≡◌ {A = ℕ} 0 1 = cc in absurd (omega arith)

entries_on_lem : (x y t : ℕ) (l : List ℕ) → is_entry x y t ≡ true → entries_of (x ∷ y ∷ l) ≡ kind_of t ∷ entries_of l
unfolding entries_of
entries_on_lem x y t l q = ap (λ n. kind_of n ∷ entries_of l) (entry_number x y t q)

-- a list whose first entry was taken as a bin of number c
pub took_on : {A : Type 0} (c : ℕ) (l : List ℕ) (k : Bool → List ℕ → Out (List ℕ) A) (a : A) (r : List ℕ) → onward (list_bin c l) l k ≡ Out.ok a r
    → (b : Bool) × (m : List ℕ) × (entries_of l ≡ kind_of (tag c b) ∷ entries_of m) × (k b m ≡ Out.ok a r)
unfolding list_bin bin_of
took_on c [] k a r q = let z : ◌≡◌ {A = ℕ} 0 1 = (unfold onward in cc) in absurd (omega arith)
took_on c (x ∷ []) k a r q = let z : ◌≡◌ {A = ℕ} 0 1 = (unfold onward in cc) in absurd (omega arith)
took_on c (x ∷ y ∷ l) k a r q = go (is_entry x y (tag c false)) (is_entry x y (tag c true)) refl refl q
  where
    go : (u v : Bool) → is_entry x y (tag c false) ≡ u → is_entry x y (tag c true) ≡ v
        → onward (pick_bin u v (refused 13) (λ b. took b l)) (x ∷ y ∷ l) k ≡ Out.ok a r
        → (b : Bool) × (m : List ℕ) × (entries_of (x ∷ y ∷ l) ≡ kind_of (tag c b) ∷ entries_of m) × (k b m ≡ Out.ok a r)
    go true v e f q = (false, l, entries_on_lem x y (tag c false) l e, unfold onward pick_bin in q)
    go false true e f q = (true, l, entries_on_lem x y (tag c true) l f, unfold onward pick_bin in q)
    go false false e f q = let z : ◌≡◌ {A = ℕ} 0 1 = (unfold onward pick_bin in cc) in absurd (omega arith)

pub aligned_on : {A : Type 0} (l : List ℕ) (k : Bool → List ℕ → Out (List ℕ) A) (a : A) (r : List ℕ) → onward (list_align l) l k ≡ Out.ok a r
    → (m : List ℕ) × (entries_of l ≡ kind_of align_tag ∷ entries_of m) × (k false m ≡ Out.ok a r)
unfolding list_align
aligned_on [] k a r q = let z : ◌≡◌ {A = ℕ} 0 1 = (unfold onward in cc) in absurd (omega arith)
aligned_on (x ∷ []) k a r q = let z : ◌≡◌ {A = ℕ} 0 1 = (unfold onward in cc) in absurd (omega arith)
aligned_on (x ∷ y ∷ l) k a r q = go (is_entry x y align_tag) refl q
  where
    go : (u : Bool) → is_entry x y align_tag ≡ u → onward (cond u (took false l) (refused 13)) (x ∷ y ∷ l) k ≡ Out.ok a r
        → (m : List ℕ) × (entries_of (x ∷ y ∷ l) ≡ kind_of align_tag ∷ entries_of m) × (k false m ≡ Out.ok a r)
    go true e q = (l, entries_on_lem x y align_tag l e, unfold onward in q)
    go false e q = let z : ◌≡◌ {A = ℕ} 0 1 = (unfold onward in cc) in absurd (omega arith)

-- ---- the whole
-- reading the payload gives a, with the reader where the writer stood when the rest r of the list's bytes was still to be written
pub record Back {B A : Type 0} (l : List ℕ) (t : Syn B A) (e : Engine) (w : Writing) (bins : List ℕ) (a : A) (r : List ℕ) : Type 0 where
  pub state : Engine
  pub stood : Writing
  pub reads : run (by_engine l) t (record { engine = e; contexts = w.contexts }) ≡ Out.ok a (record { engine = state; contexts = stood.contexts })
  pub follows : Follows l stood.enc state
  pub rest : packed (entries_of bins) w ≡ packed (entries_of r) stood
  pub fine : Wide stood.enc

back_at : {B A : Type 0} (l : List ℕ) (t v : Syn B A) (e e' : Engine) (w w' : Writing) (bins bins' : List ℕ) (a : A) (r : List ℕ)
    → run (by_engine l) t (record { engine = e; contexts = w.contexts }) ≡ run (by_engine l) v (record { engine = e'; contexts = w'.contexts })
    → packed (entries_of bins) w ≡ packed (entries_of bins') w' → Back l v e' w' bins' a r → Back l t e w bins a r
back_at l t v e e' w w' bins bins' a r q p b =
    record { state = b.state; stood = b.stood; reads = q ∙ b.reads; follows = b.follows; rest = p ∙ b.rest; fine = b.fine }

packed_on : (x : ℕ) (k : Entry) (bins m : List ℕ) (w : Writing) → entries_of bins ≡ kind_of x ∷ entries_of m → kind_of x ≡ k
    → packed (entries_of bins) w ≡ packed (entries_of m) (packed_entry k w)
unfolding packed
packed_on x k bins m w p q = ap (λ es. packed es w) p ∙ ap (λ z. packed (entries_of m) (packed_entry z w)) q

abbrev bin_at : ℕ → Bool → Writing → Writing
bin_at c b w =
    writing (encoded (favoured (get_or w.contexts c 0) b) (get_or w.contexts c 0) w.enc)
    (set w.contexts c (ctx_after (favoured (get_or w.contexts c 0) b) (get_or w.contexts c 0)))

on_bin_lem : (c : ℕ) (b : Bool) (bins m : List ℕ) (w : Writing) → entries_of bins ≡ kind_of (tag c b) ∷ entries_of m → c < context_count
    → packed (entries_of bins) w ≡ packed (entries_of m) (bin_at c b w)
unfolding packed_entry packed_bin
on_bin_lem c b bins m w p h = packed_on (tag c b) (of_context c b) bins m w p (kind_bin c b h)

on_bypass_lem : (b : Bool) (bins m : List ℕ) (w : Writing) → entries_of bins ≡ kind_of (tag bypass_no b) ∷ entries_of m
    → packed (entries_of bins) w ≡ packed (entries_of m) (writing (bypass_enc b w.enc) w.contexts)
unfolding packed_entry
on_bypass_lem b bins m w p = packed_on (tag bypass_no b) (of_bypass b) bins m w p (kind_bypass b)

on_align_lem : (bins m : List ℕ) (w : Writing) → entries_of bins ≡ kind_of align_tag ∷ entries_of m
    → packed (entries_of bins) w ≡ packed (entries_of m) (writing (align_enc w.enc) w.contexts)
unfolding packed_entry
on_align_lem bins m w p = packed_on align_tag of_align bins m w p kind_align

-- the engine's steps
reads_bin : (l : List ℕ) (c : ℕ) (b : Bool) (e : Engine) (w : Writing) → Goes l w.enc b (get_or w.contexts c 0) e
    → (by_engine l).on_bin c (record { engine = e; contexts = w.contexts })
    ≡ took b (record { engine = (decided l e (get_or w.contexts c 0)).next; contexts = (bin_at c b w).contexts })
unfolding by_engine engine_bin
reads_bin l c b e w g =
    let ctx = get_or w.contexts c 0 in
    ap₂ (λ y z. took y (record { engine = (decided l e ctx).next; contexts = set w.contexts c z })) g.bit g.kept

reads_bypass : (l : List ℕ) (b : Bool) (e : Engine) (cs : List ℕ) → leb 1 (bypassed l e 1).value ≡ b
    → (by_engine l).on_bypass (record { engine = e; contexts = cs }) ≡ took b (record { engine = (bypassed l e 1).next; contexts = cs })
unfolding by_engine engine_bypass
reads_bypass l b e cs g = ap (λ y. took y (record { engine = (bypassed l e 1).next; contexts = cs })) g

reads_align : (l : List ℕ) (e : Engine) (cs : List ℕ) → ltb e.offset 256 ≡ true
    → (by_engine l).on_align (record { engine = e; contexts = cs }) ≡ took false (record { engine = range_aligned e; contexts = cs })
unfolding by_engine engine_align
reads_align l e cs g = ap (λ y. cond y (took false (record { engine = range_aligned e; contexts = cs })) (refused 7)) g

run_done : (B : Type 0) {A : Type 0} (l : List ℕ) (a : A) (r : Reading) → run {B = B} (by_engine l) (done a) r ≡ Out.ok a r
unfolding run
run_done B l a r = refl

-- A list that the syntax reads, written into an interval: any payload that lies in it is read back to the same answer, contexts included.
pub pack_read : {B A : Type 0} (K : Bounds) → Lent K → (P : A → ℕ → Type 0) (j : ℕ) (l : List ℕ) (t : Syn B A) (bins : List ℕ) (w : Writing) (e : Engine) (a : A) (r : List ℕ)
    → Every K P j t → Wide w.enc → Follows l w.enc e → In l (packed (entries_of bins) w).enc → (packed (entries_of bins) w).enc.n ≤ ends l
    → run by_list t bins ≡ Out.ok a r → Back l t e w bins a r
unfolding run by_list
pack_read {B} K z P j l (done a') bins w e a r u h f i k q =
    let x : a' ≡ a = cc in
    let y : bins ≡ r = cc in
    record {
      state = e;
      stood = w;
      reads = run_done B l a' (record { engine = e; contexts = w.contexts }) ∙ ap (λ x. Out.ok x (record { engine = e; contexts = w.contexts })) x;
      follows = f;
      rest = ap (λ x. packed (entries_of x) w) y;
      fine = h;
    }
pack_read K z P j l (stop n) bins w e a r u h f i k q = let y : ◌≡◌ {A = ℕ} 0 1 = cc in absurd (omega arith)
pack_read K z P j l (bin c v k) bins w e a r u h f i m q =
    let s = took_on c bins (λ b s'. run by_list (k b) s') a r q in
    let b = s.0 in
    let rest = s.1 in
    let ctx = get_or w.contexts c 0 in
    let w' = bin_at c b w in
    let p : packed (entries_of bins) w ≡ packed (entries_of rest) w' = on_bin_lem c b bins rest w s.2 (z c u.0) in
    let wide = encoded_wide (favoured ctx b) ctx w.enc h in
    let i' : In l (packed (entries_of rest) w').enc = subst (λ (z : Writing). In l z.enc) p i in
    let m' : (packed (entries_of rest) w').enc.n ≤ ends l = subst (λ (z : Writing). z.enc.n ≤ ends l) p m in
    let later = packed_held l (entries_of rest) w' wide i' in
    let g = bin_goes l w.enc b ctx e h f later.held (omega (arith, later.short, m')) in
    back_at l (bin c v k) (k b) e (decided l e ctx).next w w' bins rest a r
    (run_bin (by_engine l) c v k (record { engine = e; contexts = w.contexts }) b (record { engine = (decided l e ctx).next; contexts = w'.contexts }) (reads_bin l c b e w g)) p
    (pack_read K z P (suc j) l (k b) rest w' (decided l e ctx).next a r (u.1 b) wide g.next i' m' s.3)
pack_read K z P j l (bypass v k) bins w e a r u h f i m q =
    let s = took_on bypass_no bins (λ b s'. run by_list (k b) s') a r q in
    let b = s.0 in
    let rest = s.1 in
    let w' = writing (bypass_enc b w.enc) w.contexts in
    let p : packed (entries_of bins) w ≡ packed (entries_of rest) w' = on_bypass_lem b bins rest w s.2 in
    let wide = bypass_wide b w.enc h in
    let i' : In l (packed (entries_of rest) w').enc = subst (λ (z : Writing). In l z.enc) p i in
    let m' : (packed (entries_of rest) w').enc.n ≤ ends l = subst (λ (z : Writing). z.enc.n ≤ ends l) p m in
    let later = packed_held l (entries_of rest) w' wide i' in
    let g = bypass_goes l w.enc b e h f later.held (omega (arith, later.short, m')) in
    back_at l (bypass v k) (k b) e (bypassed l e 1).next w w' bins rest a r
    (run_bypass (by_engine l) v k (record { engine = e; contexts = w.contexts }) b (record { engine = (bypassed l e 1).next; contexts = w.contexts }) (reads_bypass l b e w.contexts g.0)) p
    (pack_read K z P (suc j) l (k b) rest w' (bypassed l e 1).next a r (u b) wide g.1 i' m' s.3)
pack_read K z P j l (align t) bins w e a r u h f i m q =
    let s = aligned_on bins (λ b s'. run by_list t s') a r q in
    let rest = s.0 in
    let w' = writing (align_enc w.enc) w.contexts in
    let p : packed (entries_of bins) w ≡ packed (entries_of rest) w' = on_align_lem bins rest w s.1 in
    let wide = align_wide w.enc h in
    let i' : In l (packed (entries_of rest) w').enc = subst (λ (z : Writing). In l z.enc) p i in
    let m' : (packed (entries_of rest) w').enc.n ≤ ends l = subst (λ (z : Writing). z.enc.n ≤ ends l) p m in
    let later = packed_held l (entries_of rest) w' wide i' in
    let g = align_goes l w.enc e f later.held in
    back_at l (align t) t e (range_aligned e) w w' bins rest a r
    (run_align (by_engine l) t (record { engine = e; contexts = w.contexts }) false (record { engine = range_aligned e; contexts = w.contexts }) (reads_align l e w.contexts g.0)) p
    (pack_read K z P (suc j) l t rest w' (range_aligned e) a r u.1 wide g.1 i' m' s.2)
