-- Request (i) in its own words: the reader, started on the payload with the same contexts and statistics, gives the same block, flags, statistics and final
-- contexts as the list says, never runs past the end, and then reads terminate as 1; the length is its position after that, in whole bytes. Assumes nothing.
use Rattle.std.specs.Prelude.{ℕ, ◌+◌, ◌*◌, ◌≤◌, ◌≡◌, refl, List, [], Bool, true, false, cond, length, take, ltb, ℤ}
use Rattle.std.proofs.Common.{sym, subst, ◌∙◌, arith, ltb-false}
use Rattle.std.proofs.Math.Path.{ap}
use Rattle.bins.specs.declared.state.Engine.{Engine}
use Rattle.bins.specs.Engine.{started}
use Rattle.bins.specs.Syn.{Out, run, by_engine, by_list}
use Rattle.cabac.specs.Numbers.{Answer, accepted, refused, ◌or_else◌, payload_refusal, state_refusal, ended_refusal}
use Rattle.cabac.specs.NumberLaws.{or_else_zero, or_else_rest}
use Rattle.cabac.specs.Entries.{start}
use Rattle.trees.specs.Every.{Each}
use Rattle.trees.specs.Reached.{each_list}
use Rattle.hevc_residual.specs.declared.params.Params.{Params}
use Rattle.hevc_residual.specs.Wanted.{area}
use Rattle.hevc_residual.specs.Residual.{Block, residual}
use Rattle.hevc_residual.specs.Numbers.{parameter_refusal, contexts_refusal, statistics_refusal}
use Rattle.hevc_residual.specs.Limits.{Accepted, Statistics}
use Rattle.hevc_residual.specs.LimitLaws.{parameter_passed, parameter_same, statistics_passed}
use Rattle.hevc_residual.specs.Entries.{Found, found_of, read_by_engine, read_payload_by, read_payload, read_from_list, read_bins_by, read_bins, block_with}
use Rattle.hevc_bounds.specs.Pieces.{bins_most, residual_bounds}
use Rattle.hevc_bounds.specs.ResidualBounds.{Whole, kept_none, residual_each}
use Rattle.hevc_cross.specs.Scale.{is_scale, scale}
use Rattle.hevc_cross.specs.Entries as cross
use Rattle.hevc_cross.specs.ScaleBounds.{scale_bounds, scale_each}
use Rattle.hevc_cross.specs.EntryLaws.{reads_whole}
use Rattle.packing.specs.Pack.{packed_from}
use Rattle.packing.proofs.TreeLaws.{Lent}
use Rattle.packing.specs.Packs.{entries_most, ReadsBack, Closes}
use Rattle.packing.proofs.PacksLaws.{closes}
use Rattle.packing.specs.Entries.{pack_tree}
use Rattle.packing.proofs.EntriesLaws.{Accepts, accepts_is, tree_read_back}
use Rattle.hevc_packer.specs.Entries.{places, pack_checks, pack_bins, scale_checks, pack_scale}

-- ---- a block: P is the payload, block any block that a reader is handed
pub record ReadAgain (P contexts stats : List ℕ) (p : Params) (bins : List ℕ) (block : List ℤ) : Type 0 where
  pub found : Found
  pub next : Engine
  pub stats' : List ℕ
  pub block' : List ℤ
  pub starts : start P ≡ accepted (started P)
  -- the same block, flags and statistics from the payload and from the list; the final contexts are those behind the list's bins
  pub reads : read_payload P (started P) contexts stats p block
      ≡ record { answer = accepted (record { found = found; next = next }); contexts = (packed_from contexts bins).contexts; stats = stats'; block = block' }
  pub listed : read_bins bins stats p block ≡ record { answer = accepted found; stats = stats'; block = block' }
  pub closes : Closes P next

module _ (p : Params) (stats : List ℕ) (a : Accepted p) (s : Statistics stats) where
  abbrev pub bounded : Type 0
  bounded = Each (residual_bounds p bins_most) (Whole p (λ l c. Unit {0}) stats bins_most) 0 (residual p stats)

  pub residual_bounded : bounded
  residual_bounded = residual_each p a (kept_none p) stats s

  -- a list that is read is so long at most
  pub list_few : (bins : List ℕ) (b : Block) → run by_list (residual p stats) bins ≡ Out.ok b [] → length bins ≤ 2 * bins_most
  list_few bins b q = let z = each_list residual_bounded bins b [] q in omega (arith, z.1, z.2.bins)

pub block_lent : (p : Params) (top : ℕ) → Lent (residual_bounds p top)
block_lent p top c h = omega arith

-- what the payload reader gives where its checks pass and the block's tree is read
pub reads_payload : (P : List ℕ) (e : Engine) (contexts stats : List ℕ) (p : Params) (block : List ℤ) (b : Block) (next : Engine) (cs' : List ℕ) → 0 ≡ payload_refusal P
    → 0 ≡ parameter_refusal p block → 0 ≡ state_refusal P e → 0 ≡ contexts_refusal contexts → 0 ≡ statistics_refusal stats → 0 ≡ ended_refusal e
    → run (by_engine P) (residual p stats) (record { engine = e; contexts = contexts }) ≡ Out.ok b (record { engine = next; contexts = cs' })
    → read_payload P e contexts stats p block
    ≡ record { answer = accepted (record { found = found_of b; next = next }); contexts = cs'; stats = b.stats; block = block_with p b.levels block }
unfolding read_payload
reads_payload P e contexts stats p block b next cs' u v w x y z q =
    let c = or_else_rest 0 _ _ u (or_else_rest 0 _ _ v (or_else_rest 0 _ _ w (or_else_rest 0 _ _ x (or_else_rest 0 _ _ y z)))) in
    ap (λ k. read_payload_by k P e contexts stats p block) (sym c) ∙ unfold read_payload_by read_by_engine in ap (read_by_engine p contexts stats block) q

module _ (P contexts stats : List ℕ) (p : Params) (bins : List ℕ) (block : List ℤ) (b : Block) where
  list_read : 0 ≡ parameter_refusal p block → 0 ≡ statistics_refusal stats → run by_list (residual p stats) bins ≡ Out.ok b []
      → read_bins bins stats p block ≡ record { answer = accepted (found_of b); stats = b.stats; block = block_with p b.levels block }
  unfolding read_bins
  list_read u v q =
      let c = or_else_rest 0 _ _ u v in
      ap (λ k. read_bins_by k bins stats p block) (sym c) ∙ unfold read_bins_by read_from_list in ap (read_from_list p stats block) q

  again : (k : ReadsBack P (residual p stats) contexts b (packed_from contexts bins).contexts) → run by_list (residual p stats) bins ≡ Out.ok b []
      → 0 ≡ parameter_refusal p block → 0 ≡ contexts_refusal contexts → 0 ≡ statistics_refusal stats → ReadAgain P contexts stats p bins block
  again k q u v w =
      record {
        found = found_of b;
        next = k.state;
        stats' = b.stats;
        block' = block_with p b.levels block;
        starts = k.starts;
        reads = reads_payload P (started P) contexts stats p block b k.state (packed_from contexts bins).contexts k.admitted u k.possible v w k.running k.reads;
        listed = list_read u w q;
        closes = closes P (residual p stats) contexts b (packed_from contexts bins).contexts k;
      }

-- what the checks let through
pub record Passed (contexts stats : List ℕ) (p : Params) : Type 0 where
  pub params : 0 ≡ parameter_refusal p places
  pub bytes : 0 ≡ contexts_refusal contexts
  pub counts : 0 ≡ statistics_refusal stats
  pub within : Accepted p
  pub small : Statistics stats

pub passed : (contexts stats : List ℕ) (p : Params) → 0 ≡ pack_checks contexts stats p → Passed contexts stats p
passed contexts stats p pass =
    let z = or_else_zero (parameter_refusal p places) (contexts_refusal contexts or_else statistics_refusal stats) pass in
    let y = or_else_zero (contexts_refusal contexts) (statistics_refusal stats) z.1 in
    record { params = z.0; bytes = y.0; counts = y.1; within = (parameter_passed p places z.0).0; small = statistics_passed stats y.1 }

-- The theorem: whatever is accepted, with the number n, the first n bytes of the room are read back as the list says.
pub pack_is_read : (contexts stats : List ℕ) (p : Params) (bins room : List ℕ) (n : ℕ) (block : List ℤ) → (pack_bins contexts stats p bins room).answer ≡ accepted n
    → area p ≤ length block → ReadAgain (take n (pack_bins contexts stats p bins room).room) contexts stats p bins block
unfolding pack_bins
pack_is_read contexts stats p bins room n block q h =
    let m = pack_checks contexts stats p in
    let k = passed contexts stats p (accepts_is (residual p stats) contexts bins room n m q).fine in
    let w = residual_bounded p stats k.within k.small in
    let r = tree_read_back w (block_lent p bins_most) m contexts bins room n q (λ b u. omega (arith, list_few p stats k.within k.small bins b u)) in
    again (take n (pack_tree m (residual p stats) contexts bins room).room) contexts stats p bins block r.0.value r.1 r.0.read
    (parameter_same p places block k.params h) k.bytes k.counts

-- ---- a scale
pub record ScaleAgain (P contexts : List ℕ) (c : ℕ) (bins : List ℕ) : Type 0 where
  pub scale : ℤ
  pub next : Engine
  pub starts : start P ≡ accepted (started P)
  pub reads : cross.read_payload P (started P) contexts c ≡ record { answer = accepted (record { scale = scale; next = next }); contexts = (packed_from contexts bins).contexts }
  pub listed : cross.read_bins bins c ≡ accepted scale
  pub closes : Closes P next

pub scale_bounded : (c : ℕ) → c ≤ 1 → Each scale_bounds (λ z m. (is_scale z ≡ true) × (m ≤ 0 + 5)) 0 (scale c)
scale_bounded c h = scale_each (λ z. z) c h

pub scale_lent : Lent scale_bounds
scale_lent c h = h.1

pub scale_few : (c : ℕ) → c ≤ 1 → (bins : List ℕ) (z : ℤ) → run by_list (scale c) bins ≡ Out.ok z [] → length bins ≤ 10
scale_few c h bins z q = let w = each_list (scale_bounded c h) bins z [] q in omega (arith, w.1, w.2.1)

pub component_few : (c : ℕ) → 0 ≡ cross.component_refusal c → c ≤ 1
unfolding cross.component_refusal
component_few c q = go (ltb 1 c) refl q
  where
    go : (d : Bool) → ltb 1 c ≡ d → ◌≡◌ {A = ℕ} 0 (cond d 4 0) → c ≤ 1
    go true e q = absurd (omega arith)
    go false e q = ltb-false 1 c e

module _ (P contexts : List ℕ) (c : ℕ) (bins : List ℕ) (z : ℤ) where
  scale_payload : (e : Engine) (cs' : List ℕ) → 0 ≡ payload_refusal P → 0 ≡ cross.component_refusal c → 0 ≡ state_refusal P (started P) → 0 ≡ contexts_refusal contexts
      → 0 ≡ ended_refusal (started P)
      → run (by_engine P) (scale c) (record { engine = started P; contexts = contexts }) ≡ Out.ok z (record { engine = e; contexts = cs' })
      → cross.read_payload P (started P) contexts c ≡ record { answer = accepted (record { scale = z; next = e }); contexts = cs' }
  unfolding cross.read_payload
  scale_payload e cs' u v w x y q =
      let k = or_else_rest 0 _ _ u (or_else_rest 0 _ _ v (or_else_rest 0 _ _ w (or_else_rest 0 _ _ x y))) in
      ap (λ k. cross.read_payload_by k P (started P) contexts c) (sym k) ∙ unfold cross.read_payload_by cross.read_by_engine in ap (cross.read_by_engine contexts) q

-- the same of a scale
pub scale_is_read : (contexts : List ℕ) (c : ℕ) (bins room : List ℕ) (n : ℕ) → (pack_scale contexts c bins room).answer ≡ accepted n
    → ScaleAgain (take n (pack_scale contexts c bins room).room) contexts c bins
unfolding pack_scale
scale_is_read contexts c bins room n q =
    let m = scale_checks contexts c in
    let f = or_else_zero (cross.component_refusal c) (contexts_refusal contexts) (accepts_is (scale c) contexts bins room n m q).fine in
    let h = component_few c f.0 in
    let r = tree_read_back (scale_bounded c h) scale_lent m contexts bins room n q (λ z u. omega (arith, scale_few c h bins z u)) in
    let P = take n (pack_tree m (scale c) contexts bins room).room in
    let k = r.1 in
    record {
      scale = r.0.value;
      next = k.state;
      starts = k.starts;
      reads = scale_payload P contexts c bins r.0.value k.state (packed_from contexts bins).contexts k.admitted f.0 k.possible f.1 k.running k.reads;
      listed = reads_whole bins c f.0 r.0.value r.0.read;
      closes = closes P (scale c) contexts r.0.value (packed_from contexts bins).contexts k;
    }
