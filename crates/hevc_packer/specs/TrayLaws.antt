-- A tray packed is read back block for block: the reader, called for one block after the other on the payload, gives what the lists hold. Assumes nothing.
use Rattle.std.specs.Prelude.{ℕ, zero, suc, ◌+◌, ◌*◌, ◌≤◌, ◌<◌, ◌≡◌, refl, Bool, true, false, cond, List, [], ◌∷◌, length, take, drop, get_or, ltb, ℤ}
use Rattle.std.proofs.Common.{sym, ap, ap₂, subst, ◌∙◌, arith, take_at, le-ltb, ltb-false}
use Rattle.bins.specs.declared.state.Engine.{Engine}
use Rattle.bins.specs.Bits.{ends, past_most}
use Rattle.bins.specs.Engine.{started, fetched}
use Rattle.bins.specs.Tags.{context_count}
use Rattle.bins.specs.Syn.{Syn, done, stop, bin, bypass, align, ◌>>=◌, Source, Out, run, Reading, by_engine, by_list}
use Rattle.bins.specs.Laws.{run_bind, then_run, bind_ok, Ends}
use Rattle.bins.specs.CodeLaws.{Packed}
use Rattle.bins.specs.EngineRuns.{Runs, Running, run_running}
use Rattle.cabac.specs.Numbers.{Answer, accepted, refused, ◌or_else◌, payload_refusal, state_refusal, context_refusal, ended_refusal}
use Rattle.cabac.specs.NumberLaws.{or_else_zero, or_else_rest, state_fine, state_runs, ended_not}
use Rattle.cabac.specs.Entries.{start}
use Rattle.trees.specs.Every.{Bounds, Every, Each, each_done, each_bind}
use Rattle.trees.specs.Reached.{each_list}
use Rattle.hevc_residual.specs.declared.params.Params.{Params}
use Rattle.hevc_residual.specs.Wanted.{Wanted, area}
use Rattle.hevc_residual.specs.Residual.{Block, residual}
use Rattle.hevc_residual.specs.Numbers.{parameter_refusal, contexts_refusal, statistic_refusal, statistics_refusal}
use Rattle.hevc_residual.specs.Limits.{Accepted, Statistics}
use Rattle.hevc_residual.specs.LimitLaws.{parameter_passed, parameter_same, statistics_passed}
use Rattle.hevc_residual.specs.Entries.{found_of, read_payload, block_with}
use Rattle.hevc_checks.specs.ChecksLaws.{contexts_packed}
use Rattle.hevc_bounds.specs.Pieces.{bins_most, residual_bounds}
use Rattle.packing.specs.Pack.{begun, Writing, writing, entries_of, packed, packed_from, payload_of}
use Rattle.packing.specs.FollowLaws.{In, Follows, Wide}
use Rattle.packing.proofs.TreeLaws.{Lent, packed_wide, pack_read}
use Rattle.packing.specs.PayloadLaws.{payload_length, payload_in, begun_wide, started_follows}
use Rattle.packing.specs.Packs.{entries_most, ReadsBack, Closes}
use Rattle.packing.proofs.PacksLaws.{closes, packs}
use Rattle.packing.specs.Entries.{BinsPacked, payload_from, pack_tree}
use Rattle.packing.proofs.EntriesLaws.{Accepts, accepts_is}
use Rattle.hevc_packer.specs.Entries.{places}
use Rattle.hevc_packer.specs.ReadAgain.{residual_bounded, block_lent, reads_payload}
use Rattle.hevc_packer.specs.Tray.{blocks_s, count_refusal, records_refusal, tray_checks, pack_tray}

-- ---- block for block: each call of the reader, from state e and contexts cs to f and ds; its block may be any that has room
abbrev pub InTurn : List ℕ → Engine → List ℕ → List ℕ → List Params → List Block → Engine → List ℕ → Type 0
InTurn P e cs stats [] [] f ds = (e ≡ f) × (cs ≡ ds)
InTurn P e cs stats [] (b ∷ bs) f ds = ⊥
InTurn P e cs stats (p ∷ ps) [] f ds = ⊥
InTurn P e cs stats (p ∷ ps) (b ∷ bs) f ds =
    (next : Engine) × (mid : List ℕ)
    × ((block : List ℤ) → area p ≤ length block
    → read_payload P e cs stats p block ≡ record { answer = accepted (record { found = found_of b; next = next }); contexts = mid; stats = b.stats; block = block_with p b.levels block })
    × InTurn P next mid b.stats ps bs f ds

-- the lists: what is left of the bytes is the next block's
abbrev pub Lists : List ℕ → List Params → List ℕ → List Block → Type 0
Lists stats [] bins [] = bins ≡ []
Lists stats [] bins (b ∷ bs) = ⊥
Lists stats (p ∷ ps) bins [] = ⊥
Lists stats (p ∷ ps) bins (b ∷ bs) = (rest : List ℕ) × (run by_list (residual p stats) bins ≡ Out.ok b rest) × Lists b.stats ps rest bs

-- ---- a tree and then another, where the outcome of both is known
between : {S B A C : Type 0} (src : Source S) (t : Syn B A) (f : A → Syn B C) (s : S) (c : C) (r : S) → run src (t >>= f) s ≡ Out.ok c r
    → (a : A) × (m : S) × (run src t s ≡ Out.ok a m) × (run src (f a) m ≡ Out.ok c r)
between {S} {B} {A} src t f s c r q = go (run src t s) refl (sym (run_bind src t f s) ∙ q)
  where
    go : (o : Out S A) → run src t s ≡ o → then_run src f o ≡ Out.ok c r → (a : A) × (m : S) × (run src t s ≡ Out.ok a m) × (run src (f a) m ≡ Out.ok c r)
    go (Out.ok a m) e q = (a, m, e, q)
    go (Out.no n m) e q = let z : ◌≡◌ {A = ℕ} 0 1 = cc in absurd (omega arith)

-- a block and those behind it
pub split_blocks : {S : Type 0} (src : Source S) (p : Params) (ps : List Params) (stats : List ℕ) (s : S) (bs : List Block) (r : S) → run src (blocks_s (p ∷ ps) stats) s ≡ Out.ok bs r
    → (b : Block) × (m : S) × (cs : List Block) × (run src (residual p stats) s ≡ Out.ok b m) × (run src (blocks_s ps b.stats) m ≡ Out.ok cs r) × (bs ≡ b ∷ cs)
unfolding blocks_s run
split_blocks src p ps stats s bs r q =
    let x = between src (residual p stats) (λ b. blocks_s ps b.stats >>= λ cs. done (b ∷ cs)) s bs r q in
    let y = between src (blocks_s ps x.0.stats) (λ cs. done (x.0 ∷ cs)) x.1 bs r x.3 in
    let u : Out.ok (x.0 ∷ y.0) y.1 ≡ Out.ok bs r = y.3 in
    let v : x.0 ∷ y.0 ≡ bs = cc in
    let w : y.1 ≡ r = cc in
    (x.0, x.1, y.0, x.2, y.2 ∙ ap (λ z. Out.ok y.0 z) w, sym v)

pub none_blocks : {S : Type 0} (src : Source S) (stats : List ℕ) (s : S) (bs : List Block) (r : S) → run src (blocks_s [] stats) s ≡ Out.ok bs r → (bs ≡ []) × (s ≡ r)
unfolding blocks_s run
none_blocks src stats s bs r q =
    let a : bs ≡ [] = cc in
    let b : s ≡ r = cc in
    (a, b)

-- ---- checks that pass
pub contexts_fine : (cs : List ℕ) → Packed cs → 0 ≡ contexts_refusal cs
unfolding contexts_refusal context_refusal
contexts_fine [] h = refl
contexts_fine (c ∷ cs) h = or_else_rest 0 (cond (ltb 127 c) 3 0) (contexts_refusal cs) (sym (ap (λ b. cond b 3 0) (le-ltb 127 c (omega (arith, h 0))))) (contexts_fine cs (λ i. h (suc i)))

pub statistics_fine : (st : List ℕ) → Statistics st → 0 ≡ statistics_refusal st
unfolding statistics_refusal statistic_refusal
statistics_fine [] h = refl
statistics_fine (s ∷ st) h = or_else_rest 0 (cond (ltb 84 s) 3 0) (statistics_refusal st) (sym (ap (λ b. cond b 3 0) (le-ltb 84 s (h 0)))) (statistics_fine st (λ i. h (suc i)))

pub record_first : (p : Params) (ps : List Params) → 0 ≡ records_refusal (p ∷ ps) → (0 ≡ parameter_refusal p places) × (0 ≡ records_refusal ps)
unfolding records_refusal
record_first p ps q = or_else_zero (parameter_refusal p places) (records_refusal ps) q

-- ---- bounds of a tray's tree: lent contexts, whatever was read before
abbrev tray_bounds : Bounds
tray_bounds = record { stops = λ r n. Unit {0}; aligns = λ n. Unit {0}; contexts = λ c. c < context_count }

tray_lent : Lent tray_bounds
tray_lent c h = h

abbrev Some : {A : Type 0} → A → ℕ → Type 0
Some a n = Unit {0}

-- where the count of bins is not asked about, it may be any
every_from : {B A : Type 0} (K : Bounds) → Lent K → (P : A → ℕ → Type 0) (Q : A → Type 0) → ((a : A) (m : ℕ) → P a m → Q a) → (m n : ℕ) (t : Syn B A) → Every K P m t
    → Every tray_bounds (λ a k. Q a) n t
every_from K v P Q g m n (done a) h = g a m h
every_from K v P Q g m n (stop r) h = tt
every_from K v P Q g m n (bin c w k) h = (v c h.0, λ b. every_from K v P Q g (suc m) (suc n) (k b) (h.1 b))
every_from K v P Q g m n (bypass w k) h = λ b. every_from K v P Q g (suc m) (suc n) (k b) (h b)
every_from K v P Q g m n (align t) h = (tt, every_from K v P Q g (suc m) (suc n) t h.1)

block_each : (p : Params) (stats : List ℕ) → Accepted p → Statistics stats → (n : ℕ) → Each tray_bounds (λ b k. Statistics b.stats) n (residual p stats)
block_each p stats a s n =
    record { holds = every_from (residual_bounds p bins_most) (block_lent p bins_most) _ (λ b. Statistics b.stats) (λ b m w. w.small) 0 n (residual p stats) (residual_bounded p stats a s).holds }

blocks_each : (ps : List Params) (stats : List ℕ) → 0 ≡ records_refusal ps → Statistics stats → (n : ℕ) → Each tray_bounds Some n (blocks_s ps stats)
unfolding blocks_s
blocks_each [] stats q s n = each_done tt
blocks_each (p ∷ ps) stats q s n =
    let r = record_first p ps q in
    each_bind (block_each p stats (parameter_passed p places r.0).0 s n) (λ b m h. each_bind (blocks_each ps b.stats r.1 h m) (λ bs k u. each_done tt))

-- ---- how long the lists are, and what they hold
pub tray_lists : (ps : List Params) (stats bins : List ℕ) (bs : List Block) → 0 ≡ records_refusal ps → Statistics stats → run by_list (blocks_s ps stats) bins ≡ Out.ok bs []
    → (length bins ≤ 2 * (bins_most * length ps)) × Lists stats ps bins bs
tray_lists [] stats bins bs q s w =
    let z = none_blocks by_list stats bins bs [] w in
    (omega (arith, ap length z.1), subst (Lists stats [] bins) (sym z.0) z.1)
tray_lists (p ∷ ps) stats bins bs q s w =
    let r = record_first p ps q in
    let x = split_blocks by_list p ps stats bins bs [] w in
    let h = each_list (residual_bounded p stats (parameter_passed p places r.0).0 s) bins x.0 x.1 x.3 in
    let y = tray_lists ps x.0.stats x.1 x.2 r.1 h.2.small x.4 in
    (omega (arith, h.1, h.2.bins, y.0), subst (Lists stats (p ∷ ps) bins) (sym x.5) (x.1, x.3, y.1))

-- ---- block for block
module _ (P : List ℕ) (size : ℕ) (admitted : 0 ≡ payload_refusal P) where
  in_turn : (ps : List Params) (stats bins : List ℕ) (w : Writing) (e : Engine) (bs : List Block) (f : Engine) (ds : List ℕ) → 0 ≡ records_refusal ps → Statistics stats
      → Running P size (record { engine = e; contexts = w.contexts }) → Wide w.enc → Follows P w.enc e → In P (packed (entries_of bins) w).enc
      → (packed (entries_of bins) w).enc.n ≤ ends P → run by_list (blocks_s ps stats) bins ≡ Out.ok bs []
      → run (by_engine P) (blocks_s ps stats) (record { engine = e; contexts = w.contexts }) ≡ Out.ok bs (record { engine = f; contexts = ds })
      → InTurn P e w.contexts stats ps bs f ds
  in_turn [] stats bins w e bs f ds q s run₀ h g i k l m =
      let z = none_blocks (by_engine P) stats (record { engine = e; contexts = w.contexts }) bs (record { engine = f; contexts = ds }) m in
      subst (λ (cs : List Block). InTurn P e w.contexts stats [] cs f ds) (sym z.0) (ap (λ (r : Reading). r.engine) z.1, ap (λ (r : Reading). r.contexts) z.1)
  in_turn (p ∷ ps) stats bins w e bs f ds q s run₀ h g i k l m =
      let r = record_first p ps q in
      let fine = (parameter_passed p places r.0).0 in
      let bounded = residual_bounded p stats fine s in
      let x = split_blocks by_list p ps stats bins bs [] l in
      let b = x.0 in
      let small = (each_list bounded bins b x.1 x.3).2.small in
      let back = pack_read (residual_bounds p bins_most) (block_lent p bins_most) _ 0 P (residual p stats) bins w e b x.1 bounded.holds h g i k x.3 in
      let y = split_blocks (by_engine P) p ps stats (record { engine = e; contexts = w.contexts }) bs (record { engine = f; contexts = ds }) m in
      let o : Out.ok y.0 y.1 ≡ Out.ok b (record { engine = back.state; contexts = back.stood.contexts }) = sym y.3 ∙ back.reads in
      let same : y.0 ≡ b = cc in
      let at : y.1 ≡ record { engine = back.state; contexts = back.stood.contexts } = cc in
      let c : x.2 ≡ y.2 = let z : b ∷ x.2 ≡ y.0 ∷ y.2 = sym x.5 ∙ y.5 in cc in
      let on : run (by_engine P) (blocks_s ps b.stats) (record { engine = back.state; contexts = back.stood.contexts }) ≡ Out.ok x.2 (record { engine = f; contexts = ds }) =
      ap₂ (λ (v : Block) (u : Reading). run (by_engine P) (blocks_s ps v.stats) u) (sym same) (sym at) ∙ y.4 ∙ ap (λ (v : List Block). Out.ok v (record { engine = f; contexts = ds })) (sym c) in
      let next : Running P size (record { engine = back.state; contexts = back.stood.contexts }) =
      subst (Ends (Running P size)) back.reads (run_running P size (residual p stats) e w.contexts run₀) in
      let i' : In P (packed (entries_of x.1) back.stood).enc = subst (λ (z : Writing). In P z.enc) back.rest i in
      let k' : (packed (entries_of x.1) back.stood).enc.n ≤ ends P = subst (λ (z : Writing). z.enc.n ≤ ends P) back.rest k in
      let rest = in_turn ps b.stats x.1 back.stood back.state x.2 f ds r.1 small next back.fine back.follows i' k' x.4 on in
      let u = run₀.0 in
      let state = state_fine P e u.fits u.counts g.live u.least u.most u.below in
      subst (λ (v : List Block). InTurn P e w.contexts stats (p ∷ ps) v f ds) (sym x.5) (
        back.state,
        back.stood.contexts,
        λ block room. reads_payload P e w.contexts stats p block b back.state back.stood.contexts admitted (parameter_same p places block r.0 room) state
            (contexts_fine w.contexts run₀.1) (statistics_fine stats s) (ended_not e g.live) back.reads,
        rest,
      )

-- ---- the theorem
pub record TrayAgain (P contexts stats : List ℕ) (ps : List Params) (bins : List ℕ) : Type 0 where
  pub blocks : List Block
  pub next : Engine
  pub starts : start P ≡ accepted (started P)
  pub lists : Lists stats ps bins blocks
  pub turns : InTurn P (started P) contexts stats ps blocks next (packed_from contexts bins).contexts
  pub closes : Closes P next

started_live : (l : List ℕ) → (started l).ended ≡ false
unfolding started fetched
started_live l = refl

pub count_few : (ps : List Params) → 0 ≡ count_refusal ps → length ps ≤ 256
unfolding count_refusal
count_few ps q = go (ltb 256 (length ps)) refl q
  where
    go : (d : Bool) → ltb 256 (length ps) ≡ d → ◌≡◌ {A = ℕ} 0 (cond d 4 0) → length ps ≤ 256
    go true e q = absurd (omega arith)
    go false e q = ltb-false 256 (length ps) e

pub tray_again : (contexts stats : List ℕ) (ps : List Params) (bins : List ℕ) (bs : List Block) → 0 ≡ tray_checks contexts stats ps
    → run by_list (blocks_s ps stats) bins ≡ Out.ok bs [] → TrayAgain (payload_from contexts bins) contexts stats ps bins
tray_again contexts stats ps bins bs pass read =
    let a = or_else_zero (count_refusal ps) (records_refusal ps or_else contexts_refusal contexts or_else statistics_refusal stats) pass in
    let b = or_else_zero (records_refusal ps) (contexts_refusal contexts or_else statistics_refusal stats) a.1 in
    let c = or_else_zero (contexts_refusal contexts) (statistics_refusal stats) b.1 in
    let s = statistics_passed stats c.1 in
    let z = tray_lists ps stats bins bs b.0 s read in
    let P = payload_from contexts bins in
    let w = packed_from contexts bins in
    let few : length bins ≤ 2 * entries_most + 1 = omega (arith, z.0, count_few ps a.0) in
    let k = packs (blocks_each ps stats b.0 s 0) tray_lent contexts bins bs few read in
    let wide = packed_wide (entries_of bins) (writing begun contexts) begun_wide in
    let long = payload_length w.enc in
    let runs : Running P (length contexts) (record { engine = started P; contexts = contexts }) =
    (state_runs P (started P) k.admitted k.possible (started_live P), contexts_packed contexts c.0, refl) in
    record {
      blocks = bs;
      next = k.state;
      starts = k.starts;
      lists = z.1;
      turns = in_turn P (length contexts) k.admitted ps stats bins (writing begun contexts) (started P) bs k.state w.contexts b.0 s runs begun_wide
          (started_follows P (omega (arith, long, wide.nine))) (payload_in w.enc wide) (omega (arith, long)) read k.reads;
      closes = closes P (blocks_s ps stats) contexts bs w.contexts k;
    }

-- whatever is accepted with n: the first n bytes of the room are read back, block for block
pub tray_is_read : (contexts stats : List ℕ) (ps : List Params) (bins room : List ℕ) (n : ℕ) → (pack_tray contexts stats ps bins room).answer ≡ accepted n
    → TrayAgain (take n (pack_tray contexts stats ps bins room).room) contexts stats ps bins
unfolding pack_tray
tray_is_read contexts stats ps bins room n q =
    let k = accepts_is (blocks_s ps stats) contexts bins room n (tray_checks contexts stats ps) q in
    subst (λ (P : List ℕ). TrayAgain P contexts stats ps bins) (sym (front k)) (tray_again contexts stats ps bins k.value k.fine k.read)
  where
    front : (k : Accepts (tray_checks contexts stats ps) (blocks_s ps stats) contexts bins room n)
        → take n (pack_tree (tray_checks contexts stats ps) (blocks_s ps stats) contexts bins room).room ≡ payload_from contexts bins
    front k = ap (λ (z : BinsPacked). take n z.room) k.is ∙ take_at (payload_from contexts bins) (drop n room) n k.long
