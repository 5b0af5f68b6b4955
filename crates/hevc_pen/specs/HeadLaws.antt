-- The head as its code puts it: the group of a position, then call after call. Assumes nothing.
use Prim.Native.Nat.{ℕ, suc, ◌+◌, ◌-◌, ◌*◌, ◌/◌, ◌%◌, ◌^◌, ◌≤◌, ◌<◌}
use Rattle.std.specs.Prelude.{◌≡◌, refl, Bool, true, false, ◌&&◌, List, [], ◌∷◌, get_or, ltb, leb}
use Rattle.std.proofs.Common.{sym, ◌∙◌, arith, pow_mono, lt-ltb, le-leb}
use Rattle.std.proofs.Math.Path.{ap, subst}
use Rattle.std.proofs.Math.Bool.{cond}
use Rattle.std.proofs.Math.Dec.{eqb}
use Rattle.std.proofs.lemmas.Bool.{lt-leb}
use Rattle.tables.specs.Table.{le_below}
use Rattle.bins.specs.Syn.{done, ◌>>=◌}
use Rattle.bins.specs.Readers.{flag_if, bits_s, prefix_s}
use Rattle.hevc_residual.specs.declared.params.Params.{Params}
use Rattle.hevc_residual.specs.declared.params.Rdpcm.{Rdpcm}
use Rattle.hevc_residual.specs.declared.params.Rdpcm.TheVariants as of_rdpcm
use Rattle.hevc_residual.specs.Layout.{at_last_x, at_last_y, in_chroma}
use Rattle.hevc_residual.specs.Wanted.{Wanted, S, area, outer_of, inner_of}
use Rattle.hevc_residual.specs.Scan.{Spot, spot}
use Rattle.hevc_residual.specs.Head.{Head, head_s, groups_s, last_prefix, last_wanted, least_of, suffix_bits, greatest_group, rdpcm_flag, rdpcm_dir, rdpcm_of, skip_coded, rdpcm_coded}
use Rattle.hevc_head_rules.specs.HeadOf.{placed_at}
use Rattle.hevc_head_rules.specs.HeadParts.{behind_skip, behind_flag, behind_dir, behind_groups, behind_suffix_x, wanted_x, wanted_y, last_luma, last_chroma}
use Rattle.pen.specs.Sheet.{Sheet, Wrote, Counts}
use Rattle.pen.specs.SheetLaws.{wrote_none, wrote_then, wrote_call}

-- ---- the group of a position below 32
unfoldable pub groups : List ℕ
groups = 0 ∷ 1 ∷ 2 ∷ 3 ∷ 4 ∷ 4 ∷ 5 ∷ 5 ∷ 6 ∷ 6 ∷ 6 ∷ 6 ∷ 7 ∷ 7 ∷ 7 ∷ 7 ∷ 8 ∷ 8 ∷ 8 ∷ 8 ∷ 8 ∷ 8 ∷ 8 ∷ 8 ∷ 9 ∷ 9 ∷ 9 ∷ 9 ∷ 9 ∷ 9 ∷ 9 ∷ 9 ∷ []

abbrev pub group_of : ℕ → ℕ
group_of v = get_or groups v 0

module _ (v : ℕ) (h : v < 32) where
  pub group_least : least_of (group_of v) ≤ v
  unfolding groups least_of
  group_least = le_below (λ v. least_of (group_of v)) (λ v. v) 32 tt v h

  -- it ends above v, and its suffix can tell v apart
  group_ends : suc v ≤ cond (ltb (group_of v) 9) (least_of (suc (group_of v))) 32
  unfolding groups least_of
  group_ends = le_below (λ v. suc v) (λ v. cond (ltb (group_of v) 9) (least_of (suc (group_of v))) 32) 32 tt v h

  pub group_suffix : v - least_of (group_of v) < 2 ^ suffix_bits (group_of v)
  unfolding groups least_of
  group_suffix = le_below (λ v. suc (v - least_of (group_of v))) (λ v. 2 ^ suffix_bits (group_of v)) 32 tt v h

  pub group_small : group_of v ≤ 9
  unfolding groups
  group_small = le_below (λ v. group_of v) (λ v. 9) 32 tt v h

  pub suffix_small : suffix_bits (group_of v) ≤ 32
  unfolding groups
  suffix_small = le_below (λ v. suffix_bits (group_of v)) (λ v. 32) 32 tt v h

  -- every group up to it begins no higher
  group_reached : (g : ℕ) → g < group_of v → least_of (suc g) ≤ v
  unfolding groups least_of
  group_reached g k =
      let i : v * 10 + g < 320 = omega (arith, group_small) in
      let f : (v * 10 + g) / 10 ≡ v = omega (arith, group_small) in
      let m : (v * 10 + g) % 10 ≡ g = omega (arith, group_small) in
      let t : cond (ltb ((v * 10 + g) % 10) (group_of ((v * 10 + g) / 10))) (least_of (suc ((v * 10 + g) % 10))) 0 ≤ (v * 10 + g) / 10 =
      le_below (λ i. cond (ltb (i % 10) (group_of (i / 10))) (least_of (suc (i % 10))) 0) (λ i. i / 10) 320 tt (v * 10 + g) i in
      let u : cond (ltb g (group_of v)) (least_of (suc g)) 0 ≤ v =
      subst (λ z. cond (ltb z (group_of v)) (least_of (suc z)) 0 ≤ v) m (subst (λ z. cond (ltb ((v * 10 + g) % 10) (group_of z)) (least_of (suc ((v * 10 + g) % 10))) 0 ≤ z) f t) in
      subst (λ b. cond b (least_of (suc g)) 0 ≤ v) (lt-ltb g (group_of v) k) u

  group_under : (most : ℕ) → most ≤ 9 → group_of v < most → v < least_of (suc (group_of v))
  group_under most m k =
      subst (λ b. suc v ≤ cond b (least_of (suc (group_of v))) 32) (lt-ltb (group_of v) 9 (omega arith)) group_ends

  pub group_counts : (most : ℕ) → most ≤ 9 → (want : Wanted → ℕ) (w : Wanted) → want w ≡ v
      → Counts (λ g t. leb (least_of (suc g)) (want t)) w (group_of v) most
  group_counts most m want w q = (
    λ g k. rw q (le-leb (least_of (suc g)) v (group_reached g k)),
    λ k. rw q (lt-leb (least_of (suc (group_of v))) v (group_under most m k)),
  )

-- a position in the block lies in one of its groups
pub group_within : (log2 v : ℕ) → 2 ≤ log2 → log2 ≤ 5 → v < 2 ^ log2 → group_of v ≤ greatest_group log2
unfolding groups
group_within log2 v lo hi h =
    let b : 2 ^ log2 ≤ 32 = pow_mono {i = log2} {j = 5} hi in
    let i : log2 * 32 + v < 192 = omega arith in
    let f : (log2 * 32 + v) / 32 ≡ log2 = omega arith in
    let m : (log2 * 32 + v) % 32 ≡ v = omega arith in
    let t = le_below (λ i. cond (leb 2 (i / 32) && ltb (i % 32) (2 ^ (i / 32))) (group_of (i % 32)) 0) (λ i. greatest_group (i / 32)) 192 tt (log2 * 32 + v) i in
    let u : cond (leb 2 log2 && ltb v (2 ^ log2)) (group_of v) 0 ≤ greatest_group log2 =
    subst (λ z. cond (leb 2 log2 && ltb z (2 ^ log2)) (group_of z) 0 ≤ greatest_group log2) m
    (subst (λ z. cond (leb 2 z && ltb ((log2 * 32 + v) % 32) (2 ^ z)) (group_of ((log2 * 32 + v) % 32)) 0 ≤ greatest_group z) f t) in
    (rw (le-leb 2 log2 lo, lt-ltb v (2 ^ log2) h) at u)

pub position_small : (log2 v : ℕ) → log2 ≤ 5 → v < 2 ^ log2 → v < 32
position_small log2 v hi h = let b : 2 ^ log2 ≤ 32 = pow_mono {i = log2} {j = 5} hi in omega arith

-- ---- skip and RDPCM are set only where they are coded
pub record Codable (p : Params) (skip : Bool) (rdpcm : Rdpcm) : Type 0 where
  pub of_skip : (skip_coded p && skip) ≡ skip
  pub of_rdpcm : (rdpcm_coded p skip && rdpcm_flag rdpcm) ≡ rdpcm_flag rdpcm

-- ---- what the calls put
abbrev pub PutFlag : Bool → ℕ → Bool → Sheet → Sheet → Type 0
PutFlag coded number flag s s' = (want : Wanted → Bool) (w : Wanted) → (coded ≡ true → want w ≡ flag) → Wrote (flag_if coded number want) (done (coded && flag)) w s s'

abbrev pub PutPrefix : ℕ → Bool → ℕ → ℕ → Sheet → Sheet → Type 0
PutPrefix first luma log2 v s s' = (want : Wanted → ℕ) (w : Wanted) → want w ≡ v → Wrote (last_prefix first luma log2 want) (done (group_of v)) w s s'

abbrev pub PutSuffix : ℕ → Sheet → Sheet → Type 0
PutSuffix v s s' =
    (x : Wanted → ℕ) (t : Wanted) → x t ≡ v - least_of (group_of v) → Wrote (bits_s (suffix_bits (group_of v)) 0 x) (done (v - least_of (group_of v))) t s s'

-- by the code's names of their numbers
pub flag_as : {c c' f f' : Bool} {n n' : ℕ} (s s' : Sheet) → c ≡ c' → n ≡ n' → f ≡ f' → PutFlag c n f s s' → PutFlag c' n' f' s s'
flag_as {c} {c'} {f} {f'} {n} {n'} s s' p q r h =
    subst (λ z. PutFlag c' n' z s s') r (subst (λ z. PutFlag c' z f s s') q (subst (λ z. PutFlag z n f s s') p h))

pub prefix_as : (first log2 : ℕ) {v v' : ℕ} (luma : Bool) (s s' : Sheet) → v ≡ v' → PutPrefix first luma log2 v s s' → PutPrefix first luma log2 v' s s'
prefix_as first log2 {v} {v'} luma s s' p h = subst (λ z. PutPrefix first luma log2 z s s') p h

pub suffix_as : {v v' : ℕ} (s s' : Sheet) → v ≡ v' → PutSuffix v s s' → PutSuffix v' s s'
suffix_as s s' p h = subst (λ z. PutSuffix z s s') p h

pub swapped_below : (scan x y n : ℕ) → x < n → y < n → cond (eqb scan 2) y x < n
swapped_below scan x y n hx hy = go (eqb scan 2)
  where
    go : (b : Bool) → cond b y x < n
    go true = hy
    go false = hx

-- the prefix of a coordinate, as the code asks for it
module _ (first : ℕ) (luma : Bool) (log2 v g : ℕ) (s s' : Sheet) (lo : 2 ≤ log2) (hi : log2 ≤ 5) (h : v < 2 ^ log2) (e : g ≡ group_of v) where
  prefix_put : (base shift : ℕ) (tree : (Wanted → ℕ) → S ℕ)
      → ((want : Wanted → ℕ) → prefix_s base shift (2 * log2 - 1) 0 (λ g t. leb (least_of (suc g)) (want t)) ≡ tree want)
      → ((one : ℕ → Wanted → Bool) (w : Wanted) → Counts one w g (2 * log2 - 1) → Wrote (prefix_s base shift (2 * log2 - 1) 0 one) (done g) w s s')
      → (want : Wanted → ℕ) (w : Wanted) → want w ≡ v → Wrote (tree want) (done (group_of v)) w s s'
  prefix_put base shift tree same f want w q =
      let c : Counts (λ g t. leb (least_of (suc g)) (want t)) w g (2 * log2 - 1) =
      subst (λ z. Counts (λ g t. leb (least_of (suc g)) (want t)) w z (2 * log2 - 1)) (sym e)
      (group_counts v (position_small log2 v hi h) (2 * log2 - 1) (omega arith) want w q) in
      subst (λ z. Wrote (tree want) (done z) w s s') e (subst (λ t. Wrote t (done g) w s s') (same want) (f (λ g t. leb (least_of (suc g)) (want t)) w c))

  pub luma_put : luma ≡ true
      → ((one : ℕ → Wanted → Bool) (w : Wanted) → Counts one w g (2 * log2 - 1)
      → Wrote (prefix_s (first + (3 * (log2 - 2) + (log2 - 1) / 4)) ((log2 + 1) / 4) (2 * log2 - 1) 0 one) (done g) w s s') → PutPrefix first luma log2 v s s'
  luma_put q f = prefix_put (first + (3 * (log2 - 2) + (log2 - 1) / 4)) ((log2 + 1) / 4) (last_prefix first luma log2) (λ want. last_luma first luma log2 want q) f

  pub chroma_put : luma ≡ false
      → ((one : ℕ → Wanted → Bool) (w : Wanted) → Counts one w g (2 * log2 - 1) → Wrote (prefix_s (first + 15) (log2 - 2) (2 * log2 - 1) 0 one) (done g) w s s')
      → PutPrefix first luma log2 v s s'
  chroma_put q f = prefix_put (first + 15) (log2 - 2) (last_prefix first luma log2) (λ want. last_chroma first luma log2 want q) f

-- ---- the whole head
both_of : (r : Rdpcm) → rdpcm_of (rdpcm_flag r) (rdpcm_flag r && rdpcm_dir r) ≡ r
both_of of_rdpcm.None = refl
both_of of_rdpcm.Horizontal = refl
both_of of_rdpcm.Vertical = refl

swapped_back : (b : Bool) (x y : ℕ) → cond b (cond b x y) (cond b y x) ≡ x
swapped_back true x y = refl
swapped_back false x y = refl

module _ (p : Params) (skip : Bool) (rdpcm : Rdpcm) (X Y : ℕ) (k : Codable p skip rdpcm) (s₀ s₁ s₂ s₃ s₄ s₅ s₆ s₇ : Sheet) where
  abbrev lx : ℕ
  lx = cond (eqb p.scan 2) Y X

  abbrev ly : ℕ
  ly = cond (eqb p.scan 2) X Y

  abbrev whole : S Head
  whole = head_s p (outer_of p) (inner_of p)

  module _ (hx : lx < 32) (hy : ly < 32) (a : PutFlag (skip_coded p) (114 + in_chroma p.luma 1) skip s₀ s₁)
      (b : PutFlag (rdpcm_coded p skip) (116 + in_chroma p.luma 1) (rdpcm_flag rdpcm) s₁ s₂)
      (c : PutFlag (rdpcm_flag rdpcm) (118 + in_chroma p.luma 1) (rdpcm_dir rdpcm) s₂ s₃) (d : PutPrefix 0 p.luma p.log2 lx s₃ s₄)
      (e : PutPrefix 18 p.luma p.log2 ly s₄ s₅) (f : PutSuffix lx s₅ s₆) (g : PutSuffix ly s₆ s₇) (w : Wanted) (ws : w.skip ≡ skip)
      (wr : w.rdpcm ≡ rdpcm) (wl : last_wanted p (outer_of p) (inner_of p) w (area p) ≡ spot X Y) where
    wx : wanted_x p w ≡ lx
    wx = ap (λ (q : Spot). cond (eqb p.scan 2) q.y q.x) wl

    wy : wanted_y p w ≡ ly
    wy = ap (λ (q : Spot). cond (eqb p.scan 2) q.x q.y) wl

    abbrev flag : Bool
    flag = rdpcm_flag rdpcm

    abbrev dir : Bool
    dir = rdpcm_flag rdpcm && rdpcm_dir rdpcm

    at_first : Wrote whole (flag_if (skip_coded p) (114 + in_chroma p.luma 1) (λ t. t.skip) >>= behind_skip p) w s₀ s₀
    unfolding head_s behind_skip
    at_first = wrote_none w whole s₀

    at_skip_lem : Wrote whole (behind_skip p skip) w s₀ s₁
    at_skip_lem =
        subst (λ z. Wrote whole (behind_skip p z) w s₀ s₁) k.of_skip
        (wrote_call w whole (flag_if (skip_coded p) (114 + in_chroma p.luma 1) (λ t. t.skip)) (behind_skip p) (skip_coded p && skip) s₀ s₀ s₁ at_first (a (λ t. t.skip) w (λ _. ws)))

    at_flag : Wrote whole (behind_flag p skip flag) w s₀ s₂
    unfolding behind_skip
    at_flag =
        subst (λ z. Wrote whole (behind_flag p skip z) w s₀ s₂) k.of_rdpcm
        (wrote_call w whole (flag_if (rdpcm_coded p skip) (116 + in_chroma p.luma 1) (λ t. rdpcm_flag t.rdpcm)) (behind_flag p skip)
        (rdpcm_coded p skip && flag) s₀ s₁ s₂ at_skip_lem (b (λ t. rdpcm_flag t.rdpcm) w (λ _. ap rdpcm_flag wr)))

    at_dir : Wrote whole (behind_dir p skip flag dir) w s₀ s₃
    unfolding behind_flag
    at_dir =
        wrote_call w whole (flag_if flag (118 + in_chroma p.luma 1) (λ t. rdpcm_dir t.rdpcm)) (behind_dir p skip flag) dir s₀ s₂ s₃ at_flag
        (c (λ t. rdpcm_dir t.rdpcm) w (λ _. ap rdpcm_dir wr))

    both_groups : Wrote (groups_s p.luma p.log2 (wanted_x p) (wanted_y p)) (done (spot (group_of lx) (group_of ly))) w s₃ s₅
    unfolding groups_s
    both_groups =
        let first = last_prefix at_last_x p.luma p.log2 (wanted_x p) in
        let second = last_prefix at_last_y p.luma p.log2 (wanted_y p) in
        let next : ℕ → S Spot = λ xg. second >>= λ yg. done (spot xg yg) in
        let u = wrote_then w first next (group_of lx) s₃ s₄ (d (wanted_x p) w wx) in
        wrote_call w (first >>= next) second (λ yg. done (spot (group_of lx) yg)) (group_of ly) s₃ s₄ s₅ u (e (wanted_y p) w wy)

    at_groups : Wrote whole (behind_groups p skip flag dir (group_of lx) (group_of ly)) w s₀ s₅
    unfolding behind_dir
    at_groups =
        wrote_call w whole (groups_s p.luma p.log2 (wanted_x p) (wanted_y p)) (λ (q : Spot). behind_groups p skip flag dir q.x q.y)
        (spot (group_of lx) (group_of ly)) s₀ s₃ s₅ at_dir both_groups

    at_suffix : Wrote whole (behind_suffix_x p skip flag dir (group_of lx) (group_of ly) (lx - least_of (group_of lx))) w s₀ s₆
    unfolding behind_groups
    at_suffix =
        wrote_call w whole (bits_s (suffix_bits (group_of lx)) 0 (λ t. wanted_x p t - least_of (group_of lx)))
        (behind_suffix_x p skip flag dir (group_of lx) (group_of ly)) (lx - least_of (group_of lx)) s₀ s₅ s₆ at_groups
        (f (λ t. wanted_x p t - least_of (group_of lx)) w (ap (λ z. z - least_of (group_of lx)) wx))

    pub head_written : Wrote whole (done (record { skip = skip; rdpcm = rdpcm; last_x = X; last_y = Y })) w s₀ s₇
    unfolding behind_suffix_x
    head_written =
        let swap = eqb p.scan 2 in
        let gx = least_of (group_of lx) in
        let gy = least_of (group_of ly) in
        let last : ℕ → S Head = λ sy. done (placed_at skip (rdpcm_of flag dir) swap (gx + (lx - gx)) (gy + sy)) in
        let r = wrote_call w whole (bits_s (suffix_bits (group_of ly)) 0 (λ t. wanted_y p t - gy)) last (ly - gy) s₀ s₆ s₇ at_suffix
        (g (λ t. wanted_y p t - gy) w (ap (λ z. z - gy) wy)) in
        let ex : gx + (lx - gx) ≡ lx = omega (arith, group_least lx hx) in
        let ey : gy + (ly - gy) ≡ ly = omega (arith, group_least ly hy) in
        let eX : cond swap (gy + (ly - gy)) (gx + (lx - gx)) ≡ X = ap (λ z. cond swap z (gx + (lx - gx))) ey ∙ ap (λ z. cond swap ly z) ex ∙ swapped_back swap X Y in
        let eY : cond swap (gx + (lx - gx)) (gy + (ly - gy)) ≡ Y = ap (λ z. cond swap z (gy + (ly - gy))) ex ∙ ap (λ z. cond swap lx z) ey ∙ swapped_back swap Y X in
        let er : rdpcm_of flag dir ≡ rdpcm = both_of rdpcm in
        let same : placed_at skip (rdpcm_of flag dir) swap (gx + (lx - gx)) (gy + (ly - gy)) ≡ record { skip = skip; rdpcm = rdpcm; last_x = X; last_y = Y } = cc in
        subst (λ z. Wrote whole (done z) w s₀ s₇) same r
