-- Skip, RDPCM and the last position, exact. Assumes nothing.
use Rattle.std.specs.Prelude.{ℕ, ◌+◌, ◌-◌, ◌*◌, ◌/◌, ◌^◌, ◌≤◌, ◌<◌, ◌≡◌, refl, Bool, List, eqb}
use Rattle.std.proofs.Common.{sym, ◌∙◌, arith}
use Rattle.std.proofs.Math.Bool.{true, false, cond}
use Rattle.hevc_residual.specs.declared.params.Params.{Params}
use Rattle.hevc_residual.specs.Scan.{Spot}
use Rattle.hevc_residual.specs.declared.params.Rdpcm.{Rdpcm}
use Rattle.hevc_residual.specs.declared.params.Rdpcm.TheVariants as of_rdpcm
use Rattle.hevc_residual.specs.Layout.{at_last_x, at_last_y}
use Rattle.hevc_residual.specs.Wanted.{Wanted, area}
use Rattle.hevc_residual.specs.Head.{Head, skip_coded, rdpcm_coded, rdpcm_flag, rdpcm_dir, rdpcm_of, least_of, suffix_bits, greatest_group, last_prefix, groups_s, last_wanted, head_s}
use Rattle.trees.specs.TreeLaws.{Writes, writes_done, writes_bind, Exact, exact_done, exact_bind}
use Rattle.trees.specs.ReaderLaws.{flag_writes, flag_exact, bits_writes, bits_exact, Group, prefix_writes, prefix_exact}
use Rattle.hevc_bounds.specs.GroupLaws.{least_rising, suffix_fits, suffix_group}

module _ (log2 : ℕ) (low : 2 ≤ log2) (high : log2 ≤ 5) where
  -- ---- the two prefixes
  module _ (b : Wanted) where
    last_writes : (first : ℕ) (luma : Bool) (v : Wanted → ℕ) → Writes (last_prefix first luma log2 v) b (Group least_of (greatest_group log2) (v b))
    unfolding last_prefix least_of
    last_writes first true v = prefix_writes least_of (greatest_group log2) v b (first + 3 * (log2 - 2) + (log2 - 1) / 4) ((log2 + 1) / 4) (omega arith)
    last_writes first false v = prefix_writes least_of (greatest_group log2) v b (first + 15) (log2 - 2) (omega arith)

    last_exact : (first : ℕ) (luma : Bool) (v : Wanted → ℕ)
        → Exact (last_prefix first luma log2 v) b (λ a. a ≤ greatest_group log2) (Group least_of (greatest_group log2) (v b))
    unfolding last_prefix
    last_exact first true v = prefix_exact least_of (greatest_group log2) v b (least_rising log2 low high) (first + 3 * (log2 - 2) + (log2 - 1) / 4) ((log2 + 1) / 4)
    last_exact first false v = prefix_exact least_of (greatest_group log2) v b (least_rising log2 low high) (first + 15) (log2 - 2)

    -- x and y are what is wanted, s the groups
    Groups : ℕ → ℕ → Spot → Type 0
    Groups x y s = Group least_of (greatest_group log2) x s.x × Group least_of (greatest_group log2) y s.y

    groups_writes : (luma : Bool) (x y : Wanted → ℕ) → Writes (groups_s luma log2 x y) b (Groups (x b) (y b))
    unfolding groups_s Groups
    groups_writes luma x y =
        writes_bind (last_writes at_last_x luma x) (λ i g. writes_bind (last_writes at_last_y luma y) (λ j h. writes_done (g, h)))

    groups_exact : (luma : Bool) (x y : Wanted → ℕ)
        → Exact (groups_s luma log2 x y) b (λ s. (s.x ≤ greatest_group log2) × (s.y ≤ greatest_group log2)) (Groups (x b) (y b))
    unfolding groups_s Groups
    groups_exact luma x y =
        exact_bind (last_exact at_last_x luma x) (λ i g. exact_bind (last_exact at_last_y luma y) (λ j h. exact_done (((g, h), λ q. q.0), λ q. q.1)))

-- ---- the head
-- RDPCM as two flags, and back
rdpcm_at : (r : Rdpcm) → rdpcm_of (rdpcm_flag r) (rdpcm_dir r) ≡ r
rdpcm_at of_rdpcm.None = refl
rdpcm_at of_rdpcm.Horizontal = refl
rdpcm_at of_rdpcm.Vertical = refl

dir_flag : (r : Rdpcm) → rdpcm_dir r ≡ true → rdpcm_flag r ≡ true
dir_flag of_rdpcm.None e = e
dir_flag of_rdpcm.Horizontal e = refl
dir_flag of_rdpcm.Vertical e = refl

flags_of : (e d : Bool) → (d ≡ true → e ≡ true) → (e ≡ rdpcm_flag (rdpcm_of e d)) × (d ≡ rdpcm_dir (rdpcm_of e d))
flags_of true true c = (refl, refl)
flags_of true false c = (refl, refl)
flags_of false false c = (refl, refl)
flags_of false true c = (refl, sym (c refl))

-- scan 2 swaps x and y
swapped : (d : Bool) (x y u v : ℕ) → x ≡ cond d v u → y ≡ cond d u v → (cond d y x ≡ u) × (cond d x y ≡ v)
swapped true x y u v p q = (q, p)
swapped false x y u v p q = (p, q)

swapped_back : (d : Bool) (x y u v : ℕ) → cond d y x ≡ u → cond d x y ≡ v → (x ≡ cond d v u) × (y ≡ cond d u v)
swapped_back true x y u v p q = (q, p)
swapped_back false x y u v p q = (p, q)

either_below : (d : Bool) (x y n : ℕ) → x < n → y < n → cond d x y < n
either_below true x y n h k = h
either_below false x y n h k = k

-- what any head that is read has
pub record HeadFits (p : Params) (h : Head) : Type 0 where
  pub skips : h.skip ≡ true → skip_coded p ≡ true
  pub explicit : rdpcm_flag h.rdpcm ≡ true → rdpcm_coded p h.skip ≡ true
  pub in_x : h.last_x < 2 ^ p.log2
  pub in_y : h.last_y < 2 ^ p.log2

-- a head as wanted: skip, RDPCM, the last position
pub record HeadIs (h w : Head) : Type 0 where
  pub skip : h.skip ≡ w.skip
  pub rdpcm : h.rdpcm ≡ w.rdpcm
  pub last_x : h.last_x ≡ w.last_x
  pub last_y : h.last_y ≡ w.last_y

-- the head that is wanted
abbrev pub head_wanted : Params → List Spot → List Spot → Wanted → Head
head_wanted p outer inner b =
    let s = last_wanted p outer inner b (area p) in
    record { skip = b.skip; rdpcm = b.rdpcm; last_x = s.x; last_y = s.y }

module _ (p : Params) (low : 2 ≤ p.log2) (high : p.log2 ≤ 5) (outer inner : List Spot) (b : Wanted) where
  wanted : Head
  wanted = head_wanted p outer inner b

  turn : Bool
  turn = eqb p.scan 2

  lx : Wanted → ℕ
  lx t = let s = last_wanted p outer inner t (area p) in cond (eqb p.scan 2) s.y s.x

  ly : Wanted → ℕ
  ly t = let s = last_wanted p outer inner t (area p) in cond (eqb p.scan 2) s.x s.y

  pub head_writes : HeadFits p (head_wanted p outer inner b) → Writes (head_s p outer inner) b (λ h. HeadIs h (head_wanted p outer inner b))
  unfolding head_s Groups wanted lx ly turn
  head_writes f =
      writes_bind (flag_writes _ (λ t. t.skip) b (skip_coded p) f.skips) (λ skip hs.
      writes_bind (flag_writes _ (λ t. rdpcm_flag t.rdpcm) b (rdpcm_coded p skip) (λ q. rw hs (f.explicit q))) (λ e he.
      writes_bind (flag_writes _ (λ t. rdpcm_dir t.rdpcm) b e (λ q. he ∙ dir_flag b.rdpcm q)) (λ dir hd.
      writes_bind (groups_writes p.log2 low high b p.luma lx ly) (λ g hg.
      writes_bind (bits_writes (λ t. lx t - least_of g.x) b (suffix_bits g.x)
      (suffix_fits p.log2 low high (lx b) g.x (either_below turn _ _ _ f.in_y f.in_x) hg.0)) (λ xs hx.
      writes_bind (bits_writes (λ t. ly t - least_of g.y) b (suffix_bits g.y)
      (suffix_fits p.log2 low high (ly b) g.y (either_below turn _ _ _ f.in_x f.in_y) hg.1)) (λ ys hy.
      let x : least_of g.x + xs ≡ lx b = omega (arith, hx, hg.0.under) in
      let y : least_of g.y + ys ≡ ly b = omega (arith, hy, hg.1.under) in
      let s = swapped turn (least_of g.x + xs) (least_of g.y + ys) wanted.last_x wanted.last_y x y in
      writes_done (record { skip = hs; rdpcm = rw (he, hd) (rdpcm_at b.rdpcm); last_x = s.0; last_y = s.1 })))))))

  pub head_exact : Exact (head_s p outer inner) b (HeadFits p) (λ h. HeadIs h (head_wanted p outer inner b))
  unfolding head_s Groups wanted lx ly turn
  head_exact =
      exact_bind (flag_exact _ (λ t. t.skip) b (skip_coded p)) (λ skip hs.
      exact_bind (flag_exact _ (λ t. rdpcm_flag t.rdpcm) b (rdpcm_coded p skip)) (λ e he.
      exact_bind (flag_exact _ (λ t. rdpcm_dir t.rdpcm) b e) (λ dir hd.
      exact_bind (groups_exact p.log2 low high b p.luma lx ly) (λ g hg.
      exact_bind (bits_exact (λ t. lx t - least_of g.x) b (suffix_bits g.x)) (λ xs hx.
      exact_bind (bits_exact (λ t. ly t - least_of g.y) b (suffix_bits g.y)) (λ ys hy.
      let x = least_of g.x + xs in
      let y = least_of g.y + ys in
      let gx = suffix_group p.log2 low high g.x xs hg.0 hx in
      let gy = suffix_group p.log2 low high g.y ys hg.1 hy in
      let h : Head = record { skip = skip; rdpcm = rdpcm_of e dir; last_x = cond turn y x; last_y = cond turn x y } in
      let back : HeadIs h (head_wanted p outer inner b) → (x ≡ lx b) × (y ≡ ly b) = λ q. swapped_back turn x y wanted.last_x wanted.last_y q.last_x q.last_y in
      let flags = flags_of e dir hd in
      exact_done (
        (
          (
            (
              (
                (
                  record {
                    skips = hs;
                    explicit = λ q. he (flags.0 ∙ q);
                    in_x = either_below turn y x (2 ^ p.log2) gy.1 gx.1;
                    in_y = either_below turn x y (2 ^ p.log2) gx.1 gy.1;
                  },
                  λ q. q.skip,
                ),
                λ q. rw q.rdpcm at flags.0,
              ),
              λ q. rw q.rdpcm at flags.1,
            ),
            λ q. ((rw (← (back q).0) gx.0, rw (← (back q).1) gy.0)),
          ),
          λ q. omega (arith, (back q).0),
        ),
        λ q. omega (arith, (back q).1),
      )))))))
