-- The whole residual, exact: what is wanted is written exactly where it can be, and what is read is what is written. Assumes nothing.
use Prim.Native.Nat.{ℕ, zero, suc, ◌+◌, ◌-◌, ◌*◌, ◌/◌, ◌%◌, ◌^◌, ◌≤◌, ◌<◌}
use Rattle.std.specs.Prelude.{◌≡◌, Bool, ℤ, pos, nat_abs, length, replicate}
use Rattle.std.proofs.Math.Path.{refl, sym, ap, ap₂, subst}
use Rattle.std.proofs.Common.{◌∙◌, pow-suc, pow_pos, ext_get_or}
use Rattle.std.proofs.Math.Bool.{true, false}
use mathlib.Core.List.{List, []}
use native.Mathlib.Omega.{arith}
use Rattle.std.proofs.Math.Dec.{ltb, eqb}
use Rattle.std.proofs.Math.ListN.{get_or, length-replicate}
use Rattle.std.proofs.lemmas.List.{get_or-replicate}
use borrow.Author.Tests.{ltb-true, ltb-false, eqb-true, eqb-false}
use Rattle.hevc_residual.specs.declared.params.Params.{Params}
use Rattle.hevc_residual.specs.declared.params.Rdpcm.{Rdpcm}
use Rattle.hevc_residual.specs.Scan.{Spot, number_in}
use Rattle.hevc_residual.specs.Wanted.{Wanted, area, width, outer_of, inner_of, spot_in, wanted_in, is_sig}
use Rattle.hevc_residual.specs.Head.{Head, skip_coded, rdpcm_coded, rdpcm_flag, last_wanted, head_s}
use Rattle.hevc_residual.specs.SubBlock.{sign_hidden}
use Rattle.hevc_residual.specs.Residual.{Block, body_s, residual}
use Rattle.hevc_scans.specs.ScanLaws.{Order, scan_order_lem}
use Rattle.hevc_scans.specs.CellLaws.{cell_x, cell_y, cell_in_x, cell_in_y, cell_block, cell_in, found, cell_inside, cell_apart, cell_onto}
use Rattle.hevc_residual.specs.Limits.{Statistics}
use Rattle.trees.specs.TreeLaws.{Writes, writes_done, writes_bind, Exact, exact_done, exact_bind, exact_as}
use Rattle.trees.specs.ReaderLaws.{clash}
use Rattle.hevc_exact.specs.HeadLaws.{HeadFits, HeadIs, head_wanted, head_writes, head_exact}
use Rattle.hevc_exact.specs.SubBlockLaws.{cell_at, lv_at, spot_at, sigs, Fits, LastAt, Grid, AgreeAt, sub_blocks_writes, sub_blocks_exact}
use Rattle.trees.specs.ListLaws.{up_to, falling_is, not_zero}

-- ---- the last number of which s holds
pub record LastNo (s : ℕ → Bool) (m : ℕ) : Type 0 where
  pub at : ℕ
  pub less : at < m
  pub here : s at ≡ true
  pub above : (k : ℕ) → at < k → k < m → s k ≡ false

find_last : (s : ℕ → Bool) (m j : ℕ) → j < m → s j ≡ true → LastNo s m
find_last s zero j h e = absurd (omega arith)
find_last s (suc m) j h e = go (s m) refl (λ l. find_last s m j l e)
  where
    below : s m ≡ false → (c : Bool) → eqb j m ≡ c → j < m
    below q true u = clash (ap s (eqb-true j m u) ∙ q) e
    below q false u = omega (arith, eqb-false j m u)

    more : s m ≡ false → LastNo s m → LastNo s (suc m)
    more q f = record {
      at = f.at;
      less = omega (arith, f.less);
      here = f.here;
      above = λ k a c. up_to (λ k. f.at < k → s k ≡ false) m (λ k l a. f.above k a l) (λ a. q) k c a;
    }

    go : (d : Bool) → s m ≡ d → (j < m → LastNo s m) → LastNo s (suc m)
    go true q r = record { at = m; less = omega arith; here = q; above = λ k a c. absurd (omega arith) }
    go false q r = more q (r (below q (eqb j m) refl))

-- ---- what can be written
-- a block's answer says what is wanted
pub record Says (c : Block) (b : Wanted) : Type 0 where
  pub skip : c.skip ≡ b.skip
  pub rdpcm : c.rdpcm ≡ b.rdpcm
  pub levels : c.levels ≡ b.levels

pub record Writable (p : Params) (b : Wanted) : Type 0 where
  pub long : length b.levels ≡ area p
  pub skips : b.skip ≡ true → skip_coded p ≡ true
  pub explicit : rdpcm_flag b.rdpcm ≡ true → rdpcm_coded p b.skip ≡ true
  pub some : (c : ℕ) × (c < area p) × (ltb 0 (nat_abs (get_or b.levels c (pos 0))) ≡ true)
  pub fits : (j : ℕ) → j < width p * width p → Fits p b b.skip b.rdpcm j (sigs p b j)

-- the same, for a head with that skip and RDPCM
fits_same : (p : Params) (b : Wanted) (skip skip' : Bool) (rdpcm rdpcm' : Rdpcm) (j : ℕ) → skip ≡ skip' → rdpcm ≡ rdpcm'
    → Fits p b skip rdpcm j (sigs p b j) → Fits p b skip' rdpcm' j (sigs p b j)
fits_same p b skip skip' rdpcm rdpcm' j e g f =
    subst (λ (r : Rdpcm). Fits p b skip' r j (sigs p b j)) g (subst (λ (s : Bool). Fits p b s rdpcm j (sigs p b j)) e f)

-- ---- sizes
quarter : (log2 : ℕ) → 2 ≤ log2 → 2 ^ log2 ≡ 4 * 2 ^ (log2 - 2)
quarter log2 h =
    let e : log2 ≡ suc (suc (log2 - 2)) = omega arith in
    ap (λ k. 2 ^ k) e ∙ omega (arith, pow-suc 2 (suc (log2 - 2)), pow-suc 2 (log2 - 2))

square : (n : ℕ) → 4 ^ n ≡ 2 ^ n * 2 ^ n
square zero = refl
square (suc n) =
    let e : 2 ^ suc n * 2 ^ suc n ≡ (2 ^ n * 2) * (2 ^ n * 2) = ap (λ z. z * z) (pow-suc 2 n) in
    pow-suc 4 n ∙ ap (λ z. z * 4) (square n) ∙ four (2 ^ n) ∙ sym e
  where
    four : (a : ℕ) → a * a * 4 ≡ (a * 2) * (a * 2)
    four a = omega arith

module _ (p : Params) (low : 2 ≤ p.log2) (high : p.log2 ≤ 5) (scans : p.scan ≤ 2) (b : Wanted) where
  pub outs : Order (outer_of p) (width p)
  outs = scan_order_lem (p.log2 - 2) p.scan (omega arith) scans

  ins : Order (inner_of p) 4
  ins = scan_order_lem 2 p.scan (omega arith) scans

  total_is : area p ≡ 16 * (width p * width p)
  total_is = square p.log2 ∙ ap (λ z. z * z) (quarter p.log2 low) ∙ six (width p)
    where
      six : (a : ℕ) → (4 * a) * (4 * a) ≡ 16 * (a * a)
      six a = omega arith

  pub grid : Grid p (width p * width p) (area p)
  unfolding spot_in
  grid = record {
    inside = λ i k hi hk. rw square (cell_inside (outer_of p) (inner_of p) (width p) outs ins (2 ^ p.log2) (quarter p.log2 low) i k hi hk);
    apart = cell_apart (outer_of p) (inner_of p) (width p) outs ins (2 ^ p.log2) (quarter p.log2 low);
  }

  -- whether the level number j of the scan is not zero
  sig_no : ℕ → Bool
  sig_no j = is_sig (lv_at p (j / 16)) b (j % 16)

  -- the wanted level is that of its cell
  pub lv_cell : (i k : ℕ) → lv_at p i k b ≡ get_or b.levels (cell_at p i k) (pos 0)
  unfolding wanted_in
  lv_cell i k = refl

  last_is : (m q : ℕ) → q < m → sig_no q ≡ true → ((j : ℕ) → q < j → j < m → sig_no j ≡ false)
      → last_wanted p (outer_of p) (inner_of p) b m ≡ spot_at p (q / 16) (q % 16)
  unfolding last_wanted sig_no wanted_in spot_in
  last_is zero q l e o = absurd (omega arith)
  last_is (suc m) q l e o = go (eqb q m) refl (λ l. last_is m q l e (λ j a c. o j a (omega arith)))
    where
      now : Spot
      now = spot_at p (m / 16) (m % 16)

      took : (d : Bool) (x y : Spot) → d ≡ true → elim d [ true ↦ x | false ↦ y ] ≡ x
      took true x y q = refl
      took false x y q = clash refl q

      left : (d : Bool) (x y : Spot) → d ≡ false → elim d [ true ↦ x | false ↦ y ] ≡ y
      left true x y q = clash q refl
      left false x y q = refl

      go : (d : Bool) → eqb q m ≡ d → (q < m → last_wanted p (outer_of p) (inner_of p) b m ≡ spot_at p (q / 16) (q % 16))
          → elim (sig_no m) [ true ↦ now | false ↦ last_wanted p (outer_of p) (inner_of p) b m ] ≡ spot_at p (q / 16) (q % 16)
      go true u r =
          let v : q ≡ m = eqb-true q m u in
          took (sig_no m) now _ (ap sig_no (sym v) ∙ e) ∙ ap (λ j. spot_at p (j / 16) (j % 16)) (sym v)
      go false u r = let v : q < m = omega (arith, eqb-false q m u) in left (sig_no m) now _ (o m v (omega arith)) ∙ r v

  sig_no_lem : (i k : ℕ) → k < 16 → sig_no (16 * i + k) ≡ is_sig (lv_at p i) b k
  unfolding sig_no
  sig_no_lem i k hk =
      let d : (16 * i + k) / 16 ≡ i = omega arith in
      let m : (16 * i + k) % 16 ≡ k = omega arith in
      ap₂ (λ u v. is_sig (lv_at p u) b v) d m

  -- the last number as sub-block and place
  last_at_lem : (f : LastNo sig_no (area p)) → LastAt p b (f.at / 16) (f.at % 16)
  unfolding sig_no
  last_at_lem f = record {
    here = f.here;
    above = λ m o hm.
        sym (sig_no_lem (f.at / 16) m hm) ∙ f.above (16 * (f.at / 16) + m) (omega arith) (omega (arith, f.less, total_is));
  }

  -- and back
  last_no : (i k : ℕ) → i < width p * width p → k < 16 → LastAt p b i k
      → ((j m : ℕ) → i < j → j < width p * width p → m < 16 → is_sig (lv_at p j) b m ≡ false)
      → (j : ℕ) → 16 * i + k < j → j < area p → sig_no j ≡ false
  unfolding sig_no
  last_no i k hi hk a o j l t = go (eqb (j / 16) i) refl
    where
      go : (d : Bool) → eqb (j / 16) i ≡ d → is_sig (lv_at p (j / 16)) b (j % 16) ≡ false
      go true e =
          let q = eqb-true (j / 16) i e in
          rw q (a.above (j % 16) (omega arith) (omega arith))
      go false e = o (j / 16) (j % 16) (omega (arith, eqb-false (j / 16) i e)) (omega (arith, total_is)) (omega arith)

  -- what holds of every place's cell holds of every cell
  pub whole_places : (f : ℕ → Type 0) → ((i k : ℕ) → i < width p * width p → k < 16 → f (cell_at p i k)) → (c : ℕ) → c < area p → f c
  unfolding spot_in
  whole_places f g c hc =
      let t : c < 2 ^ p.log2 * 2 ^ p.log2 = omega (arith, square p.log2) in
      let o = cell_onto (outer_of p) (inner_of p) (width p) outs ins (2 ^ p.log2) (quarter p.log2 low) (pow_pos (p.log2 - 2)) c t in
      subst f o.4 (g o.0 o.1 o.2 o.3)

  -- levels that agree at every place are the levels
  whole_agree : (l : List ℤ) → length l ≡ area p → length b.levels ≡ area p
      → ((i k : ℕ) → i < width p * width p → k < 16 → get_or l (cell_at p i k) (pos 0) ≡ lv_at p i k b)
      → l ≡ b.levels
  whole_agree l e g f = ext_get_or (pos 0) l b.levels (e ∙ sym g) (λ c hc.
      whole_places (λ c. get_or l c (pos 0) ≡ get_or b.levels c (pos 0)) (λ i k hi hk. f i k hi hk ∙ lv_cell i k) c (omega arith))

  -- up to sub-block last they agree, behind it all is zero
  split_agree : (l : List ℤ) (last : ℕ) → ((j : ℕ) → j < suc last → AgreeAt p b j l)
      → ((j m : ℕ) → last < j → j < width p * width p → m < 16 → get_or l (cell_at p j m) (pos 0) ≡ pos 0)
      → ((j m : ℕ) → last < j → j < width p * width p → m < 16 → is_sig (lv_at p j) b m ≡ false)
      → (j m : ℕ) → j < width p * width p → m < 16 → get_or l (cell_at p j m) (pos 0) ≡ lv_at p j m b
  split_agree l last a z o j m hj hm = go (ltb j (suc last)) refl
    where
      go : (d : Bool) → ltb j (suc last) ≡ d → get_or l (cell_at p j m) (pos 0) ≡ lv_at p j m b
      go true e = a j (ltb-true j (suc last) e) m hm
      go false e =
          let q : last < j = ltb-false j (suc last) e in
          z j m q hj hm ∙ sym (not_zero (lv_at p j m b) (o j m q hj hm))

  agree_all : (l : List ℤ) → l ≡ b.levels → (i k : ℕ) → get_or l (cell_at p i k) (pos 0) ≡ lv_at p i k b
  agree_all l e i k = ap (λ z. get_or z (cell_at p i k) (pos 0)) e ∙ sym (lv_cell i k)

  zeros : (i k : ℕ) → i < width p * width p → k < 16 → get_or (replicate (area p) (pos 0)) (cell_at p i k) (pos 0) ≡ pos 0
  zeros i k hi hk = get_or-replicate (area p) (cell_at p i k) (pos 0) (pos 0) (grid.inside i k hi hk)

  -- the last number wanted
  last_found : Writable p b → LastNo sig_no (area p)
  unfolding spot_in
  last_found w =
      let c = w.some in
      let t : c.0 < 2 ^ p.log2 * 2 ^ p.log2 = omega (arith, square p.log2, c.1) in
      let o = cell_onto (outer_of p) (inner_of p) (width p) outs ins (2 ^ p.log2) (quarter p.log2 low) (pow_pos (p.log2 - 2)) c.0 t in
      let e : is_sig (lv_at p o.0) b o.1 ≡ true =
      ap (λ z. ltb 0 (nat_abs z)) (lv_cell o.0 o.1 ∙ ap (λ z. get_or b.levels z (pos 0)) o.4) ∙ c.2 in
      find_last sig_no (area p) (16 * o.0 + o.1) (omega (arith, total_is, o.2, o.3)) (sig_no_lem o.0 o.1 o.3 ∙ e)

  -- ---- written
  module _ (stats : List ℕ) (deep : p.depth ≤ 16) (st : Statistics stats) (w : Writable p b) where
    -- the sub-blocks, for a head as wanted
    pub body_writes : (h : Head) → HeadIs h (head_wanted p (outer_of p) (inner_of p) b) → Writes (body_s p stats h) b (λ c. Says c b)
    unfolding body_s spot_in wanted_in sig_no
    body_writes h is =
        let outer = outer_of p in
        let inner = inner_of p in
        let f : LastNo sig_no (area p) = last_found w in
        let i = f.at / 16 in
        let k = f.at % 16 in
        let hi : i < width p * width p = omega (arith, f.less, total_is) in
        let hk : k < 16 = omega arith in
        let lw : last_wanted p outer inner b (area p) ≡ spot_at p i k = last_is (area p) f.at f.less f.here f.above in
        let x : h.last_x ≡ cell_x outer inner (width p) outs ins i k = is.last_x ∙ ap (λ (s : Spot). s.x) lw in
        let y : h.last_y ≡ cell_y outer inner (width p) outs ins i k = is.last_y ∙ ap (λ (s : Spot). s.y) lw in
        let last = number_in outer (h.last_x / 4) (h.last_y / 4) in
        let lastIn = number_in inner (h.last_x % 4) (h.last_y % 4) in
        let li : last ≡ i = ap₂ (λ u v. number_in outer (u / 4) (v / 4)) x y ∙ cell_block outer inner (width p) outs ins i k hi hk in
        let lk : lastIn ≡ k = ap₂ (λ u v. number_in inner (u % 4) (v % 4)) x y ∙ cell_in outer inner (width p) outs ins i k hi hk in
        let at : LastAt p b last lastIn = rw (li, lk) (last_at_lem f) in
        writes_bind (sub_blocks_writes p b h (width p * width p) (area p) grid last lastIn (omega arith) deep (suc last) _ (omega arith)
        (λ j hj m hm. zeros j m (omega arith) hm) (length-replicate (area p) (pos 0)) st
        (λ j hj. fits_same p b b.skip h.skip b.rdpcm h.rdpcm j (sym is.skip) (sym is.rdpcm) (w.fits j (omega arith)))
        (λ j hj e. subst (λ (j : ℕ). LastAt p b j lastIn) (sym e) at))
        (λ r v. writes_done (record {
          skip = is.skip;
          rdpcm = is.rdpcm;
          levels = whole_agree r.levels (v.kept.long ∙ length-replicate (area p) (pos 0)) w.long
              (split_agree r.levels last v.agree (λ j m o hj hm. v.kept.same j m o hj hm ∙ zeros j m hj hm)
              (λ j m o hj hm. sym (sig_no_lem j m hm) ∙ f.above (16 * j + m) (omega arith) (omega (arith, total_is))));
        }))

    pub head_accepted : Writes (head_s p (outer_of p) (inner_of p)) b (λ h. HeadIs h (head_wanted p (outer_of p) (inner_of p) b))
    unfolding spot_in
    head_accepted =
        let f = last_found w in
        let i = f.at / 16 in
        let k = f.at % 16 in
        let hi : i < width p * width p = omega (arith, f.less, total_is) in
        let q4 = quarter p.log2 low in
        let lw = last_is (area p) f.at f.less f.here f.above in
        head_writes p low high (outer_of p) (inner_of p) b (record {
          skips = w.skips;
          explicit = w.explicit;
          in_x = rw lw (omega (arith, cell_in_x (outer_of p) (inner_of p) (width p) outs ins i k hi (omega arith)));
          in_y = rw lw (omega (arith, cell_in_y (outer_of p) (inner_of p) (width p) outs ins i k hi (omega arith)));
        })

    pub residual_writes : Writes (residual p stats) b (λ c. Says c b)
    unfolding residual body_s
    residual_writes = writes_bind head_accepted body_writes

  -- ---- read
  -- a sub-block that is zero fits
  zero_fits : (h : Head) (j : ℕ) → ((m : ℕ) → m < 16 → is_sig (lv_at p j) b m ≡ false)
      → Fits p b h.skip h.rdpcm j (sigs p b j)
  unfolding sign_hidden
  zero_fits h j o =
      let s = is_sig (lv_at p j) b in
      subst (λ (ks : List ℕ). Fits p b h.skip h.rdpcm j ks) (falling_is s 16 [] tt tt (λ k hk e u. clash (o k hk) e))
      (record { sizes = tt; ranged = tt; hidden = λ e. clash refl e })

  -- what was read of a block: levels as wanted, the last place i, k, zero behind it
  module _ (h : Head) (hf : HeadFits p h) (l : List ℤ) (i k : ℕ) (hi : i < width p * width p) (hk : k < 16)
      (x : cell_x (outer_of p) (inner_of p) (width p) outs ins i k ≡ h.last_x) (y : cell_y (outer_of p) (inner_of p) (width p) outs ins i k ≡ h.last_y)
      (skip : h.skip ≡ b.skip) (rdpcm : h.rdpcm ≡ b.rdpcm) (e : l ≡ b.levels) (long : length l ≡ area p)
      (zero-above : (j m : ℕ) → i < j → j < width p * width p → m < 16 → get_or l (cell_at p j m) (pos 0) ≡ pos 0)
      (fits : (j : ℕ) → j < suc i → Fits p b h.skip h.rdpcm j (sigs p b j))
      (at : LastAt p b i k) where
    sig_above : (j m : ℕ) → i < j → j < width p * width p → m < 16 → is_sig (lv_at p j) b m ≡ false
    sig_above j m o hj hm = ap (λ z. ltb 0 (nat_abs z)) (sym (agree_all l e j m) ∙ zero-above j m o hj hm)

    last_read : last_wanted p (outer_of p) (inner_of p) b (area p) ≡ spot_at p i k
    last_read =
        let d : (16 * i + k) / 16 ≡ i = omega arith in
        let m : (16 * i + k) % 16 ≡ k = omega arith in
        last_is (area p) (16 * i + k) (omega (arith, total_is)) (sig_no_lem i k hk ∙ at.here) (last_no i k hi hk at sig_above)
        ∙ ap₂ (λ u v. spot_at p u v) d m

    read_head : HeadIs h (head_wanted p (outer_of p) (inner_of p) b)
    unfolding spot_in
    read_head = record {
      skip = skip;
      rdpcm = rdpcm;
      last_x = sym x ∙ sym (ap (λ (s : Spot). s.x) last_read);
      last_y = sym y ∙ sym (ap (λ (s : Spot). s.y) last_read);
    }

    read_fits : (j : ℕ) → j < width p * width p → (d : Bool) → ltb j (suc i) ≡ d → Fits p b h.skip h.rdpcm j (sigs p b j)
    read_fits j hj true q = fits j (ltb-true j (suc i) q)
    read_fits j hj false q = zero_fits h j (λ m hm. sig_above j m (ltb-false j (suc i) q) hj hm)

    read_writable : Writable p b
    read_writable = record {
      long = sym (ap length e) ∙ long;
      skips = λ q. hf.skips (skip ∙ q);
      explicit = λ q. rw (← skip) (hf.explicit (rw rdpcm q));
      some = (cell_at p i k, grid.inside i k hi hk, ap (λ z. ltb 0 (nat_abs z)) (sym (lv_cell i k)) ∙ at.here);
      fits = λ j hj. fits_same p b h.skip b.skip h.rdpcm b.rdpcm j skip rdpcm (read_fits j hj (ltb j (suc i)) refl);
    }

    read_both : Writable p b × HeadIs h (head_wanted p (outer_of p) (inner_of p) b)
    read_both = (read_writable, read_head)

  body_exact : (stats : List ℕ) (h : Head) → HeadFits p h
      → Exact (body_s p stats h) b (λ c. Says c b → Writable p b × HeadIs h (head_wanted p (outer_of p) (inner_of p) b)) (λ c. Says c b)
  unfolding body_s
  body_exact stats h hf =
      let outer = outer_of p in
      let inner = inner_of p in
      let q4 = quarter p.log2 low in
      let fd = found outer inner (width p) outs ins h.last_x h.last_y (omega (arith, hf.in_x)) (omega (arith, hf.in_y)) in
      let last = number_in outer (h.last_x / 4) (h.last_y / 4) in
      let lastIn = number_in inner (h.last_x % 4) (h.last_y % 4) in
      exact_bind (sub_blocks_exact p b h (width p * width p) (area p) grid last lastIn fd.place (suc last) _ fd.block
      (λ j hj m hm. zeros j m (omega (arith, fd.block)) hm) (length-replicate (area p) (pos 0)))
      (λ a v. exact_done (
        (λ q. read_both h hf a.levels last lastIn fd.block fd.place fd.is_x fd.is_y q.skip q.rdpcm q.levels
            (v.kept.long ∙ length-replicate (area p) (pos 0)) (λ j m o hj hm. v.kept.same j m o hj hm ∙ zeros j m hj hm)
            (v.fits (λ j hj m hm. agree_all a.levels q.levels j m))
            (v.last_at (λ j hj m hm. agree_all a.levels q.levels j m) last (omega arith) refl)),
        λ q j hj m hm. agree_all a.levels q.levels j m,
      ))

  pub residual_exact : (stats : List ℕ) → Exact (residual p stats) b (λ c. Says c b → Writable p b) (λ c. Says c b)
  unfolding residual body_s
  residual_exact stats = exact_bind (head_exact p low high (outer_of p) (inner_of p) b)
      (λ h hf. exact_as (body_exact stats h hf) (λ c g. (((λ q. (g q).0), λ q. (g q).1), λ q. q)))
