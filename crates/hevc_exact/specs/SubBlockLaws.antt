-- Sub-blocks one after another, exact, over any geometry: places of sub-blocks lie apart in the block. Assumes nothing.
use Prim.Native.Nat.{ℕ, zero, suc, ◌+◌, ◌≤◌, ◌<◌}
use Rattle.std.specs.Prelude.{◌≡◌, Bool, ◌&&◌, eqb, ℤ, pos, nat_abs, length, get_or}
use Rattle.std.proofs.Math.Path.{refl, sym, ap, subst}
use Rattle.std.proofs.Common.{◌∙◌, arith, lt-ltb, le-ltb, eqb-true}
use Rattle.std.proofs.Math.Bool.{true, false, not}
use mathlib.Core.List.{List, [], ◌∷◌}
use Rattle.std.proofs.Math.Dec.{ltb}
use Rattle.std.proofs.lemmas.Bool.{eqb-false}
use Rattle.hevc_residual.specs.declared.params.Params.{Params}
use Rattle.hevc_residual.specs.declared.params.Rdpcm.{Rdpcm}
use Rattle.hevc_residual.specs.Scan.{Spot, spot}
use Rattle.hevc_residual.specs.Wanted.{Wanted, cell_of, outer_of, inner_of, spot_in, wanted_in, is_sig, none, sig_places}
use Rattle.hevc_residual.specs.Head.{Head}
use Rattle.hevc_residual.specs.SubBlock.{Acc, sign_hidden}
use Rattle.hevc_residual.specs.Residual.{is_coded, marked, sig_at, filled_s, sub_block_s, sub_blocks_s}
use Rattle.hevc_residual.specs.Limits.{Statistics}
use Rattle.trees.specs.TreeLaws.{Writes, writes_done, writes_bin, writes_bind, writes_as, Exact, exact_done, exact_bin, exact_bind, exact_as}
use Rattle.trees.specs.ReaderLaws.{clash, writes_if, exact_if}
use Rattle.hevc_exact.specs.PlaceLaws.{places_writes, places_exact}
use Rattle.hevc_exact.specs.CoeffsLaws.{Got, Apart, Cells, Kept, SubFits, coeffs_writes, coeffs_exact}
use Rattle.trees.specs.ListLaws.{All, up_to, all_map, Falling, falling_up, down_falling, falling_below, down_at, down_all, down_first, falling_is, down_rest, not_zero}

none_false : (ks : List ℕ) → none ks ≡ false → true ≡ not (none ks)
none_false ks e = rw e

coded_nil : (c : Bool) (ks : List ℕ) → c ≡ not (none ks) → (c ≡ false → ks ≡ []) × (c ≡ true → none ks ≡ false)
unfolding none
coded_nil c [] e = ((λ q. refl), λ q. clash e q)
coded_nil c (k ∷ ks) e = ((λ q. clash q e), λ q. refl)

middle_not : (i last : ℕ) → i ≡ last → (ltb 0 i && ltb i last) ≡ false
middle_not i last e = go (ltb 0 i)
  where
    go : (d : Bool) → (d && ltb i last) ≡ false
    go true = le-ltb i last (omega arith)
    go false = refl

-- ---- sub-block number i of a block: where its places are, what is wanted there
module _ (p : Params) where
  abbrev pub block_at : ℕ → Spot
  block_at i = get_or (outer_of p) i (spot 0 0)

  abbrev pub lv_at : ℕ → ℕ → Wanted → ℤ
  lv_at i = wanted_in p (inner_of p) (block_at i)

  abbrev pub spot_at : ℕ → ℕ → Spot
  spot_at i = spot_in (inner_of p) (block_at i)

  abbrev pub cell_at : ℕ → ℕ → ℕ
  cell_at i k = cell_of p (spot_at i k)

  abbrev pub ZeroAt : ℕ → List ℤ → Type 0
  ZeroAt i l = (k : ℕ) → k < 16 → get_or l (cell_at i k) (pos 0) ≡ pos 0

  -- n sub-blocks in a block of total levels, their places apart
  pub record Grid (n total : ℕ) : Type 0 where
    pub inside : (i k : ℕ) → i < n → k < 16 → cell_at i k < total
    pub apart : (i k j m : ℕ) → i < n → k < 16 → j < n → m < 16 → cell_at i k ≡ cell_at j m → (i ≡ j) × (k ≡ m)

module _ (p : Params) (b : Wanted) where
  -- its significant places
  abbrev pub sigs : ℕ → List ℕ
  sigs i = sig_places (lv_at p i) b

  -- its levels are those wanted
  abbrev pub AgreeAt : ℕ → List ℤ → Type 0
  AgreeAt i l = (k : ℕ) → k < 16 → get_or l (cell_at p i k) (pos 0) ≡ lv_at p i k b

  -- the levels wanted can be written
  abbrev pub Fits : Bool → Rdpcm → ℕ → List ℕ → Type 0
  Fits skip rdpcm i ks = SubFits p (lv_at p i) (spot_at p i) b (sign_hidden p skip rdpcm ks) ks

  -- the last significant place is k
  pub record LastAt (i k : ℕ) : Type 0 where
    pub here : is_sig (lv_at p i) b k ≡ true
    pub above : (j : ℕ) → k < j → j < 16 → is_sig (lv_at p i) b j ≡ false

  module _ (h : Head) (n total : ℕ) (grid : Grid p n total) where
    -- only levels of sub-block i have changed
    pub record KeptBut (i : ℕ) (l m : List ℤ) : Type 0 where
      pub same : (j k : ℕ) → j < n → k < 16 → (j ≡ i → ⊥) → get_or m (cell_at p j k) (pos 0) ≡ get_or l (cell_at p j k) (pos 0)
      pub long : length m ≡ length l

    -- cells of other places of the sub-block, and of other sub-blocks, lie apart
    apart_in : (i k : ℕ) (ks : List ℕ) → i < n → k < 16 → Falling 16 ks → All (λ j. k ≡ j → ⊥) ks → Apart p (lv_at p i) (spot_at p i) b (cell_at p i k) ks
    apart_in i k [] hi hk f a = tt
    apart_in i k (j ∷ ks) hi hk f a =
        ((λ q. a.0 (grid.apart i k i j hi hk hi f.0 q).1), apart_in i k ks hi hk (falling_up j 16 ks (omega (arith, f.0)) f.1) a.1)

    apart_out : (i j k : ℕ) (ks : List ℕ) → i < n → j < n → k < 16 → (j ≡ i → ⊥) → Falling 16 ks → Apart p (lv_at p i) (spot_at p i) b (cell_at p j k) ks
    apart_out i j k [] hi hj hk o f = tt
    apart_out i j k (m ∷ ks) hi hj hk o f =
        ((λ q. o (grid.apart j k i m hj hk hi f.0 q).0), apart_out i j k ks hi hj hk o (falling_up m 16 ks (omega (arith, f.0)) f.1))

    cells_in : (i m : ℕ) (ks : List ℕ) → i < n → m ≤ 16 → Falling m ks → Cells p (lv_at p i) (spot_at p i) b total ks
    cells_in i m [] hi hm f = tt
    cells_in i m (k ∷ ks) hi hm f = (
      grid.inside i k hi (omega (arith, f.0)),
      apart_in i k ks hi (omega (arith, f.0)) (falling_up k 16 ks (omega (arith, f.0)) f.1)
          (all_map ks (λ j l q. omega arith) (falling_below k ks f.1)),
      cells_in i k ks hi (omega (arith, f.0)) f.1,
    )

    -- ---- the significant levels
    filled_writes : p.depth ≤ 16 → (i : ℕ) (a : Acc) (ks : List ℕ) → i < n → Falling 16 ks → length a.levels ≡ total → Statistics a.stats → Fits h.skip h.rdpcm i ks
        → Writes (filled_s p h (outer_of p) (inner_of p) i (block_at p i) a ks) b
        (λ r. Got p (lv_at p i) (spot_at p i) b r.levels ks × Kept p (lv_at p i) (spot_at p i) b a.levels r.levels ks × Statistics r.stats)
    unfolding filled_s sign_hidden
    filled_writes deep i a [] hi f l s g = writes_done (tt, record { same = λ i q. refl; long = refl }, s)
    filled_writes deep i a (k ∷ ks) hi f l s g =
        writes_as (coeffs_writes p (lv_at p i) (spot_at p i) b h _ k ks a (subst (λ t. Cells p (lv_at p i) (spot_at p i) b t (k ∷ ks)) (sym l) (cells_in i 16 (k ∷ ks) hi (omega arith) f)) deep s g)
        (λ r w. (w.got, w.kept, w.small))

    filled_exact : (i : ℕ) (a : Acc) (ks : List ℕ) → i < n → Falling 16 ks → length a.levels ≡ total
        → Exact (filled_s p h (outer_of p) (inner_of p) i (block_at p i) a ks) b
        (λ r. Kept p (lv_at p i) (spot_at p i) b a.levels r.levels ks × (Got p (lv_at p i) (spot_at p i) b r.levels ks → Fits h.skip h.rdpcm i ks))
        (λ r. Got p (lv_at p i) (spot_at p i) b r.levels ks)
    unfolding filled_s sign_hidden
    filled_exact i a [] hi f l =
        exact_done (record { same = λ i q. refl; long = refl }, λ q. record { sizes = tt; ranged = tt; hidden = λ e. tt })
    filled_exact i a (k ∷ ks) hi f l =
        exact_as (coeffs_exact p (lv_at p i) (spot_at p i) b h _ k ks a (subst (λ t. Cells p (lv_at p i) (spot_at p i) b t (k ∷ ks)) (sym l) (cells_in i 16 (k ∷ ks) hi (omega arith) f)))
        (λ r w. ((w.kept, w.fits), λ q. q))

    -- ---- one sub-block
    -- levels kept but at places of sub-block i are kept in the other sub-blocks
    but_of : (i : ℕ) (l m : List ℤ) (ks : List ℕ) → i < n → Falling 16 ks → Kept p (lv_at p i) (spot_at p i) b l m ks → KeptBut i l m
    but_of i l m ks hi f r = record { same = λ j k hj hk o. r.same (cell_at p j k) (apart_out i j k ks hi hj hk o f); long = r.long }

    -- levels stored at the significant places, over zeros, are those wanted
    agree_of : (i : ℕ) (l m : List ℤ) → i < n → ZeroAt p i l → Got p (lv_at p i) (spot_at p i) b m (sigs i)
        → Kept p (lv_at p i) (spot_at p i) b l m (sigs i) → AgreeAt i m
    agree_of i l m hi z g r k hk = go (is_sig (lv_at p i) b k) refl
      where
        s : ℕ → Bool
        s = is_sig (lv_at p i) b

        go : (d : Bool) → is_sig (lv_at p i) b k ≡ d → get_or m (cell_at p i k) (pos 0) ≡ lv_at p i k b
        go true e = down_at (λ j. get_or m (cell_at p i j) (pos 0) ≡ lv_at p i j b) s 16 g k hk e
        go false e =
            r.same (cell_at p i k) (apart_in i k (sigs i) hi hk (down_falling s 16) (all_map (sigs i) (λ j t q. clash (ap s (sym q) ∙ e) t) (down_all s 16)))
            ∙ z k hk ∙ sym (not_zero (lv_at p i k b) e)

    -- a place of which the level stayed zero is not significant
    not_sig : (i k : ℕ) (m : List ℤ) → k < 16 → AgreeAt i m → get_or m (cell_at p i k) (pos 0) ≡ pos 0 → is_sig (lv_at p i) b k ≡ false
    not_sig i k m hk g e = ap (λ z. ltb 0 (nat_abs z)) (sym (g k hk) ∙ e)

    -- the places read are those at which the wanted level is not zero
    places_are : (i : ℕ) (l m : List ℤ) (ks : List ℕ) → i < n → ZeroAt p i l → Falling 16 ks → Kept p (lv_at p i) (spot_at p i) b l m ks
        → AgreeAt i m → Fits h.skip h.rdpcm i ks → ks ≡ sigs i
    places_are i l m ks hi z f r g t =
        falling_is (is_sig (lv_at p i) b) 16 ks f (all_map ks (λ k q. lt-ltb 0 (nat_abs (lv_at p i k b)) q) t.sizes)
        (λ k hk e o. clash (not_sig i k m hk g (r.same (cell_at p i k) (apart_in i k ks hi hk f o) ∙ z k hk)) e)

    got_of : (i : ℕ) (m : List ℤ) (ks : List ℕ) → Falling 16 ks → AgreeAt i m → Got p (lv_at p i) (spot_at p i) b m ks
    got_of i m ks f g = all_map ks (λ k hk. g k hk) (falling_below 16 ks f)

    -- the first place read is the last significant one
    last_of : (i k : ℕ) (x : List ℕ) → Falling 16 (k ∷ x) → Fits h.skip h.rdpcm i (k ∷ x) → k ∷ x ≡ sigs i → LastAt i k
    last_of i k x f t e = record { here = lt-ltb 0 (nat_abs (lv_at p i k b)) t.sizes.0; above = λ j o hj. go j o hj (is_sig (lv_at p i) b j) refl }
      where
        most : All (λ j. j ≤ k) (k ∷ x)
        most = (omega arith, all_map x (λ j q. omega arith) (falling_below k x f.1))

        go : (j : ℕ) → k < j → j < 16 → (d : Bool) → is_sig (lv_at p i) b j ≡ d → is_sig (lv_at p i) b j ≡ false
        go j o hj true q =
            let h : j ≤ k = down_at (λ j. j ≤ k) (is_sig (lv_at p i) b) 16 (subst (λ (l : List ℕ). All (λ j. j ≤ k) l) e most) j hj q in absurd (omega arith)
        go j o hj false q = q

    pub record WroteSubBlock (i : ℕ) (a r : Acc) : Type 0 where
      pub agree : AgreeAt i r.levels
      pub kept : KeptBut i a.levels r.levels
      pub small : Statistics r.stats

    -- the significance contexts of sub-block i
    ctx_at : Acc → ℕ → ℕ → ℕ
    ctx_at a i = let s = block_at p i in sig_at p h (outer_of p) (inner_of p) s (is_coded p a (s.x + 1) s.y) (is_coded p a s.x (s.y + 1))

    module _ (last lastIn i : ℕ) (a : Acc) (hi : i < n) (low : lastIn < 16) (zeros : ZeroAt p i a.levels) (long : length a.levels ≡ total) where
      pub sub_block_writes : p.depth ≤ 16 → Statistics a.stats → Fits h.skip h.rdpcm i (sigs i) → (i ≡ last → LastAt i lastIn)
          → Writes (sub_block_s p h (outer_of p) (inner_of p) last lastIn i a) b (WroteSubBlock i a)
      unfolding sub_block_s marked ctx_at
      sub_block_writes deep st t lst =
          let s = is_sig (lv_at p i) b in
          let middle = ltb 0 i && ltb i last in
          writes_bind {P = λ c. (c ≡ false → sigs i ≡ []) × (middle ≡ true → c ≡ true → none (sigs i) ≡ false)} (writes_if middle
          (λ q. let c = coded_nil _ (sigs i) refl in writes_bin (writes_done (c.0, λ e. c.1)))
          (λ q. writes_done ((λ e. clash e refl), λ e. clash q e)))
          (λ c u. writes_if c
          (λ q. writes_bind {P = λ ks. ks ≡ sigs i} (writes_if (eqb i last)
          (λ e.
          let at = lst (eqb-true i last e) in
          writes_as (places_writes (lv_at p i) (ctx_at a i) false b lastIn (lastIn ∷ []) (λ o. clash refl o))
          (λ l e. e ∙ sym (down_first s 16 lastIn low at.here at.above)))
          (λ e. places_writes (lv_at p i) (ctx_at a i) middle b 16 [] (λ m. u.1 m q)))
          (λ ks e.
          let f : Falling 16 ks = rw e (down_falling s 16) in
          writes_as (filled_writes deep i _ ks hi f long st (rw e t)) (λ r w. record {
            agree = agree_of i a.levels r.levels hi zeros (rw e at w.0) (rw e at w.1);
            kept = but_of i a.levels r.levels ks hi f w.1;
            small = w.2;
          })))
          (λ q.
          let e = u.0 q in
          writes_done (record {
            agree = agree_of i a.levels a.levels hi zeros (rw e tt) (record { same = λ j o. refl; long = refl });
            kept = record { same = λ j k hj hk o. refl; long = refl };
            small = st;
          })))

      pub record ReadSubBlock (r : Acc) : Type 0 where
        pub kept : KeptBut i a.levels r.levels
        pub fits : AgreeAt i r.levels → Fits h.skip h.rdpcm i (sigs i)
        pub last_at : AgreeAt i r.levels → i ≡ last → LastAt i lastIn

      nil_are : AgreeAt i a.levels → [] ≡ sigs i
      nil_are g = falling_is (is_sig (lv_at p i) b) 16 [] tt tt (λ k hk e o. clash (not_sig i k a.levels hk g (zeros k hk)) e)

      pub sub_block_exact : Exact (sub_block_s p h (outer_of p) (inner_of p) last lastIn i a) b ReadSubBlock (λ r. AgreeAt i r.levels)
      unfolding sub_block_s marked ctx_at sign_hidden none
      sub_block_exact =
          let s = is_sig (lv_at p i) b in
          let middle = ltb 0 i && ltb i last in
          exact_bind {U = λ c. middle ≡ false → c ≡ true} {P = λ c. middle ≡ true → c ≡ not (none (sigs i))} (exact_if middle
          (λ q. exact_bin (λ d. exact_done ((λ e. clash e q), λ e. sym (e q))))
          (λ q. exact_done (λ e. refl)))
          (λ c u. exact_if c
          (λ q. exact_bind {U = λ ks. Falling 16 ks × (middle ≡ true → none ks ≡ false) × (i ≡ last → (x : List ℕ) × (ks ≡ lastIn ∷ x))} {P = λ ks. ks ≡ sigs i}
          (exact_if (eqb i last)
          (λ e. exact_as (places_exact (lv_at p i) (ctx_at a i) false b lastIn (lastIn ∷ []) (λ o. clash refl o)) (λ l g. (
            (rw g.1 (low, g.2), (λ m. rw g.1), λ o. (g.0, g.1)),
            λ v. v ∙ down_rest s lastIn l g.0 g.1 v,
          )))
          (λ e. exact_as (places_exact (lv_at p i) (ctx_at a i) middle b 16 [] (λ o m. omega arith)) (λ l g. (
            (rw g.1 g.2, g.3, λ o. absurd (eqb-false i last e o)),
            λ v. v,
          ))))
          (λ ks v. exact_as (filled_exact i _ ks hi v.0 long) (λ r g.
          let fit : AgreeAt i r.levels → Fits h.skip h.rdpcm i ks = λ w. g.1 (got_of i r.levels ks v.0 w) in
          let is : AgreeAt i r.levels → ks ≡ sigs i = λ w. places_are i a.levels r.levels ks hi zeros v.0 g.0 w (fit w) in
          ((
            (
              (
                record {
                  kept = but_of i a.levels r.levels ks hi v.0 g.0;
                  fits = λ w. subst (Fits h.skip h.rdpcm i) (is w) (fit w);
                  last_at = λ w o.
                      let x = v.2 o in
                      last_of i lastIn x.0 (rw x.1 at v.0) (subst (Fits h.skip h.rdpcm i) x.1 (fit w)) (sym x.1 ∙ is w);
                },
                λ w m. q ∙ none_false ks (v.1 m) ∙ ap (λ l. not (none l)) (is w),
              ),
              is,
            ),
            λ w. got_of i r.levels ks v.0 w,
          ))))
          )
          (λ q. exact_done (
            record {
              kept = record { same = λ j k hj hk o. refl; long = refl };
              fits = λ w. subst (Fits h.skip h.rdpcm i) (nil_are w) (record { sizes = tt; ranged = tt; hidden = λ e. clash refl e });
              last_at = λ w o. clash q (u (middle_not i last o));
            },
            λ w m. q ∙ ap (λ l. not (none l)) (nil_are w),
          )))

    -- ---- sub-blocks below number i
    pub record KeptFrom (i : ℕ) (l m : List ℤ) : Type 0 where
      pub same : (j k : ℕ) → i ≤ j → j < n → k < 16 → get_or m (cell_at p j k) (pos 0) ≡ get_or l (cell_at p j k) (pos 0)
      pub long : length m ≡ length l

    abbrev pub ZeroBelow : ℕ → List ℤ → Type 0
    ZeroBelow i l = (j : ℕ) → j < i → ZeroAt p j l

    abbrev pub AgreeBelow : ℕ → List ℤ → Type 0
    AgreeBelow i l = (j : ℕ) → j < i → AgreeAt j l

    zero_less : (i : ℕ) (l m : List ℤ) → i < n → KeptBut i l m → ZeroBelow (suc i) l → ZeroBelow i m
    zero_less i l m hi r z j hj k hk = r.same j k (omega arith) hk (λ q. omega arith) ∙ z j (omega arith) k hk

    from_both : (i : ℕ) (l m r : List ℤ) → KeptBut i l m → KeptFrom i m r → KeptFrom (suc i) l r
    from_both i l m r u w = record {
      same = λ j k h hj hk. w.same j k (omega arith) hj hk ∙ u.same j k hj hk (λ q. omega arith);
      long = w.long ∙ u.long;
    }

    pub record WroteBelow (i : ℕ) (a r : Acc) : Type 0 where
      pub agree : AgreeBelow i r.levels
      pub kept : KeptFrom i a.levels r.levels

    module _ (last lastIn : ℕ) (low : lastIn < 16) where
      pub sub_blocks_writes : p.depth ≤ 16 → (i : ℕ) (a : Acc) → i ≤ n → ZeroBelow i a.levels → length a.levels ≡ total → Statistics a.stats
          → ((j : ℕ) → j < i → Fits h.skip h.rdpcm j (sigs j)) → ((j : ℕ) → j < i → j ≡ last → LastAt j lastIn)
          → Writes (sub_blocks_s p h (outer_of p) (inner_of p) last lastIn i a) b (WroteBelow i a)
      unfolding sub_blocks_s
      sub_blocks_writes deep zero a hi z l st t at =
          writes_done (record { agree = λ j h. absurd (omega arith); kept = record { same = λ j k o hj hk. refl; long = refl } })
      sub_blocks_writes deep (suc i) a hi z l st t at =
          writes_bind (sub_block_writes last lastIn i a hi low (z i (omega arith)) l deep st (t i (omega arith)) (at i (omega arith))) (λ m w.
          writes_as (sub_blocks_writes deep i m (omega arith) (zero_less i a.levels m.levels hi w.kept z) (w.kept.long ∙ l) w.small
          (λ j h. t j (omega arith)) (λ j h. at j (omega arith)))
          (λ r v. record {
            agree = up_to (λ j. AgreeAt j r.levels) i v.agree (λ k hk. v.kept.same i k (omega arith) hi hk ∙ w.agree k hk);
            kept = from_both i a.levels m.levels r.levels w.kept v.kept;
          }))

      pub record ReadBelow (i : ℕ) (a r : Acc) : Type 0 where
        pub kept : KeptFrom i a.levels r.levels
        pub fits : AgreeBelow i r.levels → (j : ℕ) → j < i → Fits h.skip h.rdpcm j (sigs j)
        pub last_at : AgreeBelow i r.levels → (j : ℕ) → j < i → j ≡ last → LastAt j lastIn

      pub sub_blocks_exact : (i : ℕ) (a : Acc) → i ≤ n → ZeroBelow i a.levels → length a.levels ≡ total
          → Exact (sub_blocks_s p h (outer_of p) (inner_of p) last lastIn i a) b (ReadBelow i a) (λ r. AgreeBelow i r.levels)
      unfolding sub_blocks_s
      sub_blocks_exact zero a hi z l = exact_done (record {
        kept = record { same = λ j k o hj hk. refl; long = refl };
        fits = λ q j h. absurd (omega arith);
        last_at = λ q j h. absurd (omega arith);
      })
      sub_blocks_exact (suc i) a hi z l =
          exact_bind (sub_block_exact last lastIn i a hi low (z i (omega arith)) l) (λ m w.
          exact_as (sub_blocks_exact i m (omega arith) (zero_less i a.levels m.levels hi w.kept z) (w.kept.long ∙ l)) (λ r v.
          let here : AgreeBelow (suc i) r.levels → AgreeAt i m.levels = λ q k hk. sym (v.kept.same i k (omega arith) hi hk) ∙ q i (omega arith) k hk in
          let less : AgreeBelow (suc i) r.levels → AgreeBelow i r.levels = λ q j h. q j (omega arith) in (
            (
              record {
                kept = from_both i a.levels m.levels r.levels w.kept v.kept;
                fits = λ q. up_to (λ j. Fits h.skip h.rdpcm j (sigs j)) i (v.fits (less q)) (w.fits (here q));
                last_at = λ q. up_to (λ j. j ≡ last → LastAt j lastIn) i (v.last_at (less q)) (w.last_at (here q));
              },
              here,
            ),
            less,
          )))
