-- The contexts of sig_coeff_flag as the code holds them, and the tree of the flags by what is left of the places. Assumes nothing.
use Rattle.std.specs.Prelude.{ℕ, zero, suc, ◌+◌, ◌*◌, ◌/◌, ◌%◌, ◌^◌, ◌≤◌, ◌<◌, ◌≡◌, refl, Bool, true, false, cond, ◌&&◌, List, [], ◌∷◌, ◌++◌, ℤ, eqb, leb, ltb, get_or}
use Rattle.std.proofs.Common.{sym, ap, ap₂, subst, ◌∙◌, arith, add-zero, ne_eqb, ltb-true, ltb-false}
use Rattle.std.proofs.Math.Path.{fun_ext}
use Rattle.bins.specs.Syn.{done, bin, ◌>>=◌}
use Rattle.bins.specs.Readers.{odd}
use Rattle.tables.specs.Table.{eq_below, le_below}
use Rattle.hevc_residual.specs.declared.params.Params.{Params}
use Rattle.hevc_residual.specs.Layout.{in_chroma}
use Rattle.hevc_residual.specs.Scan.{spot, scan_order, by_neighbours, ctx_idx_map, sig_ctx}
use Rattle.hevc_residual.specs.Wanted.{Wanted, S, is_sig, none}
use Rattle.hevc_residual.specs.SubBlock.{places_s}
use Rattle.hevc_scans.specs.SigWords.{four_at, place_in, map_at, near_at}
use Rattle.hevc_scans.specs.SigLaws.{plus_of, sig_four, sig_zero, sig_rest}
use Rattle.hevc_places.specs.declared.places.SigNumbers.{SigNumbers}
use Rattle.hevc_places.specs.PlacesAgree.{sig_number, number_at, Numbers}
use Rattle.hevc_places.specs.PackingLaws.{sixteen_pow}

-- ---- the context of the flag at a place
inner_x : (scan k : ℕ) → scan ≤ 2 → k < 16 → (get_or (scan_order 4 scan) k (spot 0 0)).x ≤ 3
unfolding scan_order
inner_x zero k h i = le_below (λ j. (get_or (scan_order 4 0) j (spot 0 0)).x) (λ j. 3) 16 tt k i
inner_x (suc zero) k h i = le_below (λ j. (get_or (scan_order 4 1) j (spot 0 0)).x) (λ j. 3) 16 tt k i
inner_x (suc (suc zero)) k h i = le_below (λ j. (get_or (scan_order 4 2) j (spot 0 0)).x) (λ j. 3) 16 tt k i
inner_x (suc (suc (suc n))) k h i = absurd (omega arith)

inner_y : (scan k : ℕ) → scan ≤ 2 → k < 16 → (get_or (scan_order 4 scan) k (spot 0 0)).y ≤ 3
unfolding scan_order
inner_y zero k h i = le_below (λ j. (get_or (scan_order 4 0) j (spot 0 0)).y) (λ j. 3) 16 tt k i
inner_y (suc zero) k h i = le_below (λ j. (get_or (scan_order 4 1) j (spot 0 0)).y) (λ j. 3) 16 tt k i
inner_y (suc (suc zero)) k h i = le_below (λ j. (get_or (scan_order 4 2) j (spot 0 0)).y) (λ j. 3) 16 tt k i
inner_y (suc (suc (suc n))) k h i = absurd (omega arith)

-- place 0 of a scan is (0, 0), and no other place is
first_column : (scan k : ℕ) → scan ≤ 2 → k ≡ 0 → (place_in scan k).x ≡ 0
unfolding scan_order
first_column zero k h e = rw e
first_column (suc zero) k h e = rw e
first_column (suc (suc zero)) k h e = rw e
first_column (suc (suc (suc n))) k h e = absurd (omega arith)

first_row : (scan k : ℕ) → scan ≤ 2 → k ≡ 0 → (place_in scan k).y ≡ 0
unfolding scan_order
first_row zero k h e = rw e
first_row (suc zero) k h e = rw e
first_row (suc (suc zero)) k h e = rw e
first_row (suc (suc (suc n))) k h e = absurd (omega arith)

off_first : (scan k : ℕ) → scan ≤ 2 → k < 16 → cond (eqb k 0) 0 1 ≤ (place_in scan k).x + (place_in scan k).y
unfolding scan_order
off_first zero k h i = le_below (λ j. cond (eqb j 0) 0 1) (λ j. (place_in 0 j).x + (place_in 0 j).y) 16 tt k i
off_first (suc zero) k h i = le_below (λ j. cond (eqb j 0) 0 1) (λ j. (place_in 1 j).x + (place_in 1 j).y) 16 tt k i
off_first (suc (suc zero)) k h i = le_below (λ j. cond (eqb j 0) 0 1) (λ j. (place_in 2 j).x + (place_in 2 j).y) 16 tt k i
off_first (suc (suc (suc n))) k h i = absurd (omega arith)

later_place : (scan k : ℕ) → scan ≤ 2 → k < 16 → (k ≡ 0 → ⊥) → 1 ≤ (place_in scan k).x + (place_in scan k).y
later_place scan k h i z = rw (ne_eqb k 0 z) at (off_first scan k h i)

map_first : (scan k : ℕ) → scan ≤ 2 → k ≡ 0 → map_at scan k ≡ 0
unfolding ctx_idx_map
map_first scan k h e = rw (first_column scan k h e, first_row scan k h e)

near_first : (right below : Bool) (x y : ℕ) → x ≡ 0 → y ≡ 0 → by_neighbours right below x y ≡ 2
near_first false false x y p q = rw (p, q)
near_first true false x y p q = rw q
near_first false true x y p q = rw p
near_first true true x y p q = refl

zero_word : (k : ℕ) → k < 16 → four_at 0 k ≡ 0
zero_word = eq_below (four_at 0) (λ _. 0) 16 tt

-- one of the three numbers, by whether the place is the first
at_either : (s : SigNumbers) (k v : ℕ) → (k ≡ 0 → s.first ≡ v) → ((k ≡ 0 → ⊥) → s.base + four_at s.word k ≡ v) → number_at s k ≡ v
at_either s zero v a b = a refl
at_either s (suc k) v a b = rw (ne_eqb (suc k) 0 (λ e. omega arith)) (b (λ e. omega arith))

by_word : (base four other v : ℕ) → four ≡ other → base + other ≡ v → base + four ≡ v
by_word base four other v e h = ap (λ z. base + z) e ∙ h

behind_36 : (base c m r v : ℕ) → base ≡ 36 + c → c + m ≡ r → 36 + r ≡ v → base + m ≡ v
behind_36 base c m r v e f g = omega arith

module _ (p : Params) (single : Bool) (neighbours xs ys : ℕ) where
  number_skip : (k : ℕ) → single ≡ true → 36 + (42 + in_chroma p.luma 1) ≡ sig_number p single neighbours xs ys k
  unfolding sig_number
  number_skip k s = rw s

  number_place : (k : ℕ) → single ≡ false
      → 36 + sig_ctx p.log2 p.luma p.scan (odd neighbours) (leb 2 neighbours) (4 * xs + (place_in p.scan k).x) (4 * ys + (place_in p.scan k).y)
      ≡ sig_number p single neighbours xs ys k
  unfolding sig_number
  number_place k s = rw s

  -- the skip context
  pub numbers_skip : single ≡ true → (n : ℕ) → n ≡ 36 + (42 + in_chroma p.luma 1) → Numbers p single neighbours xs ys (record { word = 0; base = n; first = n })
  numbers_skip s n e = record {
    held = λ k l u.
        let v : n ≡ sig_number p single neighbours xs ys k = e ∙ number_skip k s in
        at_either (record { word = 0; base = n; first = n }) k (sig_number p single neighbours xs ys k) (λ z. v)
        (λ z. by_word n (four_at 0 k) 0 (sig_number p single neighbours xs ys k) (zero_word k l) (add-zero n ∙ v));
  }

  module _ (s : single ≡ false) (hs : p.scan ≤ 2) (word least : ℕ) (e : least ≡ 36 + in_chroma p.luma 27) where
    -- a 4x4 block's
    pub numbers_four : p.log2 ≡ 2 → (xs ≡ 0) × (ys ≡ 0) → ((k : ℕ) → k < 15 → four_at word k ≡ map_at p.scan k)
        → Numbers p single neighbours xs ys (record { word = word; base = least; first = least })
    numbers_four f z w = record {
      held = λ k l u.
          let v = sig_number p single neighbours xs ys k in
          let m : least + map_at p.scan k ≡ v = behind_36 least (in_chroma p.luma 27) (map_at p.scan k) _ v e
          (sig_four p.log2 p.scan xs ys (place_in p.scan k).x (place_in p.scan k).y p.luma (odd neighbours) (leb 2 neighbours)
          (inner_x p.scan k hs l) (inner_y p.scan k hs l) f z) (number_place k s) in
          at_either (record { word = word; base = least; first = least }) k v
          (λ t. sym (add-zero least) ∙ by_word least 0 (map_at p.scan k) v (sym (map_first p.scan k hs t)) m)
          (λ t. by_word least (four_at word k) (map_at p.scan k) v (w k (u f)) m);
    }

    -- a larger block's
    module _ (f : p.log2 ≡ 2 → ⊥) (w : (k : ℕ) → k < 16 → four_at word k ≡ near_at neighbours p.scan k) (plus : ℕ)
        (ep : plus ≡ plus_of p.log2 p.luma p.scan (ltb 0 (xs + ys))) where
      rest : (k : ℕ) → k < 16 → (xs + ys + (place_in p.scan k).x + (place_in p.scan k).y ≡ 0 → ⊥)
          → 36 + plus + near_at neighbours p.scan k ≡ sig_number p single neighbours xs ys k
      rest k l z =
          behind_36 (36 + plus) plus (near_at neighbours p.scan k) _ (sig_number p single neighbours xs ys k) refl
          (sig_rest p.log2 p.scan xs ys (place_in p.scan k).x (place_in p.scan k).y p.luma (odd neighbours) (leb 2 neighbours)
          (inner_x p.scan k hs l) (inner_y p.scan k hs l) plus (near_at neighbours p.scan k) f z ep refl) (number_place k s)

      later : (k : ℕ) → k < 16 → (k ≡ 0 → ⊥) → 36 + plus + four_at word k ≡ sig_number p single neighbours xs ys k
      later k l z =
          by_word (36 + plus) (four_at word k) (near_at neighbours p.scan k) (sig_number p single neighbours xs ys k) (w k l)
          (rest k l (λ t. omega (arith, later_place p.scan k hs l z)))

      numbers_outside : ltb 0 (xs + ys) ≡ true → Numbers p single neighbours xs ys (record { word = word; base = 36 + plus; first = 36 + plus + 2 })
      numbers_outside g = let o : 0 < xs + ys = ltb-true 0 (xs + ys) g in record {
        held = λ k l u.
            at_either (record { word = word; base = 36 + plus; first = 36 + plus + 2 }) k (sig_number p single neighbours xs ys k)
            (λ t. by_word (36 + plus) 2 (near_at neighbours p.scan k) (sig_number p single neighbours xs ys k)
            (sym (near_first (odd neighbours) (leb 2 neighbours) (place_in p.scan k).x (place_in p.scan k).y (first_column p.scan k hs t) (first_row p.scan k hs t)))
            (rest k l (λ z. omega arith)))
            (later k l);
      }

      numbers_inside : ltb 0 (xs + ys) ≡ false → Numbers p single neighbours xs ys (record { word = word; base = 36 + plus; first = least })
      numbers_inside g = let o : xs + ys ≤ 0 = ltb-false 0 (xs + ys) g in record {
        held = λ k l u.
            at_either (record { word = word; base = 36 + plus; first = least }) k (sig_number p single neighbours xs ys k)
            (λ t. sym (add-zero least) ∙ behind_36 least (in_chroma p.luma 27) 0 _ (sig_number p single neighbours xs ys k) e
            (sig_zero p.log2 p.scan xs ys (place_in p.scan k).x (place_in p.scan k).y p.luma (odd neighbours) (leb 2 neighbours)
            (inner_x p.scan k hs l) (inner_y p.scan k hs l) f (omega (arith, first_column p.scan k hs t, first_row p.scan k hs t))) (number_place k s))
            (later k l);
      }

      pub numbers_larger : (first : ℕ) → first ≡ cond (ltb 0 (xs + ys)) (36 + plus + 2) least
          → Numbers p single neighbours xs ys (record { word = word; base = 36 + plus; first = first })
      numbers_larger first ef = go (ltb 0 (xs + ys)) refl ef
        where
          go : (t : Bool) → ltb 0 (xs + ys) ≡ t → first ≡ cond t (36 + plus + 2) least
              → Numbers p single neighbours xs ys (record { word = word; base = 36 + plus; first = first })
          go true g x = subst (λ (n : ℕ). Numbers p single neighbours xs ys (record { word = word; base = 36 + plus; first = n })) (sym x) (numbers_outside g)
          go false g x = subst (λ (n : ℕ). Numbers p single neighbours xs ys (record { word = word; base = 36 + plus; first = n })) (sym x) (numbers_inside g)

-- taken out by a shift
pub four_shifted : (s : SigNumbers) (k : ℕ) → (k ≡ 0 → ⊥) → s.base + s.word / 2 ^ (4 * k) % 16 ≡ number_at s k
four_shifted s k z = rw (ne_eqb k 0 z, sixteen_pow k)

pub first_held : (s : SigNumbers) (k : ℕ) → k ≡ 0 → s.first ≡ number_at s k
first_held s k e = rw e

-- ---- whether the lowest place is inferred
pub inferred_not : (k count : ℕ) (infer : Bool) → (k ≡ 0 → ⊥) → false ≡ (eqb k 0 && (infer && eqb count 0))
inferred_not k count infer h = ap (λ z. z && (infer && eqb count 0)) (sym (ne_eqb k 0 h))

pub inferred_off : (k count : ℕ) (infer : Bool) → k ≡ 0 → infer ≡ false → false ≡ (eqb k 0 && (infer && eqb count 0))
inferred_off k count infer q i = ap (λ z. eqb 0 0 && (z && eqb count 0)) (sym i) ∙ ap (λ z. eqb z 0 && (infer && eqb count 0)) (sym q)

pub inferred_by : (k count : ℕ) (infer : Bool) → k ≡ 0 → infer ≡ true → eqb count 0 ≡ (eqb k 0 && (infer && eqb count 0))
inferred_by k count infer q i = ap (λ z. eqb 0 0 && (z && eqb count 0)) (sym i) ∙ ap (λ z. eqb z 0 && (infer && eqb count 0)) (sym q)

-- ---- the tree, by whether the lowest place is inferred
pub places_end : (lv : ℕ → Wanted → ℤ) (ctx : ℕ → ℕ) (infer : Bool) (ks : List ℕ) → places_s lv ctx infer 0 ks ≡ done ks
unfolding places_s
places_end lv ctx infer ks = refl

abbrev pub on_from : (ℕ → Wanted → ℤ) → (ℕ → ℕ) → Bool → ℕ → List ℕ → Bool → S (List ℕ)
on_from lv ctx infer k ks b = places_s lv ctx infer k (cond b (ks ++ (k ∷ [])) ks)

abbrev pub by_infer : Bool → S (List ℕ) → S (List ℕ)
by_infer true t = done (0 ∷ [])
by_infer false t = t

pub places_more : (lv : ℕ → Wanted → ℤ) (ctx : ℕ → ℕ) (infer : Bool) (k : ℕ) (ks : List ℕ)
    → places_s lv ctx infer (suc k) ks ≡ by_infer (eqb k 0 && (infer && none ks)) (bin (ctx k) (λ t. is_sig lv t k) done >>= on_from lv ctx infer k ks)
unfolding places_s none ◌>>=◌
places_more lv ctx infer k ks = go (eqb k 0 && (infer && none ks))
  where
    go : (b : Bool) → elim b [ true ↦ done (0 ∷ []) | false ↦ bin (ctx k) (λ t. is_sig lv t k) (on_from lv ctx infer k ks) ]
        ≡ by_infer b (bin (ctx k) (λ t. is_sig lv t k) (on_from lv ctx infer k ks))
    go true = refl
    go false = refl

-- contexts that agree at every place that is asked for make the same tree
same_step : (b : Bool) (m n : ℕ) (want : Wanted → Bool) (r t : Bool → S (List ℕ)) → m ≡ n → ((c : Bool) → r c ≡ t c)
    → by_infer b (bin m want r) ≡ by_infer b (bin n want t)
same_step true m n want r t e f = refl
same_step false m n want r t e f = ap₂ (λ k u. bin k want u) e (fun_ext f)

pub places_same : (lv : ℕ → Wanted → ℤ) (ctx other : ℕ → ℕ) (infer : Bool) (n : ℕ) (ks : List ℕ) → ((k : ℕ) → k < n → ctx k ≡ other k)
    → places_s lv ctx infer n ks ≡ places_s lv other infer n ks
unfolding ◌>>=◌
places_same lv ctx other infer zero ks h = places_end lv ctx infer ks ∙ sym (places_end lv other infer ks)
places_same lv ctx other infer (suc k) ks h =
    places_more lv ctx infer k ks
    ∙ same_step (eqb k 0 && (infer && none ks)) (ctx k) (other k) (λ t. is_sig lv t k) (on_from lv ctx infer k ks) (on_from lv other infer k ks) (h k (omega arith))
    (λ b. places_same lv ctx other infer k (cond b (ks ++ (k ∷ [])) ks) (λ j l. h j (omega arith)))
    ∙ sym (places_more lv other infer k ks)
