-- The contexts of sig_coeff_flag, as the code works them out. Assumes nothing.
use Rattle.std.specs.Prelude.{ℕ, zero, suc, ◌+◌, ◌*◌, ◌≤◌, ◌<◌, ◌/◌, ◌%◌, ◌^◌, ◌≡◌, refl, Bool, true, false, cond, List, [], T, eqb, ltb, leb, get_or}
use native.Mathlib.Omega.{arith}
use borrow.Author.Tests.{lt-ltb, le-ltb, eq-eqb, ne_eqb, eqb-true}
use Rattle.bins.specs.Readers.{odd}
use Rattle.hevc_residual.specs.Layout.{in_chroma}
use Rattle.hevc_residual.specs.Scan.{falling, by_neighbours, chroma_plus, luma_plus, ctx_idx_map, sig_ctx}
use Rattle.tables.specs.Table.{all_from, eq_below, le_below}
use Rattle.hevc_scans.specs.Pairs.{map_rows}
use Rattle.hevc_scans.specs.SigWords.{four_at, map_at, near_at}

-- what luma adds by size and scan
abbrev pub luma_of : ℕ → ℕ → ℕ
luma_of log2 scan = cond (eqb log2 3) (cond (eqb scan 0) 9 15) 21

-- what is added to by_neighbours
abbrev pub plus_of : ℕ → Bool → ℕ → Bool → ℕ
plus_of log2 luma scan outside = in_chroma luma 27 + cond luma (cond outside 3 0 + luma_of log2 scan) (chroma_plus log2)

-- ---- the words, each by one test that is computed: four bits a place hold what is asked for there
pub map_word : (w s scan : ℕ) → scan ≡ s → T (all_from (λ k. eqb (four_at w k) (map_at s k)) 0 15) → (k : ℕ) → k < 15 → four_at w k ≡ map_at scan k
map_word w s scan p t = rw p (eq_below (four_at w) (map_at s) 15 t)

pub near_word : (w m s n scan : ℕ) → n ≡ m → scan ≡ s → T (all_from (λ k. eqb (four_at w k) (near_at m s k)) 0 16)
    → (k : ℕ) → k < 16 → four_at w k ≡ near_at n scan k
near_word w m s n scan p q t = rw (p, q) (eq_below (four_at w) (near_at m s) 16 t)

-- one word for rows and columns
pub near_sides : (w m n scan : ℕ) → n ≡ m → (scan ≡ 0 → ⊥) → scan ≤ 2 → T (all_from (λ k. eqb (four_at w k) (near_at m 1 k)) 0 16)
    → T (all_from (λ k. eqb (four_at w k) (near_at m 2 k)) 0 16) → (k : ℕ) → k < 16 → four_at w k ≡ near_at n scan k
near_sides w m n zero p z h t u = absurd (z refl)
near_sides w m n (suc zero) p z h t u = near_word w m 1 n 1 p refl t
near_sides w m n (suc (suc zero)) p z h t u = near_word w m 2 n 2 p refl u
near_sides w m n (suc (suc (suc s))) p z h t u = absurd (omega arith)

-- ---- the match on the neighbours
module _ (n x y : ℕ) where
  pub near_none : (r : ℕ) → n ≡ 0 → r ≡ falling 3 (x + y) → r ≡ by_neighbours (odd n) (leb 2 n) x y
  near_none r p h = rw p h

  pub near_right : (r : ℕ) → n ≡ 1 → r ≡ falling 2 y → r ≡ by_neighbours (odd n) (leb 2 n) x y
  near_right r p h = rw p h

  pub near_below : (r : ℕ) → n ≡ 2 → r ≡ falling 2 x → r ≡ by_neighbours (odd n) (leb 2 n) x y
  near_below r p h = rw p h

  pub near_both : n ≤ 3 → (n ≡ 0 → ⊥) → (n ≡ 1 → ⊥) → (n ≡ 2 → ⊥) → 2 ≡ by_neighbours (odd n) (leb 2 n) x y
  near_both h a b c = let p : n ≡ 3 = omega arith in rw p

pub falls_zero : (b v : ℕ) → v ≡ 0 → 2 ≡ falling b v
falls_zero b v p = rw p

pub falls_mid : (b v : ℕ) → (v ≡ 0 → ⊥) → v < b → 1 ≡ falling b v
falls_mid b v p h = simp (ne_eqb v 0 p, lt-ltb v b h)

pub falls_end : (b v : ℕ) → (v ≡ 0 → ⊥) → b ≤ v → 0 ≡ falling b v
falls_end b v p h = simp (ne_eqb v 0 p, le-ltb v b h)

-- ---- what is added
pub luma_first : (log2 scan : ℕ) → log2 ≡ 3 → scan ≡ 0 → 9 ≡ luma_of log2 scan
luma_first log2 scan p q = rw (p, q)

pub luma_other : (log2 scan : ℕ) → log2 ≡ 3 → (scan ≡ 0 → ⊥) → 15 ≡ luma_of log2 scan
luma_other log2 scan p q = simp (eq-eqb log2 3 p, ne_eqb scan 0 q)

pub luma_large : (log2 scan : ℕ) → (log2 ≡ 3 → ⊥) → 21 ≡ luma_of log2 scan
luma_large log2 scan p = simp (ne_eqb log2 3 p)

module _ (log2 scan : ℕ) (luma outside : Bool) where
  pub plus_outside : (r : ℕ) → luma ≡ true → outside ≡ true → r ≡ luma_of log2 scan → r + 3 ≡ plus_of log2 luma scan outside
  plus_outside r p q h = rw (p, q, h) (omega arith)

  pub plus_inside : (r : ℕ) → luma ≡ true → outside ≡ false → r ≡ luma_of log2 scan → r ≡ plus_of log2 luma scan outside
  plus_inside r p q h = rw (p, q, h) (omega arith)

  pub plus_eight : luma ≡ false → log2 ≡ 3 → 36 ≡ plus_of log2 luma scan outside
  plus_eight p q = rw (p, q)

  pub plus_large : luma ≡ false → (log2 ≡ 3 → ⊥) → 39 ≡ plus_of log2 luma scan outside
  plus_large p q = simp (p, ne_eqb log2 3 q)

-- ---- bounds
cond_le : (b : Bool) (x y n : ℕ) → x ≤ n → y ≤ n → cond b x y ≤ n
cond_le true x y n p q = p
cond_le false x y n p q = q

pub luma_small : (log2 scan : ℕ) → luma_of log2 scan ≤ 21
luma_small log2 scan =
    cond_le (eqb log2 3) (cond (eqb scan 0) 9 15) 21 21 (cond_le (eqb scan 0) 9 15 21 (omega arith) (omega arith)) (omega arith)

pub plus_small : (log2 scan : ℕ) (luma outside : Bool) → plus_of log2 luma scan outside ≤ 39
plus_small log2 scan true outside = omega (arith, cond_le outside 3 0 3 (omega arith) (omega arith), luma_small log2 scan)
plus_small log2 scan false outside = omega (arith, cond_le (eqb log2 3) 9 12 12 (omega arith) (omega arith))

falls_small : (b v : ℕ) → falling b v ≤ 2
falls_small b v = cond_le (eqb v 0) 2 (cond (ltb v b) 1 0) 2 (omega arith) (cond_le (ltb v b) 1 0 2 (omega arith) (omega arith))

pub near_small : (right below : Bool) (x y : ℕ) → by_neighbours right below x y ≤ 2
near_small false false x y = falls_small 3 (x + y)
near_small true false x y = falls_small 2 y
near_small false true x y = falls_small 2 x
near_small true true x y = omega arith

-- ---- the map
map_rows_lem : (y : ℕ) → y ≤ 3 → (x : ℕ) → x ≤ 3 → get_or (get_or map_rows y []) x 0 ≡ get_or ctx_idx_map (y * 4 + x) 0
unfolding map_rows ctx_idx_map
map_rows_lem y hy x hx =
    let p : (y * 4 + x) / 4 ≡ y = omega arith in
    let q : (y * 4 + x) % 4 ≡ x = omega arith in
    let e : get_or (get_or map_rows ((y * 4 + x) / 4) []) ((y * 4 + x) % 4) 0 ≡ get_or ctx_idx_map (y * 4 + x) 0 =
    eq_below (λ c. get_or (get_or map_rows (c / 4) []) (c % 4) 0) (λ c. get_or ctx_idx_map c 0) 16 tt (y * 4 + x) (omega arith) in
    rw (p, q) at e

map_all : (c : ℕ) → c < 16 → get_or ctx_idx_map c 0 ≤ 99
unfolding ctx_idx_map
map_all c h = le_below (λ c. get_or ctx_idx_map c 0) (λ _. 99) 16 tt c h

pub map_small : (map : List (List ℕ)) (x y : ℕ) → map ≡ map_rows → x ≤ 3 → y ≤ 3 → get_or (get_or map y []) x 0 ≤ 99
map_small map x y e hx hy = rw (e, map_rows_lem y hy x hx) (map_all (y * 4 + x) (omega arith))

-- ---- the component
pub in_luma : (luma : Bool) (m c : ℕ) → luma ≡ true → in_chroma luma 27 + m ≡ c → m ≡ c
in_luma luma m c p h = let z : in_chroma luma 27 ≡ 0 = rw p in omega arith

pub in_chroma_lem : (luma : Bool) (m c : ℕ) → luma ≡ false → in_chroma luma 27 + m ≡ c → 27 + m ≡ c
in_chroma_lem luma m c p h = let z : in_chroma luma 27 ≡ 27 = rw p in omega arith

-- ---- sig_ctx at place (x, y) of sub-block (xs, ys)
module _ (log2 scan xs ys x y : ℕ) (luma right below : Bool) (hx : x ≤ 3) (hy : y ≤ 3) where
  pub sig_map : (map : List (List ℕ)) → map ≡ map_rows → log2 ≡ 2 → (xs ≡ 0) × (ys ≡ 0)
      → in_chroma luma 27 + get_or (get_or map y []) x 0 ≡ sig_ctx log2 luma scan right below (4 * xs + x) (4 * ys + y)
  unfolding sig_ctx
  sig_map map e p z =
      let px : 4 * xs + x ≡ x = omega arith in
      let py : 4 * ys + y ≡ y = omega arith in
      rw (e, map_rows_lem y hy x hx, p, px, py)

  pub sig_four : log2 ≡ 2 → (xs ≡ 0) × (ys ≡ 0)
      → in_chroma luma 27 + get_or ctx_idx_map (y * 4 + x) 0 ≡ sig_ctx log2 luma scan right below (4 * xs + x) (4 * ys + y)
  unfolding sig_ctx
  sig_four p z =
      let px : 4 * xs + x ≡ x = omega arith in
      let py : 4 * ys + y ≡ y = omega arith in
      rw (p, px, py)

  pub sig_zero : (log2 ≡ 2 → ⊥) → xs + ys + x + y ≡ 0 → in_chroma luma 27 + 0 ≡ sig_ctx log2 luma scan right below (4 * xs + x) (4 * ys + y)
  unfolding sig_ctx
  sig_zero p z =
      let q : 4 * xs + x + (4 * ys + y) ≡ 0 = omega arith in
      simp (ne_eqb log2 2 p, eq-eqb (4 * xs + x + (4 * ys + y)) 0 q)

  pub sig_rest : (p n : ℕ) → (log2 ≡ 2 → ⊥) → (xs + ys + x + y ≡ 0 → ⊥) → p ≡ plus_of log2 luma scan (ltb 0 (xs + ys)) → n ≡ by_neighbours right below x y
      → p + n ≡ sig_ctx log2 luma scan right below (4 * xs + x) (4 * ys + y)
  unfolding sig_ctx luma_plus
  sig_rest p n g z hp hn =
      let q : 4 * xs + x + (4 * ys + y) ≡ 0 → ⊥ = λ e. z (omega arith) in
      let dx : (4 * xs + x) / 4 ≡ xs = omega arith in
      let dy : (4 * ys + y) / 4 ≡ ys = omega arith in
      let mx : (4 * xs + x) % 4 ≡ x = omega arith in
      let my : (4 * ys + y) % 4 ≡ y = omega arith in
      simp (ne_eqb log2 2 g, ne_eqb (4 * xs + x + (4 * ys + y)) 0 q, dx, dy, mx, my, hp, hn) (omega arith)

-- place 15 of a 4x4 block is never asked for; every other context is within the 44
map_asked : (c : ℕ) → c < 15 → get_or ctx_idx_map c 0 ≤ 8
unfolding ctx_idx_map
map_asked c h = le_below (λ c. get_or ctx_idx_map c 0) (λ _. 8) 15 tt c h

asked : (log2 xC yC : ℕ) → log2 ≡ 2 → xC < 2 ^ log2 → yC < 2 ^ log2 → (log2 ≡ 2 → xC ≡ 3 → yC ≡ 3 → ⊥) → yC * 4 + xC < 15
asked log2 xC yC p hx hy h =
    let q : 2 ^ log2 ≡ 4 = rw p in
    let n : yC * 4 + xC ≡ 15 → ⊥ = λ e. h p (omega arith) (omega arith) in
    omega arith

fits : (b z : Bool) (q m n p : ℕ) → q ≤ 27 → (b ≡ true → m ≤ 8) → n ≤ 2 → q + p ≤ 39
    → q + elim b [ true ↦ m | false ↦ elim z [ true ↦ 0 | false ↦ n + p ] ] ≤ 43
fits true z q m n p hq hm hn hp = omega (arith, hm refl)
fits false true q m n p hq hm hn hp = omega arith
fits false false q m n p hq hm hn hp = omega arith

pub sig_small : (log2 scan xC yC : ℕ) (luma right below : Bool) → xC < 2 ^ log2 → yC < 2 ^ log2 → (log2 ≡ 2 → xC ≡ 3 → yC ≡ 3 → ⊥)
    → sig_ctx log2 luma scan right below xC yC ≤ 43
unfolding sig_ctx luma_plus
sig_small log2 scan xC yC luma right below hx hy h =
    fits (eqb log2 2) (eqb (xC + yC) 0) (in_chroma luma 27) (get_or ctx_idx_map (yC * 4 + xC) 0) (by_neighbours right below (xC % 4) (yC % 4))
    (cond luma (luma_plus log2 scan (xC / 4) (yC / 4)) (chroma_plus log2))
    (cond_le luma 0 27 27 (omega arith) (omega arith))
    (λ t. map_asked (yC * 4 + xC) (asked log2 xC yC (eqb-true log2 2 t) hx hy h))
    (near_small right below (xC % 4) (yC % 4))
    (plus_small log2 scan luma (ltb 0 (xC / 4 + yC / 4)))
