-- The Rice number of a plain block never exceeds 4, said of the tree: the residual tree with a guard, which stops wherever a remainder would be read with a greater one, is the residual
-- tree. So it holds from every source, in the writer, and of blocks that are refused later on. It follows from persistent Rice being off. Assumes nothing.
use Prim.Native.Nat.{ℕ, zero, suc, ◌+◌, ◌-◌, ◌*◌, ◌/◌, ◌%◌, ◌^◌, ◌≤◌, min}
use Rattle.std.specs.Prelude.{◌≡◌, ◌&&◌, ◌||◌, cond, length, set, replicate, leb, eqb, ℤ, pos}
use Rattle.std.proofs.Math.Path.{refl, ap, ap₂, fun_ext}
use Rattle.std.proofs.Common.{◌∙◌, arith, le-leb}
use mathlib.Core.List.{List, [], ◌∷◌}
use Rattle.std.proofs.Math.Bool.{Bool, true, false, not}
use Rattle.std.proofs.Math.ListN.{get_or}
use Rattle.std.proofs.Math.Dec.{ltb}
use Rattle.std.proofs.Math.IntN.{nat_abs}
use Rattle.bins.specs.Engine.{bit_no}
use Rattle.bins.specs.Syn.{done, stop, bin, align, ◌>>=◌}
use Rattle.bins.specs.Readers.{flag_if, bits_s}
use Rattle.hevc_residual.specs.declared.params.Params.{Params}
use Rattle.hevc_residual.specs.Layout.{at_greater1, at_greater2, at_coded_sub_block, in_chroma}
use Rattle.hevc_residual.specs.Scan.{Spot, spot, number_in}
use Rattle.hevc_residual.specs.Wanted.{Wanted, S, area, cell_of, outer_of, inner_of, spot_in, wanted_in, none, sig_places}
use Rattle.hevc_residual.specs.Head.{Head, head_s}
use Rattle.hevc_residual.specs.Remainder.{log2_transform_range, in_range, signed, remainder_s, rice_next, stat_next}
use Rattle.hevc_residual.specs.SubBlock.{places_s, greater1_s, count_of, first_greater1, escape_data_present, sign_hidden, signs_no, negative_now, Due, dues, column_so_far, Filled, levels_s, Acc, sb_type, coeffs_s}
use Rattle.hevc_residual.specs.Residual.{is_coded, marked, ctx_set_of, sig_at, filled_s, sub_block_s, sub_blocks_s, Block, greatest_of, body_s, residual}
use Rattle.hevc_residual.specs.Extent.{column_extent_of, row_extent_of}

-- ---- the residual tree over any way L to read a sub-block's levels: residual's own text, but for L
abbrev pub Reads : Type 0
Reads = (ℕ → Wanted → ℤ) → (ℕ → Spot) → List Due → ℕ → ℕ → Filled → S Filled

module _ (L : Reads) where
  abbrev pub coeffs_by : Params → Head → (ℕ → Wanted → ℤ) → (ℕ → Spot) → ℕ → ℕ → List ℕ → Acc → S Acc
  coeffs_by p h lv spot_of ctxSet k ks a =
      let n = suc (length ks) in
      greater1_s lv (at_greater1 + 4 * ctxSet + in_chroma p.luma 16) 8 (k ∷ ks) (record { bins = []; greater1_ctx = 1 }) >>= λ g.
      let ones = count_of g.bins in
      flag_if (ltb 0 ones) (at_greater2 + ctxSet + in_chroma p.luma 4) (λ t. ltb 2 (nat_abs (lv (first_greater1 (k ∷ ks) g.bins) t))) >>= λ g2.
      let coded = n - bit_no (sign_hidden p h.skip h.rdpcm (k ∷ ks)) in
      let stat = get_or a.stats (sb_type p h) 0 in
      let rest : S Acc =
      bits_s coded 0 (λ t. signs_no lv coded (k ∷ ks) t 0) >>= λ signs.
      L lv spot_of (dues (k ∷ ks) g.bins false g2) coded signs (record { levels = a.levels; column = a.column; stat = stat }) >>= λ f.
      done (record {
        coded_sub_block = a.coded_sub_block;
        greater1_ctx = g.greater1_ctx;
        first = false;
        levels = f.levels;
        column = f.column;
        stats = set a.stats (sb_type p h) f.stat;
      }) in
      elim (p.aligning && escape_data_present n ones g2) [ true ↦ align rest | false ↦ rest ]

  module _ (p : Params) (h : Head) (outer inner : List Spot) where
    abbrev pub filled_by : ℕ → Spot → Acc → List ℕ → S Acc
    filled_by i s a [] = done a
    filled_by i s a (k ∷ ks) = coeffs_by p h (wanted_in p inner s) (spot_in inner s) (ctx_set_of p i a) k ks a

    abbrev pub sub_block_by : ℕ → ℕ → ℕ → Acc → S Acc
    sub_block_by last lastIn i a =
        let s = get_or outer i (spot 0 0) in
        let right = is_coded p a (s.x + 1) s.y in
        let below = is_coded p a s.x (s.y + 1) in
        let middle = ltb 0 i && ltb i last in
        let flag : S Bool =
        elim middle [
          | true ↦ bin (at_coded_sub_block + in_chroma p.luma 2 + bit_no (right || below)) (λ t. not (none (sig_places (wanted_in p inner s) t))) done
          | false ↦ done true
        ] in
        let places : S (List ℕ) =
        elim (eqb i last) [
          | true ↦ places_s (wanted_in p inner s) (sig_at p h outer inner s right below) false lastIn (lastIn ∷ [])
          | false ↦ places_s (wanted_in p inner s) (sig_at p h outer inner s right below) middle 16 []
        ] in
        flag >>= λ coded.
        elim coded [ false ↦ done a | true ↦ places >>= λ ks. filled_by i s (marked p a s.x s.y) ks ]

    abbrev pub sub_blocks_by : ℕ → ℕ → ℕ → Acc → S Acc
    sub_blocks_by last lastIn zero a = done a
    sub_blocks_by last lastIn (suc i) a = sub_block_by last lastIn i a >>= λ a'. sub_blocks_by last lastIn i a'

  abbrev pub body_by : Params → List ℕ → Head → S Block
  body_by p stats h =
      let last = number_in (outer_of p) (h.last_x / 4) (h.last_y / 4) in
      let lastIn = number_in (inner_of p) (h.last_x % 4) (h.last_y % 4) in
      let start : Acc = record {
        coded_sub_block = replicate (4 ^ (p.log2 - 2)) false;
        greater1_ctx = 1;
        first = true;
        levels = replicate (area p) (pos 0);
        column = 0;
        stats = stats;
      } in
      sub_blocks_by p h (outer_of p) (inner_of p) last lastIn (suc last) start >>= λ a.
      done (record {
        skip = h.skip;
        rdpcm = h.rdpcm;
        column = column_extent_of p a.levels;
        row = row_extent_of p a.levels;
        greatest = greatest_of a.levels;
        levels = a.levels;
        stats = a.stats;
      })

  abbrev pub residual_by : Params → List ℕ → S Block
  residual_by p stats = head_s p (outer_of p) (inner_of p) >>= λ h. body_by p stats h

-- the syntax's own way
abbrev pub as_read : Params → Reads
as_read p lv spot_of ds n signs f = levels_s p lv spot_of ds n signs (cond p.persistent (f.stat / 4) 0) false 0 f

coeffs_own : (p : Params) (h : Head) (lv : ℕ → Wanted → ℤ) (spot_of : ℕ → Spot) (ctxSet k : ℕ) (ks : List ℕ) (a : Acc)
    → coeffs_by (as_read p) p h lv spot_of ctxSet k ks a ≡ coeffs_s p h lv spot_of ctxSet k ks a
unfolding coeffs_s
coeffs_own p h lv spot_of ctxSet k ks a = refl

module _ (p : Params) (h : Head) (outer inner : List Spot) where
  filled_own : (i : ℕ) (s : Spot) (a : Acc) (ks : List ℕ) → filled_by (as_read p) p h outer inner i s a ks ≡ filled_s p h outer inner i s a ks
  unfolding filled_s
  filled_own i s a [] = refl
  filled_own i s a (k ∷ ks) = coeffs_own p h (wanted_in p inner s) (spot_in inner s) (ctx_set_of p i a) k ks a

  sub_own : (last lastIn i : ℕ) (a : Acc) → sub_block_by (as_read p) p h outer inner last lastIn i a ≡ sub_block_s p h outer inner last lastIn i a
  unfolding sub_block_s
  sub_own last lastIn i a =
      let s = get_or outer i (spot 0 0) in
      let right = is_coded p a (s.x + 1) s.y in
      let below = is_coded p a s.x (s.y + 1) in
      let middle = ltb 0 i && ltb i last in
      let flag : S Bool =
      elim middle [
        | true ↦ bin (at_coded_sub_block + in_chroma p.luma 2 + bit_no (right || below)) (λ t. not (none (sig_places (wanted_in p inner s) t))) done
        | false ↦ done true
      ] in
      let places : S (List ℕ) =
      elim (eqb i last) [
        | true ↦ places_s (wanted_in p inner s) (sig_at p h outer inner s right below) false lastIn (lastIn ∷ [])
        | false ↦ places_s (wanted_in p inner s) (sig_at p h outer inner s right below) middle 16 []
      ] in
      let whole : (List ℕ → S Acc) → S Acc = λ F. flag >>= λ coded. elim coded [ false ↦ done a | true ↦ places >>= F ] in
      ap whole (fun_ext (λ ks. filled_own i s (marked p a s.x s.y) ks))

  subs_own : (last lastIn n : ℕ) (a : Acc) → sub_blocks_by (as_read p) p h outer inner last lastIn n a ≡ sub_blocks_s p h outer inner last lastIn n a
  unfolding sub_blocks_s
  subs_own last lastIn zero a = refl
  subs_own last lastIn (suc i) a =
      ap₂ ◌>>=◌ (sub_own last lastIn i a) (fun_ext (λ a'. subs_own last lastIn i a'))

pub residual_own : (p : Params) (stats : List ℕ) → residual_by (as_read p) p stats ≡ residual p stats
unfolding residual body_s
residual_own p stats = ap (λ (F : Head → S Block). head_s p (outer_of p) (inner_of p) >>= F) (fun_ext (λ h.
    let last = number_in (outer_of p) (h.last_x / 4) (h.last_y / 4) in
    let lastIn = number_in (inner_of p) (h.last_x % 4) (h.last_y % 4) in
    let start : Acc = record {
      coded_sub_block = replicate (4 ^ (p.log2 - 2)) false;
      greater1_ctx = 1;
      first = true;
      levels = replicate (area p) (pos 0);
      column = 0;
      stats = stats;
    } in
    let end : Acc → S Block = λ a. done (record {
      skip = h.skip;
      rdpcm = h.rdpcm;
      column = column_extent_of p a.levels;
      row = row_extent_of p a.levels;
      greatest = greatest_of a.levels;
      levels = a.levels;
      stats = a.stats;
    }) in
    ap (λ (t : S Acc). t >>= end) (subs_own p h (outer_of p) (inner_of p) last lastIn (suc last) start)))

-- ---- the guard: a remainder is read only where the Rice number is at most the limit; else the tree stops, by a number that nothing else gives
abbrev pub over : ℕ
over = 99

unfoldable pub levels_under : ℕ → Params → (ℕ → Wanted → ℤ) → (ℕ → Spot) → List Due → ℕ → ℕ → ℕ → Bool → ℕ → Filled → S Filled
unfolding rice_next stat_next negative_now
levels_under limit p lv spot_of [] n signs cRiceParam had sumAbsLevel f = done f
levels_under limit p lv spot_of (d ∷ ds) n signs cRiceParam had sumAbsLevel f =
    elim d.more [
      | true ↦ elim (leb cRiceParam limit) [ true ↦ remainder_s p cRiceParam (λ t. nat_abs (lv d.at t) - d.base_level) | false ↦ stop over ]
      | false ↦ done 0
    ] >>= λ v.
    let m = d.base_level + v in
    let neg = negative_now n signs (sumAbsLevel + m) in
    let s = spot_of d.at in
    elim (in_range (log2_transform_range p) neg m) [
      | false ↦ stop 8
      | true ↦
          levels_under limit p lv spot_of ds (n - 1) signs (cond d.more (rice_next p cRiceParam m) cRiceParam) (had || d.more) (sumAbsLevel + m)
          (record {
            levels = set f.levels (cell_of p s) (signed neg m);
            column = column_so_far f.column s;
            stat = cond (d.more && (p.persistent && not had)) (stat_next f.stat v) f.stat;
          })
    ]

abbrev pub as_read_under : ℕ → Params → Reads
as_read_under limit p lv spot_of ds n signs f = levels_under limit p lv spot_of ds n signs (cond p.persistent (f.stat / 4) 0) false 0 f

-- the residual tree with its Rice number held to the limit
abbrev pub residual_under : ℕ → Params → List ℕ → S Block
residual_under limit p stats = residual_by (as_read_under limit p) p stats

-- ---- with persistent Rice off the guard of 4 is never met
rice_four : (p : Params) (r m : ℕ) → p.persistent ≡ false → r ≤ 4 → rice_next p r m ≤ 4
unfolding rice_next
rice_four p r m q h = rw q (go (ltb (3 * 2 ^ r) m))
  where
    go : (d : Bool) → cond d (cond false (r + 1) (min (r + 1) 4)) r ≤ 4
    go true = omega arith
    go false = h

cond_four : (d : Bool) (x y : ℕ) → x ≤ 4 → y ≤ 4 → cond d x y ≤ 4
cond_four true x y h k = h
cond_four false x y h k = k

module _ (p : Params) (q : p.persistent ≡ false) (lv : ℕ → Wanted → ℤ) (spot_of : ℕ → Spot) where
  if_same : {A : Type 0} (d : Bool) (n : ℕ) (x y : S A) → x ≡ y → ◌≡◌ {A = S A} (elim d [ false ↦ stop n | true ↦ x ]) (elim d [ false ↦ stop n | true ↦ y ])
  if_same d n x y e = ap (λ z. elim d [ false ↦ stop n | true ↦ z ]) e

  guarded : (more : Bool) (r : ℕ) (t : S ℕ) → r ≤ 4
      → ◌≡◌ {A = S ℕ} (elim more [ true ↦ elim (leb r 4) [ true ↦ t | false ↦ stop over ] | false ↦ done 0 ]) (elim more [ true ↦ t | false ↦ done 0 ])
  guarded true r t h = rw (le-leb r 4 h)
  guarded false r t h = refl

  levels_four : (ds : List Due) (n signs r : ℕ) (had : Bool) (sum : ℕ) (f : Filled) → r ≤ 4
      → levels_under 4 p lv spot_of ds n signs r had sum f ≡ levels_s p lv spot_of ds n signs r had sum f
  unfolding levels_under levels_s
  levels_four [] n signs r had sum f h = refl
  levels_four (d ∷ ds) n signs r had sum f h =
      ap₂ ◌>>=◌ (guarded d.more r (remainder_s p r (λ t. nat_abs (lv d.at t) - d.base_level)) h) (fun_ext (λ v.
      let m = d.base_level + v in
      let neg = negative_now n signs (sum + m) in
      if_same (in_range (log2_transform_range p) neg m) 8 _ _
      (levels_four ds (n - 1) signs (cond d.more (rice_next p r m) r) (had || d.more) (sum + m) _
      (cond_four d.more (rice_next p r m) r (rice_four p r m q h) h))))

pub rice_never_over : (p : Params) (stats : List ℕ) → p.persistent ≡ false → residual_under 4 p stats ≡ residual p stats
rice_never_over p stats q =
    ap (λ (L : Reads). residual_by L p stats)
    (fun_ext (λ lv. fun_ext (λ spot_of. fun_ext (λ ds. fun_ext (λ n. fun_ext (λ signs. fun_ext (λ f.
    levels_four p q lv spot_of ds n signs (cond p.persistent (f.stat / 4) 0) false 0 f (start (f.stat / 4)))))))))
    ∙ residual_own p stats
  where
    start : (x : ℕ) → cond p.persistent x 0 ≤ 4
    start x = rw q (omega arith)

-- the guard is real: a remainder at 5 stops
pub guard_stops : (p : Params) (lv : ℕ → Wanted → ℤ) (spot_of : ℕ → Spot) (at base n signs : ℕ) (had : Bool) (sum : ℕ) (f : Filled) (ds : List Due)
    → levels_under 4 p lv spot_of (record { at = at; base_level = base; more = true } ∷ ds) n signs 5 had sum f ≡ stop over
unfolding levels_under ◌>>=◌
guard_stops p lv spot_of at base n signs had sum f ds = refl
