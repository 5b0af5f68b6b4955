-- The head as its code reads it, call after call; and how great a group and its suffix are. Assumes nothing.
use Rattle.std.specs.Prelude.{ℕ, suc, ◌+◌, ◌-◌, ◌*◌, ◌/◌, ◌^◌, ◌≤◌, ◌<◌, ◌≡◌, Bool, true, List, [], eqb, Ok, Err}
use Rattle.std.proofs.Math.Path.{refl}
use Rattle.std.proofs.Common.{sym, ap, subst, ◌∙◌, arith}
use Rattle.std.proofs.Math.Bool.{false}
use Rattle.std.proofs.Math.Dec.{leb}
use Rattle.tables.specs.Table.{le_below}
use Rattle.bins.specs.declared.state.Interval.{Interval}
use Rattle.bins.specs.declared.state.Refusal.{Refusal}
use Rattle.bins.specs.Engine.{bit_no}
use Rattle.bins.specs.Syn.{Syn, done, ◌>>=◌, Source, Out, run}
use Rattle.bins.specs.Readers.{flag_if, bits_s, prefix_s}
use Rattle.bins.specs.Sources.{cursor, by_code, bits_from, Readable, step_of_bits, stopped, Step, got}
use Rattle.bins.specs.Laws.{RefusedBy, then_run, run_bind, bind_ok, bind_no, map_out}
use Rattle.bins.specs.CodeLaws.{bits_from_lem}
use Rattle.bins.specs.StepLaws.{bits_took, bits_refused}
use Rattle.hevc_residual.specs.declared.params.Params.{Params}
use Rattle.hevc_residual.specs.declared.params.Rdpcm.{Rdpcm}
use Rattle.hevc_residual.specs.Wanted.{Wanted, S, outer_of, inner_of}
use Rattle.hevc_residual.specs.Scan.{spot}
use Rattle.hevc_residual.specs.Layout.{in_chroma}
use Rattle.hevc_residual.specs.Head.{Head, head_s, groups_s, last_prefix, least_of, suffix_bits, rdpcm_flag, rdpcm_dir, rdpcm_of, skip_coded, rdpcm_coded}
use Rattle.trees.specs.Every.{Free, Each, each_as, bits_each, prefix_each}
use Rattle.trees.specs.Reached.{each_run}
use Rattle.hevc_elements.specs.Agree.{Reads, from, Says, SaysFlag, says_ok, says_no, flag_ok, flag_no_lem, reads_on}
use Rattle.hevc_elements.specs.ShapeLaws.{run_done}
use Rattle.hevc_head_rules.specs.HeadOf.{placed_at}
use Rattle.hevc_head_rules.specs.HeadParts.{last_luma, last_chroma, wanted_x, wanted_y, behind_suffix_x, behind_groups, behind_group_x, behind_dir, behind_flag, behind_skip}

-- ---- a prefix counts no further than it may, and n bins make a number of n bits
pub prefix_few : {B : Type 0} (base sh n g : ℕ) (w : ℕ → B → Bool) (m : ℕ) → g + n ≤ m → Each Free (λ a k. a ≤ m) 0 (prefix_s base sh n g w)
prefix_few base sh n g w m h = each_as (prefix_each base sh n g w (λ j k l. tt)) (λ a k u. omega (arith, u.upto))

bits_few : {B : Type 0} (n v : ℕ) (w : B → ℕ) (m : ℕ) → (v + 1) * 2 ^ n ≤ m → Each Free (λ a k. a < m) 0 (bits_s n v w)
bits_few n v w m h = each_as (bits_each n v w) (λ a k u. omega (arith, u.0))

-- ---- behind some calls: what is left to run gives what the whole gives
pub record Behind {A : Type 0} (s : Bool) (l : List ℕ) (whole : S A) (x : Interval) (cs : List ℕ) (t : S A) (y : Interval) (ds : List ℕ) : Type 0 where
  pub reads : Reads s l y ds
  pub left : from s l whole x cs ≡ from s l t y ds

pub bind_bind : {R B A C D : Type 0} (src : Source R) (t : Syn B A) (f : A → Syn B C) (g : C → Syn B D) (s : R)
    → run src ((t >>= f) >>= g) s ≡ run src (t >>= λ a. f a >>= g) s
bind_bind src t f g s = run_bind src (t >>= f) g s ∙ ap (then_run src g) (run_bind src t f s) ∙ go (run src t s) ∙ sym (run_bind src t (λ a. f a >>= g) s)
  where
    go : (o : Out _ _) → then_run src g (then_run src f o) ≡ then_run src (λ a. f a >>= g) o
    go (Out.ok a s') = sym (run_bind src (f a) g s')
    go (Out.no n s') = refl

-- one call on: t is the call's tree, f what follows; r is what the call answered, es the contexts behind it
module _ {A C : Type 0} (s : Bool) (l : List ℕ) (whole : S A) (x : Interval) (cs : List ℕ) (t : S C) (f : C → S A) (y : Interval) (ds : List ℕ)
    (h : Behind s l whole x cs (t >>= f) y ds) where
  pub behind_ok : (a : C) (z : Interval) (es : List ℕ) → from s l t y ds ≡ Out.ok a (cursor z es) → Behind s l whole x cs (f a) z es
  behind_ok a z es q =
      record { reads = reads_on s l t y ds a z es q h.reads; left = h.left ∙ bind_ok (by_code s l) t f (cursor y ds) a (cursor z es) q }

  pub behind_no : (n : Refusal) → RefusedBy n (from s l t y ds) → RefusedBy n (from s l whole x cs)
  behind_no n q = let k = bind_no (by_code s l) t f (cursor y ds) n q in (k.0, h.left ∙ k.1)

-- what a call's answer r leads to
pub record Answered (r : Step) (T : ℕ → Interval → Type 0) (N : Refusal → Type 0) : Type 0 where
  pub ok : (v : ℕ) (z : Interval) → r ≡ got v z → T v z
  pub no : (n : Refusal) → r ≡ stopped n → N n

pub bit_eqb : (b : Bool) → eqb (bit_no b) 1 ≡ b
bit_eqb true = refl
bit_eqb false = refl

pub bits_says : (s : Bool) (l : List ℕ) (n : ℕ) (w : Wanted → ℕ) (y : Interval) (ds : List ℕ) (r : Step) → Readable s l y → r ≡ step_of_bits (bits_from s l n y)
    → Says r ds (from s l (bits_s n 0 w) y ds)
bits_says s l n w y ds r g e = go r refl
  where
    go : (r' : Step) → r ≡ r' → Says r' ds (from s l (bits_s n 0 w) y ds)
    go (Ok t) q = bits_from_lem s l n w y ds g ∙ ap (map_out (λ z. cursor z ds)) (bits_took (bits_from s l n y) r t.value t.next e q)
    go (Err m) q = (ds, bits_from_lem s l n w y ds g ∙ ap (map_out (λ z. cursor z ds)) (bits_refused (bits_from s l n y) r m e q))

module _ {A : Type 0} (s : Bool) (l : List ℕ) (whole : S A) (x : Interval) (cs : List ℕ) where
  -- a flag; the code's way to ask whether it is coded, and for its context
  module _ (coded coded' : Bool) (k k' : ℕ) (w : Wanted → Bool) (f : Bool → S A) (y : Interval) (ds : List ℕ)
      (h : Behind s l whole x cs (flag_if coded k w >>= f) y ds) (p : coded' ≡ coded) (p' : k' ≡ k) (r : Step) (es : List ℕ)
      (e : (w : Wanted → Bool) → SaysFlag r es (from s l (flag_if coded' k' w) y ds)) where
    pub flag_says : SaysFlag r es (from s l (flag_if coded k w) y ds)
    flag_says = subst (λ u. SaysFlag r es (from s l (flag_if coded u w) y ds)) p' (subst (λ u. SaysFlag r es (from s l (flag_if u k' w) y ds)) p (e w))

    pub behind_flag_lem : Answered r (λ v z. Behind s l whole x cs (f (eqb v 1)) z es) (λ n. RefusedBy n (from s l whole x cs))
    behind_flag_lem =
        record {
          ok = λ v z q.
              let d = flag_ok r v z es _ flag_says q in
              let b : eqb v 1 ≡ d.0 = ap (λ u. eqb u 1) d.1 ∙ bit_eqb d.0 in
              subst (λ b. Behind s l whole x cs (f b) z es) (sym b) (behind_ok s l whole x cs (flag_if coded k w) f y ds h d.0 z es d.2);
          no = λ n q. behind_no s l whole x cs (flag_if coded k w) f y ds h n (flag_no_lem r n es _ flag_says q);
        }

  -- a number
  pub behind_number : (t : S ℕ) (f : ℕ → S A) (y : Interval) (ds : List ℕ) → Behind s l whole x cs (t >>= f) y ds → (r : Step) (es : List ℕ)
      → Says r es (from s l t y ds) → Answered r (λ v z. Behind s l whole x cs (f v) z es) (λ n. RefusedBy n (from s l whole x cs))
  behind_number t f y ds h r es e =
      record {
        ok = λ v z q. behind_ok s l whole x cs t f y ds h v z es (says_ok r v z es _ e q);
        no = λ n q. behind_no s l whole x cs t f y ds h n (says_no r n es _ e q);
      }

  -- several bypass bins as a number; n is the code's count of them
  pub behind_bits : (k n : ℕ) (w : Wanted → ℕ) (f : ℕ → S A) (y : Interval) (ds : List ℕ) → Behind s l whole x cs (bits_s k 0 w >>= f) y ds → n ≡ k → (r : Step)
      → r ≡ step_of_bits (bits_from s l n y) → Answered r (λ v z. Behind s l whole x cs (f v) z ds) (λ n. RefusedBy n (from s l whole x cs))
  behind_bits k n w f y ds h a r e =
      behind_number (bits_s k 0 w) f y ds h r ds (bits_says s l k w y ds r h.reads.0 (e ∙ ap (λ i. step_of_bits (bits_from s l i y)) a))

-- ---- the prefix of a coordinate
module _ (s : Bool) (l : List ℕ) (x : Interval) (cs : List ℕ) (r : Step) (ds : List ℕ) (first : ℕ) (luma : Bool) (log2 : ℕ) where
  pub luma_says : luma ≡ true
      → ((w : ℕ → Wanted → Bool) → Says r ds (from s l (prefix_s (first + (3 * (log2 - 2) + (log2 - 1) / 4)) ((log2 + 1) / 4) (2 * log2 - 1) 0 w) x cs))
      → (v : Wanted → ℕ) → Says r ds (from s l (last_prefix first luma log2 v) x cs)
  luma_says q e v = subst (λ t. Says r ds (from s l t x cs)) (last_luma first luma log2 v q) (e (λ g t. leb (least_of (suc g)) (v t)))

  pub chroma_says : luma ≡ false
      → ((w : ℕ → Wanted → Bool) → Says r ds (from s l (prefix_s (first + 15) (log2 - 2) (2 * log2 - 1) 0 w) x cs))
      → (v : Wanted → ℕ) → Says r ds (from s l (last_prefix first luma log2 v) x cs)
  chroma_says q e v = subst (λ t. Says r ds (from s l t x cs)) (last_chroma first luma log2 v q) (e (λ g t. leb (least_of (suc g)) (v t)))

-- ---- the head, call after call
module _ (p : Params) (s : Bool) (l : List ℕ) (x : Interval) (cs : List ℕ) where
  abbrev whole : S Head
  whole = head_s p (outer_of p) (inner_of p)

  abbrev pub Left : S Head → Interval → List ℕ → Type 0
  Left t y ds = Behind s l (head_s p (outer_of p) (inner_of p)) x cs t y ds

  abbrev pub NoHead : Refusal → Type 0
  NoHead n = RefusedBy n (from s l (head_s p (outer_of p) (inner_of p)) x cs)

  begun : Reads s l x cs → Left (flag_if (skip_coded p) (114 + in_chroma p.luma 1) (λ t. t.skip) >>= λ skip. behind_skip p skip) x cs
  unfolding head_s behind_skip behind_flag behind_dir behind_groups behind_suffix_x
  begun h = record { reads = h; left = refl }

  -- r is what a call answers, es the contexts behind it
  -- transform_skip_flag
  pub read_skip : Reads s l x cs → (coded : Bool) (k : ℕ) → coded ≡ skip_coded p → k ≡ in_chroma p.luma 1 → (r : Step) (es : List ℕ)
      → ((w : Wanted → Bool) → SaysFlag r es (from s l (flag_if coded (114 + k) w) x cs)) → Answered r (λ v z. Left (behind_skip p (eqb v 1)) z es) NoHead
  read_skip h coded k a u r es e =
      behind_flag_lem s l whole x cs (skip_coded p) coded (114 + in_chroma p.luma 1) (114 + k) (λ t. t.skip) (λ skip. behind_skip p skip) x cs (begun h) a
      (ap (λ i. 114 + i) u) r es e

  -- explicit_rdpcm_flag
  pub read_flag : (skip : Bool) (y : Interval) (ds : List ℕ) → Left (behind_skip p skip) y ds → (coded : Bool) (k : ℕ) → coded ≡ rdpcm_coded p skip
      → k ≡ in_chroma p.luma 1 → (r : Step) (es : List ℕ) → ((w : Wanted → Bool) → SaysFlag r es (from s l (flag_if coded (116 + k) w) y ds))
      → Answered r (λ v z. Left (behind_flag p skip (eqb v 1)) z es) NoHead
  unfolding behind_skip
  read_flag skip y ds h coded k a u r es e =
      behind_flag_lem s l whole x cs (rdpcm_coded p skip) coded (116 + in_chroma p.luma 1) (116 + k) (λ t. rdpcm_flag t.rdpcm) (λ flag. behind_flag p skip flag) y ds
      h a (ap (λ i. 116 + i) u) r es e

  -- explicit_rdpcm_dir_flag
  pub read_dir : (skip flag : Bool) (y : Interval) (ds : List ℕ) → Left (behind_flag p skip flag) y ds → (k : ℕ) → k ≡ in_chroma p.luma 1 → (r : Step) (es : List ℕ)
      → ((w : Wanted → Bool) → SaysFlag r es (from s l (flag_if flag (118 + k) w) y ds)) → Answered r (λ v z. Left (behind_dir p skip flag (eqb v 1)) z es) NoHead
  unfolding behind_flag
  read_dir skip flag y ds h k u r es e =
      behind_flag_lem s l whole x cs flag flag (118 + in_chroma p.luma 1) (118 + k) (λ t. rdpcm_dir t.rdpcm) (λ dir. behind_dir p skip flag dir) y ds h refl
      (ap (λ i. 118 + i) u) r es e

  module _ (skip flag dir : Bool) where
    -- both prefixes
    first_left : (y : Interval) (ds : List ℕ) → Left (behind_dir p skip flag dir) y ds
        → Left (last_prefix 0 p.luma p.log2 (wanted_x p) >>= λ gx. behind_group_x p skip flag dir gx) y ds
    unfolding behind_dir behind_group_x groups_s
    first_left y ds h =
        record {
          reads = h.reads;
          left = h.left
              ∙ bind_bind (by_code s l) (last_prefix 0 p.luma p.log2 (wanted_x p))
              (λ gx. last_prefix 18 p.luma p.log2 (wanted_y p) >>= λ gy. done (spot gx gy)) (λ g. behind_groups p skip flag dir g.x g.y) (cursor y ds);
        }

    pub read_group_x : (y : Interval) (ds : List ℕ) → Left (behind_dir p skip flag dir) y ds → (r : Step) (es : List ℕ)
        → ((v : Wanted → ℕ) → Says r es (from s l (last_prefix 0 p.luma p.log2 v) y ds)) → Answered r (λ v z. Left (behind_group_x p skip flag dir v) z es) NoHead
    read_group_x y ds h r es e =
        behind_number s l whole x cs (last_prefix 0 p.luma p.log2 (wanted_x p)) (λ gx. behind_group_x p skip flag dir gx) y ds (first_left y ds h) r es
        (e (wanted_x p))

    second_left : (gx : ℕ) (y : Interval) (ds : List ℕ) → Left (behind_group_x p skip flag dir gx) y ds
        → Left (last_prefix 18 p.luma p.log2 (wanted_y p) >>= λ gy. behind_groups p skip flag dir gx gy) y ds
    unfolding behind_group_x ◌>>=◌
    second_left gx y ds h =
        record {
          reads = h.reads;
          left = h.left
              ∙ bind_bind (by_code s l) (last_prefix 18 p.luma p.log2 (wanted_y p)) (λ gy. done (spot gx gy))
              (λ g. behind_groups p skip flag dir g.x g.y) (cursor y ds);
        }

    pub read_group_y : (gx : ℕ) (y : Interval) (ds : List ℕ) → Left (behind_group_x p skip flag dir gx) y ds → (r : Step) (es : List ℕ)
        → ((v : Wanted → ℕ) → Says r es (from s l (last_prefix 18 p.luma p.log2 v) y ds)) → Answered r (λ v z. Left (behind_groups p skip flag dir gx v) z es) NoHead
    read_group_y gx y ds h r es e =
        behind_number s l whole x cs (last_prefix 18 p.luma p.log2 (wanted_y p)) (λ gy. behind_groups p skip flag dir gx gy) y ds (second_left gx y ds h) r es
        (e (wanted_y p))

    -- both suffixes
    pub read_suffix_x : (gx gy : ℕ) (y : Interval) (ds : List ℕ) → Left (behind_groups p skip flag dir gx gy) y ds → (n : ℕ) → n ≡ suffix_bits gx → (r : Step)
        → r ≡ step_of_bits (bits_from s l n y) → Answered r (λ v z. Left (behind_suffix_x p skip flag dir gx gy v) z ds) NoHead
    unfolding behind_groups
    read_suffix_x gx gy y ds h n a r e =
        behind_bits s l whole x cs (suffix_bits gx) n (λ t. wanted_x p t - least_of gx) (λ sx. behind_suffix_x p skip flag dir gx gy sx) y ds h a r e

    pub read_suffix_y : (gx gy sx : ℕ) (y : Interval) (ds : List ℕ) → Left (behind_suffix_x p skip flag dir gx gy sx) y ds → (n : ℕ) → n ≡ suffix_bits gy → (r : Step)
        → r ≡ step_of_bits (bits_from s l n y)
        → Answered r (λ v z. Left (done (placed_at skip (rdpcm_of flag dir) (eqb p.scan 2) (least_of gx + sx) (least_of gy + v))) z ds) NoHead
    unfolding behind_suffix_x
    read_suffix_y gx gy sx y ds h n a r e =
        behind_bits s l whole x cs (suffix_bits gy) n (λ t. wanted_y p t - least_of gy)
        (λ sy. done (placed_at skip (rdpcm_of flag dir) (eqb p.scan 2) (least_of gx + sx) (least_of gy + sy))) y ds h a r e

    -- all of it: the code's own words for its parts
    pub head_ok : (gx gy sx sy : ℕ) (y : Interval) (ds : List ℕ)
        → Left (done (placed_at skip (rdpcm_of flag dir) (eqb p.scan 2) (least_of gx + sx) (least_of gy + sy))) y ds
        → (rdpcm : Rdpcm) (lx ly : ℕ) (o : Head) → rdpcm ≡ rdpcm_of flag dir → lx ≡ least_of gx → ly ≡ least_of gy
        → o ≡ placed_at skip rdpcm (eqb p.scan 2) (lx + sx) (ly + sy) → from s l whole x cs ≡ Out.ok o (cursor y ds)
    head_ok gx gy sx sy y ds h rdpcm lx ly o a b c d =
        let q : placed_at skip (rdpcm_of flag dir) (eqb p.scan 2) (least_of gx + sx) (least_of gy + sy) ≡ o = cc in
        h.left ∙ run_done s l (placed_at skip (rdpcm_of flag dir) (eqb p.scan 2) (least_of gx + sx) (least_of gy + sy)) y ds ∙ ap (λ i. Out.ok i (cursor y ds)) q

-- ---- how great a group and a suffix are
pub group_few : (s : Bool) (l : List ℕ) (first : ℕ) (luma : Bool) (log2 : ℕ) (y : Interval) (ds : List ℕ) (r : Step) (es : List ℕ)
    → ((v : Wanted → ℕ) → Says r es (from s l (last_prefix first luma log2 v) y ds)) → 2 ≤ log2 → log2 ≤ 5
    → (g : ℕ) (z : Interval) → r ≡ got g z → g ≤ 9
group_few s l first luma log2 y ds r es e a b g z q =
    (each_run (by_code s l) (go luma) (cursor y ds) g (cursor z es) (says_ok r g z es _ (e (λ t. 0)) q)).1
  where
    go : (luma : Bool) → Each Free (λ i k. i ≤ 9) 0 (last_prefix first luma log2 (λ t. 0))
    go true = unfold last_prefix in prefix_few (first + 3 * (log2 - 2) + (log2 - 1) / 4) ((log2 + 1) / 4) (2 * log2 - 1) 0 (λ g t. leb (least_of (suc g)) 0) 9 (omega arith)
    go false = unfold last_prefix in prefix_few (first + 15) (log2 - 2) (2 * log2 - 1) 0 (λ g t. leb (least_of (suc g)) 0) 9 (omega arith)

pub suffix_few : (s : Bool) (l : List ℕ) (n g : ℕ) (y : Interval) (r : Step) → Readable s l y → g ≤ 9 → n ≡ suffix_bits g
    → r ≡ step_of_bits (bits_from s l n y) → (v : ℕ) (z : Interval) → r ≡ got v z → v < 8
suffix_few s l n g y r h k a e v z q =
    let m : n ≤ 3 = omega arith in
    let o : (0 + 1) * 2 ^ n ≤ 8 = le_below (λ i. (0 + 1) * 2 ^ i) (λ i. 8) 4 tt n (omega arith) in
    (each_run (by_code s l) (bits_few {B = Wanted} n 0 (λ t. 0) 8 o) (cursor y []) v (cursor z [])
    (bits_from_lem s l n (λ t. 0) y [] h ∙ ap (map_out (λ z. cursor z [])) (bits_took (bits_from s l n y) r v z e q))).1
