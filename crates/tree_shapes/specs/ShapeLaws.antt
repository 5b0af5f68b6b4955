-- The shapes as their code reads them: one step, and what is left to run in a loop. Assumes nothing.
use Prim.Native.Nat.{ℕ, suc, ◌+◌, ◌-◌, ◌/◌, ◌^◌, ◌≤◌}
use Rattle.std.specs.Prelude.{◌≡◌, Bool, List, length, get_or, set}
use Rattle.std.proofs.Math.Path.{refl, ap}
use Rattle.std.proofs.Common.{sym, subst, ◌∙◌, arith, add-one}
use Rattle.std.proofs.Math.Bool.{true, false}
use Rattle.bins.specs.declared.state.Interval.{Interval}
use Rattle.bins.specs.declared.state.Refusal.{Refusal}
use Rattle.bins.specs.Engine.{bit_no}
use Rattle.bins.specs.Syn.{Syn, done, bin, bypass, ◌>>=◌, Took, took, refused, Out, run}
use Rattle.bins.specs.Sources.{cursor, with_contexts, by_code, bin_from, context_from, bypass_from, Readable, step_of, stopped, Step, got, refused_at}
use Rattle.bins.specs.Laws.{RefusedBy, kept_ok, bind_ok, bind_no, run_bin, run_bin_no, run_bypass, run_bypass_no}
use Rattle.bins.specs.CodeLaws.{Ready, code_keeps}
use Rattle.trees.specs.Counters as counters
use Rattle.trees.specs.Agree.{Reads, from, SaysFlag, readable_on, reads_on, flag_ok, flag_no_lem}
use Rattle.tree_shapes.specs.Plain.{bin_p, bypass_p, ones_p, count_p, prefix_p, bin_any, bypass_any}

pub bit_zero : (b : Bool) → bit_no b ≡ 0 → b ≡ false
bit_zero true q = absurd (omega arith)
bit_zero false q = refl

pub bit_one : (b : Bool) → (bit_no b ≡ 0 → ⊥) → b ≡ true
bit_one true h = refl
bit_one false h = absurd (h refl)

pub run_done : (B : Type 0) {A : Type 0} (s : Bool) (l : List ℕ) (a : A) (x : Interval) (cs : List ℕ) → from {B = B} s l (done a) x cs ≡ Out.ok a (cursor x cs)
unfolding run
run_done B s l a x cs = refl

-- ---- a bin with a context, as one call answers it
module _ (s : Bool) (l : List ℕ) (k : ℕ) (x : Interval) (cs : List ℕ) where
  bin_took : (b : Bool) (y : Interval) → bin_from s l k (get_or cs k 0) x ≡ took b y
      → (by_code s l).on_bin k (cursor x cs) ≡ took b (cursor y (set cs k (context_from s l (get_or cs k 0) x)))
  unfolding by_code
  bin_took b y q = ap (with_contexts (set cs k (context_from s l (get_or cs k 0) x))) q

  bin_refused : (n : ℕ) → bin_from s l k (get_or cs k 0) x ≡ refused n → (by_code s l).on_bin k (cursor x cs) ≡ refused n
  unfolding by_code
  bin_refused n q = ap (with_contexts (set cs k (context_from s l (get_or cs k 0) x))) q

  pub bin_says : (r : Step) (c : ℕ) → r ≡ step_of x (bin_from s l k (get_or cs k 0) x) → c ≡ context_from s l (get_or cs k 0) x
      → SaysFlag r (set cs k c) (from s l (bin_p k) x cs)
  bin_says r c p q = go (bin_from s l k (get_or cs k 0) x) refl
    where
      go : (t : Took Interval) → bin_from s l k (get_or cs k 0) x ≡ t → SaysFlag r (set cs k c) (from s l (bin_p k) x cs)
      go (took b y) e =
          let f : r ≡ got (bit_no b) y = p ∙ ap (step_of x) e in
          let d : set cs k (context_from s l (get_or cs k 0) x) ≡ set cs k c = ap (set cs k) (sym q) in
          subst (λ (z : Step). SaysFlag z (set cs k c) (from s l (bin_p k) x cs)) (sym f) (
            b,
            refl,
            run_bin (by_code s l) k (λ (t : ℕ). false) done (cursor x cs) b (cursor y (set cs k (context_from s l (get_or cs k 0) x))) (bin_took b y e)
                ∙ run_done ℕ s l b y (set cs k (context_from s l (get_or cs k 0) x)) ∙ ap (λ u. Out.ok b (cursor y u)) d,
          )
      go (refused n) e =
          let f : r ≡ stopped (refused_at n x) = p ∙ ap (step_of x) e in
          subst (λ (z : Step). SaysFlag z (set cs k c) (from s l (bin_p k) x cs)) (sym f)
          (cs, run_bin_no (by_code s l) k (λ (t : ℕ). false) done (cursor x cs) n (bin_refused n e))

-- ---- a bypass bin, whatever the contexts
module _ (s : Bool) (l : List ℕ) (x : Interval) (cs : List ℕ) where
  bypass_took : (b : Bool) (y : Interval) → bypass_from s l x ≡ took b y → (by_code s l).on_bypass (cursor x cs) ≡ took b (cursor y cs)
  unfolding by_code
  bypass_took b y q = ap (with_contexts cs) q

  bypass_refused : (n : ℕ) → bypass_from s l x ≡ refused n → (by_code s l).on_bypass (cursor x cs) ≡ refused n
  unfolding by_code
  bypass_refused n q = ap (with_contexts cs) q

  pub bypass_says : (r : Step) → r ≡ step_of x (bypass_from s l x) → SaysFlag r cs (from s l bypass_p x cs)
  bypass_says r p = go (bypass_from s l x) refl
    where
      go : (t : Took Interval) → bypass_from s l x ≡ t → SaysFlag r cs (from s l bypass_p x cs)
      go (took b y) e =
          subst (λ (z : Step). SaysFlag z cs (from s l bypass_p x cs)) (sym (p ∙ ap (step_of x) e))
          (b, refl, run_bypass (by_code s l) (λ (t : ℕ). false) done (cursor x cs) b (cursor y cs) (bypass_took b y e) ∙ run_done ℕ s l b y cs)
      go (refused n) e =
          subst (λ (z : Step). SaysFlag z cs (from s l bypass_p x cs)) (sym (p ∙ ap (step_of x) e))
          (cs, run_bypass_no (by_code s l) (λ (t : ℕ). false) done (cursor x cs) n (bypass_refused n e))

-- at the number that the code holds
pub flag_at : (s : Bool) (l : List ℕ) (x : Interval) (ds : List ℕ) (r : Step) (es : List ℕ) (n m : ℕ) → n ≡ m
    → SaysFlag r es (from s l (bin_p n) x ds) → SaysFlag r es (from s l (bin_p m) x ds)
flag_at s l x ds r es n m q h = subst (λ (k : ℕ). SaysFlag r es (from s l (bin_p k) x ds)) q h

-- as many contexts as before
pub flag_long : (s : Bool) (l : List ℕ) (x : Interval) (ds : List ℕ) (r : Step) (es : List ℕ) (n v : ℕ) (z : Interval)
    → SaysFlag r es (from s l (bin_p n) x ds) → r ≡ got v z → Reads s l x ds → length es ≡ length ds
flag_long s l x ds r es n v z h q p =
    let f = flag_ok r v z es _ h q in
    (kept_ok (by_code s l) (Ready s l (length ds)) (code_keeps s l (length ds)) (bin_p n) (cursor x ds) f.0 (cursor z es) f.2
    (record { readable = p.0; packed = p.1; many = refl })).many

-- ---- ones counted up to a greatest count, left at the first zero: T n g counts up to n more from g on, by the flag one g
pub record Counter (T : ℕ → ℕ → Syn ℕ ℕ) (one : ℕ → Syn ℕ Bool) : Type 0 where
  pub none : (g : ℕ) → T 0 g ≡ done g
  pub more : (n g : ℕ) → T (suc n) g ≡ (one g >>= λ b. elim b [ true ↦ T n (suc g) | false ↦ done g ])

-- one with any wants is one with wants that nothing looks at
plain : {T : ℕ → ℕ → (ℕ → ℕ → Bool) → Syn ℕ ℕ} {one : ℕ → (ℕ → Bool) → Syn ℕ Bool} → counters.Counter T one
    → Counter (λ n g. T n g (λ g t. false)) (λ g. one g (λ t. false))
plain c = record { none = λ g. c.none g (λ g t. false); more = λ n g. c.more n g (λ g t. false) }

pub count_counter : (ctx : ℕ → ℕ) → Counter (λ n g. count_p ctx n g) (λ g. bin_p (ctx g))
count_counter ctx = plain (counters.count_counter ctx)

pub ones_counter : Counter (λ n g. ones_p n g) (λ g. bypass_p)
ones_counter = plain counters.ones_counter

pub prefix_counter : (base sh : ℕ) → Counter (λ n g. prefix_p base sh n g) (λ g. bin_p (base + g / 2 ^ sh))
prefix_counter base sh = plain (counters.prefix_counter base sh)

module _ {T : ℕ → ℕ → Syn ℕ ℕ} {one : ℕ → Syn ℕ Bool} (T-counts : Counter T one) (s : Bool) (l : List ℕ) (most : ℕ) where
  -- in the loop, at count g: what is left to run gives what the whole gives
  pub record Counting (x : Interval) (cs : List ℕ) (y : Interval) (ds : List ℕ) (g : ℕ) : Type 0 where
    pub few : g ≤ most
    pub readable : Readable s l y
    pub kept : Reads s l x cs → Reads s l y ds
    pub long : length ds ≡ length cs
    pub left : from s l (T most 0) x cs ≡ from s l (T (most - g) g) y ds

  pub count_begins : (x : Interval) (cs : List ℕ) → Readable s l x → Counting x cs x cs 0
  count_begins x cs h =
      let m : most - 0 ≡ most = omega arith in
      record { few = omega arith; readable = h; kept = λ p. p; long = refl; left = ap (λ n. from s l (T n 0) x cs) (sym m) }

  module _ (x : Interval) (cs : List ℕ) (y : Interval) (ds : List ℕ) (g : ℕ) (h : Counting x cs y ds g) where
    next : ℕ → Bool → Syn ℕ ℕ
    next n b = elim b [ true ↦ T n (suc g) | false ↦ done g ]

    next_left : (g ≡ most → ⊥) → from s l (T most 0) x cs ≡ from s l (one g >>= next (most - (g + 1))) y ds
    unfolding next
    next_left k =
        let m : most - g ≡ suc (most - (g + 1)) = omega (arith, h.few) in
        h.left ∙ ap (λ n. from s l (T n g) y ds) m ∙ ap (λ t. from s l t y ds) (T-counts.more (most - (g + 1)) g)

    -- at the greatest count
    pub count_most : g ≡ most → from s l (T most 0) x cs ≡ Out.ok most (cursor y ds)
    count_most q =
        let m : most - g ≡ 0 = omega arith in
        h.left ∙ ap (λ n. from s l (T n g) y ds) m ∙ ap (λ t. from s l t y ds) (T-counts.none g) ∙ run_done ℕ s l g y ds
        ∙ ap (λ n. Out.ok n (cursor y ds)) q

    -- r is what the step answered, es the contexts behind it
    module _ (k : g ≡ most → ⊥) (r : Step) (es : List ℕ) (e : SaysFlag r es (from s l (one g) y ds)) where
      pub count_refused : (n : Refusal) → r ≡ stopped n → RefusedBy n (from s l (T most 0) x cs)
      count_refused n q =
          let f = bind_no (by_code s l) (one g) (next (most - (g + 1))) (cursor y ds) n (flag_no_lem r n es _ e q) in
          (f.0, next_left k ∙ f.1)

      pub count_zero : (v : ℕ) (z : Interval) → r ≡ got v z → v ≡ 0 → from s l (T most 0) x cs ≡ Out.ok g (cursor z es)
      unfolding next
      count_zero v z q u =
          let f = flag_ok r v z es _ e q in
          let d : f.0 ≡ false = bit_zero f.0 (sym f.1 ∙ u) in
          next_left k ∙ bind_ok (by_code s l) (one g) (next (most - (g + 1))) (cursor y ds) f.0 (cursor z es) f.2
          ∙ ap (λ b. from s l (next (most - (g + 1)) b) z es) d ∙ run_done ℕ s l g z es

      pub count_one : (v : ℕ) (z : Interval) → r ≡ got v z → (v ≡ 0 → ⊥) → length es ≡ length ds → Counting x cs z es (g + 1)
      unfolding next
      count_one v z q u long =
          let f = flag_ok r v z es _ e q in
          let d : f.0 ≡ true = bit_one f.0 (λ n. u (f.1 ∙ n)) in
          record {
            few = omega (arith, h.few);
            readable = readable_on s l (one g) y ds f.0 z es f.2 h.readable;
            kept = λ p. reads_on s l (one g) y ds f.0 z es f.2 (h.kept p);
            long = long ∙ h.long;
            left = next_left k ∙ bind_ok (by_code s l) (one g) (next (most - (g + 1))) (cursor y ds) f.0 (cursor z es) f.2
                ∙ ap (λ b. from s l (next (most - (g + 1)) b) z es) d ∙ ap (λ n. from s l (T (most - (g + 1)) n) z es) (sym (add-one g));
          }

-- ---- a bin, and what follows it: how a proof of code goes from a bin to the tree behind it
module _ {B A : Type 0} (s : Bool) (l : List ℕ) (x : Interval) (cs : List ℕ) (w : B → Bool) (k : Bool → Syn B A) where
  bin_bind : (c : ℕ) → bin c w k ≡ (bin c w done >>= k)
  unfolding ◌>>=◌
  bin_bind c = refl

  bypass_bind : bypass w k ≡ (bypass w done >>= k)
  unfolding ◌>>=◌
  bypass_bind = refl

  pub bin_then : (c : ℕ) (b : Bool) (y : Interval) (es : List ℕ) → from s l (bin_p c) x cs ≡ Out.ok b (cursor y es) → from s l (bin c w k) x cs ≡ from s l (k b) y es
  bin_then c b y es q =
      ap (λ t. from s l t x cs) (bin_bind c) ∙ bind_ok (by_code s l) (bin c w done) k (cursor x cs) b (cursor y es) (bin_any (by_code s l) c w (cursor x cs) ∙ q)

  pub bin_then_no : (c : ℕ) (n : Refusal) → RefusedBy n (from s l (bin_p c) x cs) → RefusedBy n (from s l (bin c w k) x cs)
  bin_then_no c n r =
      let b = bind_no (by_code s l) (bin c w done) k (cursor x cs) n (r.0, bin_any (by_code s l) c w (cursor x cs) ∙ r.1) in
      (b.0, ap (λ t. from s l t x cs) (bin_bind c) ∙ b.1)

  pub bypass_then : (b : Bool) (y : Interval) (es : List ℕ) → from s l bypass_p x cs ≡ Out.ok b (cursor y es) → from s l (bypass w k) x cs ≡ from s l (k b) y es
  bypass_then b y es q =
      ap (λ t. from s l t x cs) bypass_bind ∙ bind_ok (by_code s l) (bypass w done) k (cursor x cs) b (cursor y es) (bypass_any (by_code s l) w (cursor x cs) ∙ q)

  pub bypass_then_no : (n : Refusal) → RefusedBy n (from s l bypass_p x cs) → RefusedBy n (from s l (bypass w k) x cs)
  bypass_then_no n r =
      let b = bind_no (by_code s l) (bypass w done) k (cursor x cs) n (r.0, bypass_any (by_code s l) w (cursor x cs) ∙ r.1) in
      (b.0, ap (λ t. from s l t x cs) bypass_bind ∙ b.1)
