-- The shapes at HEVC's wants: what every syntax's code says of trees whose wants nothing looks at, it says of these. Assumes nothing.
use Rattle.std.specs.Prelude.{ℕ, ◌≡◌, refl, Bool, true, false, List}
use Rattle.std.proofs.Common.{sym, subst, arith}
use Rattle.bins.specs.declared.state.Interval.{Interval}
use Rattle.bins.specs.Syn.{done, bin, Out}
use Rattle.bins.specs.Readers.{flag_if, ones_s, prefix_s}
use Rattle.bins.specs.Sources.{Cursor, cursor, by_code, Step, got}
use Rattle.hevc_residual.specs.Wanted.{Wanted}
use Rattle.trees.specs.Agree as every
use Rattle.tree_shapes.specs.ShapeLaws as plain
use Rattle.tree_shapes.specs.Plain.{bin_p, ones_p, prefix_p, bin_any, ones_any, prefix_any}
use Rattle.hevc_elements.specs.Agree.{from, Says, SaysFlag}

pub run_done : {A : Type 0} (s : Bool) (l : List ℕ) (a : A) (x : Interval) (cs : List ℕ) → from s l (done a) x cs ≡ Out.ok a (cursor x cs)
run_done s l a x cs = plain.run_done Wanted s l a x cs

-- ---- a bin with a context
module _ (s : Bool) (l : List ℕ) (k : ℕ) (x : Interval) (cs : List ℕ) (r : Step) (es : List ℕ) where
  pub flag_any : SaysFlag r es (every.from s l (bin_p k) x cs) → (w : Wanted → Bool) → SaysFlag r es (from s l (bin k w done) x cs)
  flag_any h w = subst (λ (o : Out Cursor Bool). SaysFlag r es o) (sym (bin_any (by_code s l) k w (cursor x cs))) h

  pub flag_plain : ((w : Wanted → Bool) → SaysFlag r es (from s l (bin k w done) x cs)) → SaysFlag r es (every.from s l (bin_p k) x cs)
  flag_plain h = subst (λ (o : Out Cursor Bool). SaysFlag r es o) (bin_any (by_code s l) k (λ (t : Wanted). false) (cursor x cs)) (h (λ t. false))

-- ---- a flag that is not coded
pub flag_none : (s : Bool) (l : List ℕ) (k : ℕ) (x : Interval) (cs : List ℕ) (coded : Bool) (w : Wanted → Bool) → coded ≡ false
    → SaysFlag (got 0 x) cs (from s l (flag_if coded k w) x cs)
flag_none s l k x cs true w q = let z : ◌≡◌ {A = ℕ} 0 1 = cc in absurd (omega arith)
flag_none s l k x cs false w q = (false, refl, run_done s l false x cs)

pub flag_some : (s : Bool) (l : List ℕ) (k : ℕ) (x : Interval) (cs : List ℕ) (coded : Bool) (w : Wanted → Bool) (r : Step) (cs' : List ℕ) → coded ≡ true
    → SaysFlag r cs' (from s l (bin k w done) x cs) → SaysFlag r cs' (from s l (flag_if coded k w) x cs)
flag_some s l k x cs true w r cs' q h = h
flag_some s l k x cs false w r cs' q h = let z : ◌≡◌ {A = ℕ} 0 1 = cc in absurd (omega arith)

-- ---- ones counted
module _ (s : Bool) (l : List ℕ) (x : Interval) (cs : List ℕ) (r : Step) (es : List ℕ) (w : ℕ → Wanted → Bool) where
  pub ones_says : (most : ℕ) → Says r es (every.from s l (ones_p most 0) x cs) → Says r es (from s l (ones_s most 0 w) x cs)
  ones_says most h = subst (λ (o : Out Cursor ℕ). Says r es o) (sym (ones_any (by_code s l) w most 0 (cursor x cs))) h

  pub prefix_says : (base sh most : ℕ) → Says r es (every.from s l (prefix_p base sh most 0) x cs) → Says r es (from s l (prefix_s base sh most 0 w) x cs)
  prefix_says base sh most h = subst (λ (o : Out Cursor ℕ). Says r es o) (sym (prefix_any (by_code s l) w base sh most 0 (cursor x cs))) h
