-- The plain readers and writer answer as the full ones do, for everything that is plain, and refuse the rest by 24. Assumes nothing.
use Prim.Native.Nat.{ℕ, zero, suc, ◌≤◌}
use Rattle.std.proofs.Math.Path.{◌≡◌, refl, sym, ap}
use Rattle.std.proofs.Common.{◌∙◌, arith, eqb-true, leb-true, le-ltb}
use Rattle.std.specs.Prelude.{List, [], ◌∷◌, Bool, true, false, not, ◌&&◌, ◌||◌, cond, ltb, leb, eqb, ℤ}
use Rattle.bins.specs.declared.state.Engine.{Engine}
use Rattle.cabac.specs.Numbers.{accepted, refused, ◌or_else◌, payload_refusal, state_refusal, ended_refusal}
use Rattle.cabac.specs.NumberLaws.{or_else_zero, or_else_first, or_else_rest}
use Rattle.trees.specs.ReaderLaws.{or_false}
use Rattle.hevc_residual.specs.declared.params.Params.{Params}
use Rattle.hevc_residual.specs.declared.params.Rdpcm.{Rdpcm}
use Rattle.hevc_residual.specs.Refusal.{write_refusal}
use Rattle.hevc_residual.specs.Wanted.{Wanted}
use Rattle.hevc_residual.specs.Numbers.{parameter_refusal, contexts_refusal, statistic_refusal, statistics_refusal}
use Rattle.hevc_residual.specs.Entries.{FoundAt, read_payload_by, read_payload, read_bins_by, read_bins, wanted_from, write_bins_by, write_bins}
use Rattle.hevc_plain.specs.Plain.{plain_params, zeros, plain_refusal, read_plain, read_plain_bins, write_plain}

-- ---- what plain says
pub record Plain (p : Params) : Type 0 where
  pub depth : p.depth ≡ 8
  pub persistent : p.persistent ≡ false
  pub context : p.skip_context ≡ false
  pub explicit : p.explicit_rdpcm ≡ false
  pub implicit : p.implicit_rdpcm ≡ false
  pub aligning : p.aligning ≡ false
  pub extended : p.extended ≡ false
  pub scan : (p.scan ≡ 0 → ⊥) → p.log2 ≤ 3

zero_passes : (d : Bool) → ◌≡◌ {A = ℕ} 0 (cond d 0 24) → d ≡ true
zero_passes true q = refl
zero_passes false q = absurd (omega arith)

and_true : (a b : Bool) → (a && b) ≡ true → (a ≡ true) × (b ≡ true)
and_true true b e = (refl, e)
and_true false b e = let z : ◌≡◌ {A = ℕ} 0 1 = cc in absurd (omega arith)

not_true : (a : Bool) → not a ≡ true → a ≡ false
not_true true e = sym e
not_true false e = refl

scan_small : (a b : Bool) → (a || b) ≡ true → (a ≡ true → ⊥) → b ≡ true
scan_small true b e h = absurd (h refl)
scan_small false b e h = e

pub plain_passed : (p : Params) (stats : List ℕ) → 0 ≡ plain_refusal p stats → Plain p × (zeros stats ≡ true)
unfolding plain_refusal plain_params
plain_passed p stats z =
    let t = and_true _ (zeros stats) (zero_passes _ z) in
    let a = and_true (eqb p.depth 8) _ t.0 in
    let b = and_true (eqb p.scan 0 || leb p.log2 3) _ a.1 in
    let o = not_true _ b.1 in
    let c = or_false p.persistent _ o in
    let d = or_false p.skip_context _ c.1 in
    let e = or_false p.explicit_rdpcm _ d.1 in
    let f = or_false p.implicit_rdpcm _ e.1 in
    let g = or_false p.aligning _ f.1 in (
      record {
        depth = eqb-true p.depth 8 a.0;
        persistent = c.0;
        context = d.0;
        explicit = e.0;
        implicit = f.0;
        aligning = g.0;
        extended = g.1;
        scan = λ h. leb-true p.log2 3 (scan_small (eqb p.scan 0) (leb p.log2 3) b.0 (λ q. h (eqb-true p.scan 0 q)));
      },
      t.1,
    )

-- 24 or nothing
pub plain_either : (p : Params) (stats : List ℕ) (C : Type 0) → (0 ≡ plain_refusal p stats → C) → (24 ≡ plain_refusal p stats → C) → C
unfolding plain_refusal
plain_either p stats C f g = go (plain_params p && zeros stats) f g
  where
    go : (d : Bool) → (◌≡◌ {A = ℕ} 0 (cond d 0 24) → C) → (◌≡◌ {A = ℕ} 24 (cond d 0 24) → C) → C
    go true f g = f refl
    go false f g = g refl

-- statistics of 0 are within 84
pub zeros_passed : (stats : List ℕ) → zeros stats ≡ true → 0 ≡ statistics_refusal stats
unfolding zeros statistics_refusal statistic_refusal ◌or_else◌
zeros_passed [] q = refl
zeros_passed (s ∷ l) q =
    let a = and_true (eqb s 0) (zeros l) q in
    let z = eqb-true s 0 a.0 in
    let h : ltb 84 s ≡ false = le-ltb 84 s (omega arith) in
    rw h (zeros_passed l a.1)

-- ---- one number more, in between
skipped : (a b c r : ℕ) → 0 ≡ c → (a or_else b or_else c or_else r) ≡ (a or_else b or_else r)
unfolding ◌or_else◌
skipped a b zero r q = refl
skipped a b (suc c) r q = absurd (omega arith)

skipped₂ : (b c r : ℕ) → 0 ≡ c → (b or_else c or_else r) ≡ (b or_else r)
unfolding ◌or_else◌
skipped₂ b zero r q = refl
skipped₂ b (suc c) r q = absurd (omega arith)

before : (a b c r : ℕ) → (0 ≡ a → ⊥) → (a or_else b or_else c or_else r) ≡ (a or_else b or_else r)
unfolding ◌or_else◌
before zero b c r h = absurd (h refl)
before (suc a) b c r h = refl

before₂ : (b c r : ℕ) → (0 ≡ b → ⊥) → (b or_else c or_else r) ≡ (b or_else r)
unfolding ◌or_else◌
before₂ zero c r h = absurd (h refl)
before₂ (suc b) c r h = refl

given : (a b c r : ℕ) → 0 ≡ a → 0 ≡ b → 24 ≡ c → 24 ≡ (a or_else b or_else c or_else r)
given a b c r h k q = or_else_rest 24 a _ h (or_else_rest 24 b _ k (or_else_first 24 c r q (λ z. omega arith)))

-- ---- behind 24 a statistic is never 3, wherever it would be given
hidden : (a b c : ℕ) → (0 ≡ a → ⊥) → (a or_else b) ≡ (a or_else c)
unfolding ◌or_else◌
hidden zero b c h = absurd (h refl)
hidden (suc a) b c h = refl

pub statistics_idle : (p : Params) (stats : List ℕ) (later : ℕ → ℕ) → (plain_refusal p stats or_else later (statistics_refusal stats)) ≡ (plain_refusal p stats or_else later 0)
statistics_idle p stats later =
    plain_either p stats ((plain_refusal p stats or_else later (statistics_refusal stats)) ≡ (plain_refusal p stats or_else later 0))
    (λ q. ap (λ n. plain_refusal p stats or_else later n) (sym (zeros_passed stats (plain_passed p stats q).1)))
    (λ q. hidden (plain_refusal p stats) (later (statistics_refusal stats)) (later 0) (λ z. omega (arith, q, z)))

-- ---- the payload reader
module _ (l : List ℕ) (e : Engine) (contexts stats : List ℕ) (p : Params) (block : List ℤ) where
  abbrev rest : ℕ
  rest = state_refusal l e or_else contexts_refusal contexts or_else statistics_refusal stats or_else ended_refusal e

  -- on plain input the two are one, whatever is answered
  pub plain_full : 0 ≡ plain_refusal p stats → read_plain l e contexts stats p block ≡ read_payload l e contexts stats p block
  unfolding read_plain read_payload
  plain_full q = ap (λ n. read_payload_by n l e contexts stats p block) (skipped (payload_refusal l) (parameter_refusal p block) (plain_refusal p stats) rest q)

  -- what 1, 2 and 4 refuse is refused alike
  pub early_full : (0 ≡ (payload_refusal l or_else parameter_refusal p block) → ⊥) → read_plain l e contexts stats p block ≡ read_payload l e contexts stats p block
  unfolding read_plain read_payload
  early_full h = go (payload_refusal l) refl
    where
      go : (a : ℕ) → payload_refusal l ≡ a → read_payload_by (payload_refusal l or_else parameter_refusal p block or_else plain_refusal p stats or_else rest) l e contexts stats p block
          ≡ read_payload_by (payload_refusal l or_else parameter_refusal p block or_else rest) l e contexts stats p block
      go zero q =
          let z : 0 ≡ payload_refusal l = sym q in
          let k : 0 ≡ parameter_refusal p block → ⊥ = λ b. h (or_else_rest 0 (payload_refusal l) (parameter_refusal p block) z b) in
          ap (λ n. read_payload_by (payload_refusal l or_else n) l e contexts stats p block) (before₂ (parameter_refusal p block) (plain_refusal p stats) rest k)
      go (suc a) q =
          ap (λ n. read_payload_by n l e contexts stats p block) (before (payload_refusal l) (parameter_refusal p block) (plain_refusal p stats) rest (λ z. omega (arith, q)))

  -- the rest is 24, and nothing is touched
  pub plain_24 : 0 ≡ payload_refusal l → 0 ≡ parameter_refusal p block → 24 ≡ plain_refusal p stats
      → read_plain l e contexts stats p block ≡ record { answer = refused 24; contexts = contexts; stats = stats; block = block }
  unfolding read_plain
  plain_24 a b q = go _ (given (payload_refusal l) (parameter_refusal p block) (plain_refusal p stats) rest a b q)
    where
      go : (n : ℕ) → 24 ≡ n → read_payload_by n l e contexts stats p block ≡ record { answer = refused 24; contexts = contexts; stats = stats; block = block }
      go n z = ap (λ k. read_payload_by k l e contexts stats p block) (sym z) ∙ unfold read_payload_by in refl

  accepted_passed : (n : ℕ) (f : FoundAt) → (read_payload_by n l e contexts stats p block).answer ≡ accepted f → 0 ≡ n
  unfolding read_payload_by
  accepted_passed zero f q = refl
  accepted_passed (suc n) f q = let z : ◌≡◌ {A = ℕ} 0 1 = cc in absurd (omega arith)

  -- what it accepts is plain, and the full reader gives the same
  pub accepted_full : (f : FoundAt) → (read_plain l e contexts stats p block).answer ≡ accepted f
      → Plain p × (zeros stats ≡ true) × (read_plain l e contexts stats p block ≡ read_payload l e contexts stats p block)
  unfolding read_plain
  accepted_full f q =
      let a = or_else_zero (payload_refusal l) _ (accepted_passed _ f q) in
      let b = or_else_zero (parameter_refusal p block) _ a.1 in
      let c = or_else_zero (plain_refusal p stats) rest b.1 in
      let d = plain_passed p stats c.0 in
      (d.0, d.1, plain_full c.0)

-- ---- the bin reader
module _ (bins stats : List ℕ) (p : Params) (block : List ℤ) where
  pub plain_full_bins : 0 ≡ plain_refusal p stats → read_plain_bins bins stats p block ≡ read_bins bins stats p block
  unfolding read_plain_bins read_bins
  plain_full_bins q = ap (λ n. read_bins_by n bins stats p block) (skipped₂ (parameter_refusal p block) (plain_refusal p stats) (statistics_refusal stats) q)

  pub early_full_bins : (0 ≡ parameter_refusal p block → ⊥) → read_plain_bins bins stats p block ≡ read_bins bins stats p block
  unfolding read_plain_bins read_bins
  early_full_bins h = ap (λ n. read_bins_by n bins stats p block) (before₂ (parameter_refusal p block) (plain_refusal p stats) (statistics_refusal stats) h)

  pub plain_24_bins : 0 ≡ parameter_refusal p block → 24 ≡ plain_refusal p stats
      → read_plain_bins bins stats p block ≡ record { answer = refused 24; stats = stats; block = block }
  unfolding read_plain_bins
  plain_24_bins b q =
      ap (λ n. read_bins_by n bins stats p block) (sym (or_else_rest 24 (parameter_refusal p block) _ b (or_else_first 24 (plain_refusal p stats) (statistics_refusal stats) q (λ z. omega arith))))
      ∙ unfold read_bins_by in refl

-- ---- the writer
module _ (p : Params) (stats : List ℕ) (block : List ℤ) (skip : Bool) (rdpcm : Rdpcm) (room : List ℕ) where
  abbrev w : Wanted
  w = wanted_from p block skip rdpcm

  pub plain_full_write : 0 ≡ plain_refusal p stats → write_plain p stats block skip rdpcm room ≡ write_bins p stats block skip rdpcm room
  unfolding write_plain write_bins
  plain_full_write q = ap (λ n. write_bins_by n p stats w room) (skipped₂ (parameter_refusal p block) (plain_refusal p stats) (statistics_refusal stats or_else write_refusal p w) q)

  pub early_full_write : (0 ≡ parameter_refusal p block → ⊥) → write_plain p stats block skip rdpcm room ≡ write_bins p stats block skip rdpcm room
  unfolding write_plain write_bins
  early_full_write h = ap (λ n. write_bins_by n p stats w room) (before₂ (parameter_refusal p block) (plain_refusal p stats) (statistics_refusal stats or_else write_refusal p w) h)

  pub plain_24_write : 0 ≡ parameter_refusal p block → 24 ≡ plain_refusal p stats
      → write_plain p stats block skip rdpcm room ≡ record { answer = refused 24; stats = stats; room = room }
  unfolding write_plain
  plain_24_write b q =
      ap (λ n. write_bins_by n p stats w room) (sym (or_else_rest 24 (parameter_refusal p block) _ b (or_else_first 24 (plain_refusal p stats) (statistics_refusal stats or_else write_refusal p w) q (λ z. omega arith))))
      ∙ unfold write_bins_by in refl
