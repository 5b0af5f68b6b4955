-- How far past the end a block went: where the payload reader accepts, the total is what of the bits drawn lies past the end. Assumes nothing.
use Prim.Native.Nat.{ℕ, zero, suc, ◌+◌, ◌-◌, ◌*◌, ◌≤◌, min}
use Rattle.std.specs.Prelude.{◌≡◌, List, length, ℤ}
use Rattle.std.proofs.Math.Path.{refl, ap}
use Rattle.std.proofs.Common.{sym, subst, ◌∙◌, arith}
use Rattle.bins.specs.declared.state.Engine.{Engine}
use Rattle.bins.specs.Bits.{ends, past_most}
use Rattle.bins.specs.Engine.{place, started}
use Rattle.bins.specs.Syn.{Out, Reading, run, by_engine}
use Rattle.bins.specs.EngineRuns.{state_of}
use Rattle.bins.specs.Totals.{Stands, drawn_by, drew_in, total_of, run_total, total_is, total_none, none_total}
use Rattle.cabac.specs.Numbers.{Answer, accepted, refused, ◌or_else◌, unless, payload_refusal, state_refusal, offset_refusal, ended_refusal}
use Rattle.cabac.specs.NumberLaws.{or_else_zero, payload_two, state_fits, state_counts}
use Rattle.cabac.specs.Entries.{start}
use Rattle.hevc_residual.specs.declared.params.Params.{Params}
use Rattle.hevc_residual.specs.Residual.{Block, residual}
use Rattle.hevc_residual.specs.Numbers.{parameter_refusal, contexts_refusal, statistics_refusal}
use Rattle.hevc_residual.specs.Entries.{FoundAt, PayloadRead, read_by_engine, read_payload_by, read_payload}

next_or : Engine → Answer FoundAt → Engine
next_or e (accepted f) = f.next
next_or e (refused n) = e

never : {A B : Type 0} (n : ℕ) (b : B) → refused n ≡ accepted b → A
never n b q = let z : ◌≡◌ {A = ℕ} 0 1 = cc in absurd (omega arith)

unless_is : {A : Type 0} (n : ℕ) (a b : A) → unless n a ≡ accepted b → a ≡ b
unfolding unless
unless_is zero a b q = cc
unless_is (suc n) a b q = never (suc n) b q

-- what a start that is accepted gives
start_is : (l : List ℕ) (e : Engine) → start l ≡ accepted e → started l ≡ e
unfolding start
start_is l e q = unless_is (payload_refusal l or_else offset_refusal (started l)) (started l) e q

module _ (l : List ℕ) (contexts stats : List ℕ) (p : Params) (block : List ℤ) where
  behind_read : (e : Engine) (f : FoundAt) (o : Out Reading Block) → (read_by_engine p contexts stats block o).answer ≡ accepted f → (state_of o).engine ≡ f.next
  unfolding read_by_engine state_of next_or
  behind_read e f (Out.ok b r) q = ap (next_or e) q
  behind_read e f (Out.no n r) q = never n f q

  -- what an accepted block says: its checks passed, and its state is the one that the run ended in
  record Took (e : Engine) (f : FoundAt) : Type 0 where
    many : 2 ≤ length l
    fits : place e ≤ ends l
    counts : e.past ≤ past_most
    behind : (state_of (run (by_engine l) (residual p stats) (record { engine = e; contexts = contexts }))).engine ≡ f.next

  took : (e : Engine) (f : FoundAt) → (read_payload l e contexts stats p block).answer ≡ accepted f → Took e f
  unfolding read_payload
  took e f q = go (payload_refusal l or_else rest) refl q
    where
      rest : ℕ
      rest = parameter_refusal p block or_else state_refusal l e or_else contexts_refusal contexts or_else statistics_refusal stats or_else ended_refusal e

      go : (n : ℕ) → (payload_refusal l or_else rest) ≡ n → (read_payload_by n l e contexts stats p block).answer ≡ accepted f → Took e f
      go zero z w =
          let a = or_else_zero (payload_refusal l) rest (sym z) in
          let b = or_else_zero (parameter_refusal p block) (state_refusal l e or_else contexts_refusal contexts or_else statistics_refusal stats or_else ended_refusal e) a.1 in
          let c = or_else_zero (state_refusal l e) (contexts_refusal contexts or_else statistics_refusal stats or_else ended_refusal e) b.1 in
          record {
            many = payload_two l a.0;
            fits = state_fits l e c.0;
            counts = state_counts l e c.0;
            behind = behind_read e f (run (by_engine l) (residual p stats) (record { engine = e; contexts = contexts })) (unfold read_payload_by in w);
          }
      go (suc n) z w = never (suc n) f (unfold read_payload_by in w)

  -- from a state e: the position and the total follow from the bits that reading the block drew
  pub block_total : (e : Engine) (f : FoundAt) → (read_payload l e contexts stats p block).answer ≡ accepted f
      → Stands l (place e) e.past f.next (drawn_by l (residual p stats) (record { engine = e; contexts = contexts }))
  block_total e f q =
      let t = took e f q in
      let r : Reading = record { engine = e; contexts = contexts } in
      subst (λ (x : Engine). Stands l (place e) e.past x (drawn_by l (residual p stats) r)) t.behind (run_total l (residual p stats) r t.fits t.counts)

  -- ---- from a fresh start
  -- all bits drawn since: nine by the start, which gave e, and the block's
  abbrev pub drew_since : Engine → ℕ
  drew_since e = 9 + drawn_by l (residual p stats) (record { engine = e; contexts = contexts })

  -- start accepted with e, and the block was read from there with f
  module _ (e : Engine) (f : FoundAt) (s : start l ≡ accepted e) (q : (read_payload l e contexts stats p block).answer ≡ accepted f) where
    many : 2 ≤ length l
    many = (took e f q).many

    behind_start : total_of l (residual p stats) contexts ≡ f.next.past
    behind_start =
        ap (λ (x : Engine). (state_of (run (by_engine l) (residual p stats) (record { engine = x; contexts = contexts }))).engine.past) (start_is l e s)
        ∙ ap (λ (x : Engine). x.past) (took e f q).behind

    drew_is : drew_in l (residual p stats) contexts ≡ drew_since e
    drew_is = ap drew_since (start_is l e s)

    -- the total is the number of bits drawn beyond 8 times the payload's length, or 65,535 if that is less
    pub start_total : f.next.past ≡ min 65535 (drew_since e - 8 * length l)
    start_total = sym behind_start ∙ total_is l (residual p stats) contexts many ∙ ap (λ n. min 65535 (n - 8 * length l)) drew_is

    -- it is 0 exactly where none was drawn there
    pub start_none : f.next.past ≡ 0 → drew_since e ≤ 8 * length l
    start_none z = omega (arith, total_none l (residual p stats) contexts many (behind_start ∙ z), drew_is)

    pub none_start : drew_since e ≤ 8 * length l → f.next.past ≡ 0
    none_start h = sym behind_start ∙ none_total l (residual p stats) contexts many (omega (arith, drew_is))
