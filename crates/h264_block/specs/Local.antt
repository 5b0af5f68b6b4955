-- What holds of every tree, said of this one: a block depends on no bit behind those that it drew (request (xii)), its engine keeps running, its position
-- grows, and what is written is read back. Assumes nothing.
use Rattle.std.specs.Prelude.{ℕ, ◌≤◌, ◌≡◌, List, ◌++◌, ℤ}
use Rattle.std.proofs.Common.{sym, ◌∙◌}
use Rattle.std.proofs.Math.Path.{ap}
use Rattle.bins.specs.declared.state.Engine.{Engine}
use Rattle.bins.specs.Bits.{ends}
use Rattle.bins.specs.Engine.{place}
use Rattle.bins.specs.Syn.{Out, Written, Reading, run, by_engine, by_list, write}
use Rattle.bins.specs.Laws.{Ends}
use Rattle.bins.specs.WriteLaws.{written_read}
use Rattle.bins.specs.EngineRuns.{Running, run_running, Grows, state_of, run_grows, Inside, run_local}
use Rattle.cabac.specs.Numbers.{◌or_else◌, payload_refusal, state_refusal, ended_refusal}
use Rattle.cabac.specs.NumberLaws.{or_else_zero, state_fits}
use Rattle.h264_block.specs.Block.{block}
use Rattle.trees.specs.Lent.{contexts_refusal}
use Rattle.h264_block.specs.Entries.{block_refusal, read_by_engine, read_payload_by, read_payload}

-- two payloads that agree in every bit before the position which the first run reaches, having drawn none past the end, give the same answer or refusal,
-- levels, state and contexts
pub block_local : (l m : List ℕ) (r : Reading) → place r.engine ≤ ends l → Inside l m (state_of (run (by_engine l) block r)).engine
    → run (by_engine l) block r ≡ run (by_engine m) block r
block_local l m r = run_local l m block r

pub block_grows : (l : List ℕ) (r : Reading) → place r.engine ≤ ends l → Grows l r.engine (state_of (run (by_engine l) block r)).engine
block_grows l r = run_grows l block r

pub block_running : (l : List ℕ) (e : Engine) (cs : List ℕ) → Running l 40 (record { engine = e; contexts = cs })
    → Ends (Running l 40) (run (by_engine l) block (record { engine = e; contexts = cs }))
block_running l e cs = run_running l 40 block e cs

pub block_read_back : (w a : List ℤ) (l r : List ℕ) → write block w ≡ Written.ok a l → run by_list block (l ++ r) ≡ Out.ok a r
block_read_back w a l r = written_read block w a l r

-- ---- the same of the entry point, for two payloads that both pass its checks: one equation of answer, contexts and levels, for refusal 8 too
module _ (l m : List ℕ) (e : Engine) (contexts : List ℕ) (lent : List ℤ) where
  abbrev pub checks : List ℕ → ℕ
  checks l = payload_refusal l or_else block_refusal lent or_else state_refusal l e or_else contexts_refusal contexts or_else ended_refusal e

  abbrev pub whole : List ℕ → Out Reading (List ℤ)
  whole l = run (by_engine l) block (record { engine = e; contexts = contexts })

  passed : (l : List ℕ) → 0 ≡ checks l → read_payload l e contexts lent ≡ read_by_engine contexts lent (whole l)
  unfolding read_payload read_payload_by
  passed l q = ap (λ n. read_payload_by n l e contexts lent) (sym q)

  pub payload_local : 0 ≡ checks l → 0 ≡ checks m → Inside l m (state_of (whole l)).engine
      → read_payload l e contexts lent ≡ read_payload m e contexts lent
  payload_local p q i =
      let a = or_else_zero (payload_refusal l) _ p in
      let b = or_else_zero (block_refusal lent) _ a.1 in
      let c = or_else_zero (state_refusal l e) _ b.1 in
      passed l p ∙ ap (read_by_engine contexts lent) (block_local l m (record { engine = e; contexts = contexts }) (state_fits l e c.0) i) ∙ sym (passed m q)
