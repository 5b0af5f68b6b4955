-- The interval at which the code's reading ended is the definition's state. Assumes nothing.
use Prim.Native.Nat.{ℕ, zero, suc, ◌≤◌}
use Rattle.std.proofs.Math.Path.{◌≡◌, refl, sym, ap}
use Rattle.std.proofs.Common.{◌∙◌, arith}
use Rattle.std.proofs.Math.Bool.{false}
use Rattle.std.specs.Prelude.{List, ℤ, Result, Ok, Err}
use Rattle.bins.specs.declared.state.Engine.{Engine}
use Rattle.bins.specs.declared.state.Interval.{Interval}
use Rattle.bins.specs.declared.state.Refusal.{Refusal}
use Rattle.bins.specs.Bits.{ends, past_most}
use Rattle.bins.specs.Engine.{place}
use Rattle.bins.specs.Interval.{opened, settled}
use Rattle.bins.specs.Syn.{Reading, Out}
use Rattle.bins.specs.Sources.{Cursor}
use Rattle.bins.specs.Laws.{map_out}
use Rattle.bins.specs.Settled.{seen, run_opened}
use Rattle.bins.specs.EngineRuns.{state_of}
use Rattle.bins.specs.Raised.{unmarked}
use Rattle.hevc_residual.specs.declared.params.Params.{Params}
use Rattle.hevc_residual.specs.Residual.{Block, residual}
use Rattle.hevc_elements.specs.Agree.{from}
use Rattle.hevc_block.specs.declared.block.Blocked.{Blocked}
use Rattle.hevc_residual.specs.Answers.{payload_checks}
use Rattle.hevc_read_into.specs.IntoAgree.{SaysInto}
use Rattle.hevc_reader.specs.EntriesLaws.{checks_passed}
use Rattle.hevc_depends.specs.Reached.{reached_by, reached, drew_past}
use Rattle.hevc_reached.specs.declared.entries.ReachedAt.{ReachedAt}
use Rattle.hevc_reached.specs.Reading.{reached_all, end_of}

pub says_end : (p : Params) (l : List ℕ) (x : Interval) (cs stats : List ℕ) (block : List ℤ) (b : Result Blocked Refusal) (cs' stats' : List ℕ) (block' : List ℤ)
    → SaysInto p false l x cs stats block b cs' stats' block' → end_of b ≡ (state_of (from false l (residual p stats) x cs)).interval
unfolding state_of
says_end p l x cs stats block (Ok b) cs' stats' block' h = sym (ap (λ (o : Out Cursor Block). (state_of o).interval) h.3)
says_end p l x cs stats block (Err n) cs' stats' block' h = sym (ap (λ (o : Out Cursor Block). (state_of o).interval) h.0.1)

state_seen : (l : List ℕ) (e : Engine) (o : Out Cursor Block) → (state_of (map_out (seen l e) o)).engine ≡ settled l e (state_of o).interval
unfolding state_of
state_seen l e (Out.ok a s) = refl
state_seen l e (Out.no n s) = refl

module _ (l : List ℕ) (e : Engine) (contexts stats : List ℕ) (p : Params) (block : List ℤ) where
  pub reached_no : (n : ℕ) → n ≡ payload_checks l e contexts stats p block → (n ≡ 0 → ⊥) → record { state = e; past = 0 } ≡ reached_all l e contexts stats p block
  unfolding reached_all reached drew_past
  reached_no n q h = go (payload_checks l e contexts stats p block) q
    where
      go : (k : ℕ) → n ≡ k
          → ◌≡◌ {A = ReachedAt} (record { state = e; past = 0 }) (record { state = reached_by k l e contexts stats p; past = (reached_by k l (unmarked e) contexts stats p).past })
      go zero u = absurd (h u)
      go (suc k) u = unfold reached_by in refl

  -- y is the interval at which the reading ended; d opens it too, with another total
  module _ (y : Interval) (u : y ≡ (state_of (from false l (residual p stats) (opened e) contexts)).interval) where
    ends_there : (d : Engine) → opened d ≡ opened e → place d ≤ ends l → d.past ≤ past_most → settled l d y ≡ reached_by 0 l d contexts stats p
    unfolding reached_by
    ends_there d o h k =
        ap (settled l d) u
        ∙ ap (λ (x : Interval). settled l d (state_of (from false l (residual p stats) x contexts)).interval) (sym o)
        ∙ sym (state_seen l d (from false l (residual p stats) (opened d) contexts))
        ∙ sym (ap (λ (o : Out Reading Block). (state_of o).engine) (run_opened l d (residual p stats) contexts h k))

    pub reached_end : 0 ≡ payload_checks l e contexts stats p block → (s d : Engine) → s ≡ settled l e y → d ≡ settled l (unmarked e) y
        → record { state = s; past = d.past } ≡ reached_all l e contexts stats p block
    unfolding reached_all reached drew_past
    reached_end q s d a b =
        let t = checks_passed l e contexts stats p block q in
        let i : s ≡ reached_by 0 l e contexts stats p = a ∙ ends_there e refl t.fits t.counts in
        let j : d ≡ reached_by 0 l (unmarked e) contexts stats p = b ∙ ends_there (unmarked e) refl t.fits (omega arith) in
        let k : ◌≡◌ {A = ReachedAt} (record { state = s; past = d.past }) (record { state = reached_by 0 l e contexts stats p; past = (reached_by 0 l (unmarked e) contexts stats p).past }) =
        rw (i, j) in
        k ∙ ap (λ (n : ℕ). record { state = reached_by n l e contexts stats p; past = (reached_by n l (unmarked e) contexts stats p).past }) q
