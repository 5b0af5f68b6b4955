-- What a block's answer depends on (request (xii)): nothing behind the bits that it drew, and nothing before the position that it started at.
-- First of the definition of the payload reader, then of the code's promise. Assumes nothing.
use Prim.Native.Nat.{ℕ, zero, suc, ◌≤◌, ◌<◌}
use Rattle.std.specs.Prelude.{◌≡◌, List, ℤ, Result, Err, Ok}
use Rattle.std.proofs.Math.Path.{refl, ap}
use Rattle.std.proofs.Common.{sym, ◌∙◌, arith, le-leb}
use Rattle.bins.specs.declared.state.Engine.{Engine}
use Rattle.bins.specs.Bits.{bit_at, ends, past_most}
use Rattle.bins.specs.Engine.{place}
use Rattle.bins.specs.Syn.{Reading, Out}
use Rattle.bins.specs.EngineRuns.{Grows, state_of, run_grows}
use Rattle.bins.specs.Raised.{unmarked}
use Rattle.cabac.specs.Numbers.{Answer, accepted, refused, payload_refusal, possible, state_refusal}
use Rattle.cabac.specs.NumberLaws.{or_else_zero, state_fits, state_counts}
use Rattle.depends.specs.Near.{Near, unmarked_reading, run_near, run_local_from, place_from_none}
use Rattle.hevc_residual.specs.declared.params.Params.{Params}
use Rattle.hevc_residual.specs.Residual.{Block, residual}
use Rattle.hevc_residual.specs.Numbers.{parameter_refusal}
use Rattle.hevc_residual.specs.Entries as entries
use Rattle.hevc_residual.specs.Entries.{PayloadRead, FoundAt, read_by_engine, read_payload_by, read_payload}
use Rattle.hevc_residual.specs.declared.answers.Found.{Found}
use Rattle.hevc_residual.specs.declared.answers.ReadBlock.{ReadBlock}
use Rattle.hevc_residual.specs.Answers.{found_seen, payload_read, payload_checks}
use Rattle.hevc_depends.specs.Reached.{reached_by, reached, drew_past}
use Rattle.hevc_depends.specs.Depends.{Asked, Shown}

-- a state that lies in both payloads is refused by both, or by neither
pub state_alike : (l m : List ℕ) (e : Engine) → place e ≤ ends l → place e ≤ ends m → state_refusal l e ≡ state_refusal m e
unfolding state_refusal possible
state_alike l m e h k = rw (le-leb (place e) (ends l) h, le-leb (place e) (ends m) k)

-- what the checks let through has a total that counts
checks_counts : (l : List ℕ) (e : Engine) (contexts stats : List ℕ) (p : Params) (block : List ℤ) → 0 ≡ payload_checks l e contexts stats p block → e.past ≤ past_most
checks_counts l e contexts stats p block c =
    let a = or_else_zero (payload_refusal l) _ c in
    let b = or_else_zero (parameter_refusal p block) _ a.1 in
    let d = or_else_zero (state_refusal l e) _ b.1 in
    state_counts l e d.0

module _ (e : Engine) (contexts stats : List ℕ) (p : Params) (block : List ℤ) where
  abbrev checks : List ℕ → ℕ
  checks l = payload_checks l e contexts stats p block

  abbrev reading : Reading
  reading = record { engine = e; contexts = contexts }

  -- where the reading ends, of a state with no total
  abbrev end : ℕ → List ℕ → Engine
  end n l = reached_by n l (unmarked e) contexts stats p

  place_by_lem : (n : ℕ) (l : List ℕ) → checks l ≡ n → place (reached_by n l e contexts stats p) ≡ place (end n l)
  unfolding reached_by
  place_by_lem zero l z = place_from_none l (residual p stats) reading (checks_counts l e contexts stats p block (sym z))
  place_by_lem (suc n) l z = refl

  place_is : (l : List ℕ) → place (reached l e contexts stats p block) ≡ place (end (checks l) l)
  unfolding reached
  place_is l = place_by_lem (checks l) l refl

  end_grows : (n : ℕ) (l : List ℕ) → place e ≤ ends l → Grows l (unmarked e) (end n l)
  unfolding reached_by
  end_grows zero l h = run_grows l (residual p stats) (record { engine = unmarked e; contexts = contexts }) h
  end_grows (suc n) l h = record { up = omega arith; fits = h; clean = λ q. q }

  same_by : (n : ℕ) (l m : List ℕ) → checks l ≡ n → place e ≤ ends l → Near l m (place e) (end n l)
      → (read_payload_by n l e contexts stats p block ≡ read_payload_by n m e contexts stats p block) × (end n l ≡ end n m)
      × (reached_by n l e contexts stats p ≡ reached_by n m e contexts stats p)
  unfolding read_payload_by reached_by
  same_by zero l m z h s =
      let k = checks_counts l e contexts stats p block (sym z) in
      let same = run_local_from l m (residual p stats) reading h k s in (
        ap (read_by_engine p contexts stats block) same,
        ap (λ (o : Out Reading Block). (state_of o).engine) (run_near l m (place e) (residual p stats) (unmarked_reading reading) h (omega arith) s),
        ap (λ (o : Out Reading Block). (state_of o).engine) same,
      )
  same_by (suc n) l m z h s = (refl, refl, refl)

  near : (l m : List ℕ) → Asked e contexts stats p block l m → Near l m (place e) (end (checks l) l)
  unfolding drew_past
  near l m a =
      let q = place_is l in
      record {
        has = omega (arith, q, a.has);
        same = λ i h k. a.same i h (omega (arith, q));
        drew = a.drew;
      }

  checks_same : (l m : List ℕ) → Asked e contexts stats p block l m → checks l ≡ checks m
  checks_same l m a =
      let g = end_grows (checks l) l a.inside in
      let h : place e ≤ ends m = omega (arith, g.up, (near l m a).has) in
      rw (← a.first, ← a.second, state_alike l m e a.inside h)

  pub depends_any : (l m : List ℕ) → Asked e contexts stats p block l m → Shown e contexts stats p block l m
  unfolding read_payload reached drew_past
  depends_any l m a =
      let s = near l m a in
      let c = checks_same l m a in
      let r = same_by (checks l) l m refl a.inside s in
      let ends : end (checks l) l ≡ end (checks m) m = r.1 ∙ ap (λ n. end n m) c in
      record {
        answers = r.0 ∙ ap (λ n. read_payload_by n m e contexts stats p block) c;
        reaches = r.2 ∙ ap (λ n. reached_by n m e contexts stats p) c;
        drew = ap (λ (f : Engine). f.past) (sym ends) ∙ s.drew;
      }

  -- ---- the customer's words: the first run reads, so that it accepts or arises 7 or 8; the second payload is accepted; every bit before the position reached is the same
  pub depends : (l m : List ℕ) → 0 ≡ payload_checks l e contexts stats p block → 0 ≡ payload_refusal m → drew_past l e contexts stats p block ≡ 0
      → place (reached l e contexts stats p block) ≤ ends m
      → ((i : ℕ) → i < place (reached l e contexts stats p block) → bit_at l i ≡ bit_at m i) → Shown e contexts stats p block l m
  depends l m c second drew has same =
      let a = or_else_zero (payload_refusal l) _ c in
      let b = or_else_zero (parameter_refusal p block) _ a.1 in
      let d = or_else_zero (state_refusal l e) _ b.1 in
      depends_any l m (record { first = a.0; second = second; inside = state_fits l e d.0; drew = drew; has = has; same = λ i h k. same i k })

-- ---- the code: two answers that the promise of reader::entries::residual_coding allows
found_one : (f g : Found) → found_seen f ≡ found_seen g → f ≡ g
found_one f g q = ap (λ (z : entries.Found). record { skip = z.skip; rdpcm = z.rdpcm; column = z.column; row = z.row; greatest = z.greatest }) q

told_one : (r s : Result ReadBlock ℕ) (cs₁ st₁ cs₂ st₂ : List ℕ) (b₁ b₂ : List ℤ) → payload_read r cs₁ st₁ b₁ ≡ payload_read s cs₂ st₂ b₂
    → (r ≡ s) × (cs₁ ≡ cs₂) × (st₁ ≡ st₂) × (b₁ ≡ b₂)
told_one (Ok f) (Ok g) cs₁ st₁ cs₂ st₂ b₁ b₂ q =
    let a : ◌≡◌ {A = Answer FoundAt} (accepted (record { found = found_seen f.found; next = f.state })) (accepted (record { found = found_seen g.found; next = g.state })) = ap (λ (z : PayloadRead). z.answer) q in
    let c : ◌≡◌ {A = FoundAt} (record { found = found_seen f.found; next = f.state }) (record { found = found_seen g.found; next = g.state }) = cc in
    let d : f.found ≡ g.found = found_one f.found g.found (ap (λ (z : FoundAt). z.found) c) in
    let e : f.state ≡ g.state = ap (λ (z : FoundAt). z.next) c in
    ((λ i. Ok (record { found = d i; state = e i })), ap (λ (z : PayloadRead). z.contexts) q, ap (λ (z : PayloadRead). z.stats) q, ap (λ (z : PayloadRead). z.block) q)
told_one (Err n) (Err k) cs₁ st₁ cs₂ st₂ b₁ b₂ q =
    let a : ◌≡◌ {A = Answer FoundAt} (refused n) (refused k) = ap (λ (z : PayloadRead). z.answer) q in
    let c : n ≡ k = cc in
    (ap Err c, ap (λ (z : PayloadRead). z.contexts) q, ap (λ (z : PayloadRead). z.stats) q, ap (λ (z : PayloadRead). z.block) q)
told_one (Ok f) (Err k) cs₁ st₁ cs₂ st₂ b₁ b₂ q =
    let a : ◌≡◌ {A = Answer FoundAt} (accepted (record { found = found_seen f.found; next = f.state })) (refused k) = ap (λ (z : PayloadRead). z.answer) q in
    let z : ◌≡◌ {A = ℕ} 0 1 = cc in
    absurd (omega arith)
told_one (Err n) (Ok g) cs₁ st₁ cs₂ st₂ b₁ b₂ q =
    let a : ◌≡◌ {A = Answer FoundAt} (refused n) (accepted (record { found = found_seen g.found; next = g.state })) = ap (λ (z : PayloadRead). z.answer) q in
    let z : ◌≡◌ {A = ℕ} 0 1 = cc in
    absurd (omega arith)

module _ (e : Engine) (contexts stats : List ℕ) (p : Params) (block : List ℤ) where
  -- r and s are the answers of two calls, cs, st and b what each leaves in the contexts, the statistics and the block
  pub code_depends : (l m : List ℕ) → Asked e contexts stats p block l m
      → (r s : Result ReadBlock ℕ) (cs₁ st₁ cs₂ st₂ : List ℕ) (b₁ b₂ : List ℤ)
      → payload_read r cs₁ st₁ b₁ ≡ read_payload l e contexts stats p block → payload_read s cs₂ st₂ b₂ ≡ read_payload m e contexts stats p block
      → (r ≡ s) × (cs₁ ≡ cs₂) × (st₁ ≡ st₂) × (b₁ ≡ b₂)
  code_depends l m a r s cs₁ st₁ cs₂ st₂ b₁ b₂ u v =
      told_one r s cs₁ st₁ cs₂ st₂ b₁ b₂ (u ∙ (depends_any e contexts stats p block l m a).answers ∙ sym v)
