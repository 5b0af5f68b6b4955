-- What a tray's answer depends on (request (xii)), stopped or not: no bit behind those that the whole call drew. Assumes nothing.
use Prim.Native.Nat.{ℕ, zero, suc, ◌+◌, ◌≤◌}
use Rattle.std.specs.Prelude.{◌≡◌, ℤ, length, take, drop}
use Rattle.std.proofs.Math.Path.{refl, sym, ap, subst}
use Rattle.std.proofs.Common.{◌∙◌, arith}
use mathlib.Core.List.{List, [], ◌∷◌}
use Rattle.bins.specs.declared.state.Engine.{Engine}
use Rattle.bins.specs.Bits.{ends}
use Rattle.bins.specs.Engine.{place}
use Rattle.bins.specs.Syn.{Reading, Out, run, by_engine}
use Rattle.bins.specs.EngineRuns.{Grows, state_of, run_grows}
use Rattle.cabac.specs.Numbers.{Answer, accepted, refused, payload_refusal, state_refusal}
use Rattle.depends.specs.Near.{Alike}
use Rattle.hevc_residual.specs.declared.params.Params.{Params}
use Rattle.hevc_residual.specs.Wanted.{area}
use Rattle.hevc_residual.specs.Residual.{Block, residual}
use Rattle.hevc_residual.specs.Entries.{PayloadRead, FoundAt, read_by_engine, read_payload_by, read_payload}
use Rattle.hevc_residual.specs.Answers.{payload_checks}
use Rattle.hevc_tray.specs.declared.entries.Tray as code
use Rattle.hevc_tray.specs.Rows.{records_of, rows_refusal, found_rows}
use Rattle.hevc_tray.specs.Seen.{tray_seen}
use Rattle.hevc_tray.specs.Tray.{Tray, behind, on_block, tray, TrayRead, laid, read_tray_by, read_tray, read_rows}
use Rattle.hevc_depends.specs.Reached.{reached_by, reached, drew_past}
use Rattle.hevc_depends.specs.Depends.{Shown}
use Rattle.hevc_depends.proofs.DependsLaws.{state_alike, depends_any}
use Rattle.hevc_depends.specs.TrayReached.{onward, tray_reached_from, tray_past_from, tray_number, tray_reached_by, tray_past_by, tray_reached, tray_drew_past}

-- ---- one block: the state behind it is the state reached, and the position grows
accepted_one : (f g : FoundAt) → ◌≡◌ {A = Answer FoundAt} (accepted f) (accepted g) → f ≡ g
accepted_one f g q = cc

not_both : (n : ℕ) (f : FoundAt) → ◌≡◌ {A = Answer FoundAt} (refused n) (accepted f) → ⊥
not_both n f q = let z : ◌≡◌ {A = ℕ} 0 1 = cc in omega arith

next_of : (p : Params) (contexts stats : List ℕ) (block : List ℤ) (o : Out Reading Block) (f : FoundAt)
    → (read_by_engine p contexts stats block o).answer ≡ accepted f → f.next ≡ (state_of o).engine
unfolding read_by_engine state_of
next_of p contexts stats block (Out.ok b r) f q = ap (λ (z : FoundAt). z.next) (sym (accepted_one _ f q))
next_of p contexts stats block (Out.no n r) f q = absurd (not_both n f q)

pub next_reached : (l : List ℕ) (e : Engine) (contexts stats : List ℕ) (p : Params) (block : List ℤ) (f : FoundAt)
    → (read_payload l e contexts stats p block).answer ≡ accepted f → f.next ≡ reached l e contexts stats p block
unfolding read_payload reached
next_reached l e contexts stats p block f q = go (payload_checks l e contexts stats p block) q
  where
    go : (n : ℕ) → (read_payload_by n l e contexts stats p block).answer ≡ accepted f → f.next ≡ reached_by n l e contexts stats p
    go zero q = unfold read_payload_by reached_by in next_of p contexts stats block (run (by_engine l) (residual p stats) (record { engine = e; contexts = contexts })) f (unfold read_payload_by in q)
    go (suc n) q = absurd (not_both (suc n) f (unfold read_payload_by in q))

pub block_grows : (l : List ℕ) (e : Engine) (contexts stats : List ℕ) (p : Params) (block : List ℤ) → place e ≤ ends l
    → Grows l e (reached l e contexts stats p block)
unfolding reached
block_grows l e contexts stats p block h = go (payload_checks l e contexts stats p block)
  where
    go : (n : ℕ) → Grows l e (reached_by n l e contexts stats p)
    go zero = unfold reached_by in run_grows l (residual p stats) (record { engine = e; contexts = contexts }) h
    go (suc n) = unfold reached_by in (record { up = omega arith; fits = h; clean = λ q. q })

grows_on : (l : List ℕ) (e f g : Engine) → Grows l e f → Grows l f g → Grows l e g
grows_on l e f g a b = record { up = omega (arith, a.up, b.up); fits = b.fits; clean = λ q. a.clean (b.clean q) }

-- ---- the tray's position grows
grows_block : (l : List ℕ) (e s : Engine) (next : Engine → Engine) (x : Answer FoundAt) → Grows l e s
    → ((f : FoundAt) → x ≡ accepted f → Grows l e (next f.next)) → Grows l e (onward s next x)
unfolding onward
grows_block l e s next (accepted f) g k = k f refl
grows_block l e s next (refused n) g k = g

pub tray_grows : (l : List ℕ) (ps : List Params) (e : Engine) (contexts stats : List ℕ) (levels : List ℤ) → place e ≤ ends l
    → Grows l e (tray_reached_from l e contexts stats ps levels)
unfolding tray_reached_from
tray_grows l [] e contexts stats levels h = record { up = omega arith; fits = h; clean = λ q. q }
tray_grows l (p ∷ ps) e contexts stats levels h =
    let part = take (area p) levels in
    let rest = drop (area p) levels in
    let r = read_payload l e contexts stats p part in
    let g = block_grows l e contexts stats p part h in
    grows_block l e (reached l e contexts stats p part) (λ f. tray_reached_from l f r.contexts r.stats ps rest) r.answer g
    (λ f q.
    let g' : Grows l e f.next = subst (Grows l e) (sym (next_reached l e contexts stats p part f q)) g in
    grows_on l e f.next (tray_reached_from l f.next r.contexts r.stats ps rest) g' (tray_grows l ps f.next r.contexts r.stats rest g'.fits))

-- ---- two payloads
module _ (l m : List ℕ) (z₁ : 0 ≡ payload_refusal l) (z₂ : 0 ≡ payload_refusal m) (start : ℕ) where
  -- of the state f reached on the first, n bits past the end drawn by then
  record Far (f : Engine) (n : ℕ) : Type 0 where
    has : place f ≤ ends m
    same : Alike l m start (place f)
    drew : n ≡ 0

  record Both (ps : List Params) (e : Engine) (contexts stats : List ℕ) (levels : List ℤ) : Type 0 where
    trays : tray l e contexts stats ps levels ≡ tray m e contexts stats ps levels
    ends : tray_reached_from l e contexts stats ps levels ≡ tray_reached_from m e contexts stats ps levels
    drew : tray_past_from m e contexts stats ps levels ≡ 0

  -- one block and those behind it, of which it holds
  module _ (p : Params) (ps : List Params) (e : Engine) (cs st : List ℕ) (levels : List ℤ) (h : place e ≤ ends l) (from : start ≤ place e) where
    abbrev part : List ℤ
    part = take (area p) levels

    abbrev rest : List ℤ
    rest = drop (area p) levels

    abbrev r : List ℕ → PayloadRead
    r k = read_payload k e cs st p part

    abbrev here : List ℕ → Engine
    here k = reached k e cs st p part

    -- behind the block on payload k, of which v was read
    abbrev tray_on : List ℕ → PayloadRead → Answer FoundAt → Tray
    tray_on k v x = on_block e v rest (λ f. tray k f v.contexts v.stats ps rest) x

    abbrev reach_on : List ℕ → PayloadRead → Engine → Answer FoundAt → Engine
    reach_on k v s x = onward s (λ f. tray_reached_from k f v.contexts v.stats ps rest) x

    abbrev past_on : List ℕ → PayloadRead → Answer FoundAt → ℕ
    past_on k v x = onward 0 (λ f. tray_past_from k f v.contexts v.stats ps rest) x

    block_shown : drew_past l e cs st p part ≡ 0 → place (here l) ≤ ends m → Alike l m start (place (here l)) → Shown e cs st p part l m
    block_shown d has same =
        depends_any e cs st p part l m (record { first = z₁; second = z₂; inside = h; drew = d; has = has; same = λ i a b. same i (omega (arith, from, a)) b })

    step : (x : Answer FoundAt) → (r l).answer ≡ x
        → ((f : Engine) → place f ≤ ends l → start ≤ place f → Far (tray_reached_from l f (r l).contexts (r l).stats ps rest) (tray_past_from l f (r l).contexts (r l).stats ps rest)
        → Both ps f (r l).contexts (r l).stats rest)
        → drew_past l e cs st p part ≡ 0
        → Far (reach_on l (r l) (here l) x) (past_on l (r l) x)
        → (tray_on l (r l) x ≡ tray_on m (r m) (r m).answer)
        × (reach_on l (r l) (here l) x ≡ reach_on m (r m) (here m) (r m).answer)
        × (drew_past m e cs st p part + past_on m (r m) (r m).answer ≡ 0)
    unfolding on_block onward
    step (accepted f) y ih d s =
        let q : f.next ≡ here l = next_reached l e cs st p part f y in
        let g : Grows l e f.next = subst (Grows l e) (sym q) (block_grows l e cs st p part h) in
        let t = tray_grows l ps f.next (r l).contexts (r l).stats rest g.fits in
        let at : place f.next ≡ place (here l) = ap place q in
        let v = block_shown d (omega (arith, at, t.up, s.has)) (λ i a b. s.same i a (omega (arith, at, t.up, b))) in
        let b = ih f.next g.fits (omega (arith, from, g.up)) s in
        let past : past_on m (r m) (r m).answer ≡ 0 = sym (ap (λ (v : PayloadRead). past_on m v v.answer) v.answers) ∙ ap (past_on m (r l)) y ∙ b.drew in (
          ap (behind (r l).block f.found) b.trays ∙ ap (tray_on m (r l)) (sym y) ∙ ap (λ (v : PayloadRead). tray_on m v v.answer) v.answers,
          b.ends ∙ ap (reach_on m (r l) (here l)) (sym y) ∙ ap (λ (s : Engine). reach_on m (r l) s (r l).answer) v.reaches
              ∙ ap (λ (v : PayloadRead). reach_on m v (here m) v.answer) v.answers,
          omega (arith, past, v.drew),
        )
    step (refused n) y ih d s =
        let v = block_shown d s.has s.same in
        let past : past_on m (r m) (r m).answer ≡ 0 = sym (ap (λ (v : PayloadRead). past_on m v v.answer) v.answers) ∙ ap (past_on m (r l)) y in (
          ap (tray_on m (r l)) (sym y) ∙ ap (λ (v : PayloadRead). tray_on m v v.answer) v.answers,
          ap (reach_on m (r l) (here l)) (sym y) ∙ ap (λ (s : Engine). reach_on m (r l) s (r l).answer) v.reaches
              ∙ ap (λ (v : PayloadRead). reach_on m v (here m) v.answer) v.answers,
          omega (arith, past, v.drew),
        )

  tray_same : (ps : List Params) (e : Engine) (cs st : List ℕ) (levels : List ℤ) → place e ≤ ends l → start ≤ place e
      → Far (tray_reached_from l e cs st ps levels) (tray_past_from l e cs st ps levels) → Both ps e cs st levels
  unfolding tray tray_reached_from tray_past_from
  tray_same [] e cs st levels h from s = record { trays = refl; ends = refl; drew = refl }
  tray_same (p ∷ ps) e cs st levels h from s =
      let v = read_payload l e cs st p (take (area p) levels) in
      let d = s.drew in
      let t = step p ps e cs st levels h from v.answer refl
      (λ f a b u. tray_same ps f v.contexts v.stats (drop (area p) levels) a b u)
      (omega (arith, d)) (record { has = s.has; same = s.same; drew = omega (arith, d) }) in
      record { trays = t.0; ends = t.1; drew = t.2 }

-- ---- the whole call
module _ (flags : ℕ) (e : Engine) (contexts stats : List ℕ) (ps : List Params) (levels : List ℤ) (found : List (List ℕ)) where
  abbrev number : List ℕ → ℕ
  number l = tray_number flags l e contexts stats ps levels (length found)

  abbrev last : List ℕ → Engine
  last l = tray_reached flags l e contexts stats ps levels (length found)

  -- as of one block (Depends), with a tray's position reached
  pub record TrayAsked (l m : List ℕ) : Type 0 where
    pub first : 0 ≡ payload_refusal l
    pub second : 0 ≡ payload_refusal m
    pub inside : place e ≤ ends l
    pub drew : tray_drew_past flags l e contexts stats ps levels (length found) ≡ 0
    pub has : place (last l) ≤ ends m
    pub same : Alike l m (place e) (place (last l))

  pub record TrayShown (l m : List ℕ) : Type 0 where
    pub answers : read_tray flags l e contexts stats ps levels found ≡ read_tray flags m e contexts stats ps levels found
    pub reaches : last l ≡ last m
    pub drew : tray_drew_past flags m e contexts stats ps levels (length found) ≡ 0

  read_by : (l : List ℕ) → read_tray flags l e contexts stats ps levels found ≡ read_tray_by (number l) l e contexts stats ps levels found
  read_by l = go ps
    where
      go : (qs : List Params) → read_tray flags l e contexts stats qs levels found ≡ read_tray_by (tray_number flags l e contexts stats qs levels (length found)) l e contexts stats qs levels found
      go [] = unfold read_tray tray_number read_tray_by tray found_rows in refl
      go (p ∷ qs) = unfold read_tray tray_number in refl

  last_grows : (l : List ℕ) → place e ≤ ends l → Grows l e (last l)
  unfolding tray_reached
  last_grows l h = go (number l)
    where
      go : (n : ℕ) → Grows l e (tray_reached_by n l e contexts stats ps levels)
      go zero = unfold tray_reached_by in tray_grows l ps e contexts stats levels h
      go (suc n) = unfold tray_reached_by in (record { up = omega arith; fits = h; clean = λ q. q })

  number_same : (l m : List ℕ) → TrayAsked l m → number l ≡ number m
  number_same l m a =
      let g = last_grows l a.inside in
      let h : place e ≤ ends m = omega (arith, g.up, a.has) in
      go ps (state_alike l m e a.inside h)
    where
      go : (qs : List Params) → state_refusal l e ≡ state_refusal m e
          → tray_number flags l e contexts stats qs levels (length found) ≡ tray_number flags m e contexts stats qs levels (length found)
      go [] q = unfold tray_number in refl
      go (p ∷ qs) q = unfold tray_number in rw (← a.first, ← a.second, q)

  same_by : (n : ℕ) (l m : List ℕ) → 0 ≡ payload_refusal l → 0 ≡ payload_refusal m → place e ≤ ends l
      → place (tray_reached_by n l e contexts stats ps levels) ≤ ends m → Alike l m (place e) (place (tray_reached_by n l e contexts stats ps levels))
      → tray_past_by n l e contexts stats ps levels ≡ 0
      → (read_tray_by n l e contexts stats ps levels found ≡ read_tray_by n m e contexts stats ps levels found)
      × (tray_reached_by n l e contexts stats ps levels ≡ tray_reached_by n m e contexts stats ps levels)
      × (tray_past_by n m e contexts stats ps levels ≡ 0)
  unfolding read_tray_by tray_reached_by tray_past_by
  same_by zero l m z₁ z₂ h has same drew =
      let b = tray_same l m z₁ z₂ (place e) ps e contexts stats levels h (omega arith) (record { has = has; same = same; drew = drew }) in
      (ap (λ (t : Tray). laid t found) b.trays, b.ends, b.drew)
  same_by (suc n) l m z₁ z₂ h has same drew = (refl, refl, refl)

  pub tray_depends : (l m : List ℕ) → TrayAsked l m → TrayShown l m
  unfolding tray_reached tray_drew_past
  tray_depends l m a =
      let c = number_same l m a in
      let r = same_by (number l) l m a.first a.second a.inside a.has a.same a.drew in
      record {
        answers = read_by l ∙ r.0 ∙ ap (λ n. read_tray_by n m e contexts stats ps levels found) c ∙ sym (read_by m);
        reaches = r.1 ∙ ap (λ n. tray_reached_by n m e contexts stats ps levels) c;
        drew = ap (λ n. tray_past_by n m e contexts stats ps levels) (sym c) ∙ r.2;
      }

-- ---- the code: two answers that the promise of hevc_tray_reader::entries::read_tray allows
module _ (e : Engine) (contexts stats : List ℕ) (rows : List (List ℕ)) (levels : List ℤ) (found : List (List ℕ)) where
  pub code_tray_depends : (l m : List ℕ) → TrayAsked (rows_refusal rows) e contexts stats (records_of rows) levels found l m
      → (t u : code.Tray) (cs₁ st₁ cs₂ st₂ : List ℕ) (b₁ b₂ : List ℤ) (f₁ f₂ : List (List ℕ))
      → tray_seen t cs₁ st₁ b₁ f₁ ≡ read_rows l e contexts stats rows levels found → tray_seen u cs₂ st₂ b₂ f₂ ≡ read_rows m e contexts stats rows levels found
      → (t ≡ u) × (cs₁ ≡ cs₂) × (st₁ ≡ st₂) × (b₁ ≡ b₂) × (f₁ ≡ f₂)
  unfolding read_rows
  code_tray_depends l m a t u cs₁ st₁ cs₂ st₂ b₁ b₂ f₁ f₂ v w =
      let q = v ∙ (tray_depends (rows_refusal rows) e contexts stats (records_of rows) levels found l m a).answers ∙ sym w in (
        ap (λ (z : TrayRead). record { done = z.done; number = z.number; state = z.engine }) q,
        ap (λ (z : TrayRead). z.contexts) q,
        ap (λ (z : TrayRead). z.stats) q,
        ap (λ (z : TrayRead). z.levels) q,
        ap (λ (z : TrayRead). z.found) q,
      )
