-- The loop over a tray's records, and the ways out of the entry point. Assumes nothing.
use Prim.Native.Nat.{ℕ, zero, suc, ◌+◌, ◌-◌, ◌≤◌, ◌<◌}
use Rattle.std.specs.Prelude.{◌≡◌, Bool, true, false, cond, ℤ, pos, get_or, set, ltb, Result, Err, Ok}
use Rattle.std.proofs.Math.Path.{refl, sym, ap}
use Rattle.std.proofs.Common.{subst, ◌∙◌, arith, add-one, length-take, length-drop, take-append-drop, ltb-false, drop-cons, drop-drop, length-take-le, take_at, drop_at}
use mathlib.Core.List.{List, [], ◌∷◌, ◌++◌, append_assoc}
use Rattle.std.proofs.Math.ListN.{length, take, drop, length-append, length-set, drop_of_length-le}
use Rattle.std.proofs.lemmas.List.{set_at}
use Rattle.bins.specs.declared.state.Engine.{Engine}
use Rattle.cabac.specs.Numbers.{Answer, accepted, refused, ◌or_else◌, payload_refusal, state_refusal, ended_refusal}
use Rattle.cabac.specs.NumberLaws.{or_else_first, or_else_rest, or_else_zero}
use Rattle.hevc_residual.specs.declared.params.Params.{Params}
use Rattle.hevc_residual.specs.Wanted.{area}
use Rattle.hevc_residual.specs.Limits.{Accepted}
use Rattle.hevc_residual.specs.LimitLaws.{parameter_passed, parameter_same}
use Rattle.hevc_residual.specs.Numbers.{parameter_refusal, contexts_refusal, statistics_refusal}
use Rattle.hevc_residual.specs.Entries as entries
use Rattle.hevc_residual.specs.Entries.{FoundAt, PayloadRead, read_payload}
use Rattle.hevc_residual.specs.declared.answers.Found.{Found}
use Rattle.hevc_residual.specs.declared.answers.ReadBlock.{ReadBlock}
use Rattle.hevc_residual.specs.Answers.{found_seen, payload_read, payload_checks}
use Rattle.hevc_tray.specs.Rows.{params_of, records_of, rows_refusal, found_row, found_rows}
use Rattle.hevc_tray.specs.Tray.{Tray, behind, on_block, tray, records_refusal, count_refusal, rooms_refusal, tray_checks, TrayRead, laid, untouched, read_tray_by, read_tray, read_rows}
use Rattle.hevc_tray.specs.Seen.{row_of, read_no, tray_seen}
use Rattle.hevc_tray.specs.AbleLaws.{Able, able_checks, On, reads_on}
use Rattle.hevc_tray.proofs.TrayLaws.{ahead_by, ahead_none, ahead_more}
use Rattle.hevc_tray.proofs.Words.{Told, told}

-- ---- the definition behind its checks
module _ (l : List ℕ) (e : Engine) (contexts stats : List ℕ) (rows : List (List ℕ)) (levels : List ℤ) (found : List (List ℕ)) where
  abbrev checks : ℕ
  checks = tray_checks l e contexts stats (rows_refusal rows) (records_of rows) levels (length found)

  pub rows_none : length rows ≡ 0 → untouched 0 e contexts stats levels found ≡ read_rows l e contexts stats rows levels found
  unfolding read_rows read_tray
  rows_none q = go rows q
    where
      go : (rs : List (List ℕ)) → length rs ≡ 0 → untouched 0 e contexts stats levels found ≡ read_tray (rows_refusal rs) l e contexts stats (records_of rs) levels found
      go [] q = unfold records_of in refl
      go (r ∷ rs) q = absurd (omega arith)

  pub rows_refused : (length rows ≡ 0 → ⊥) → (n : ℕ) → n ≡ checks → (n ≡ 0 → ⊥) → untouched n e contexts stats levels found ≡ read_rows l e contexts stats rows levels found
  unfolding read_rows read_tray records_of
  rows_refused s n q z = go rows s q
    where
      by : (k : ℕ) (ps : List Params) → n ≡ k → untouched n e contexts stats levels found ≡ read_tray_by k l e contexts stats ps levels found
      by zero ps u = absurd (z u)
      by (suc k) ps u = unfold read_tray_by in ap (λ m. untouched m e contexts stats levels found) u

      go : (rs : List (List ℕ)) → (length rs ≡ 0 → ⊥) → n ≡ tray_checks l e contexts stats (rows_refusal rs) (records_of rs) levels (length found)
          → untouched n e contexts stats levels found ≡ read_tray (rows_refusal rs) l e contexts stats (records_of rs) levels found
      go [] s q = absurd (s refl)
      go (r ∷ rs) s q = by (tray_checks l e contexts stats (rows_refusal (r ∷ rs)) (records_of (r ∷ rs)) levels (length found)) (records_of (r ∷ rs)) q

  pub rows_read : 0 ≡ checks → laid (tray l e contexts stats (records_of rows) levels) found ≡ read_rows l e contexts stats rows levels found
  unfolding read_rows read_tray records_of
  rows_read q = go rows q
    where
      go : (rs : List (List ℕ)) → 0 ≡ tray_checks l e contexts stats (rows_refusal rs) (records_of rs) levels (length found)
          → laid (tray l e contexts stats (records_of rs) levels) found ≡ read_tray (rows_refusal rs) l e contexts stats (records_of rs) levels found
      go [] q = unfold tray found_rows in refl
      go (r ∷ rs) q = unfold read_tray_by in ap (λ n. read_tray_by n l e contexts stats (records_of (r ∷ rs)) levels found) q

-- ---- what the checks say
pub record Checked (l : List ℕ) (e : Engine) (contexts stats : List ℕ) (rows : List (List ℕ)) (levels : List ℤ) (many : ℕ) : Type 0 where
  pub able : Able l e contexts stats
  pub fine : 0 ≡ records_refusal (records_of rows) levels
  pub rooms : length rows ≤ many
  pub count : length rows ≤ 256

records_long : (rows : List (List ℕ)) → length (records_of rows) ≡ length rows
unfolding records_of
records_long [] = refl
records_long (r ∷ rows) = ap suc (records_long rows)

rooms_passed : (rooms n : ℕ) → 0 ≡ rooms_refusal rooms n → n ≤ rooms
unfolding rooms_refusal
rooms_passed rooms n q = go (ltb rooms n) refl q
  where
    go : (b : Bool) → ltb rooms n ≡ b → ◌≡◌ {A = ℕ} 0 (cond b 4 0) → n ≤ rooms
    go true u z = absurd (omega arith)
    go false u z = ltb-false rooms n u

count_passed : (n : ℕ) → 0 ≡ count_refusal n → n ≤ 256
unfolding count_refusal
count_passed n q = go (ltb 256 n) refl q
  where
    go : (b : Bool) → ltb 256 n ≡ b → ◌≡◌ {A = ℕ} 0 (cond b 4 0) → n ≤ 256
    go true u z = absurd (omega arith)
    go false u z = ltb-false 256 n u

pub checked : (l : List ℕ) (e : Engine) (contexts stats : List ℕ) (rows : List (List ℕ)) (levels : List ℤ) (rooms : ℕ)
    → 0 ≡ tray_checks l e contexts stats (rows_refusal rows) (records_of rows) levels rooms → Checked l e contexts stats rows levels rooms
checked l e contexts stats rows levels rooms q =
    let a = or_else_zero (payload_refusal l) _ q in
    let b = or_else_zero (count_refusal (length (records_of rows))) _ a.1 in
    let c = or_else_zero (rows_refusal rows) _ b.1 in
    let d = or_else_zero (records_refusal (records_of rows) levels) _ c.1 in
    let f = or_else_zero (rooms_refusal rooms (length (records_of rows))) _ d.1 in
    let g = or_else_zero (state_refusal l e) _ f.1 in
    let h = or_else_zero (contexts_refusal contexts) _ g.1 in
    let i = or_else_zero (statistics_refusal stats) (ended_refusal e) h.1 in
    record {
      able = record { payload = a.0; state = g.0; packed = h.0; small = i.0; runs = i.1 };
      fine = d.0;
      rooms = omega (arith, rooms_passed rooms (length (records_of rows)) f.0, records_long rows);
      count = omega (arith, count_passed (length (records_of rows)) b.0, records_long rows);
    }

-- ---- rows found
found_snoc : (fs : List entries.Found) (f : entries.Found) → found_rows (fs ++ (f ∷ [])) ≡ found_rows fs ++ (found_row f ∷ [])
unfolding found_rows
found_snoc [] f = refl
found_snoc (g ∷ fs) f = ap (λ (t : List (List ℕ)). found_row g ∷ t) (found_snoc fs f)

found_long : (fs : List entries.Found) → length (found_rows fs) ≡ length fs
unfolding found_rows
found_long [] = refl
found_long (f ∷ fs) = ap suc (found_long fs)

found_set : (fs : List entries.Found) (f : entries.Found) (i : ℕ) (room now : List (List ℕ)) → length fs ≡ i → i < length room → now ≡ found_rows fs ++ drop i room
    → set now i (found_row f) ≡ found_rows (fs ++ (f ∷ [])) ++ drop (i + 1) room
found_set fs f i room now h k q =
    let y = get_or room i [] in
    let r = drop (suc i) room in
    let d : now ≡ found_rows fs ++ (y ∷ r) = q ∙ ap (λ (t : List (List ℕ)). found_rows fs ++ t) (drop-cons room i [] k) in
    let s : set now i (found_row f) ≡ found_rows fs ++ (found_row f ∷ r) = ap (λ (t : List (List ℕ)). set t i (found_row f)) d ∙ set_at (found_rows fs) y r (found_row f) i (found_long fs ∙ h) in
    let t : found_rows fs ++ (found_row f ∷ r) ≡ found_rows (fs ++ (f ∷ [])) ++ r =
    sym (append_assoc (found_rows fs) (found_row f ∷ []) r) ∙ ap (λ (t : List (List ℕ)). t ++ r) (sym (found_snoc fs f)) in
    rw (add-one i) (s ∙ t)

-- ---- a tray that did no block, and the same behind i blocks
abbrev stopped : ℕ → Engine → List ℕ → List ℕ → List ℤ → Tray
stopped m e cs st left = record { done = 0; number = m; engine = e; contexts = cs; stats = st; found = []; front = []; left = left }

nil_right : {A : Type 0} (l : List A) → l ++ [] ≡ l
nil_right [] = refl
nil_right (a ∷ l) = ap (λ t. a ∷ t) (nil_right l)

finish : (i : ℕ) (seen : List entries.Found) (front left : List ℤ) (m : ℕ) (e : Engine) (cs st : List ℕ) (found room : List (List ℕ)) → length seen ≡ i → found ≡ found_rows seen ++ drop i room
    → record { done = i; number = m; engine = e; contexts = cs; stats = st; levels = front ++ left; found = found } ≡ laid (ahead_by i seen front (stopped m e cs st left)) room
finish i seen front left m e cs st found room h q =
    let a : i + 0 ≡ i = omega arith in
    rw (a, nil_right seen, nil_right front, h, q)

-- ---- the loop: i blocks done, in the first `at` places
module _ (l : List ℕ) (e₀ : Engine) (cs₀ st₀ : List ℕ) (rows : List (List ℕ)) (levels₀ : List ℤ) (found₀ : List (List ℕ)) where
  abbrev all : Tray
  all = tray l e₀ cs₀ st₀ (records_of rows) levels₀

  pub record Walking (i at : ℕ) (e : Engine) (cs st : List ℕ) (levels : List ℤ) (found : List (List ℕ)) : Type 0 where
    pub few : i ≤ length rows
    pub fits : at ≤ length levels
    pub long : length levels ≡ length levels₀
    pub rooms : length rows ≤ length found₀
    pub count : length rows ≤ 256
    pub many : length found ≡ length found₀
    pub able : Able l e cs st
    pub fine : 0 ≡ records_refusal (records_of (drop i rows)) (drop at levels)
    pub seen : List entries.Found
    pub each : length seen ≡ i
    pub laid : found ≡ found_rows seen ++ drop i found₀
    pub goes : all ≡ ahead_by i seen (take at levels) (tray l e cs st (records_of (drop i rows)) (drop at levels))

  pub walk_begins : 0 ≡ tray_checks l e₀ cs₀ st₀ (rows_refusal rows) (records_of rows) levels₀ (length found₀) → Walking 0 0 e₀ cs₀ st₀ levels₀ found₀
  unfolding found_rows
  walk_begins q =
      let c = checked l e₀ cs₀ st₀ rows levels₀ (length found₀) q in
      record {
        few = omega arith;
        fits = omega arith;
        long = refl;
        rooms = c.rooms;
        count = c.count;
        many = refl;
        able = c.able;
        fine = c.fine;
        seen = [];
        each = refl;
        laid = refl;
        goes = sym (ahead_none all);
      }

  module _ (i at : ℕ) (e : Engine) (cs st : List ℕ) (levels : List ℤ) (found : List (List ℕ)) (w : Walking i at e cs st levels found) where
    -- where no record is left
    pub walk_ends : length rows ≤ i → 0 ≡ tray_checks l e₀ cs₀ st₀ (rows_refusal rows) (records_of rows) levels₀ (length found₀)
        → record { done = i; number = 0; engine = e; contexts = cs; stats = st; levels = levels; found = found } ≡ read_rows l e₀ cs₀ st₀ rows levels₀ found₀
    unfolding tray records_of
    walk_ends h q =
        let n : drop i rows ≡ [] = drop_of_length-le rows {i = i} h in
        let g : all ≡ ahead_by i w.seen (take at levels) (stopped 0 e cs st (drop at levels)) =
        w.goes ∙ ap (λ (rs : List (List ℕ)). ahead_by i w.seen (take at levels) (tray l e cs st (records_of rs) (drop at levels))) n in
        let f = finish i w.seen (take at levels) (drop at levels) 0 e cs st found found₀ w.each w.laid in
        let t : record { done = i; number = 0; engine = e; contexts = cs; stats = st; levels = take at levels ++ drop at levels; found = found } ≡ laid all found₀ = f ∙ ap (λ (u : Tray). laid u found₀) (sym g) in
        ap (λ (v : List ℤ). record { done = i; number = 0; engine = e; contexts = cs; stats = st; levels = v; found = found }) (sym (take-append-drop at levels))
        ∙ t ∙ rows_read l e₀ cs₀ st₀ rows levels₀ found₀ q

    -- the next record
    module _ (h : i < length rows) where
      abbrev p : Params
      p = params_of (get_or rows i [])

      abbrev rest : List (List ℕ)
      rest = drop (i + 1) rows

      next : records_of (drop i rows) ≡ p ∷ records_of rest
      unfolding records_of
      next = ap records_of (drop-cons rows i [] h) ∙ ap (λ (n : ℕ). p ∷ records_of (drop n rows)) (sym (add-one i))

      pub next_fine : (0 ≡ parameter_refusal p (drop at levels)) × (0 ≡ records_refusal (records_of rest) (drop (area p) (drop at levels)))
      unfolding records_refusal
      next_fine = or_else_zero (parameter_refusal p (drop at levels)) _ (w.fine ∙ ap (λ (ps : List Params). records_refusal ps (drop at levels)) next)

      pub next_accepted : Accepted p
      next_accepted = (parameter_passed p (drop at levels) next_fine.0).0

      pub next_room : at + area p ≤ length levels
      next_room = omega (arith, (parameter_passed p (drop at levels) next_fine.0).1, length-drop at levels, w.fits)

      abbrev part : List ℤ
      part = take (area p) (drop at levels)

      part_long : length part ≡ area p
      part_long = length-take-le (area p) (drop at levels) (parameter_passed p (drop at levels) next_fine.0).1

      part_fine : 0 ≡ parameter_refusal p part
      part_fine = parameter_same p (drop at levels) part next_fine.0 (omega (arith, part_long))

      -- q and n as the code has them
      module _ (q : Params) (eq : q ≡ p) (n : ℕ) (en : n ≡ area p) where
        pub next_checks : 0 ≡ payload_checks l e cs st q (take n (drop at levels))
        next_checks =
            subst (λ (z : Params). 0 ≡ payload_checks l e cs st z (take n (drop at levels))) (sym eq)
            (subst (λ (k : ℕ). 0 ≡ payload_checks l e cs st p (take k (drop at levels))) (sym en) (able_checks l e cs st p part w.able part_fine))

        -- r is what its reading answered
        module _ (r : Result ReadBlock ℕ) (cs' st' : List ℕ) (part' : List ℤ) (s : payload_read r cs' st' part' ≡ read_payload l e cs st q (take n (drop at levels))) where
          abbrev levels' : List ℤ
          levels' = take at levels ++ (part' ++ drop n (drop at levels))

          read_as : (r' : Result ReadBlock ℕ) → r ≡ r' → payload_read r' cs' st' part' ≡ read_payload l e cs st p part
          read_as r' u =
              ap (λ (z : Result ReadBlock ℕ). payload_read z cs' st' part') (sym u) ∙ s ∙ ap (λ (z : Params). read_payload l e cs st z (take n (drop at levels))) eq
              ∙ ap (λ (k : ℕ). read_payload l e cs st p (take k (drop at levels))) en

          tray_is : (r' : Result ReadBlock ℕ) → r ≡ r' → let x = payload_read r' cs' st' part' in
              tray l e cs st (records_of (drop i rows)) (drop at levels)
              ≡ on_block e x (drop (area p) (drop at levels)) (λ f. tray l f x.contexts x.stats (records_of rest) (drop (area p) (drop at levels))) x.answer
          unfolding tray
          tray_is r' u =
              ap (λ (ps : List Params). tray l e cs st ps (drop at levels)) next
              ∙ ap (λ (x : PayloadRead). on_block e x (drop (area p) (drop at levels)) (λ f. tray l f x.contexts x.stats (records_of rest) (drop (area p) (drop at levels))) x.answer) (sym (read_as r' u))

          pub walk_refused : (m : ℕ) → r ≡ Err m → 0 ≡ tray_checks l e₀ cs₀ st₀ (rows_refusal rows) (records_of rows) levels₀ (length found₀)
              → record { done = i; number = m; engine = e; contexts = cs'; stats = st'; levels = levels'; found = found } ≡ read_rows l e₀ cs₀ st₀ rows levels₀ found₀
          unfolding on_block
          walk_refused m u c =
              let left = part' ++ drop (area p) (drop at levels) in
              let g : all ≡ ahead_by i w.seen (take at levels) (stopped m e cs' st' left) =
              w.goes ∙ ap (λ (t : Tray). ahead_by i w.seen (take at levels) t) (tray_is (Err m) u) in
              let f = finish i w.seen (take at levels) left m e cs' st' found found₀ w.each w.laid in
              ap (λ (k : ℕ). record { done = i; number = m; engine = e; contexts = cs'; stats = st'; levels = take at levels ++ (part' ++ drop k (drop at levels)); found = found }) en
              ∙ f ∙ ap (λ (t : Tray). laid t found₀) (sym g) ∙ rows_read l e₀ cs₀ st₀ rows levels₀ found₀ c

          module _ (f : Found) (d : Engine) (u : r ≡ Ok (record { found = f; state = d })) where
            on : On l p cs st part (payload_read (Ok (record { found = f; state = d })) cs' st' part') (accepted (record { found = found_seen f; next = d }))
            on = subst (λ (x : PayloadRead). On l p cs st part x x.answer) (sym (read_as (Ok (record { found = f; state = d })) u)) (reads_on l e cs st p part w.able part_fine)

            front_long : length (take at levels ++ part') ≡ at + n
            front_long = length-append (take at levels) part' ∙ omega (arith, length-take-le at levels w.fits, on.1, part_long, en)

            cut : levels' ≡ (take at levels ++ part') ++ drop n (drop at levels)
            cut = sym (append_assoc (take at levels) part' (drop n (drop at levels)))

            front_is : take (at + n) levels' ≡ take at levels ++ part'
            front_is = ap (λ (v : List ℤ). take (at + n) v) cut ∙ take_at (take at levels ++ part') (drop n (drop at levels)) (at + n) front_long

            rest_is : drop (at + n) levels' ≡ drop (area p) (drop at levels)
            rest_is = ap (λ (v : List ℤ). drop (at + n) v) cut ∙ drop_at (take at levels ++ part') (drop n (drop at levels)) (at + n) front_long ∙ ap (λ (k : ℕ). drop k (drop at levels)) en

            levels_long : length levels' ≡ length levels
            levels_long =
                ap (λ (v : List ℤ). length v) cut ∙ length-append (take at levels ++ part') (drop n (drop at levels))
                ∙ omega (arith, front_long, length-drop n (drop at levels), length-drop at levels, next_room, en)

            pub walk_on : Walking (i + 1) (at + n) d cs' st' levels' (set found i (row_of f))
            unfolding on_block
            walk_on =
                record {
                  few = omega arith;
                  fits = omega (arith, levels_long, next_room, en);
                  long = levels_long ∙ w.long;
                  rooms = w.rooms;
                  count = w.count;
                  many = length-set found i (row_of f) ∙ w.many;
                  able = on.0;
                  fine = next_fine.1 ∙ ap (λ (v : List ℤ). records_refusal (records_of rest) v) (sym rest_is);
                  seen = w.seen ++ (found_seen f ∷ []);
                  each = length-append w.seen (found_seen f ∷ []) ∙ omega (arith, w.each);
                  laid = found_set w.seen (found_seen f) i found₀ found w.each (omega (arith, w.rooms)) w.laid;
                  goes =
                      w.goes
                      ∙ ap (λ (t : Tray). ahead_by i w.seen (take at levels) t) (tray_is (Ok (record { found = f; state = d })) u)
                      ∙ ahead_more i w.seen (take at levels) part' (found_seen f) (tray l d cs' st' (records_of rest) (drop (area p) (drop at levels)))
                      ∙ ap (λ (v : List ℤ). ahead_by (i + 1) (w.seen ++ (found_seen f ∷ [])) v (tray l d cs' st' (records_of rest) (drop (area p) (drop at levels)))) (sym front_is)
                      ∙ ap (λ (v : List ℤ). ahead_by (i + 1) (w.seen ++ (found_seen f ∷ [])) (take (at + n) levels') (tray l d cs' st' (records_of rest) v)) (sym rest_is);
                }

pub read_number : (r : Result ReadBlock ℕ) (m n : ℕ) → r ≡ Err m → n ≡ read_no r → r ≡ Err n
read_number r m n q e = q ∙ ap Err (sym (e ∙ ap read_no q))

-- ---- the entry point in request (iv)'s words, of what the checks let through
pub promised : (l : List ℕ) (e : Engine) (contexts stats : List ℕ) (rows : List (List ℕ)) (levels : List ℤ) (found : List (List ℕ))
    → 0 ≡ tray_checks l e contexts stats (rows_refusal rows) (records_of rows) levels (length found)
    → (t : Tray) × (u : Tray) × (laid t found ≡ read_rows l e contexts stats rows levels found) × Told l (records_of rows) levels t u
promised l e contexts stats rows levels found q =
    let c = checked l e contexts stats rows levels (length found) q in (
      tray l e contexts stats (records_of rows) levels,
      tray l e contexts stats (take (tray l e contexts stats (records_of rows) levels).done (records_of rows)) levels,
      rows_read l e contexts stats rows levels found q,
      told l (records_of rows) e contexts stats levels c.able c.fine,
    )
