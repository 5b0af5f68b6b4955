-- What is shown of the computed pairs: by the theorem, or, where the first run draws past its end, that the answers differ.
use Rattle.std.specs.Prelude.{ℕ, ◌≤◌, ◌<◌, ◌≡◌, List, [], ◌∷◌, Bool, true, false, length}
use Rattle.std.proofs.Common.{sym, ap, arith}
use Rattle.tables.specs.Table.{eq_below}
use Rattle.bins.specs.Bits.{bit_at, ends}
use Rattle.bins.specs.Engine.{place, fetched, started}
use Rattle.hevc_residual.specs.Entries.{PayloadRead, read_payload}
use Rattle.hevc_depends.specs.Reached.{reached}
use Rattle.hevc_depends.specs.Depends.{Asked, Shown}
use Rattle.hevc_depends.proofs.DependsLaws.{depends_any}
use Rattle.hevc_depends.specs.Instances.{params, contexts, stats, lent, next_place, Facts, from, facts, is, one, like_one, long_prefix, like_long_prefix, misaligned, like_misaligned, short, longer, accepted_pair, total_pair, by_8_pair, by_7_pair, over_pair}

-- such a pair is one that the theorem speaks of
asked : (t : ℕ) (aligning : Bool) (l m : List ℕ) (r : ℕ) (ns ps : List ℕ) → facts t aligning l m ≡ is r 0 ns ps → 2 ≤ length l → r ≤ ends m
    → ((i : ℕ) → i < r → bit_at l i ≡ bit_at m i) → Asked (from t l) contexts stats (params aligning) lent l m
unfolding facts started fetched
asked t aligning l m r ns ps f long has same =
    let q : place (reached l (from t l) contexts stats (params aligning) lent) ≡ r = ap (λ (z : Facts). z.reaches) f in
    record {
      first = sym (ap (λ (z : Facts). z.first) f);
      second = sym (ap (λ (z : Facts). z.second) f);
      inside = omega arith;
      drew = ap (λ (z : Facts). z.past) f;
      has = omega (arith, q, has);
      same = λ i h k. same i (omega (arith, q));
    }

-- ---- the pairs, in the order of Instances
pub accepted_shown : Shown (from 0 one) contexts stats (params false) lent one like_one
accepted_shown =
    depends_any (from 0 one) contexts stats (params false) lent one like_one
    (asked 0 false one like_one 13 (0 ∷ 0 ∷ []) (13 ∷ 13 ∷ []) accepted_pair (omega arith) (omega arith) (eq_below (bit_at one) (bit_at like_one) 13 tt))

pub total_shown : Shown (from 65535 one) contexts stats (params false) lent one like_one
total_shown =
    depends_any (from 65535 one) contexts stats (params false) lent one like_one
    (asked 65535 false one like_one 13 (0 ∷ 0 ∷ []) (13 ∷ 13 ∷ []) total_pair (omega arith) (omega arith) (eq_below (bit_at one) (bit_at like_one) 13 tt))

pub by_8_shown : Shown (from 0 long_prefix) contexts stats (params false) lent long_prefix like_long_prefix
by_8_shown =
    depends_any (from 0 long_prefix) contexts stats (params false) lent long_prefix like_long_prefix
    (asked 0 false long_prefix like_long_prefix 49 (8 ∷ 8 ∷ []) (0 ∷ 0 ∷ []) by_8_pair (omega arith) (omega arith) (eq_below (bit_at long_prefix) (bit_at like_long_prefix) 49 tt))

pub by_7_shown : Shown (from 0 misaligned) contexts stats (params true) lent misaligned like_misaligned
by_7_shown =
    depends_any (from 0 misaligned) contexts stats (params true) lent misaligned like_misaligned
    (asked 0 true misaligned like_misaligned 38 (7 ∷ 7 ∷ []) (0 ∷ 0 ∷ []) by_7_pair (omega arith) (omega arith) (eq_below (bit_at misaligned) (bit_at like_misaligned) 38 tt))

-- why the first run must draw none past its end: of two payloads that agree in the 16 bits before the position reached, the answers differ
pub over_differs : read_payload short (from 0 short) contexts stats (params false) lent ≡ read_payload longer (from 0 short) contexts stats (params false) lent → ⊥
unfolding facts
over_differs q =
    let f : (facts 0 false short longer).places ≡ 16 ∷ 17 ∷ [] = ap (λ (z : Facts). z.places) over_pair in
    let g : next_place (read_payload short (from 0 short) contexts stats (params false) lent).answer ≡ next_place (read_payload longer (from 0 short) contexts stats (params false) lent).answer =
    ap (λ (z : PayloadRead). next_place z.answer) q in
    let h : ◌≡◌ {A = ℕ} 16 17 = cc in
    absurd (omega arith)
