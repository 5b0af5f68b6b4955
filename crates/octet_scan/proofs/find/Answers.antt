use Rattle.std.proofs.Common.{◌≡◌, ℕ, ◌+◌, ◌<◌, ◌≤◌, List, ◌∷◌, length, get_or, take, ◌∙◌, arith, add-one, drop-cons}
use Rattle.std.proofs.lemmas.List.{get_or-take, length-take-le}
use Rattle.std.proofs.Math.ListN.{drop_of_length-le}
use Rattle.std.proofs.Common.{eq-eqb}
use borrow.Author.Tests.{ne_eqb}
use Rattle.octet_scan.specs.Octets.{index_of, slice}
use Rattle.octet_scan.proofs.find.Goals as goal

-- the part between i and to begins with the octet at i
begins : (s : List ℕ) (i to : ℕ) → i < to → to ≤ length s → slice i to s ≡ get_or s i 0 ∷ slice (i + 1) to s
unfolding slice
begins s i to h k =
    let n : i < length (take to s) = omega (arith, length-take-le to s k) in
    drop-cons (take to s) i 0 n ∙ rw (get_or-take to s i 0 h, add-one i)

here : (s : List ℕ) (i to b : ℕ) → i < to → to ≤ length s → get_or s i 0 ≡ b → i ≡ i + index_of b (slice i to s)
unfolding index_of
here s i to b h k e = rw (begins s i to h k, eq-eqb (get_or s i 0) b e) (omega arith)

further : (s : List ℕ) (i to b : ℕ) → i < to → to ≤ length s → (get_or s i 0 ≡ b → ⊥) → i + 1 + index_of b (slice (i + 1) to s) ≡ i + index_of b (slice i to s)
unfolding index_of
further s i to b h k e = rw (begins s i to h k, ne_eqb (get_or s i 0) b e) (omega arith)

nowhere : (s : List ℕ) (i to b : ℕ) → to ≤ i → to ≤ length s → i + index_of b (slice i to s) ≡ i
unfolding index_of slice
nowhere s i to b h k =
    let n : length (take to s) ≤ i = omega (arith, length-take-le to s k) in
    rw (drop_of_length-le (take to s) n) (omega arith)

pub returns-then-s-i-clause-place : goal.returns-then-s-i-clause-place
returns-then-s-i-clause-place c = here c.args.s.now c.loop-i.i c.args.to c.args.b (omega arith) (omega arith) c.if-s-i.true ∙ c.loop-i.invariant

pub loop-i-preserved : goal.loop-i-preserved
loop-i-preserved c = further c.args.s.now c.loop-i.i c.args.to c.args.b (omega arith) (omega arith) c.if-s-i.false ∙ c.loop-i.invariant

pub returns-clause-place : goal.returns-clause-place
returns-clause-place c = omega (arith, nowhere c.args.s.now c.loop-i.i c.args.to c.args.b (omega arith) (omega arith))
