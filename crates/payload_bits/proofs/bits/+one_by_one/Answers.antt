-- `one_by_one` meets its contract. Assumes nothing.
use native.Mathlib.Omega.{arith}
use Rattle.std.proofs.Common.{◌≡◌, ℕ, ◌+◌, ◌-◌, ◌*◌, List, refl, sym}
use Rattle.bins.specs.Bits.{bit_at, bits}
use Rattle.bins.specs.BitLaws.{bit_lt, bits_below, bits_suc}
use Rattle.payload_bits.proofs.bits.+one_by_one.Goals as goal

-- the bits before the last, and the last
more : (l : List ℕ) (p c v b : ℕ) → ((c ≡ 0) → ⊥) → v ≡ bits l p (c - 1) → b ≡ bit_at l (p + (c - 1)) → v * 2 + b ≡ bits l p c
more l p c v b n q r =
    let e : c - 1 + 1 ≡ c = omega arith in
    let s : bits l p c ≡ bits l p (c - 1) * 2 + bit_at l (p + (c - 1)) = rw e at (bits_suc l p (c - 1)) in
    rw (q, r) (sym s)

pub returns-then-c-eq0 : goal.returns-then-c-eq0
unfolding bits
returns-then-c-eq0 t c = rw c.if-c-eq0.true refl

pub overflow_mul-result : goal.overflow_mul-result
overflow_mul-result t c =
    let a = c.args in
    omega (arith, c.one_by_one-before.ensures, bits_below a.bytes.now a.at.0 (a.c - 1) 31 (omega arith))

pub overflow_add-result : goal.overflow_add-result
overflow_add-result t c =
    let a = c.args in
    omega (arith, c.one_by_one-before.ensures, c.bit_at.ensures, bit_lt a.bytes.now (a.at.0 + (a.c - 1)), bits_below a.bytes.now a.at.0 (a.c - 1) 31 (omega arith))

pub returns : goal.returns
returns t c =
    let a = c.args in
    more a.bytes.now a.at.0 a.c _ _ c.if-c-eq0.false c.one_by_one-before.ensures c.bit_at.ensures
