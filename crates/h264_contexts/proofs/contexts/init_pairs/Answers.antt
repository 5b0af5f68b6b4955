use Rattle.h264_block.specs.Contexts.{within}
use mir.Facts.{to_z-of_z}
use mir.Val.{SFits}
use mir.Syntax.{w32}
use mathlib.Core.Bool.{true}
use lib.ListN.{get_or}
use lib.IntN.{pos}
use Rattle.h264_contexts.specs.PairLaws.{within_at, pairs_passed, inited_all, after_refused, after_passed}
use mathlib.Core.Path.{◌≡◌, sym, subst, ◌∙◌}
use Prim.Native.Nat.{◌*◌, ◌+◌}
use native.Mathlib.Omega.{arith}
use Rattle.h264_contexts.proofs.contexts.init_pairs.Goals as goal

pub returns-then-refused-ne0 : goal.returns-then-refused-ne0
returns-then-refused-ne0 c = let a = c.args in (c.pairs_refusal-refused.ensures, after_refused c.pairs_refusal-refused.result c.if-refused-ne0.true a.contexts.now a.pairs.now a.q)

pub bounds-pairs-i : goal.bounds-pairs-i
bounds-pairs-i c = omega (arith, (pairs_passed c.args.pairs.now (sym c.if-refused-ne0.false ∙ c.pairs_refusal-refused.ensures)).0)

pub bounds-pairs-i-in-loop-i : goal.bounds-pairs-i-in-loop-i
bounds-pairs-i-in-loop-i c = omega (arith, (pairs_passed c.args.pairs.now (sym c.if-refused-ne0.false ∙ c.pairs_refusal-refused.ensures)).0)

pub init-requires : goal.init-requires
init-requires c =
    let l = c.args.pairs.now in
    let i = c.loop-i.i in
    let f : SFits w32 (get_or l (2 * i) (pos 0)) = record { sfits = c.init-arg-1.given } in
    let g : SFits w32 (get_or l (2 * i + 1) (pos 0)) = record { sfits = c.init-arg-in-loop-i-1.given } in
    let p = (pairs_passed c.args.pairs.now (sym c.if-refused-ne0.false ∙ c.pairs_refusal-refused.ensures)) in (
      subst (λ z. within z ≡ true) (sym (to_z-of_z f)) (within_at l (2 * i) p.1 (omega (arith, p.0))),
      subst (λ z. within z ≡ true) (sym (to_z-of_z g)) (within_at l (2 * i + 1) p.1 (omega (arith, p.0))),
    )

pub returns : goal.returns
returns c =
    let a = c.args in
    let l = a.pairs.now in
    let pass = sym c.if-refused-ne0.false ∙ c.pairs_refusal-refused.ensures in
    (pass, after_passed a.contexts.now l a.q c.loop-i.contexts (inited_all l a.q c.loop-i.i c.loop-i.contexts c.loop-i.invariant (omega arith) (pairs_passed l pass).0))
