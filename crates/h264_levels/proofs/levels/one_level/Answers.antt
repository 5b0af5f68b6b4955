use mathlib.Core.Path.{sym, ◌∙◌}
use native.Mathlib.Omega.{arith}
use Rattle.bins.specs.StepLaws.{passed_on}
use Rattle.h264_levels.specs.LevelCode.{level_refused, level_reads, level_small, level_short, level_out, level_got}
use Rattle.h264_levels.proofs.levels.one_level.Goals as goal

pub returns-in_err-v : goal.returns-in_err-v
returns-in_err-v c =
    let a = c.args in
    rw (passed_on c.from_residual.result _ c.from_residual.ensures.1)
    (level_refused a.list a.bytes.now a.ones a.bigs a.k a.x a.contexts.now c.requires.0 c.magnitude.result c.magnitude.new.contexts c.magnitude.ensures
    a.block.now a.block.now _ c.in_err-v.was)

pub decode_bypass-requires : goal.decode_bypass-requires
decode_bypass-requires c =
    let a = c.args in
    (level_reads a.list a.bytes.now a.ones a.bigs a.k a.x a.contexts.now c.requires.0 c.magnitude.result c.magnitude.new.contexts c.magnitude.ensures
    a.block.now a.block.now _ _ c.in_ok-v.was).0

pub returns-in_err-sign : goal.returns-in_err-sign
returns-in_err-sign c =
    let a = c.args in
    rw (passed_on c.from_residual-in_err-sign.result _ c.from_residual-in_err-sign.ensures.1)
    (level_short a.list a.bytes.now a.ones a.bigs a.k a.x a.contexts.now c.requires.0 c.magnitude.result c.magnitude.new.contexts c.magnitude.ensures
    a.block.now a.block.now _ _ c.in_ok-v.was c.decode_bypass.result c.decode_bypass.ensures _ c.in_err-sign.was)

pub overflow_add-m : goal.overflow_add-m
overflow_add-m c =
    let a = c.args in
    omega (
      arith,
      level_small a.list a.bytes.now a.ones a.bigs a.k a.x a.contexts.now c.requires.0 c.magnitude.result c.magnitude.new.contexts
          c.magnitude.ensures a.block.now a.block.now _ _ c.in_ok-v.was,
    )

pub store-requires : goal.store-requires
store-requires c =
    let a = c.args in (
      c.requires.1,
      omega (
        arith,
        level_small a.list a.bytes.now a.ones a.bigs a.k a.x a.contexts.now c.requires.0 c.magnitude.result c.magnitude.new.contexts
            c.magnitude.ensures a.block.now a.block.now _ _ c.in_ok-v.was,
      ),
    )

pub returns-then-not-in_range : goal.returns-then-not-in_range
returns-then-not-in_range c =
    let a = c.args in
    level_out a.list a.bytes.now a.ones a.bigs a.k a.x a.contexts.now c.requires.0 c.magnitude.result c.magnitude.new.contexts c.magnitude.ensures
    a.block.now a.block.now _ _ c.in_ok-v.was c.decode_bypass.result c.decode_bypass.ensures _ _ c.in_ok-sign.was
    (sym c.in_range.ensures ∙ c.if-not-in_range.true)

pub returns : goal.returns
returns c =
    let a = c.args in
    level_got a.list a.bytes.now a.ones a.bigs a.k a.x a.contexts.now c.requires.0 c.magnitude.result c.magnitude.new.contexts c.magnitude.ensures
    a.block.now _ _ _ c.in_ok-v.was c.decode_bypass.result c.decode_bypass.ensures _ _ c.in_ok-sign.was
    (sym c.in_range.ensures ∙ c.if-not-in_range.false) c.store.ensures
