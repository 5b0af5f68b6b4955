use native.Mathlib.Omega.{arith}
use mathlib.Core.Path.{ap, ◌∙◌}
use lib.Dec.{eqb}
use Rattle.bins.specs.Syn.{Out}
use Rattle.bins.specs.Sources.{cursor}
use Rattle.bins.specs.StepLaws.{passed_on}
use Rattle.hevc_scale_syntax.specs.CodeLaws.{value_few, value_read, none_got, sign_read, scale_kept}
use Rattle.hevc_scale_syntax.proofs.syntax.read_scale.Goals as goal

pub returns-in_err-v : goal.returns-in_err-v
returns-in_err-v c =
    let a = c.args in
    rw (passed_on c.from_residual.result _ c.from_residual.ensures.1)
    ((value_read a.list a.bytes.now a.x a.contexts.now a.component c.prefix.result c.prefix.new.contexts c.prefix.ensures c.requires.0).no _ c.in_err-v.was)

pub returns-then-v-eq0 : goal.returns-then-v-eq0
returns-then-v-eq0 c =
    let a = c.args in
    none_got a.list a.bytes.now a.x a.contexts.now a.component c.in_ok-v.field-0.value c.in_ok-v.field-0.next c.prefix.new.contexts
    ((value_read a.list a.bytes.now a.x a.contexts.now a.component c.prefix.result c.prefix.new.contexts c.prefix.ensures c.requires.0).ok _ _ c.in_ok-v.was)
    c.if-v-eq0.true

pub context_bin-requires : goal.context_bin-requires
context_bin-requires c =
    let a = c.args in (
      ((value_read a.list a.bytes.now a.x a.contexts.now a.component c.prefix.result c.prefix.new.contexts c.prefix.ensures c.requires.0).ok _ _ c.in_ok-v.was).reads,
      omega
          (arith, c.requires.1),
      c.requires.2,
    )

pub returns-in_err-b : goal.returns-in_err-b
returns-in_err-b c =
    let a = c.args in
    rw (passed_on c.from_residual-in_err-b.result _ c.from_residual-in_err-b.ensures.1)
    ((sign_read a.list a.bytes.now a.x a.contexts.now a.component c.in_ok-v.field-0.value c.in_ok-v.field-0.next c.prefix.new.contexts
    ((value_read a.list a.bytes.now a.x a.contexts.now a.component c.prefix.result c.prefix.new.contexts c.prefix.ensures c.requires.0).ok _ _ c.in_ok-v.was)
    c.if-v-eq0.false c.context_bin.result c.context_bin.new.contexts c.context_bin.ensures).no _ c.in_err-b.was)

pub signed_of-requires : goal.signed_of-requires
signed_of-requires c =
    let a = c.args in (
      omega (arith, c.if-v-eq0.false),
      value_few a.list a.bytes.now a.x a.contexts.now a.component c.prefix.result
          c.prefix.new.contexts c.prefix.ensures c.in_ok-v.field-0.value c.in_ok-v.field-0.next c.in_ok-v.was,
    )

pub returns : goal.returns
returns c =
    let a = c.args in
    (sign_read a.list a.bytes.now a.x a.contexts.now a.component c.in_ok-v.field-0.value c.in_ok-v.field-0.next c.prefix.new.contexts
    ((value_read a.list a.bytes.now a.x a.contexts.now a.component c.prefix.result c.prefix.new.contexts c.prefix.ensures c.requires.0).ok _ _ c.in_ok-v.was)
    c.if-v-eq0.false c.context_bin.result c.context_bin.new.contexts c.context_bin.ensures).ok _ _ c.in_ok-b.was ∙ ap (λ z. Out.ok z (cursor c.in_ok-b.field-0.next c.context_bin.new.contexts))
    (scale_kept c.in_ok-v.field-0.value (eqb c.in_ok-b.field-0.value 1) (value_few a.list a.bytes.now a.x a.contexts.now a.component c.prefix.result c.prefix.new.contexts c.prefix.ensures
    c.in_ok-v.field-0.value c.in_ok-v.field-0.next c.in_ok-v.was) c.signed_of.result c.signed_of.ensures)
