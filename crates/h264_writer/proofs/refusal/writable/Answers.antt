use mathlib.Core.Path.{sym, ◌∙◌}
use native.Mathlib.Omega.{arith}
use Rattle.h264_writer.specs.RefusalPuts.{gives_nine, gives_eight, gives_none}
use Rattle.h264_writer.proofs.refusal.writable.Goals as goal

pub returns-then-greatest-eq0 : goal.returns-then-greatest-eq0
returns-then-greatest-eq0 c = (gives_nine c.args.levels.now (sym c.greatest.ensures ∙ c.if-greatest-eq0.true), λ z. omega arith)

pub returns-then-too_far : goal.returns-then-too_far
returns-then-too_far c = (gives_eight c.args.levels.now (λ z. c.if-greatest-eq0.false (c.greatest.ensures ∙ z)) (sym c.if-too_far.true ∙ c.too_far.ensures), λ z. omega arith)

pub returns : goal.returns
returns c = sym (gives_none c.args.levels.now (λ z. c.if-greatest-eq0.false (c.greatest.ensures ∙ z)) (sym c.if-too_far.false ∙ c.too_far.ensures))
