use mathlib.Core.Path.{sym, ◌∙◌}
use borrow.Author.Tests.{ltb-false}
use Rattle.payload_source.proofs.payload.keep.Goals as goal

-- `keep` meets its contract. Assumes nothing.
pub overflow_sub-result : goal.overflow_sub-result
overflow_sub-result c = ltb-false _ _ (sym c.requires ∙ c.if-whole.false)

pub returns-else-whole : goal.returns-else-whole
returns-else-whole c = rw c.if-whole.false
