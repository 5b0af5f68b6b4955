use mathlib.Core.Path.{sym, ap, ◌∙◌}
use native.Mathlib.Omega.{arith}
use borrow.Author.Rules.{rules}
use Rattle.tables.specs.Table.{le_below}
use Prim.Native.Nat.{◌^◌}
use Rattle.hevc_reached.specs.Reading.{end_of}
use Rattle.hevc_reached.specs.ReadingLaws.{says_end}
use Rattle.hevc_reached.proofs.entries.read_to_end.Goals as goal

pub read_into-r-requires : goal.read_into-r-requires
read_into-r-requires c =
    let h = c.requires in
    (h.0, search rules, h.1, le_below (λ k. 4 ^ k) (λ _. 1024) 6 tt c.args.p.log2 (omega (arith, h.1.most)), h.2)

pub returns-in-Ok : goal.returns-in-Ok
returns-in-Ok c = let a = c.args in sym (ap end_of c.in-Ok.is) ∙ says_end a.p a.bytes.now a.x a.contexts.now a.stats.now _ c.read_into-r.result _ _ _ c.read_into-r.ensures

pub returns-in-Err : goal.returns-in-Err
returns-in-Err c = let a = c.args in sym (ap end_of c.in-Err.is) ∙ says_end a.p a.bytes.now a.x a.contexts.now a.stats.now _ c.read_into-r.result _ _ _ c.read_into-r.ensures
