use Rattle.std.specs.Prelude.{Err}
use mathlib.Core.Path.{refl, sym, ◌∙◌}
use Rattle.h264_packer.specs.EntryCode.{refused_first, refused_list, packable, is_packed}
use Rattle.h264_packer.specs.Promise.{promised}
use Rattle.h264_packer.proofs.entries.pack_bins.Goals as goal

pub pack_list-requires : goal.pack_list-requires
pack_list-requires c =
    let a = c.args in
    let pass = sym c.if-a-ne0.false ∙ c.contexts_refusal-a.ensures in
    let k = packable a.contexts.now a.list.now a.room.now pass c.read_bins.result c.read_bins.new.block c.read_bins.ensures (sym c.is_err.ensures.value ∙ c.if-is_err.false) in
    (k.0, refl, c.decision_table-table.ensures, k.1)

pub returns : goal.returns
returns c =
    let a = c.args in
    let pass = sym c.if-a-ne0.false ∙ c.contexts_refusal-a.ensures in
    promised a.contexts.now a.list.now a.room.now c.pack_list.result c.pack_list.new.room (is_packed a.contexts.now a.list.now a.room.now pass c.read_bins.result c.read_bins.new.block c.read_bins.ensures (sym c.is_err.ensures.value ∙ c.if-is_err.false) _ c.pack_list.ensures)

pub returns-then-a-ne0 : goal.returns-then-a-ne0
returns-then-a-ne0 c =
    let a = c.args in
    promised a.contexts.now a.list.now a.room.now (Err c.contexts_refusal-a.result) a.room.now (refused_first a.contexts.now a.list.now a.room.now c.contexts_refusal-a.result c.contexts_refusal-a.ensures c.if-a-ne0.true)

pub returns-then-is_err : goal.returns-then-is_err
returns-then-is_err c =
    let a = c.args in
    let pass = sym c.if-a-ne0.false ∙ c.contexts_refusal-a.ensures in
    promised a.contexts.now a.list.now a.room.now (Err 13) a.room.now (refused_list a.contexts.now a.list.now a.room.now pass c.read_bins.result c.read_bins.new.block c.read_bins.ensures (sym c.is_err.ensures.value ∙ c.if-is_err.true))
