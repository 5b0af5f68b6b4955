use Rattle.h264_block.specs.EntryLaws.{block_passed}
use Rattle.bins.specs.declared.state.Interval.{Interval}
use lib.ListN.{replicate}
use Prim.Native.Nat.{ℕ}
use mathlib.Core.List.{List}
use mathlib.Core.Path.{refl, sym, ◌∙◌}
use native.Mathlib.Omega.{arith}
use Rattle.h264_reader.specs.EntriesLaws.{zeros_packed, bins_no, bins_refused, bins_over, bins_got}
use Rattle.h264_reader.proofs.entries.read_bins.Goals as goal

abbrev front : Interval
front = record { range = 256; offset = 0; position = record { 0 = 0 } }

abbrev zeros : List ℕ
zeros = replicate 40 0

pub returns-then-n-ne0 : goal.returns-then-n-ne0
returns-then-n-ne0 c =
    let a = c.args in
    bins_no a.bytes.now a.block.now c.block_refusal-n.result c.block_refusal-n.ensures c.if-n-ne0.true

pub read_into-requires : goal.read_into-requires
read_into-requires c =
    let a = c.args in
    ((omega arith, zeros_packed 40), block_passed a.block.now (sym c.if-n-ne0.false ∙ c.block_refusal-n.ensures))

pub returns-in-Err : goal.returns-in-Err
returns-in-Err c =
    let a = c.args in
    bins_refused a.bytes.now a.block.now (sym c.if-n-ne0.false ∙ c.block_refusal-n.ensures) front refl zeros c.read_into.result c.read_into.new.contexts
    c.read_into.new.block c.read_into.ensures _ c.in-Err.is

pub clear-requires : goal.clear-requires
clear-requires c =
    let a = c.args in
    omega (arith, block_passed a.block.now (sym c.if-n-ne0.false ∙ c.block_refusal-n.ensures))

pub returns-then-at-bytes : goal.returns-then-at-bytes
returns-then-at-bytes c =
    let a = c.args in
    bins_over a.bytes.now a.block.now (sym c.if-n-ne0.false ∙ c.block_refusal-n.ensures) front refl zeros c.read_into.result c.read_into.new.contexts
    c.read_into.new.block c.read_into.ensures _ _ c.in-Ok.is (omega arith, zeros_packed 40) c.if-at-bytes.true
    c.clear.new.block c.clear.ensures

pub returns-else-at-bytes : goal.returns-else-at-bytes
returns-else-at-bytes c =
    let a = c.args in
    bins_got a.bytes.now a.block.now (sym c.if-n-ne0.false ∙ c.block_refusal-n.ensures) front refl zeros c.read_into.result c.read_into.new.contexts
    c.read_into.new.block c.read_into.ensures _ _ c.in-Ok.is c.if-at-bytes.false
