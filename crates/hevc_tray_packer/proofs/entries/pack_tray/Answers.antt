use Rattle.std.specs.Prelude.{Err}
use Rattle.cabac.specs.NumberLaws.{checked_ok, checked_err}
use Rattle.hevc_tray_packer.specs.EntryCode.{passed, refused_first, refused_lists, packable, is_packed}
use Rattle.hevc_tray_packer.specs.Promise.{promised}
use mathlib.Core.Path.{refl}
use borrow.Author.Rules.{rules}
use Rattle.hevc_tray_packer.proofs.entries.pack_tray.Goals as goal

pub returns-in-Err : goal.returns-in-Err
returns-in-Err c = let a = c.args in let k = checked_err _ _ c.in-Err.ensures in promised a.contexts.now a.stats.now a.records.now a.list.now a.room.now _ 0 (Err _) a.room.now refl (refused_first a.contexts.now a.stats.now a.records.now a.list.now a.room.now _ k.0 k.1)

pub read_lists-read-requires : goal.read_lists-read-requires
read_lists-read-requires c = let a = c.args in let pass = checked_ok _ c.in_default.ensures in let k = passed a.contexts.now a.stats.now a.records.now pass in (k.records, k.small)

pub pack_from-requires : goal.pack_from-requires
pack_from-requires c = let a = c.args in let pass = checked_ok _ c.in_default.ensures in let k = packable a.contexts.now a.stats.now a.records.now a.list.now a.room.now pass c.read_lists-read.result c.read_lists-read.ensures c.if-read.true in (k.0, search rules, k.1)

pub returns-then-read : goal.returns-then-read
returns-then-read c = let a = c.args in let pass = checked_ok _ c.in_default.ensures in promised a.contexts.now a.stats.now a.records.now a.list.now a.room.now _ c.read_lists-read.result.done c.pack_from.result c.pack_from.new.room refl (is_packed a.contexts.now a.stats.now a.records.now a.list.now a.room.now pass c.read_lists-read.result c.read_lists-read.ensures c.if-read.true c.pack_from.result c.pack_from.new.room c.pack_from.ensures)

pub returns : goal.returns
returns c = let a = c.args in let pass = checked_ok _ c.in_default.ensures in promised a.contexts.now a.stats.now a.records.now a.list.now a.room.now _ c.read_lists-read.result.done (Err 13) a.room.now refl (refused_lists a.contexts.now a.stats.now a.records.now a.list.now a.room.now pass c.read_lists-read.result c.read_lists-read.ensures c.if-read.false)
