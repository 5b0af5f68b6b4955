use Rattle.hevc_tray_packer.specs.ListCode.{own_few, own_places, own_count, list_got, list_no_lem}
use Rattle.hevc_residual.specs.LimitLaws.{parameter_passed}
use Rattle.hevc_packer.specs.Entries.{places}
use Rattle.hevc_checks.specs.ChecksLaws.{zeros_packed}
use lib.ListN.{replicate}
use Rattle.bins.specs.Tags.{context_count}
use Rattle.hevc_tray_packer.proofs.lists.one_list.Goals as goal

pub area_of-n-requires : goal.area_of-n-requires
area_of-n-requires c = let s = (parameter_passed c.args.p places c.requires.1).0 in (s.least, s.most)

pub slice_bounds-block-end : goal.slice_bounds-block-end
slice_bounds-block-end c = let a = c.args in let h = c.requires in own_few a.p h.1 c.area_of-n.result c.area_of-n.ensures

pub slice_bounds-read_block-end : goal.slice_bounds-read_block-end
slice_bounds-read_block-end c = let a = c.args in let h = c.requires in own_count a.p h.1 c.area_of-n.result c.area_of-n.ensures

pub read_block-r-requires : goal.read_block-r-requires
read_block-r-requires c = let a = c.args in let h = c.requires in ((h.3, zeros_packed context_count), h.0, (parameter_passed a.p places h.1).0, own_places a.p h.1 c.area_of-n.result c.area_of-n.ensures, h.2)

pub returns-in-Err : goal.returns-in-Err
returns-in-Err c = let a = c.args in let h = c.requires in list_no_lem a.p a.list.now (record { range = 256; offset = 0; position = record { 0 = a.at } }) (replicate context_count 0) a.stats.now c.read_block-r.result c.read_block-r.new.contexts c.read_block-r.new.block c.read_block-r.new.stats c.read_block-r.ensures.2 _ c.in-Err.is c.read_block-r.new.stats

pub returns-in-Ok : goal.returns-in-Ok
returns-in-Ok c = let a = c.args in let h = c.requires in list_got a.p a.list.now (record { range = 256; offset = 0; position = record { 0 = a.at } }) (replicate context_count 0) a.stats.now c.read_block-r.result c.read_block-r.new.contexts c.read_block-r.new.block c.read_block-r.new.stats c.read_block-r.ensures.2 (h.3, zeros_packed context_count) c.read_block-r.ensures.1 _ c.in-Ok.is
