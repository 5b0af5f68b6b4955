-- What the entry points that pack HEVC's lists answer and leave in the room, for everything that they can be handed (request (i)).
-- 4, 3, then 13 where the bin reader refuses the list by 8 or 13, then 12 exactly if the payload is longer than the room; after a refusal the room is as it was.
use Rattle.std.specs.Prelude.{ℕ, List, replicate, ℤ, pos}
use Rattle.cabac.specs.Numbers.{◌or_else◌}
use Rattle.hevc_residual.specs.declared.params.Params.{Params}
use Rattle.hevc_residual.specs.Residual.{residual}
use Rattle.hevc_residual.specs.Numbers.{parameter_refusal, contexts_refusal, statistics_refusal}
use Rattle.hevc_cross.specs.Scale.{scale}
use Rattle.hevc_cross.specs.Entries.{component_refusal}
use Rattle.packing.specs.Entries.{BinsPacked, pack_tree}

-- no block is handed in: the list is read into places of its own, enough for each size
abbrev pub places : List ℤ
places = replicate 1024 (pos 0)

abbrev pub pack_checks : List ℕ → List ℕ → Params → ℕ
pack_checks contexts stats p = parameter_refusal p places or_else contexts_refusal contexts or_else statistics_refusal stats

-- a block's list
unfoldable pub pack_bins : List ℕ → List ℕ → Params → List ℕ → List ℕ → BinsPacked
pack_bins contexts stats p bins room = pack_tree (pack_checks contexts stats p) (residual p stats) contexts bins room

-- a scale's list: 4, 3, 13, 12
abbrev pub scale_checks : List ℕ → ℕ → ℕ
scale_checks contexts c = component_refusal c or_else contexts_refusal contexts

unfoldable pub pack_scale : List ℕ → ℕ → List ℕ → List ℕ → BinsPacked
pack_scale contexts c bins room = pack_tree (scale_checks contexts c) (scale c) contexts bins room
