-- A whole tray packed: the lists of several blocks one after the other, contexts and statistics carried on, one payload, one flush.
-- Beyond the paper's request (i), by its own definition: the blocks of a tray are one tree, so that nothing is new but the tree.
use Rattle.std.specs.Prelude.{ℕ, List, [], ◌∷◌, cond, length, ltb}
use Rattle.bins.specs.Syn.{Syn, done, ◌>>=◌}
use Rattle.cabac.specs.Numbers.{◌or_else◌}
use Rattle.hevc_residual.specs.declared.params.Params.{Params}
use Rattle.hevc_residual.specs.Wanted.{Wanted}
use Rattle.hevc_residual.specs.Residual.{Block, residual}
use Rattle.hevc_residual.specs.Numbers.{parameter_refusal, contexts_refusal, statistics_refusal}
use Rattle.packing.specs.Entries.{BinsPacked, pack_tree}
use Rattle.hevc_packer.specs.Entries.{places}

-- block after block; the statistics go from one to the next
unfoldable pub blocks_s : List Params → List ℕ → Syn Wanted (List Block)
unfolding ◌>>=◌ residual
blocks_s [] stats = done []
blocks_s (p ∷ ps) stats = residual p stats >>= λ b. (blocks_s ps b.stats >>= λ bs. done (b ∷ bs))

-- 4: more than 256 records, as a tray has; or one out of its limits
unfoldable pub count_refusal : List Params → ℕ
count_refusal ps = cond (ltb 256 (length ps)) 4 0

unfoldable pub records_refusal : List Params → ℕ
records_refusal [] = 0
records_refusal (p ∷ ps) = parameter_refusal p places or_else records_refusal ps

abbrev pub tray_checks : List ℕ → List ℕ → List Params → ℕ
tray_checks contexts stats ps = count_refusal ps or_else records_refusal ps or_else contexts_refusal contexts or_else statistics_refusal stats

-- bins: the lists one after the other. 4, 3, 13, 12
unfoldable pub pack_tray : List ℕ → List ℕ → List Params → List ℕ → List ℕ → BinsPacked
pack_tray contexts stats ps bins room = pack_tree (tray_checks contexts stats ps) (blocks_s ps stats) contexts bins room
