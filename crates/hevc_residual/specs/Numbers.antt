-- Document 01's numbers that an entry point gives for what it is handed with a block.
use Rattle.std.specs.Prelude.{ℕ, List, [], ◌∷◌, Bool, ◌&&◌, cond, length, ltb, leb, ℤ}
use Rattle.cabac.specs.Numbers.{◌or_else◌, context_refusal}
unfoldable pub use Rattle.trees.specs.Lent.{contexts_refusal, room_refusal}
use Rattle.hevc_residual.specs.declared.params.Params.{Params}
use Rattle.hevc_residual.specs.Wanted.{area}

-- 4: log2 size 2 to 5, scan 0 to 2, bit depth 8 to 16, at least n·n places in the block
unfoldable pub within_limits : Params → List ℤ → Bool
within_limits p block =
    leb 2 p.log2
    && (leb p.log2 5 && (leb p.scan 2 && (leb 8 p.depth && (leb p.depth 16 && leb (area p) (length block)))))

unfoldable pub parameter_refusal : Params → List ℤ → ℕ
parameter_refusal p block = cond (within_limits p block) 0 4

-- 3: a statistic above 84
unfoldable pub statistic_refusal : ℕ → ℕ
statistic_refusal s = cond (ltb 84 s) 3 0

unfoldable pub statistics_refusal : List ℕ → ℕ
statistics_refusal [] = 0
statistics_refusal (s ∷ stats) = statistic_refusal s or_else statistics_refusal stats
