-- Where the greater1 bins begin.
use Rattle.std.specs.Prelude.{[]}
use Rattle.hevc_residual.specs.SubBlock.{Greater1}

-- no bins yet
abbrev pub none : Greater1
none = record { bins = []; greater1_ctx = 1 }
