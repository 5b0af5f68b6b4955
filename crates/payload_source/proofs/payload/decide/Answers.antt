use Prim.Native.Nat.{ℕ, ◌+◌, ◌*◌, ◌/◌, ◌%◌}
use mathlib.Core.Path.{ap}
use mathlib.Core.List.{List}
use lib.ListN.{get_or}
use Rattle.payload_source.proofs.payload.decide.Goals as goal

pub decide_by-requires : goal.decide_by-requires
decide_by-requires c =
    let a = c.args in
    let h = c.requires in
    (h.0, h.1, ap (λ (t : List ℕ). get_or t (a.c.now * 4 + a.x.range / 64 % 4) 0) h.2)
