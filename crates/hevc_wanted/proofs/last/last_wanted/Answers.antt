use native.Mathlib.Omega.{arith}
use Rattle.hevc_wanted.specs.LastLaws.{looking_begins, looking_on, looking_found, looking_ends}
use Rattle.hevc_wanted.proofs.last.last_wanted.Goals as goal

pub grid-i-requires : goal.grid-i-requires
grid-i-requires c = let a = c.requires.2 in (a.least, a.most)

pub loop-i-init : goal.loop-i-init
loop-i-init c = looking_begins c.args.p c.args.block.now c.grid-i.result c.requires.2 c.grid-i.ensures.0

pub corner_at-c-requires : goal.corner_at-c-requires
corner_at-c-requires c = (c.requires.1, c.requires.2, omega (arith, c.loop-i.invariant.few, c.loop-i.auto.i))

pub places_at-s-requires : goal.places_at-s-requires
places_at-s-requires c = (c.requires.0, c.corner_at-c.ensures.0, c.requires.3)

pub place_in-requires : goal.place_in-requires
place_in-requires c = (c.requires.0, c.corner_at-c.ensures.0, omega arith)

pub returns-then-s-gt0 : goal.returns-then-s-gt0
returns-then-s-gt0 c =
    let a = c.args in (
      looking_found a.p a.block.now c.loop-i.i c.loop-i.invariant (omega arith) c.corner_at-c.result.xs c.corner_at-c.result.ys c.corner_at-c.ensures.1 c.places_at-s.result.packed
          c.places_at-s.result.count c.places_at-s.ensures.1 (omega arith) c.place_in.result c.place_in.ensures.0,
      c.place_in.ensures.1,
    )

pub loop-i-preserved : goal.loop-i-preserved
loop-i-preserved c =
    let a = c.args in
    looking_on a.p a.block.now c.loop-i.i c.loop-i.invariant (omega arith) c.corner_at-c.result.xs c.corner_at-c.result.ys c.corner_at-c.ensures.1 c.places_at-s.result.packed
    c.places_at-s.result.count c.places_at-s.ensures.1 (omega arith)

pub returns : goal.returns
returns c = looking_ends c.args.p c.args.block.now c.loop-i.i c.requires.2 c.loop-i.invariant (omega arith)
