use borrow.Author.Rules.{rules}
use borrow.Rule.Slice.PartMut.{same_len_mid}
use Prim.Native.Nat.{ℕ, ◌+◌, ◌-◌, ◌≤◌}
use mathlib.Core.Path.{◌≡◌, sym, ap, subst, ◌∙◌}
use mathlib.Core.List.{List, ◌++◌}
use native.Mathlib.Omega.{arith}
use lib.ListN.{length, set, take, drop}
use Rattle.hevc_residual.specs.declared.params.Params.{Params}
use Rattle.hevc_residual.specs.Wanted.{area}
use Rattle.hevc_tray.proofs.TrayCode.{Walking, walk_begins, walk_ends, next_accepted, next_room, next_checks, walk_refused, walk_on, read_number}
use Rattle.hevc_tray_reader.proofs.entries.read_blocks.Goals as goal
use Rattle.hevc_tray.proofs.TrayCode.{Walking, walk_begins, walk_ends, next_accepted, next_room, next_checks, walk_refused, walk_on, read_number}

pub loop-i-init : goal.loop-i-init
loop-i-init c =
    walk_begins c.args.bytes.now c.args.e c.args.contexts.now c.args.stats.now c.args.records.now c.args.levels.now c.args.found.now
    c.requires

pub area_of-requires : goal.area_of-requires
area_of-requires c =
    let a = next_accepted c.args.bytes.now c.args.e c.args.contexts.now c.args.stats.now
    c.args.records.now c.args.levels.now c.args.found.now c.loop-i.i c.loop-i.at c.loop-i.state c.loop-i.contexts c.loop-i.stats
    c.loop-i.levels c.loop-i.found c.loop-i.invariant (omega arith) in
    subst (λ (z : Params). (2 ≤ z.log2) × (z.log2 ≤ 5)) (sym c.params_of-p.ensures) (a.least, a.most)

pub overflow_add-end : goal.overflow_add-end
overflow_add-end c =
    let h : c.loop-i.at + c.area_of.result ≤ length c.args.levels.now = omega (
      arith,
      next_room c.args.bytes.now c.args.e c.args.contexts.now c.args.stats.now c.args.records.now c.args.levels.now
          c.args.found.now c.loop-i.i c.loop-i.at c.loop-i.state c.loop-i.contexts c.loop-i.stats c.loop-i.levels c.loop-i.found c.loop-i.invariant (omega arith),
      c.loop-i.invariant.long,
      (c.area_of.ensures ∙ ap (λ (z : Params). area z) c.params_of-p.ensures),
    ) in
    search rules

pub offset_bounds-levels-at : goal.offset_bounds-levels-at
offset_bounds-levels-at c =
    let h : c.loop-i.at ≤ length c.args.levels.now = omega (arith, c.loop-i.invariant.fits, c.loop-i.invariant.long) in
    search rules

pub slice_bounds-read_checked-count : goal.slice_bounds-read_checked-count
slice_bounds-read_checked-count c = omega arith

pub slice_bounds-read_checked-start : goal.slice_bounds-read_checked-start
slice_bounds-read_checked-start c =
    let h : c.loop-i.at ≤ c.loop-i.at + c.area_of.result = omega arith in
    h

pub slice_bounds-read_checked-end : goal.slice_bounds-read_checked-end
slice_bounds-read_checked-end c =
    let h : c.loop-i.at + c.area_of.result ≤ length c.loop-i.levels = omega (
      arith,
      next_room c.args.bytes.now c.args.e c.args.contexts.now c.args.stats.now c.args.records.now c.args.levels.now
          c.args.found.now c.loop-i.i c.loop-i.at c.loop-i.state c.loop-i.contexts c.loop-i.stats c.loop-i.levels c.loop-i.found c.loop-i.invariant (omega arith),
      c.loop-i.invariant.long,
      (c.area_of.ensures ∙ ap (λ (z : Params). area z) c.params_of-p.ensures),
    ) in
    h

pub read_checked-r-requires : goal.read_checked-r-requires
read_checked-r-requires c = (
  c.decision_table-table.ensures,
  next_checks c.args.bytes.now c.args.e c.args.contexts.now c.args.stats.now c.args.records.now
      c.args.levels.now c.args.found.now c.loop-i.i c.loop-i.at c.loop-i.state c.loop-i.contexts c.loop-i.stats c.loop-i.levels c.loop-i.found c.loop-i.invariant (omega arith)
      c.params_of-p.result c.params_of-p.ensures (c.loop-i.at + c.area_of.result - c.loop-i.at)
      ((let z : c.loop-i.at + c.area_of.result - c.loop-i.at ≡ c.area_of.result = omega arith in z) ∙
      (c.area_of.ensures ∙ ap (λ (z : Params). area z) c.params_of-p.ensures)),
)

pub shape_of-found-in_default : goal.shape_of-found-in_default
shape_of-found-in_default c = c.loop-i.invariant.many

pub returns-in_default : goal.returns-in_default
returns-in_default c =
    walk_refused c.args.bytes.now c.args.e c.args.contexts.now c.args.stats.now c.args.records.now c.args.levels.now c.args.found.now
    c.loop-i.i c.loop-i.at c.loop-i.state c.loop-i.contexts c.loop-i.stats c.loop-i.levels c.loop-i.found c.loop-i.invariant (omega arith) c.params_of-p.result c.params_of-p.ensures
    (c.loop-i.at + c.area_of.result - c.loop-i.at) ((let z : c.loop-i.at + c.area_of.result - c.loop-i.at ≡ c.area_of.result = omega arith in z) ∙
    (c.area_of.ensures ∙ ap (λ (z : Params). area z) c.params_of-p.ensures)) c.read_checked-r.result c.read_checked-r.new.contexts
    c.read_checked-r.new.stats c.read_checked-r.new.block c.read_checked-r.ensures c.read_refusal.result
    (read_number c.read_checked-r.result _ c.read_refusal.result c.in_default.is c.read_refusal.ensures) c.requires

pub offset_bounds-found-i : goal.offset_bounds-found-i
offset_bounds-found-i c = omega (arith, c.loop-i.invariant.count)

pub bounds-found-i : goal.bounds-found-i
bounds-found-i c = omega (arith, c.loop-i.invariant.rooms, c.loop-i.invariant.many)

pub loop-i-preserved : goal.loop-i-preserved
loop-i-preserved c =
    let w = walk_on c.args.bytes.now c.args.e c.args.contexts.now c.args.stats.now c.args.records.now c.args.levels.now
    c.args.found.now c.loop-i.i c.loop-i.at c.loop-i.state c.loop-i.contexts c.loop-i.stats c.loop-i.levels c.loop-i.found c.loop-i.invariant (omega arith) c.params_of-p.result
    c.params_of-p.ensures (c.loop-i.at + c.area_of.result - c.loop-i.at)
    ((let z : c.loop-i.at + c.area_of.result - c.loop-i.at ≡ c.area_of.result = omega arith in z) ∙
    (c.area_of.ensures ∙ ap (λ (z : Params). area z) c.params_of-p.ensures)) c.read_checked-r.result c.read_checked-r.new.contexts
    c.read_checked-r.new.stats c.read_checked-r.new.block c.read_checked-r.ensures c.in-Ok.b.found c.in-Ok.b.state c.in-Ok.is in
    let m : c.loop-i.at + (c.loop-i.at + c.area_of.result - c.loop-i.at) ≡ c.loop-i.at + c.area_of.result = omega arith in
    subst (λ (k : ℕ). Walking c.args.bytes.now c.args.e c.args.contexts.now c.args.stats.now c.args.records.now c.args.levels.now
    c.args.found.now (c.loop-i.i + 1) k c.in-Ok.b.state c.read_checked-r.new.contexts c.read_checked-r.new.stats
    (take c.loop-i.at c.loop-i.levels ++ (c.read_checked-r.new.block ++ drop (c.loop-i.at + c.area_of.result - c.loop-i.at) (drop c.loop-i.at c.loop-i.levels)))
    (set c.loop-i.found c.loop-i.i c.row_of.result)) m
    (subst (λ (v : List ℕ). Walking c.args.bytes.now c.args.e c.args.contexts.now c.args.stats.now c.args.records.now c.args.levels.now
    c.args.found.now (c.loop-i.i + 1) (c.loop-i.at + (c.loop-i.at + c.area_of.result - c.loop-i.at)) c.in-Ok.b.state c.read_checked-r.new.contexts
    c.read_checked-r.new.stats
    (take c.loop-i.at c.loop-i.levels ++ (c.read_checked-r.new.block ++ drop (c.loop-i.at + c.area_of.result - c.loop-i.at) (drop c.loop-i.at c.loop-i.levels)))
    (set c.loop-i.found c.loop-i.i v)) (sym c.row_of.ensures) w)

pub shape_of-levels : goal.shape_of-levels
shape_of-levels c = c.loop-i.invariant.long

pub shape_of-found : goal.shape_of-found
shape_of-found c = c.loop-i.invariant.many

pub returns : goal.returns
returns c =
    let e : length c.args.records.now ≡ c.loop-i.i = omega arith in
    rw e (walk_ends c.args.bytes.now c.args.e c.args.contexts.now c.args.stats.now c.args.records.now c.args.levels.now c.args.found.now
    c.loop-i.i c.loop-i.at c.loop-i.state c.loop-i.contexts c.loop-i.stats c.loop-i.levels c.loop-i.found c.loop-i.invariant (omega arith) c.requires)

pub shape_of-levels-in_default : goal.shape_of-levels-in_default
shape_of-levels-in_default c =
    same_len_mid c.loop-i.at (c.loop-i.at + c.area_of.result - c.loop-i.at) c.loop-i.levels c.read_checked-r.new.block
    c.read_checked-r.auto.block ∙ c.loop-i.invariant.long
