use mathlib.Core.Path.{sym, subst}
use Prim.Native.Nat.{ℕ, ◌+◌, ◌<◌, ◌≤◌}
use native.Mathlib.Omega.{arith}
use Rattle.bins.specs.StepLaws.{passed_on}
use Rattle.hevc_rules.specs.DueLaws.{based_least, based_most}
use Rattle.hevc_residual.specs.LimitLaws.{range_small}
use Rattle.hevc_levels.specs.LevelLaws.{remainder_most, level_refused, level_out, in_most, level_got}
use Rattle.hevc_levels.specs.StoredLaws.{place_few, keeps_stored}
use Rattle.hevc_levels.proofs.levels.one_level.Goals as goal

pub returns-in_err-v : goal.returns-in_err-v
returns-in_err-v c =
    let a = c.args in
    let h = c.requires in
    rw (passed_on c.from_residual.result _ c.from_residual.ensures.1)
    (h.3, level_refused a.p a.xs a.ys a.list a.bytes.now a.greater2 a.signs a.g a.x a.block.now h.2 h.5 h.6 c.base_of-d.result.level c.base_of-d.result.more c.base_of-d.ensures c.extra.result c.extra.ensures _ c.in_err-v.was, tt)

pub overflow_add-m : goal.overflow_add-m
overflow_add-m c =
    let a = c.args in
    let h = c.requires in
    omega (arith, based_most c.base_of-d.result.level c.base_of-d.result.more a.g.mask a.g.bins a.g.seen a.greater2 c.base_of-d.ensures, remainder_most a.p a.xs a.ys a.list a.bytes.now a.greater2 a.signs a.g a.x a.block.now h.2 h.5 h.6 c.base_of-d.result.level c.base_of-d.result.more c.base_of-d.ensures c.extra.result c.extra.ensures c.in_ok-v.field-0.value c.in_ok-v.field-0.next c.in_ok-v.was)

pub overflow_add-sum : goal.overflow_add-sum
overflow_add-sum c =
    let a = c.args in
    let h = c.requires in
    omega (arith, based_most c.base_of-d.result.level c.base_of-d.result.more a.g.mask a.g.bins a.g.seen a.greater2 c.base_of-d.ensures, remainder_most a.p a.xs a.ys a.list a.bytes.now a.greater2 a.signs a.g a.x a.block.now h.2 h.5 h.6 c.base_of-d.result.level c.base_of-d.result.more c.base_of-d.ensures c.extra.result c.extra.ensures c.in_ok-v.field-0.value c.in_ok-v.field-0.next c.in_ok-v.was, c.requires.5.sum)

pub in_range-requires : goal.in_range-requires
in_range-requires c = subst (λ (t : ℕ). t ≤ 22) (sym c.requires.4) (range_small c.args.p c.requires.2.depth)

pub returns-then-not-in_range : goal.returns-then-not-in_range
returns-then-not-in_range c =
    let a = c.args in
    let h = c.requires in
    (h.3, level_out a.p a.xs a.ys a.list a.bytes.now a.greater2 a.signs a.g a.x a.block.now h.2 h.5 h.6 c.base_of-d.result.level c.base_of-d.result.more c.base_of-d.ensures c.extra.result c.extra.ensures c.in_ok-v.field-0.value c.in_ok-v.field-0.next c.in_ok-v.was a.t c.is_negative-negative.result c.in_range.result h.4 c.is_negative-negative.ensures c.in_range.ensures c.if-not-in_range.true, tt)

pub is_free-free-requires : goal.is_free-free-requires
is_free-free-requires c = subst (λ (n : ℕ). c.cell_of-cell.result.at < n) (sym c.requires.3) c.cell_of-cell.ensures.in_block

pub store-requires : goal.store-requires
store-requires c =
    let a = c.args in
    let h = c.requires in
    (subst (λ (n : ℕ). c.cell_of-cell.result.at < n) (sym c.requires.3) c.cell_of-cell.ensures.in_block, in_most a.p a.xs a.ys a.list a.bytes.now a.greater2 a.signs a.g a.x a.block.now h.2 h.5 h.6 c.base_of-d.result.level c.base_of-d.result.more c.base_of-d.ensures c.extra.result c.extra.ensures c.in_ok-v.field-0.value c.in_ok-v.field-0.next c.in_ok-v.was a.t c.is_negative-negative.result c.in_range.result h.4 c.is_negative-negative.ensures c.in_range.ensures c.if-not-in_range.false)

pub overflow_cast-place : goal.overflow_cast-place
overflow_cast-place c = omega (arith, place_few c.args.p c.cell_of-cell.result.at c.requires.2.most c.cell_of-cell.ensures.in_block)

pub behind-requires : goal.behind-requires
behind-requires c =
    let a = c.args in
    let h = c.requires in
    (h.5, h.6, remainder_most a.p a.xs a.ys a.list a.bytes.now a.greater2 a.signs a.g a.x a.block.now h.2 h.5 h.6 c.base_of-d.result.level c.base_of-d.result.more c.base_of-d.ensures c.extra.result c.extra.ensures c.in_ok-v.field-0.value c.in_ok-v.field-0.next c.in_ok-v.was)

pub returns : goal.returns
returns c =
    let a = c.args in
    let h = c.requires in
    let m = level_got a.p a.xs a.ys a.list a.bytes.now a.greater2 a.signs a.g a.x a.block.now h.2 h.5 h.6 c.base_of-d.result.level c.base_of-d.result.more c.base_of-d.ensures c.extra.result c.extra.ensures c.in_ok-v.field-0.value c.in_ok-v.field-0.next c.in_ok-v.was a.t c.is_negative-negative.result c.in_range.result h.4 c.is_negative-negative.ensures c.in_range.ensures c.if-not-in_range.false c.cell_of-cell.result.column c.cell_of-cell.result.at c.cell_of-cell.ensures c.behind.result c.behind.ensures c.store.new.block c.store.ensures h.3 h.0 c.stored_behind.result in (
      m.0,
      m.1,
      keeps_stored a.p a.k a.block.now h.7 c.cell_of-cell.result.at (subst (λ (n : ℕ). c.cell_of-cell.result.at < n) (sym c.requires.3) c.cell_of-cell.ensures.in_block) c.is_negative-negative.result (c.base_of-d.result.level + c.in_ok-v.field-0.value) (omega (arith, based_least c.base_of-d.result.level c.base_of-d.result.more a.g.mask a.g.bins a.g.seen a.greater2 c.base_of-d.ensures)) c.is_free-free.result c.is_free-free.ensures c.stored_behind.result c.stored_behind.ensures c.store.new.block c.store.ensures,
    )
