use mathlib.Core.Path.{refl}
use native.Mathlib.Omega.{arith}
use Rattle.hevc_scans.specs.PairLaws.{one_wide, begins_self, widened_orders}
use Rattle.hevc_scans.proofs.orders.outer_order.Goals as goal

pub returns-in-2 : goal.returns-in-2
returns-in-2 c = one_wide c.args.log2 c.args.scan _ c.in-2.is refl

pub returns-in-3 : goal.returns-in-3
returns-in-3 c = let a = c.args in let h = c.requires in widened_orders 1 a.scan (omega arith) h.2 c.two_wide.result c.widened.result a.log2 c.in-3.is c.two_wide.ensures c.widened.ensures

pub returns-in-4 : goal.returns-in-4
returns-in-4 c = let a = c.args in let h = c.requires in widened_orders 2 a.scan (omega arith) h.2 c.inner_order.result c.widened-in-4.result a.log2 c.in-4.is c.inner_order.ensures c.widened-in-4.ensures

pub returns-in_default : goal.returns-in_default
returns-in_default c = let a = c.args in let h = c.requires in let r = c.eight_wide.result in widened_orders 3 a.scan (omega arith) h.2 r r a.log2 (omega arith) c.eight_wide.ensures (begins_self r)
