use Rattle.hevc_summary.specs.ReadLaws.{list_came_got, list_came_is}
use Rattle.hevc_kept_checks.proofs.checks.list_came.Goals as goal

pub returns-in-Ok : goal.returns-in-Ok
returns-in-Ok c = list_came_got c.args.r _ c.in-Ok.is

pub returns-in-Err : goal.returns-in-Err
returns-in-Err c = list_came_is c.args.r _ c.in-Err.is
