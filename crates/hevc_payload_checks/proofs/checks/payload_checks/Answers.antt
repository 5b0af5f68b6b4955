use Rattle.cabac.specs.NumberLaws.{checked_ok, checked_err}
use Rattle.hevc_payload_checks.proofs.checks.payload_checks.Goals as goal

pub returns-in-Ok : goal.returns-in-Ok
returns-in-Ok c = checked_ok _ c.in-Ok.ensures

pub returns-in-Err : goal.returns-in-Err
returns-in-Err c = (checked_err _ _ c.in-Err.ensures).0
