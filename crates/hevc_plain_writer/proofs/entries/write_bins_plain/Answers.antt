use mathlib.Core.Path.{sym, ◌∙◌}
use Rattle.std.proofs.lemmas.Result.{err_from_is_err_and}
use Rattle.cabac.specs.NumberLaws.{checked_ok, checked_err}
use Rattle.hevc_plain_checks.specs.PlainCode.{write_first, write_left_lem}
use Rattle.hevc_plain_writer.proofs.entries.write_bins_plain.Goals as goal

pub returns-in_err-passed : goal.returns-in_err-passed
returns-in_err-passed c =
    let a = c.args in
    let p = err_from_is_err_and c.from_residual.result c.from_residual.ensures.1 in
    let k = checked_err _ _ c.in_err-passed.ensures in
    let q = k.0 ∙ c.plain_checks.ensures in
    rw (p.1, p.2) (write_first a.p a.stats.now a.block.now a.skip a.rdpcm a.room.now _ q k.1, λ z. absurd (k.1 (q ∙ sym z)))

pub returns : goal.returns
returns c =
    let a = c.args in (
      write_left_lem a.p a.stats.now a.block.now a.skip a.rdpcm a.room.now
          (checked_ok _ c.in_ok-passed.ensures ∙ c.plain_checks.ensures) _ c.write_bins.ensures.0,
      λ z. c.write_bins.ensures.1,
    )
