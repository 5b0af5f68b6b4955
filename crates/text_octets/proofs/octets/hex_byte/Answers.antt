use Rattle.text_fields.specs.SpelledLaws.{digit_small, octet_high, octet_low, octet_both}
use mathlib.Core.Path.{◌∙◌}
use Rattle.text_octets.proofs.octets.hex_byte.Goals as goal

pub returns-in_err-h : goal.returns-in_err-h
returns-in_err-h c = c.from_residual.ensures ∙ octet_high _ _ _ c.hex_digit.ensures c.in_err-h.was

pub returns-in_err-l : goal.returns-in_err-l
returns-in_err-l c = c.from_residual-in_err-l.ensures ∙ octet_low _ _ _ _ _ c.hex_digit.ensures c.hex_digit-2.ensures c.in_ok-h.was c.in_err-l.was

pub joined-requires : goal.joined-requires
joined-requires c = (
  digit_small _ _ _ c.hex_digit.ensures c.in_ok-h.was,
  digit_small _ _ _ c.hex_digit-2.ensures c.in_ok-l.was,
)

pub returns : goal.returns
returns c =
    octet_both _ _ _ _ _ _ _ c.hex_digit.ensures c.hex_digit-2.ensures c.in_ok-h.was
    c.in_ok-l.was c.joined.ensures
