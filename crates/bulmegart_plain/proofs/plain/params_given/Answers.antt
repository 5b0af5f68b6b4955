use mathlib.Core.Path.{refl}
use Rattle.bulmegart_plain.proofs.plain.params_given.Goals as goal

pub returns : goal.returns
returns c = rw (c.flag_byte.ensures, c.flag_byte-2.ensures, c.flag_byte-3.ensures, c.flag_byte-4.ensures, c.flag_byte-5.ensures, c.flag_byte-6.ensures, c.flag_byte-7.ensures, c.flag_byte-8.ensures, c.flag_byte-9.ensures, c.flag_byte-10.ensures, c.flag_byte-11.ensures) refl
