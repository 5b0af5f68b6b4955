-- A line and what is left behind it, in a buffer of n bytes.
use Rattle.std.specs.Prelude.{ℕ, ◌≤◌}
use Rattle.text.specs.declared.lines.Line.{Line}
use Rattle.text.specs.declared.lines.Line.TheVariants as line

abbrev pub Lies : ℕ → Line → Type 0
Lies n (line.Is from to left) = (from ≤ to) × (to ≤ left.from) × (left.from ≤ left.to) × (left.to ≤ n)
Lies n line.Ended = Unit {0}
Lies n line.TooLong = Unit {0}
