-- Contexts: what an initial value makes of one (H.265 9.3.2.2).
use Rattle.std.specs.Prelude.{ℕ, zero, suc, ◌+◌, ◌-◌, ◌*◌, ◌/◌, ◌%◌, min, max, List, map, cond, leb}

-- m·q, m = 5·(v div 16) − 45, raised by 16·144 to be a natural number: it is never under −45·51
unfoldable pub slope_raised : ℕ → ℕ → ℕ
slope_raised v q = 5 * (v / 16) * q + 16 * 144 - 45 * q

-- p = floor(m·q/16) + b, b = 8·(v mod 16) − 16, raised by 144 + 16
unfoldable pub pre_raised : ℕ → ℕ → ℕ
pre_raised v q = slope_raised v q / 16 + 8 * (v % 16)

-- held to 1..126, with the 160 taken off
abbrev pub held : ℕ → ℕ
held p = min 126 (max 1 (p - 160))

-- p ≥ 64 packs as p, else as 63 − p: the favoured bin is in bit 6
abbrev pub packed : ℕ → ℕ
packed p = cond (leb 64 p) p (63 - p)

-- the packed context of an initial value v at a quantiser q, which counts as 51 above 51
unfoldable pub initial : ℕ → ℕ → ℕ
initial v q = packed (held (pre_raised v (min q 51)))

unfoldable pub initial_all : ℕ → List ℕ → List ℕ
initial_all q values = map (λ v. initial v q) values
