-- Escapes: the parts of a remainder's tree that have a function of their own in the code.
use Rattle.std.specs.Prelude.{ℕ, ◌+◌, ◌-◌, true, false, cond, eqb}
use Rattle.hevc_residual.specs.declared.params.Params.{Params}
use Rattle.hevc_residual.specs.Wanted.{Wanted, S}
use Rattle.hevc_residual.specs.Remainder.{log2_transform_range, egk_s, limited_s}

-- how many bits follow n ones in the limited form
abbrev pub escape_length : ℕ → ℕ → ℕ → ℕ
escape_length T k n = cond (eqb n (28 - T)) T (n + k)

-- what follows four ones
abbrev pub escape_s : Params → ℕ → (Wanted → ℕ) → S ℕ
escape_s p k v = elim p.extended [ true ↦ limited_s (log2_transform_range p) k v | false ↦ egk_s k v ]
