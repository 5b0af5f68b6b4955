-- What settles a sub-block's levels, and the tree of them at packed places.
use Rattle.std.specs.Prelude.{ℕ, ◌-◌, ◌/◌, ◌%◌, ◌≤◌, Bool, not, ◌&&◌, List, ◌∷◌, ℤ, ltb}
use Rattle.hevc_residual.specs.declared.params.Params.{Params}
use Rattle.hevc_residual.specs.declared.params.Rdpcm.{Rdpcm}
use Rattle.hevc_residual.specs.Wanted.{Wanted, S, inner_of, spot_in, last_of}
use Rattle.hevc_residual.specs.Head.{rdpcm_flag}
use Rattle.hevc_residual.specs.Scan.{Spot}
use Rattle.hevc_residual.specs.SubBlock.{Acc, sign_hidden, coeffs_s}
use Rattle.hevc_head_rules.specs.declared.head.Head.{Head}
use Rattle.hevc_head_rules.specs.HeadOf.{head_of}
use Rattle.hevc_places.specs.declared.places.Places.{Places}
use Rattle.hevc_rules.specs.declared.coeffs.Carry.{Carry}
use Rattle.hevc_places.specs.Packing.{unpack}

pub record Carries (c : Carry) : Type 0 where
  pub carry : c.carry ≤ 3
  pub column : c.column ≤ 31

-- ---- the small functions
-- whether the sign of the lowest place of s is not coded: nothing rules it out, highest less lowest exceeds 3
abbrev pub may_hide : Params → Bool → Rdpcm → Bool
may_hide p skip rdpcm = not p.lossless && (not (rdpcm_flag rdpcm) && not (skip && p.implicit_rdpcm))

abbrev pub is_wide : Places → Bool
is_wide s = ltb 3 (s.packed % 16 - last_of (unpack (s.packed / 16) (s.count - 1)) (s.packed % 16))

abbrev pub hides : Params → Bool → Rdpcm → Places → Bool
hides p skip rdpcm s = sign_hidden p skip rdpcm (s.packed % 16 ∷ unpack (s.packed / 16) (s.count - 1))

-- ---- all of it
-- the syntax's accumulator, of what the code has in several places
abbrev pub acc_of : Carry → List Bool → List ℤ → List ℕ → Acc
acc_of c coded levels stats =
    record { coded_sub_block = coded; greater1_ctx = c.carry; first = c.first; levels = levels; column = c.column; stats = stats }

-- the levels at the places of s, which has one at least
abbrev pub coeffs_of : Params → Head → Spot → (ℕ → Wanted → ℤ) → ℕ → Places → Acc → S Acc
coeffs_of p h at lv ctxSet s a =
    coeffs_s p (head_of h) lv (spot_in (inner_of p) at) ctxSet (s.packed % 16) (unpack (s.packed / 16) (s.count - 1)) a
