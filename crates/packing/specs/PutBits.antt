-- H.265's own steps of arithmetic writing (9.3.5, informative): low has ten bits, and bits that a carry may still change are outstanding.
-- What is written into is a parameter: any W, with what one bit more makes of it (WriteBits(b, 1)). PutBitsLaws proves that the bits are
-- those of Pack's interval, against which the code is proved.
use Prim.Native.Nat.{ℕ, zero, suc, ◌+◌, ◌-◌, ◌*◌, ◌/◌, ◌%◌, ◌^◌}
use Rattle.std.specs.Prelude.{Bool, set, ltb}
use Rattle.std.proofs.Math.Bool.{true, false, cond}
use mathlib.Core.List.{List, [], ◌∷◌}
use Rattle.std.proofs.Math.ListN.{get_or}
use Rattle.bins.specs.Engine.{bit_no}
use Rattle.tables.specs.Tables.{lps_of}
use Rattle.packing.specs.Pack.{Entry, of_context, of_bypass, of_align, favoured, ctx_after}

-- ---- the writer's state (9.3.5.1): ivlLow, ivlCurrRange, firstBitFlag, bitsOutstanding, and what is written so far
pub record Steps (W : Type 0) : Type 0 where
  pub low : ℕ
  pub range : ℕ
  pub first : Bool
  pub outstanding : ℕ
  pub out : W

-- with contexts, for a list of entries
pub record Stepping (W : Type 0) : Type 0 where
  pub steps : Steps W
  pub contexts : List ℕ

module _ {W : Type 0} where
  abbrev pub steps_begun : W → Steps W
  steps_begun w = record { low = 0; range = 510; first = true; outstanding = 0; out = w }

  abbrev pub at : ℕ → ℕ → Steps W → Steps W
  at low range s = record { low = low; range = range; first = s.first; outstanding = s.outstanding; out = s.out }

  abbrev pub one_more : Steps W → Steps W
  one_more s = record { low = s.low; range = s.range; first = s.first; outstanding = s.outstanding + 1; out = s.out }

  abbrev pub stepping : Steps W → List ℕ → Stepping W
  stepping s cs = record { steps = s; contexts = cs }

-- put writes one bit
module _ {W : Type 0} (put : ℕ → W → W) where
  -- the same bit n times
  unfoldable pub repeated : ℕ → ℕ → W → W
  repeated zero b w = w
  repeated (suc n) b w = repeated n b (put b w)

  -- PutBit: the first bit is not written; then the outstanding ones, each the other bit
  unfoldable pub put_bit : ℕ → Steps W → Steps W
  unfolding repeated
  put_bit b s =
      record {
        low = s.low;
        range = s.range;
        first = false;
        outstanding = 0;
        out = repeated s.outstanding (1 - b) (cond s.first s.out (put b s.out));
      }

  -- RenormE (9.3.5.3): one turn of its loop, and the loop, which ends after eight turns at most
  unfoldable pub renorm_once : Steps W → Steps W
  unfolding put_bit
  renorm_once s =
      cond (ltb s.low 256) (put_bit 0 (at (s.low * 2) (s.range * 2) s))
      (cond (ltb s.low 512) (one_more (at ((s.low - 256) * 2) (s.range * 2) s))
      (put_bit 1 (at ((s.low - 512) * 2) (s.range * 2) s)))

  unfoldable pub renorm_for : ℕ → Steps W → Steps W
  unfolding renorm_once
  renorm_for zero s = s
  renorm_for (suc k) s = cond (ltb s.range 256) (renorm_for k (renorm_once s)) s

  abbrev pub renorm_e : Steps W → Steps W
  renorm_e s = renorm_for 8 s

  -- EncodeDecision (9.3.5.2), by whether the bin is the favoured one
  unfoldable pub step_decision : Bool → ℕ → Steps W → Steps W
  unfolding renorm_for
  step_decision true ctx s = renorm_e (at s.low (s.range - lps_of ctx s.range) s)
  step_decision false ctx s = renorm_e (at (s.low + (s.range - lps_of ctx s.range)) (lps_of ctx s.range) s)

  -- EncodeBypass (9.3.5.4)
  unfoldable pub bypass_by : ℕ → Steps W → Steps W
  unfolding put_bit
  bypass_by low s =
      cond (ltb low 512) (put_bit 0 (at low s.range s))
      (cond (ltb low 1024) (one_more (at (low - 512) s.range s))
      (put_bit 1 (at (low - 1024) s.range s)))

  unfoldable pub step_bypass : Bool → Steps W → Steps W
  unfolding bypass_by
  step_bypass b s = bypass_by (s.low * 2 + bit_no b * s.range) s

  -- EncodeTerminate with bin 1, and EncodeFlush (9.3.5.5, 9.3.5.6): range 2, renormalise, a bit, and two more of which the last is 1
  unfoldable pub step_flush : Steps W → W
  unfolding renorm_for put_bit
  step_flush s =
      let f = renorm_e (at (s.low + (s.range - 2)) 2 s) in
      put 1 (put (f.low / 256 % 2) (put_bit (f.low / 512 % 2) f).out)

  -- ---- a list of entries
  unfoldable pub step_bin : ℕ → Bool → Stepping W → Stepping W
  unfolding step_decision
  step_bin c b w =
      let ctx = get_or w.contexts c 0 in
      let v = favoured ctx b in
      stepping (step_decision v ctx w.steps) (set w.contexts c (ctx_after v ctx))

  unfoldable pub step_entry : Entry → Stepping W → Stepping W
  unfolding step_bin step_bypass
  step_entry (of_context c b) w = step_bin c b w
  step_entry (of_bypass b) w = stepping (step_bypass b w.steps) w.contexts
  step_entry of_align w = stepping (at w.steps.low 256 w.steps) w.contexts

  unfoldable pub step_all : List Entry → Stepping W → Stepping W
  unfolding step_entry
  step_all [] w = w
  step_all (x ∷ l) w = step_all l (step_entry x w)

-- ---- bits as a number: the number that they make, and how many
pub record Bits : Type 0 where
  pub value : ℕ
  pub count : ℕ

abbrev pub no_bits : Bits
no_bits = record { value = 0; count = 0 }

abbrev pub wrote : ℕ → Bits → Bits
wrote b w = record { value = w.value * 2 + b; count = w.count + 1 }
