-- A step of either source, as the code takes it by a Bool. Assumes nothing.
use Rattle.std.specs.Prelude.{ℕ, ◌+◌, ◌*◌, ◌/◌, ◌%◌, ◌^◌, ◌≤◌, ◌<◌, Bool, List, length, Ok}
use Rattle.std.proofs.Math.Path.{◌≡◌, refl, ap}
use Rattle.std.proofs.Common.{sym, ◌∙◌, arith, lt-ltb, le-ltb}
use Rattle.std.proofs.Math.Bool.{true, false}
use Rattle.std.proofs.Math.Nat.{mod-eq_of_lt, div-eq_of_lt}
use Rattle.bins.specs.declared.state.Interval.{Interval}
use Rattle.bins.specs.declared.state.Taken.{Taken}
use Rattle.bins.specs.Tags.{bypass_no}
use Rattle.bins.specs.Interval.{place_of, ran_on, Goes, fetched_on, decided_on, decided_value, bypassed_on}
use Rattle.bins.specs.IntervalLaws.{bypassed_lt}
use Rattle.bins.specs.CodeLaws.{bit_of}
use Rattle.bins.specs.Bits.{bits}
use Rattle.bins.specs.BitLaws.{bits_lt}
use Rattle.bins.specs.Readers.{bits_s}
use Rattle.bins.specs.Syn.{run}
use Rattle.bins.specs.Sources.{step_of, step_of_bits, entry_bin, entry_align, bin_from, context_from, bypass_from, align_from, entries_on, bits_from, Readable, Step, got, stopped, refused_at}

module _ (l : List ℕ) (x : Interval) where
  pub readable_list : (s : Bool) → s ≡ true → Readable s l x → place_of x ≤ length l
  readable_list true q h = h
  readable_list false q h = let z : ◌≡◌ {A = ℕ} 0 1 = cc in absurd (omega arith)

  pub readable_goes : (s : Bool) → s ≡ false → Readable s l x → Goes l x
  readable_goes true q h = let z : ◌≡◌ {A = ℕ} 0 1 = cc in absurd (omega arith)
  readable_goes false q h = h

  -- ---- a bin with a context
  pub bin_listed : (s : Bool) (c ctx : ℕ) (r : Step) → s ≡ true → r ≡ step_of x (entry_bin l c x)
      → (r ≡ step_of x (bin_from s l c ctx x)) × (ctx ≡ context_from s l ctx x)
  unfolding bin_from context_from
  bin_listed true c ctx r q h = (h, refl)
  bin_listed false c ctx r q h = let z : ◌≡◌ {A = ℕ} 0 1 = cc in absurd (omega arith)

  pub bin_decided : (s : Bool) (c ctx n : ℕ) (t : Taken) → s ≡ false → t ≡ decided_value l x ctx → n ≡ (decided_on l x ctx).ctx
      → (Ok t ≡ step_of x (bin_from s l c ctx x)) × (n ≡ context_from s l ctx x)
  unfolding bin_from context_from
  bin_decided true c ctx n t q h k = let z : ◌≡◌ {A = ℕ} 0 1 = cc in absurd (omega arith)
  bin_decided false c ctx n t q h k = (ap (λ (t : Taken). Ok t) h, k)

  -- ---- a bypass bin
  pub bypass_listed : (s : Bool) (r : Step) → s ≡ true → r ≡ step_of x (entry_bin l bypass_no x) → r ≡ step_of x (bypass_from s l x)
  unfolding bypass_from
  bypass_listed true r q h = h
  bypass_listed false r q h = let z : ◌≡◌ {A = ℕ} 0 1 = cc in absurd (omega arith)

  pub bypass_taken : (s : Bool) (t : Taken) → s ≡ false → Readable s l x → t ≡ bypassed_on l x 1 → Ok t ≡ step_of x (bypass_from s l x)
  unfolding bypass_from
  bypass_taken true t q g h = let z : ◌≡◌ {A = ℕ} 0 1 = cc in absurd (omega arith)
  bypass_taken false t q g h =
      ap (λ (t : Taken). Ok t) h
      ∙ ap (λ v. got v (bypassed_on l x 1).next) (sym (bit_of (bypassed_on l x 1).value (bypassed_lt l x 1 g)))

  -- ---- several
  -- none: nothing is read
  pub no_bits : (s : Bool) (n : ℕ) → n ≡ 0 → Readable s l x → got 0 x ≡ step_of_bits (bits_from s l n x)
  unfolding bits_from entries_on bypassed_on fetched_on bits_s run
  no_bits true n e h = rw e refl
  no_bits false n e h =
      let z : x.offset * 2 ^ 0 + bits l (place_of x) 0 ≡ x.offset = omega (arith, bits_lt l (place_of x) 0) in
      let v : (x.offset * 2 ^ 0 + bits l (place_of x) 0) / x.range ≡ 0 = ap (λ (k : ℕ). k / x.range) z ∙ div-eq_of_lt h.below in
      let o : (x.offset * 2 ^ 0 + bits l (place_of x) 0) % x.range ≡ x.offset = ap (λ (k : ℕ). k % x.range) z ∙ mod-eq_of_lt h.below in
      let p : place_of x ≡ ran_on l (place_of x) 0 = omega (arith, h.fits) in
      rw e
      (ap (λ (k : ℕ). got 0 (record { range = x.range; offset = x.offset; position = record { 0 = k } })) p
      ∙ ap (λ (k : ℕ). got 0 (record { range = x.range; offset = k; position = record { 0 = ran_on l (place_of x) 0 } })) (sym o)
      ∙ ap (λ (k : ℕ). got k (record { range = x.range; offset = (x.offset * 2 ^ 0 + bits l (place_of x) 0) % x.range; position = record { 0 = ran_on l (place_of x) 0 } })) (sym v))

  pub bits_listed : (s : Bool) (n : ℕ) (r : Step) → s ≡ true → r ≡ step_of_bits (entries_on l n 0 x) → r ≡ step_of_bits (bits_from s l n x)
  unfolding bits_from
  bits_listed true n r q h = h
  bits_listed false n r q h = let z : ◌≡◌ {A = ℕ} 0 1 = cc in absurd (omega arith)

  pub bits_taken : (s : Bool) (n : ℕ) (t : Taken) → s ≡ false → t ≡ bypassed_on l x n → Ok t ≡ step_of_bits (bits_from s l n x)
  unfolding bits_from
  bits_taken true n t q h = let z : ◌≡◌ {A = ℕ} 0 1 = cc in absurd (omega arith)
  bits_taken false n t q h = ap (λ (t : Taken). Ok t) h

  -- ---- alignment of the range
  pub align_listed : (s : Bool) (r : Step) → s ≡ true → r ≡ step_of x (entry_align l x) → r ≡ step_of x (align_from s l x)
  unfolding align_from
  align_listed true r q h = h
  align_listed false r q h = let z : ◌≡◌ {A = ℕ} 0 1 = cc in absurd (omega arith)

  pub align_refused : (s : Bool) → s ≡ false → 256 ≤ x.offset → stopped (refused_at 7 x) ≡ step_of x (align_from s l x)
  unfolding align_from
  align_refused true q h = let z : ◌≡◌ {A = ℕ} 0 1 = cc in absurd (omega arith)
  align_refused false q h = rw (le-ltb x.offset 256 h)

  pub align_taken : (s : Bool) → s ≡ false → x.offset < 256
      → got 0 (record { range = 256; offset = x.offset; position = x.position }) ≡ step_of x (align_from s l x)
  unfolding align_from
  align_taken true q h = let z : ◌≡◌ {A = ℕ} 0 1 = cc in absurd (omega arith)
  align_taken false q h = rw (lt-ltb x.offset 256 h)
