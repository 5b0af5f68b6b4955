-- Laws of a frame of H.264, as the code meets them. Assumes nothing.
use Prim.Native.Nat.{ℕ, zero, suc, ◌+◌, ◌-◌, ◌*◌, ◌≤◌, ◌<◌}
use Rattle.std.proofs.Common.{arith, subst, ◌∙◌, length-set, take_all, get_or-take, get_or-set_same, get_or-set_other, to_z, of_z, le-leb, lt-ltb, le-ltb, leb-true, ltb-true, ltb-false, eqb-true}
use Rattle.std.specs.Prelude.{◌≡◌, Bool, true, false, cond, ◌&&◌, leb, ltb, eqb, drop, set, ℤ, pos, ◌-ℤ◌, Result, Ok, Err, Some, None}
use Rattle.std.proofs.Math.Path.{refl, sym, ap}
use mathlib.Core.List.{List, [], ◌∷◌, map}
use Rattle.std.proofs.Math.ListN.{length, take, get_or, length-take, length-drop, get_or-map}
use Rattle.std.proofs.lemmas.List.{length-map}
use Rattle.trees.specs.Levels.{signed}
use Rattle.std.proofs.Math.Seq.{ext_get_or, get_or-drop}
use Rattle.std.specs.Int.{w8, w32}
use Rattle.std.proofs.lemmas.Bool.{lt-leb, eqb-false}
use Rattle.tables.specs.Table.{le_below}
use Rattle.bins.specs.declared.state.Engine.{Engine}
use Rattle.cabac.specs.Numbers.{accepted, refused, Answer}
use Rattle.cabac.specs.Entries.{start, state_says}
use Rattle.level_sizes.specs.SignLaws.{minus_is, plus_is}
use Rattle.h264_block.specs.Contexts.{within, initial_all, all_within, pairs_refusal, contexts_after}
use Rattle.h264_contexts.specs.PairLaws.{pairs_fine}
use Rattle.h264_block.specs.Entries.{PayloadRead, read_payload}
use Rattle.h264_reader.specs.EntriesAgree.{Read, payload_read}
use Rattle.h264_frame.specs.Frame.{payload_of, byte_of, formed, byte_signed, pairs_of, no_levels, Shown, read_of, read_from, started_read, started_levels, shown, levels_of, zigzag}

-- ---- the form
pub tail_is : (bytes : List ℕ) → take (length bytes - 83) (drop 83 bytes) ≡ payload_of bytes
tail_is bytes = take_all (length bytes - 83) (drop 83 bytes) (omega (arith, length-drop 83 bytes))

pub formed_short : (bytes : List ℕ) → length bytes < 83 → false ≡ formed bytes
unfolding formed
formed_short bytes h = rw (lt-leb 83 (length bytes) h)

pub formed_long : (bytes : List ℕ) (n : ℕ) → 83 ≤ length bytes → n ≡ 256 * byte_of bytes 1 + byte_of bytes 2 → eqb (length bytes) (83 + n) ≡ formed bytes
unfolding formed
formed_long bytes n h e = rw (le-leb 83 (length bytes) h, e)

pub formed_front : (bytes : List ℕ) → true ≡ formed bytes → 83 ≤ length bytes
unfolding formed
formed_front bytes q = go (leb 83 (length bytes)) refl q
  where
    go : (a : Bool) → leb 83 (length bytes) ≡ a → true ≡ (a && eqb (length bytes) (83 + (256 * byte_of bytes 1 + byte_of bytes 2))) → 83 ≤ length bytes
    go true e q = leb-true 83 (length bytes) e
    go false e q = let z : ◌≡◌ {A = ℕ} 0 1 = cc in absurd (omega arith)

-- ---- a byte as two's complement has it
pub byte_plus : (b : ℕ) → b < 128 → to_z w32 b ≡ byte_signed b
unfolding byte_signed
byte_plus b h = rw (lt-ltb b 128 h) (plus_is false b refl (omega arith))

pub byte_minus : (b : ℕ) → 128 ≤ b → to_z w32 (of_z w32 (pos 0 -ℤ to_z w32 (256 - b))) ≡ byte_signed b
unfolding byte_signed
byte_minus b h = rw (le-ltb b 128 h) (minus_is true (256 - b) refl (omega arith))

pub byte_is : (b : ℕ) → b < 256 → to_z w8 b ≡ byte_signed b
unfolding byte_signed
byte_is b h = go (ltb b 128) refl
  where
    go : (d : Bool) → ltb b 128 ≡ d → to_z w8 b ≡ cond d (signed false b) (signed true (256 - b))
    go true e = rw e refl
    go false e = let k : 256 - b ≡ suc (256 - suc b) = omega (arith, ltb-false b 128 e) in rw (e, k) refl

-- ---- the pairs: those of the first i bytes are there
pub record Paired (bytes : List ℕ) (i : ℕ) (out : List ℤ) : Type 0 where
  pub few : i ≤ 80
  pub many : length out ≡ 80
  pub made : (j : ℕ) → j < i → get_or out j (pos 0) ≡ byte_signed (get_or bytes (3 + j) 0)

pub paired_none : (bytes : List ℕ) (out : List ℤ) → length out ≡ 80 → Paired bytes 0 out
paired_none bytes out h = record { few = omega arith; many = h; made = λ j l. absurd (omega arith) }

module _ (bytes : List ℕ) (i : ℕ) (out : List ℤ) (h : Paired bytes i out) where
  pub paired_again : (v : ℤ) → v ≡ byte_signed (get_or bytes (3 + i) 0) → i < 80 → Paired bytes (i + 1) (set out i v)
  paired_again v e k = record { few = omega arith; many = length-set out i v ∙ h.many; made = λ j l. go j l (eqb j i) refl }
    where
      go : (j : ℕ) → j < i + 1 → (d : Bool) → eqb j i ≡ d → get_or (set out i v) j (pos 0) ≡ byte_signed (get_or bytes (3 + j) 0)
      go j l true u =
          subst (λ k. get_or (set out i v) k (pos 0) ≡ byte_signed (get_or bytes (3 + k) 0)) (sym (eqb-true j i u))
          (get_or-set_same out i v (pos 0) (omega (arith, h.many)) ∙ e)
      go j l false u = let d = eqb-false j i u in get_or-set_other out i j v (pos 0) d ∙ h.made j (omega (arith, d))

  pub paired_all : 80 ≤ i → 83 ≤ length bytes → out ≡ pairs_of bytes
  unfolding pairs_of byte_signed
  paired_all g long =
      let l : List ℕ = take 80 (drop 3 bytes) in
      let n : length l ≡ 80 = length-take 80 (drop 3 bytes) ∙ (omega (arith, length-drop 3 bytes)) in
      ext_get_or (pos 0) out (map byte_signed l) (h.many ∙ sym (length-map l byte_signed ∙ n))
      (λ j k. h.made j (omega (arith, h.many)) ∙ ap byte_signed (sym (get_or-take 80 (drop 3 bytes) j 0 (omega (arith, h.many)) ∙ get_or-drop 3 bytes j 0)) ∙ sym (at j))
    where
      at : (j : ℕ) → get_or (map byte_signed (take 80 (drop 3 bytes))) j (pos 0) ≡ byte_signed (get_or (take 80 (drop 3 bytes)) j 0)
      at j = get_or-map byte_signed (take 80 (drop 3 bytes)) j 0

-- a byte makes no number outside −128 to 127: the pairs of a frame are never refused
below_within : (m : ℕ) → m ≤ 128 → within (signed true m) ≡ true
unfolding within
below_within zero h = refl
below_within (suc m) h = lt-ltb m 128 (omega arith)

signed_within : (b : ℕ) → within (byte_signed b) ≡ true
unfolding within byte_signed
signed_within b = go (ltb b 128) refl
  where
    go : (d : Bool) → ltb b 128 ≡ d → within (cond d (signed false b) (signed true (256 - b))) ≡ true
    go true e = lt-ltb b 128 (ltb-true b 128 e)
    go false e = below_within (256 - b) (omega (arith, ltb-false b 128 e))

all_within_lem : (l : List ℕ) → all_within (map byte_signed l) ≡ true
unfolding all_within
all_within_lem [] = refl
all_within_lem (b ∷ l) = rw (signed_within b) (all_within_lem l)

pub pairs_accepted : (bytes : List ℕ) → 83 ≤ length bytes → 0 ≡ pairs_refusal (pairs_of bytes)
unfolding pairs_of
pairs_accepted bytes h =
    let l : List ℕ = take 80 (drop 3 bytes) in
    let n : length l ≡ 80 = length-take 80 (drop 3 bytes) ∙ (omega (arith, length-drop 3 bytes)) in
    pairs_fine (map byte_signed l) (length-map l byte_signed ∙ n) (all_within_lem l)

contexts_zero : (n : ℕ) (cs : List ℕ) (pairs : List ℤ) (q : ℕ) → n ≡ 0 → contexts_after n cs pairs q ≡ initial_all q pairs
unfolding contexts_after
contexts_zero n cs pairs q z = ap (λ (x : ℕ). contexts_after x cs pairs q) z

-- ---- the block: what the reader's call is handed, and what it answers
module _ (bytes cs cs' cs'' : List ℕ) (b'' ps : List ℤ) (n : ℕ) (e : Engine) (h : 83 ≤ length bytes)
    (g : ps ≡ pairs_of bytes) (i : n ≡ pairs_refusal ps) (j : cs' ≡ contexts_after n cs ps (byte_of bytes 0))
    (P : List ℕ) (w : P ≡ payload_of bytes) (b : List ℤ) (v : b ≡ no_levels) where
  zero_is : n ≡ 0
  zero_is = i ∙ ap pairs_refusal g ∙ sym (pairs_accepted bytes h)

  handed : (r : Read) → payload_read r cs'' b'' ≡ read_payload P e cs' b → payload_read r cs'' b'' ≡ read_from bytes e
  handed r q =
      q
      ∙ ap (λ (x : List ℤ). read_payload P e cs' x) v
      ∙ ap (λ (x : List ℕ). read_payload x e cs' no_levels) w
      ∙ ap (λ (x : List ℕ). read_payload (payload_of bytes) e x no_levels) (j ∙ contexts_zero n cs ps (byte_of bytes 0) zero_is ∙ ap (initial_all (byte_of bytes 0)) g)

  says : (r : Read) → payload_read r cs'' b'' ≡ read_payload P e cs' b → read_of (payload_read r cs'' b'').answer ≡ started_read bytes (accepted e)
  unfolding started_read
  says r q = ap (λ (x : PayloadRead). read_of x.answer) (handed r q)

  leaves : (r : Read) → payload_read r cs'' b'' ≡ read_payload P e cs' b → b'' ≡ started_levels bytes (accepted e)
  unfolding started_levels
  leaves r q = block_of r ∙ ap (λ (x : PayloadRead). x.block) (handed r q)
    where
      block_of : (r : Read) → b'' ≡ (payload_read r cs'' b'').block
      block_of (Ok f) = refl
      block_of (Err n) = refl

  pub read_is : (r : Read) → payload_read r cs'' b'' ≡ read_payload P e cs' b → (r ≡ started_read bytes (accepted e)) × (b'' ≡ started_levels bytes (accepted e))
  unfolding read_of
  read_is r q = (as_read r ∙ says r q, leaves r q)
    where
      as_read : (r : Read) → r ≡ read_of (payload_read r cs'' b'').answer
      as_read (Ok f) = refl
      as_read (Err n) = refl

-- ---- the answer
module _ (bytes : List ℕ) where
  pub no_frame : false ≡ formed bytes → (None ≡ shown bytes) × (no_levels ≡ levels_of bytes)
  unfolding shown levels_of
  no_frame q = (rw (sym q), rw (sym q))

  module _ (q : true ≡ formed bytes) (s : Result Engine ℕ) (t : state_says s ≡ start (payload_of bytes)) where
    pub frame_ready : (e : Engine) (v : Read) (b : List ℤ) → s ≡ Ok e → v ≡ started_read bytes (accepted e) → b ≡ started_levels bytes (accepted e)
        → (Some v ≡ shown bytes) × (b ≡ levels_of bytes)
    unfolding shown levels_of
    frame_ready e v b r x y =
        let a : accepted e ≡ start (payload_of bytes) = ap state_says (sym r) ∙ t in
        (rw (sym q) (ap Some (x ∙ ap (started_read bytes) a)), rw (sym q) (y ∙ ap (started_levels bytes) a))

    pub frame_refused : (n : ℕ) → s ≡ Err n → ◌≡◌ {A = Shown} (Some (Err n)) (shown bytes) × (no_levels ≡ levels_of bytes)
    unfolding shown levels_of started_read started_levels
    frame_refused n r =
        let a : refused n ≡ start (payload_of bytes) = ap state_says (sym r) ∙ t in
        (rw (sym q) (ap (λ (x : Answer Engine). Some (started_read bytes x)) a), rw (sym q) (ap (started_levels bytes) a))

-- ---- the zig-zag scan
pub zigzag_few : (k : ℕ) → k < 16 → get_or zigzag k 0 ≤ 15
zigzag_few k h = le_below (λ i. get_or zigzag i 0) (λ i. 15) 16 tt k h
