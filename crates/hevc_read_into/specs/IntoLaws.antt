-- The places that a reading clears, and each way out of it. Assumes nothing.
use Rattle.std.specs.Prelude.{ℕ, ◌≡◌, refl, Bool, List, ◌++◌, ℤ, pos, length, take, drop, replicate, true, false, is_err, Result, Ok, Err}
use Rattle.std.proofs.Common.{sym, ap, subst, ◌∙◌, arith}
use Rattle.std.proofs.lemmas.List.{length-replicate}
use Rattle.std.proofs.Math.Seq.{take-append_seam, drop-append_seam}
use Rattle.bins.specs.declared.state.Refusal.{Refusal}
use Rattle.bins.specs.declared.state.Interval.{Interval}
use Rattle.hevc_residual.specs.declared.params.Params.{Params}
use Rattle.hevc_residual.specs.Wanted.{area}
use Rattle.hevc_residual.specs.Entries.{block_with, cleared}
use Rattle.hevc_block.specs.declared.block.Blocked.{Blocked}
use Rattle.hevc_block.specs.BlockAgree.{SaysBlock}
use Rattle.hevc_read_into.specs.IntoAgree.{SaysInto}

-- ---- places cleared
-- the front and the rest of a lent block
module _ (n : ℕ) (front rest : List ℤ) (h : length front ≡ n) where
  front_of : take n (front ++ rest) ≡ front
  front_of = subst (λ k. take k (front ++ rest) ≡ front) h (take-append_seam front rest)

  rest_of : drop n (front ++ rest) ≡ rest
  rest_of = subst (λ k. drop k (front ++ rest) ≡ rest) h (drop-append_seam front rest)

-- block is the lent one, zeros the one cleared, read the one with levels in its front
module _ (p : Params) (n : ℕ) (q : n ≡ area p) (block zeros : List ℤ) (c : zeros ≡ replicate n (pos 0) ++ drop n block) where
  pub front_zeros : take n zeros ≡ replicate (area p) (pos 0)
  front_zeros = ap (λ (l : List ℤ). take n l) c ∙ front_of n (replicate n (pos 0)) (drop n block) (length-replicate n (pos 0)) ∙ ap (λ k. replicate k (pos 0)) q

  pub front_room : n ≡ length (take n zeros)
  front_room = sym (ap (λ (l : List ℤ). length l) front_zeros ∙ length-replicate (area p) (pos 0) ∙ sym q)

  rest_same : drop n zeros ≡ drop (area p) block
  rest_same = ap (λ (l : List ℤ). drop n l) c ∙ rest_of n (replicate n (pos 0)) (drop n block) (length-replicate n (pos 0)) ∙ ap (λ k. drop k block) q

  pub read_with : (levels : List ℤ) → levels ++ drop n zeros ≡ block_with p levels block
  read_with levels = ap (λ (l : List ℤ). levels ++ l) rest_same

pub cleared_again : (p : Params) (n : ℕ) → n ≡ area p → (block levels now last : List ℤ) → length levels ≡ area p → now ≡ block_with p levels block
    → last ≡ replicate n (pos 0) ++ drop n now → last ≡ cleared p block
cleared_again p n q block levels now last h e c =
    let d : drop n now ≡ drop (area p) block = ap (λ (l : List ℤ). drop n l) e ∙ rest_of n levels (drop (area p) block) (h ∙ sym q) in
    c ∙ ap (λ (l : List ℤ). replicate n (pos 0) ++ l) d ∙ ap (λ k. replicate k (pos 0) ++ drop (area p) block) q

-- ---- a block into the front of a lent one
module _ (p : Params) (list : Bool) (l : List ℕ) (x : Interval) (cs stats : List ℕ) (block : List ℤ) (cs' : List ℕ) (levels : List ℤ) (stats' : List ℕ) (h : length levels ≡ area p) where
  pub into_got : (r : Result Blocked Refusal) → SaysBlock p list l x cs stats r cs' levels stats' → is_err r ≡ false
      → (block' : List ℤ) → block' ≡ block_with p levels block → SaysInto p list l x cs stats block r cs' stats' block'
  into_got (Ok b) s q block' e = (levels, h, e, s)
  into_got (Err n) s q block' e = let z : ◌≡◌ {A = ℕ} 0 1 = cc in absurd (omega arith)

  pub into_refused : (r : Result Blocked Refusal) → SaysBlock p list l x cs stats r cs' levels stats' → is_err r ≡ true
      → (block' : List ℤ) → block' ≡ cleared p block → SaysInto p list l x cs stats block r cs stats block'
  into_refused (Ok b) s q block' e = let z : ◌≡◌ {A = ℕ} 0 1 = cc in absurd (omega arith)
  into_refused (Err n) s q block' e = (s, refl, refl, e)
