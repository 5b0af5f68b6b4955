-- Places cleared one after the other. Assumes nothing.
use Rattle.std.specs.Prelude.{ℕ, zero, suc, ◌+◌, ◌<◌, ◌≡◌, refl, List, ◌∷◌, ◌++◌, ℤ, pos, length, get_or, set, drop, replicate}
use Rattle.std.proofs.Common.{ap, subst, ◌∙◌, add-one, drop-cons}
use Rattle.std.proofs.lemmas.List.{length-replicate}
use Rattle.std.proofs.Math.Seq.{set-append_seam}

again : {A : Type 0} (i : ℕ) (a : A) (l : List A) → replicate i a ++ (a ∷ l) ≡ a ∷ (replicate i a ++ l)
again zero a l = refl
again (suc i) a l = ap (λ (r : List _). a ∷ r) (again i a l)

pub clear_more : (b now : List ℤ) (i : ℕ) → i < length b → now ≡ replicate i (pos 0) ++ drop i b → set now i (pos 0) ≡ replicate (i + 1) (pos 0) ++ drop (i + 1) b
clear_more b now i h q =
    let z = pos 0 in
    let y = get_or b i z in
    let r = drop (suc i) b in
    let d : drop i b ≡ y ∷ r = drop-cons b i z h in
    let e : now ≡ replicate i z ++ (y ∷ r) = q ∙ ap (λ (t : List ℤ). replicate i z ++ t) d in
    let s : set (replicate i z ++ (y ∷ r)) i z ≡ replicate i z ++ (z ∷ r) =
    subst (λ k. set (replicate i z ++ (y ∷ r)) k z ≡ replicate i z ++ (z ∷ r)) (length-replicate i z) (set-append_seam (replicate i z) y r z) in
    let t : set now i z ≡ replicate (suc i) z ++ r = ap (λ (t : List ℤ). set t i z) e ∙ s ∙ again i z r in
    rw (add-one i) t
