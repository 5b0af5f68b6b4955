-- Laws of writing, for every tree: a tree and then another; and a list that is written is read back. Assumes nothing.
use Rattle.std.specs.Prelude.{ℕ, zero, suc, ◌+◌, ◌*◌, ◌%◌, ◌≡◌, refl, Bool, true, false, cond, List, [], ◌∷◌, ◌++◌, eqb}
use Rattle.std.proofs.Common.{sym, ap, ap₂, ◌∙◌, arith, eqb-true, eq-eqb, ne_eqb}
use Rattle.bins.specs.Engine.{bit_no}
use Rattle.bins.specs.Tags.{tag, bypass_no, align_tag, low, high, entry, is_entry}
use Rattle.bins.specs.Syn.{Syn, done, stop, bin, bypass, align, ◌>>=◌, Took, took, refused, Out, onward, run, pick_bin, bin_of, list_bin, list_align, by_list, Written, also, write}

-- ---- a tree and then another
-- what was written before, in front
abbrev pub behind : {A : Type 0} → List ℕ → Written A → Written A
behind l (Written.ok a m) = Written.ok a (l ++ m)
behind l (Written.no r) = Written.no r

abbrev pub then_write : {B A C : Type 0} → (A → Syn B C) → B → Written A → Written C
then_write f b (Written.ok a l) = behind l (write (f a) b)
then_write f b (Written.no r) = Written.no r

behind_nil : {A : Type 0} (o : Written A) → o ≡ behind [] o
behind_nil (Written.ok a l) = refl
behind_nil (Written.no r) = refl

also_behind : {A : Type 0} (x : ℕ) (l : List ℕ) (o : Written A) → also x (behind l o) ≡ behind (entry x l) o
unfolding also
also_behind x l (Written.ok a m) = refl
also_behind x l (Written.no r) = refl

also_then : {B A C : Type 0} (f : A → Syn B C) (b : B) (x : ℕ) (o : Written A) → also x (then_write f b o) ≡ then_write f b (also x o)
unfolding also
also_then f b x (Written.ok a l) = also_behind x l (write (f a) b)
also_then f b x (Written.no r) = refl

pub write_bind : {B A C : Type 0} (t : Syn B A) (f : A → Syn B C) (b : B) → write (t >>= f) b ≡ then_write f b (write t b)
unfolding write ◌>>=◌
write_bind (done a) f b = behind_nil (write (f a) b)
write_bind (stop r) f b = refl
write_bind (bin c w k) f b = ap (also (tag c (w b))) (write_bind (k (w b)) f b) ∙ also_then f b (tag c (w b)) (write (k (w b)) b)
write_bind (bypass w k) f b = ap (also (tag bypass_no (w b))) (write_bind (k (w b)) f b) ∙ also_then f b (tag bypass_no (w b)) (write (k (w b)) b)
write_bind (align t) f b = ap (also align_tag) (write_bind t f b) ∙ also_then f b align_tag (write t b)

-- ---- a list that is written is read back, with what follows it left over
pub entry_is : (t : ℕ) → is_entry (low t) (high t) t ≡ true
unfolding is_entry
entry_is t = rw (eq-eqb (low t) (low t) refl, eq-eqb (high t) (high t) refl)

pub entry_not : (x y t : ℕ) → (x ≡ low t → ⊥) → is_entry x y t ≡ false
unfolding is_entry
entry_not x y t h = rw (ne_eqb x (low t) h)

pub tag_picks : {A : Type 0} (c : ℕ) (b : Bool) (none : A) (k : Bool → A) → bin_of c (low (tag c b)) (high (tag c b)) none k ≡ k b
unfolding bin_of pick_bin
tag_picks c false none k = rw (entry_is (2 * c + 0))
tag_picks c true none k =
    rw (entry_not (low (2 * c + 1)) (high (2 * c + 1)) (2 * c + 0) (λ q. omega arith), entry_is (2 * c + 1))

pub also_ok : {A : Type 0} (x : ℕ) (o : Written A) (a : A) (l : List ℕ) → also x o ≡ Written.ok a l
    → (l' : List ℕ) × (o ≡ Written.ok a l') × (l ≡ entry x l')
unfolding also
also_ok x (Written.ok a' l') a l q = (l', cc, cc)
also_ok x (Written.no r) a l q = let z : ◌≡◌ {A = ℕ} 0 1 = cc in absurd (omega arith)

pub written_read : {B A : Type 0} (t : Syn B A) (w : B) (a : A) (l r : List ℕ)
    → write t w ≡ Written.ok a l → run by_list t (l ++ r) ≡ Out.ok a r
unfolding run write by_list list_bin list_align
written_read (done a') w a l r q =
    let e : l ≡ [] = cc in
    let f : a' ≡ a = cc in
    ap₂ Out.ok f (ap (λ z. z ++ r) e)
written_read (stop n) w a l r q = let z : ◌≡◌ {A = ℕ} 0 1 = cc in absurd (omega arith)
written_read (bin c v k) w a l r q =
    let s = also_ok (tag c (v w)) (write (k (v w)) w) a l q in
    rw s.2 (ap (λ (t : Took (List ℕ)). onward t (entry (tag c (v w)) (s.0 ++ r)) (λ b m. run by_list (k b) m)) (tag_picks c (v w) (refused 13) (λ b. took b (s.0 ++ r)))
    ∙ unfold onward in written_read (k (v w)) w a s.0 r s.1)
written_read (bypass v k) w a l r q =
    let s = also_ok (tag bypass_no (v w)) (write (k (v w)) w) a l q in
    rw s.2 (ap (λ (t : Took (List ℕ)). onward t (entry (tag bypass_no (v w)) (s.0 ++ r)) (λ b m. run by_list (k b) m)) (tag_picks bypass_no (v w) (refused 13) (λ b. took b (s.0 ++ r)))
    ∙ unfold onward in written_read (k (v w)) w a s.0 r s.1)
written_read (align t) w a l r q =
    let s = also_ok align_tag (write t w) a l q in
    rw (s.2, entry_is align_tag) (unfold onward in written_read t w a s.0 r s.1)
