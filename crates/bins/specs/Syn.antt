-- Syntax as a tree: what is read next, by what was read before. A source of bins reads it.
use Rattle.std.specs.Prelude.{ℕ, ◌+◌, ◌*◌, ◌≤◌, List, [], ◌∷◌, Bool, true, false, cond, get_or, set, ltb, leb}
use Rattle.bins.specs.declared.state.Engine.{Engine}
use Rattle.bins.specs.Engine.{decided, bypassed, range_aligned}
use Rattle.bins.specs.Tags.{tag, bypass_no, align_tag, entry, is_entry}

-- A is what is read, B what a writer wants read: with each bin stands what it is where B is written.
pub data Syn (B A : Type 0) : Type 0 where
  done : A → Syn B A  -- the answer
  stop : ℕ → Syn B A  -- a refusal, by its number
  bin : ℕ → (B → Bool) → (Bool → Syn B A) → Syn B A  -- a bin with a context, by its number
  bypass : (B → Bool) → (Bool → Syn B A) → Syn B A  -- a bypass bin
  align : Syn B A → Syn B A  -- the range becomes 256

infixl 30 ◌>>=◌
unfoldable pub ◌>>=◌ : {B A C : Type 0} → Syn B A → (A → Syn B C) → Syn B C
done a >>= f = f a
stop r >>= f = stop r
bin c w k >>= f = bin c w (λ b. k b >>= f)
bypass w k >>= f = bypass w (λ b. k b >>= f)
align t >>= f = align (t >>= f)

-- ---- a source of bins: what each step gives from a state of the source
-- a bin and the state behind it, or a refusal
pub data Took (S : Type 0) : Type 0 where
  took : Bool → S → Took S
  refused : ℕ → Took S

pub record Source (S : Type 0) : Type 0 where
  pub on_bin : ℕ → S → Took S
  pub on_bypass : S → Took S
  pub on_align : S → Took S  -- its bin is not looked at

-- what a reading comes to: the answer with the state behind it, or the refusal with the state at which it arose
pub data Out (S A : Type 0) : Type 0 where
  ok : A → S → Out S A
  no : ℕ → S → Out S A

unfoldable pub onward : {S A : Type 0} → Took S → S → (Bool → S → Out S A) → Out S A
onward (took b s') s f = f b s'
onward (refused n) s f = no n s

unfoldable pub run : {S B A : Type 0} → Source S → Syn B A → S → Out S A
unfolding onward
run src (done a) s = ok a s
run src (stop n) s = no n s
run src (bin c w k) s = onward (src.on_bin c s) s (λ b s'. run src (k b) s')
run src (bypass w k) s = onward (src.on_bypass s) s (λ b s'. run src (k b) s')
run src (align t) s = onward (src.on_align s) s (λ b s'. run src t s')

-- ---- the arithmetic engine over a payload (demand 2)
pub record Reading : Type 0 where
  pub engine : Engine
  pub contexts : List ℕ

-- a decision changes the one context that it is made on
unfoldable pub engine_bin : List ℕ → ℕ → Reading → Took Reading
engine_bin l c r =
    let d = decided l r.engine (get_or r.contexts c 0) in
    took d.bit (record { engine = d.next; contexts = set r.contexts c d.ctx })

unfoldable pub engine_bypass : List ℕ → Reading → Took Reading
engine_bypass l r =
    let d = bypassed l r.engine 1 in
    took (leb 1 d.value) (record { engine = d.next; contexts = r.contexts })

-- wanted while the offset is 256 or more: 7
unfoldable pub engine_align : Reading → Took Reading
engine_align r =
    cond (ltb r.engine.offset 256)
    (took false (record { engine = range_aligned r.engine; contexts = r.contexts }))
    (refused 7)

unfoldable pub by_engine : List ℕ → Source Reading
unfolding engine_bin engine_bypass engine_align
by_engine l = record { on_bin = engine_bin l; on_bypass = engine_bypass l; on_align = engine_align }

-- ---- a bin list (the bin reader); what is left of it is the state. Ended early, be it behind one byte of an entry, or another tag: 13
unfoldable pub pick_bin : {A : Type 0} → Bool → Bool → A → (Bool → A) → A
pick_bin true o none k = k false
pick_bin false true none k = k true
pick_bin false false none k = none

-- the bin of the entry of bytes x and y, if it is one of context c's
unfoldable pub bin_of : {A : Type 0} → ℕ → ℕ → ℕ → A → (Bool → A) → A
unfolding pick_bin
bin_of c x y none k = pick_bin (is_entry x y (tag c false)) (is_entry x y (tag c true)) none k

unfoldable pub list_bin : ℕ → List ℕ → Took (List ℕ)
unfolding bin_of
list_bin c [] = refused 13
list_bin c (x ∷ []) = refused 13
list_bin c (x ∷ y ∷ l) = bin_of c x y (refused 13) (λ b. took b l)

unfoldable pub list_align : List ℕ → Took (List ℕ)
list_align [] = refused 13
list_align (x ∷ []) = refused 13
list_align (x ∷ y ∷ l) = cond (is_entry x y align_tag) (took false l) (refused 13)

unfoldable pub by_list : Source (List ℕ)
unfolding list_bin list_align
by_list = record { on_bin = list_bin; on_bypass = list_bin bypass_no; on_align = list_align }

-- ---- written for a wanted B (demand 3): the answer that the bins wanted lead to, with their list, or the refusal
pub data Written (A : Type 0) : Type 0 where
  ok : A → List ℕ → Written A
  no : ℕ → Written A

unfoldable pub also : {A : Type 0} → ℕ → Written A → Written A
also t (ok a l) = ok a (entry t l)
also t (no r) = no r

unfoldable pub write : {B A : Type 0} → Syn B A → B → Written A
unfolding also
write (done a) t = ok a []
write (stop r) t = no r
write (bin c w k) t = also (tag c (w t)) (write (k (w t)) t)
write (bypass w k) t = also (tag bypass_no (w t)) (write (k (w t)) t)
write (align s) t = also align_tag (write s t)
