-- Laws of every tree and every source: one piece after another, what each step keeps a run keeps, and where the steps of one source
-- follow those of another, so do its runs. Assumes nothing.
use Rattle.std.specs.Prelude.{ℕ, ◌≡◌, refl, Bool, List}
use Rattle.std.proofs.Common.{sym, subst, ◌∙◌}
use Rattle.std.proofs.Math.Path.{ap}
use Rattle.bins.specs.declared.state.Refusal.{Refusal}
use Rattle.bins.specs.Syn.{Syn, done, stop, bin, bypass, align, ◌>>=◌, Took, took, refused, Source, Out, onward, run}
use Rattle.bins.specs.Sources.{Cursor, cursor}

-- ---- one step, where its outcome is known: what a proof of code cites
module _ {S B A : Type 0} (src : Source S) where
  pub run_bin : (c : ℕ) (w : B → Bool) (k : Bool → Syn B A) (s : S) (b : Bool) (s' : S) → src.on_bin c s ≡ took b s'
      → run src (bin c w k) s ≡ run src (k b) s'
  unfolding run onward
  run_bin c w k s b s' q = ap (λ t. onward t s (λ b s'. run src (k b) s')) q

  pub run_bypass : (w : B → Bool) (k : Bool → Syn B A) (s : S) (b : Bool) (s' : S) → src.on_bypass s ≡ took b s'
      → run src (bypass w k) s ≡ run src (k b) s'
  unfolding run onward
  run_bypass w k s b s' q = ap (λ t. onward t s (λ b s'. run src (k b) s')) q

  pub run_align : (t : Syn B A) (s : S) (b : Bool) (s' : S) → src.on_align s ≡ took b s' → run src (align t) s ≡ run src t s'
  unfolding run onward
  run_align t s b s' q = ap (λ z. onward z s (λ b s'. run src t s')) q

  pub run_bin_no : (c : ℕ) (w : B → Bool) (k : Bool → Syn B A) (s : S) (n : ℕ) → src.on_bin c s ≡ refused n
      → run src (bin c w k) s ≡ Out.no n s
  unfolding run onward
  run_bin_no c w k s n q = ap (λ t. onward t s (λ b s'. run src (k b) s')) q

  pub run_bypass_no : (w : B → Bool) (k : Bool → Syn B A) (s : S) (n : ℕ) → src.on_bypass s ≡ refused n
      → run src (bypass w k) s ≡ Out.no n s
  unfolding run onward
  run_bypass_no w k s n q = ap (λ t. onward t s (λ b s'. run src (k b) s')) q

  pub run_align_no : (t : Syn B A) (s : S) (n : ℕ) → src.on_align s ≡ refused n → run src (align t) s ≡ Out.no n s
  unfolding run onward
  run_align_no t s n q = ap (λ z. onward z s (λ b s'. run src t s')) q

-- ---- a tree and then another
abbrev pub then_run : {S B A C : Type 0} → Source S → (A → Syn B C) → Out S A → Out S C
then_run src f (Out.ok a s) = run src (f a) s
then_run src f (Out.no n s) = Out.no n s

onward_then : {S B A C : Type 0} (src : Source S) (f : A → Syn B C) (t : Took S) (s : S) (k : Bool → S → Out S A) (g : Bool → S → Out S C)
    → ((b : Bool) (s' : S) → g b s' ≡ then_run src f (k b s')) → onward t s g ≡ then_run src f (onward t s k)
unfolding onward
onward_then src f (took b s') s k g h = h b s'
onward_then src f (refused n) s k g h = refl

pub run_bind : {S B A C : Type 0} (src : Source S) (t : Syn B A) (f : A → Syn B C) (s : S)
    → run src (t >>= f) s ≡ then_run src f (run src t s)
unfolding run ◌>>=◌
run_bind src (done a) f s = refl
run_bind src (stop n) f s = refl
run_bind src (bin c w k) f s =
    onward_then src f (src.on_bin c s) s (λ b s'. run src (k b) s') (λ b s'. run src (k b >>= f) s') (λ b s'. run_bind src (k b) f s')
run_bind src (bypass w k) f s =
    onward_then src f (src.on_bypass s) s (λ b s'. run src (k b) s') (λ b s'. run src (k b >>= f) s') (λ b s'. run_bind src (k b) f s')
run_bind src (align t) f s =
    onward_then src f (src.on_align s) s (λ b s'. run src t s') (λ b s'. run src (t >>= f) s') (λ b s'. run_bind src t f s')

-- the same, where the outcome of the first is known: how a proof of code goes from call to call
pub bind_ok : {S B A C : Type 0} (src : Source S) (t : Syn B A) (f : A → Syn B C) (s : S) (a : A) (s' : S)
    → run src t s ≡ Out.ok a s' → run src (t >>= f) s ≡ run src (f a) s'
bind_ok src t f s a s' q = run_bind src t f s ∙ ap (then_run src f) q

-- refused as the code tells it: by the number, at the interval where it arose, whatever the contexts are there
abbrev pub RefusedBy : {A : Type 0} → Refusal → Out Cursor A → Type 0
RefusedBy n o = (cs : List ℕ) × (o ≡ Out.no n.number (cursor n.at cs))

pub bind_no : {B A C : Type 0} (src : Source Cursor) (t : Syn B A) (f : A → Syn B C) (s : Cursor) (n : Refusal)
    → RefusedBy n (run src t s) → RefusedBy n (run src (t >>= f) s)
bind_no src t f s n r = (r.0, run_bind src t f s ∙ ap (then_run src f) r.1)

-- ---- what each step keeps, a run keeps
abbrev pub After : {S : Type 0} → (S → Type 0) → Took S → Type 0
After P (took b s) = P s
After P (refused n) = Unit {0}

abbrev pub Ends : {S A : Type 0} → (S → Type 0) → Out S A → Type 0
Ends P (Out.ok a s) = P s
Ends P (Out.no n s) = P s

pub record Keeps {S : Type 0} (src : Source S) (P : S → Type 0) : Type 0 where
  pub at_bin : (c : ℕ) (s : S) → P s → After P (src.on_bin c s)
  pub at_bypass : (s : S) → P s → After P (src.on_bypass s)
  pub at_align : (s : S) → P s → After P (src.on_align s)

onward_keeps : {S A : Type 0} (P : S → Type 0) (t : Took S) (s : S) (k : Bool → S → Out S A) → P s → After P t
    → ((b : Bool) (s' : S) → P s' → Ends P (k b s')) → Ends P (onward t s k)
unfolding onward
onward_keeps P (took b s') s k p q h = h b s' q
onward_keeps P (refused n) s k p q h = p

pub run_keeps : {S B A : Type 0} (src : Source S) (P : S → Type 0) → Keeps src P → (t : Syn B A) (s : S) → P s → Ends P (run src t s)
unfolding run
run_keeps src P h (done a) s p = p
run_keeps src P h (stop n) s p = p
run_keeps src P h (bin c w k) s p =
    onward_keeps P (src.on_bin c s) s (λ b s'. run src (k b) s') p (h.at_bin c s p) (λ b s' q. run_keeps src P h (k b) s' q)
run_keeps src P h (bypass w k) s p =
    onward_keeps P (src.on_bypass s) s (λ b s'. run src (k b) s') p (h.at_bypass s p) (λ b s' q. run_keeps src P h (k b) s' q)
run_keeps src P h (align t) s p =
    onward_keeps P (src.on_align s) s (λ b s'. run src t s') p (h.at_align s p) (λ b s' q. run_keeps src P h t s' q)

pub kept_ok : {S B A : Type 0} (src : Source S) (P : S → Type 0) → Keeps src P → (t : Syn B A) (s : S) (a : A) (s' : S)
    → run src t s ≡ Out.ok a s' → P s → P s'
kept_ok src P h t s a s' q p = subst (Ends P) q (run_keeps src P h t s p)

-- nothing is asked, and nothing said
abbrev pub Any : {S : Type 0} → S → Type 0
Any s = Unit {0}

after_any : {S : Type 0} (t : Took S) → After Any t
after_any (took b s) = tt
after_any (refused n) = tt

pub keeps_any : {S : Type 0} (src : Source S) → Keeps src Any
keeps_any src =
    record {
      at_bin = λ c s p. after_any (src.on_bin c s);
      at_bypass = λ s p. after_any (src.on_bypass s);
      at_align = λ s p. after_any (src.on_align s);
    }

-- ---- where the steps of one source follow those of another, so do its runs
abbrev pub map_took : {S R : Type 0} → (S → R) → Took S → Took R
map_took f (took b s) = took b (f s)
map_took f (refused n) = refused n

abbrev pub map_out : {S R A : Type 0} → (S → R) → Out S A → Out R A
map_out f (Out.ok a s) = Out.ok a (f s)
map_out f (Out.no n s) = Out.no n (f s)

pub record Follows {S R : Type 0} (src : Source S) (dst : Source R) (f : S → R) (P : S → Type 0) : Type 0 where
  pub keeps : Keeps src P
  pub at_bin : (c : ℕ) (s : S) → P s → dst.on_bin c (f s) ≡ map_took f (src.on_bin c s)
  pub at_bypass : (s : S) → P s → dst.on_bypass (f s) ≡ map_took f (src.on_bypass s)
  pub at_align : (s : S) → P s → dst.on_align (f s) ≡ map_took f (src.on_align s)

onward_follows : {S R A : Type 0} (f : S → R) (P : S → Type 0) (t : Took S) (u : Took R) (s : S) (k : Bool → S → Out S A) (g : Bool → R → Out R A)
    → u ≡ map_took f t → After P t → ((b : Bool) (s' : S) → P s' → g b (f s') ≡ map_out f (k b s'))
    → onward u (f s) g ≡ map_out f (onward t s k)
unfolding onward
onward_follows f P (took b s') u s k g q p h = ap (λ z. onward z (f s) g) q ∙ h b s' p
onward_follows f P (refused n) u s k g q p h = ap (λ z. onward z (f s) g) q

pub run_follows : {S R B A : Type 0} (src : Source S) (dst : Source R) (f : S → R) (P : S → Type 0) → Follows src dst f P
    → (t : Syn B A) (s : S) → P s → run dst t (f s) ≡ map_out f (run src t s)
unfolding run
run_follows src dst f P h (done a) s p = refl
run_follows src dst f P h (stop n) s p = refl
run_follows src dst f P h (bin c w k) s p =
    onward_follows f P (src.on_bin c s) (dst.on_bin c (f s)) s (λ b s'. run src (k b) s') (λ b s'. run dst (k b) s')
    (h.at_bin c s p) (h.keeps.at_bin c s p) (λ b s' q. run_follows src dst f P h (k b) s' q)
run_follows src dst f P h (bypass w k) s p =
    onward_follows f P (src.on_bypass s) (dst.on_bypass (f s)) s (λ b s'. run src (k b) s') (λ b s'. run dst (k b) s')
    (h.at_bypass s p) (h.keeps.at_bypass s p) (λ b s' q. run_follows src dst f P h (k b) s' q)
run_follows src dst f P h (align t) s p =
    onward_follows f P (src.on_align s) (dst.on_align (f s)) s (λ b s'. run src t s') (λ b s'. run dst t s')
    (h.at_align s p) (h.keeps.at_align s p) (λ b s' q. run_follows src dst f P h t s' q)
