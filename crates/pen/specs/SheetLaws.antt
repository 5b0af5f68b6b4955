-- Laws of writing, step by step: what is left of a tree behind a bin, and behind a tree before it. Assumes nothing.
use Rattle.std.specs.Prelude.{ℕ, suc, ◌+◌, ◌*◌, ◌≤◌, ◌<◌, Bool, true, false, cond, length, set, ltb}
use Rattle.std.proofs.Math.Path.{◌≡◌, refl, ap}
use Rattle.std.proofs.Common.{sym, ap₂, subst, ◌∙◌, arith, length-set, lt-ltb, le-ltb}
use mathlib.Core.List.{List, [], ◌∷◌, ◌++◌}
use Rattle.bins.specs.Tags.{tag, bypass_no, align_tag, low, high, entry}
use Rattle.bins.specs.Syn.{Syn, done, stop, bin, bypass, align, ◌>>=◌, Written, also, write}
use Rattle.bins.specs.WriteLaws.{behind, then_write, write_bind, also_ok}
use Rattle.pen.specs.declared.room.Pen.{Pen}
use Rattle.pen.specs.Sheet.{Sheet, sheet, moved, inked, entered, entered_all, Wrote}

-- ---- one byte, as the code puts it
module _ (room : List ℕ) (pen : Pen) (x : ℕ) where
  pub inked_over : length room ≤ pen.at → sheet room (record { at = pen.at; over = true; writing = pen.writing }) ≡ inked x (sheet room pen)
  unfolding inked
  inked_over h = rw (le-ltb pen.at (length room) h)

  module _ (h : pen.at < length room) where
    pub inked_written : pen.writing ≡ true → sheet (set room pen.at x) (moved pen) ≡ inked x (sheet room pen)
    unfolding inked
    inked_written q = rw (lt-ltb pen.at (length room) h, q)

    pub inked_counted : pen.writing ≡ false → sheet room (moved pen) ≡ inked x (sheet room pen)
    unfolding inked
    inked_counted q = rw (lt-ltb pen.at (length room) h, q)

pub inked_long : (x : ℕ) (s : Sheet) → length (inked x s).room ≡ length s.room
unfolding inked
inked_long x s = go (ltb s.pen.at (length s.room)) s.pen.writing
  where
    go : (within writing : Bool)
        → length (cond within (sheet (cond writing (set s.room s.pen.at x) s.room) (moved s.pen))
        (sheet s.room (record { at = s.pen.at; over = true; writing = s.pen.writing }))).room ≡ length s.room
    go true true = length-set s.room s.pen.at x
    go true false = refl
    go false writing = refl

-- ---- one entry
-- the sheets in between: one byte put, the other put
pub entered_two : (t x y : ℕ) (s s' s'' : Sheet) → x ≡ low t → y ≡ high t → s' ≡ inked x s → s'' ≡ inked y s' → s'' ≡ entered t s
unfolding entered
entered_two t x y s s' s'' p q e f = f ∙ ap₂ inked q (e ∙ ap (λ z. inked z s) p)

pub entered_long : (t : ℕ) (s : Sheet) → length (entered t s).room ≡ length s.room
unfolding entered
entered_long t s = inked_long (high t) (inked (low t) s) ∙ inked_long (low t) s

-- ---- a list and then another
pub entered-++ : (l m : List ℕ) (s : Sheet) → entered_all (l ++ m) s ≡ entered_all m (entered_all l s)
unfolding entered_all
entered-++ [] m s = refl
entered-++ (x ∷ l) m s = entered-++ l m (inked x s)

-- ---- trees
behind_spells : {A : Type 0} (l₁ : List ℕ) (o : Written A) (a : A) (l : List ℕ) → behind l₁ o ≡ Written.ok a l
    → (m : List ℕ) × (o ≡ Written.ok a m) × (l ≡ l₁ ++ m)
behind_spells l₁ (Written.ok a' m) a l q = (m, cc, cc)
behind_spells l₁ (Written.no r) a l q = let z : ◌≡◌ {A = ℕ} 0 1 = cc in absurd (omega arith)

module _ {B A : Type 0} (w : B) where
  pub wrote_none : (t : Syn B A) (s : Sheet) → Wrote t t w s s
  wrote_none t s = record { leads = λ a l q. (l, q, refl) }

  pub wrote_on : (t u v : Syn B A) (s s' s'' : Sheet) → Wrote t u w s s' → Wrote u v w s' s'' → Wrote t v w s s''
  wrote_on t u v s s' s'' f g =
      record {
        leads = λ a l q.
            let x = f.leads a l q in
            let y = g.leads a x.0 x.1 in
            (y.0, y.1, x.2 ∙ y.2);
      }

  one_more : (t u : Syn B A) (x : ℕ) (s : Sheet) → write t w ≡ also x (write u w) → Wrote t u w s (entered x s)
  unfolding entered entered_all
  one_more t u x s e =
      record {
        leads = λ a l q.
            let f = also_ok x (write u w) a l (sym e ∙ q) in
            (f.0, f.1, ap (λ (z : List ℕ). entered_all z s) f.2);
      }

  pub wrote_bin : (c : ℕ) (v : B → Bool) (k : Bool → Syn B A) (s : Sheet) → Wrote (bin c v k) (k (v w)) w s (entered (tag c (v w)) s)
  unfolding write
  wrote_bin c v k s = one_more (bin c v k) (k (v w)) (tag c (v w)) s refl

  pub wrote_bypass : (v : B → Bool) (k : Bool → Syn B A) (s : Sheet) → Wrote (bypass v k) (k (v w)) w s (entered (tag bypass_no (v w)) s)
  unfolding write
  wrote_bypass v k s = one_more (bypass v k) (k (v w)) (tag bypass_no (v w)) s refl

  pub wrote_align : (t : Syn B A) (s : Sheet) → Wrote (align t) t w s (entered align_tag s)
  unfolding write
  wrote_align t s = one_more (align t) t align_tag s refl

  -- what stops has no list
  pub wrote_stop : (n : ℕ) (u : Syn B A) (s s' : Sheet) → Wrote (stop n) u w s s'
  unfolding write
  wrote_stop n u s s' = record { leads = λ a l q. let z : ◌≡◌ {A = ℕ} 0 1 = cc in absurd (omega arith) }

-- a tree and then another
then_spells : {B A C : Type 0} (f : A → Syn B C) (w : B) (o : Written A) (c : C) (l : List ℕ) → then_write f w o ≡ Written.ok c l
    → (a : A) × (l₁ : List ℕ) × (m : List ℕ) × (o ≡ Written.ok a l₁) × (write (f a) w ≡ Written.ok c m) × (l ≡ l₁ ++ m)
then_spells f w (Written.ok a l₁) c l q = let b = behind_spells l₁ (write (f a) w) c l q in (a, l₁, b.0, refl, b.1, b.2)
then_spells f w (Written.no r) c l q = let z : ◌≡◌ {A = ℕ} 0 1 = cc in absurd (omega arith)

pub wrote_then : {B A C : Type 0} (w : B) (t : Syn B A) (f : A → Syn B C) (a : A) (s s' : Sheet) → Wrote t (done a) w s s' → Wrote (t >>= f) (f a) w s s'
unfolding write entered_all
wrote_then w t f a s s' h =
    record {
      leads = λ c l q.
          let d = then_spells f w (write t w) c l (sym (write_bind t f w) ∙ q) in
          let e = h.leads d.0 d.1 d.3 in
          let ea : d.0 ≡ a = cc in
          let em : e.0 ≡ [] = cc in
          let r : entered_all d.1 s ≡ s' = e.2 ∙ ap (λ (z : List ℕ). entered_all z s') em in (
            d.2,
            subst (λ (z : _). write (f z) w ≡ Written.ok c d.2) ea d.4,
            ap (λ (z : List ℕ). entered_all z s) d.5 ∙ entered-++ d.1 d.2 s ∙ ap (entered_all d.2) r,
          );
    }

-- ---- from call to call: what is left of the whole behind one more of its trees
pub wrote_call : {B A C : Type 0} (w : B) (whole : Syn B C) (t : Syn B A) (f : A → Syn B C) (a : A) (s s' s'' : Sheet) → Wrote whole (t >>= f) w s s' → Wrote t (done a) w s' s''
    → Wrote whole (f a) w s s''
wrote_call w whole t f a s s' s'' g h = wrote_on w whole (t >>= f) (f a) s s' s'' g (wrote_then w t f a s' s'' h)
