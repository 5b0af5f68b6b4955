-- A room and how far it is written: what a byte and an entry make of both, and what a tree's list does.
use Rattle.std.specs.Prelude.{ℕ, ◌+◌, ◌<◌, ◌≡◌, Bool, true, false, cond, List, [], ◌∷◌, length, set, ltb}
use Rattle.bins.specs.Tags.{low, high}
use Rattle.bins.specs.Syn.{Syn, Written, write}
use Rattle.pen.specs.declared.room.Pen.{Pen}

pub record Sheet : Type 0 where
  pub room : List ℕ
  pub pen : Pen

abbrev pub sheet : List ℕ → Pen → Sheet
sheet room pen = record { room = room; pen = pen }

abbrev pub moved : Pen → Pen
moved pen = record { at = pen.at + 1; over = pen.over; writing = pen.writing }

-- one byte, where there is a place for it; a pen that counts leaves the room as it is
unfoldable pub inked : ℕ → Sheet → Sheet
inked x s =
    cond (ltb s.pen.at (length s.room))
    (sheet (cond s.pen.writing (set s.room s.pen.at x) s.room) (moved s.pen))
    (sheet s.room (record { at = s.pen.at; over = true; writing = s.pen.writing }))

-- one entry: its two bytes, the low one first
unfoldable pub entered : ℕ → Sheet → Sheet
entered t s = inked (high t) (inked (low t) s)

-- a list, byte after byte
unfoldable pub entered_all : List ℕ → Sheet → Sheet
entered_all [] s = s
entered_all (x ∷ l) s = entered_all l (inked x s)

-- From s to s' so much of t was written for w that u is left: whatever list t has, what is left of it is u's, and both end at the same sheet.
pub record Wrote {B A : Type 0} (t u : Syn B A) (w : B) (s s' : Sheet) : Type 0 where
  pub leads : (a : A) (l : List ℕ) → write t w ≡ Written.ok a l → (m : List ℕ) × (write u w ≡ Written.ok a m) × (entered_all l s ≡ entered_all m s')

-- a prefix of ones is wanted to be n long, of at most so many
abbrev pub Counts : {B : Type 0} → (ℕ → B → Bool) → B → ℕ → ℕ → Type 0
Counts want w n most = ((g : ℕ) → g < n → want g w ≡ true) × (n < most → want n w ≡ false)
