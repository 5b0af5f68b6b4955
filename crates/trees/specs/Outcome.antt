-- Demand 3's words of a bin writer, once for every syntax: from what becomes of what it is handed, and that there is one list only. Assumes nothing.
use Rattle.std.specs.Prelude.{ℕ, ◌≤◌, ◌<◌, ◌≡◌, refl, List, ◌++◌, ◌↔◌, Bool, true, false, length, drop}
use Rattle.std.proofs.Common.{sym, ap, ◌∙◌, arith}
use Rattle.cabac.specs.Numbers.{Answer}

-- Within: what the writer is handed lies within its limits (4, 3). Reads: a list reads as what it is handed. given: its answer. room, room': the room lent,
-- and as it is left
pub record Exactly (Within : Type 0) (Reads : List ℕ → Type 0) (room : List ℕ) (given : Answer ℕ) (room' : List ℕ) : Type 0 where
  -- accepted with n, exactly where a list of n bytes reads as that, and fits the room
  pub accepts : Within → (n : ℕ) → (given ≡ Answer.accepted n) ↔ ((l : List ℕ) × Reads l × (length l ≡ n) × (n ≤ length room))
  -- then that list stands in front of what the room had behind it
  pub stands : (n : ℕ) → given ≡ Answer.accepted n → (l : List ℕ) → Reads l → room' ≡ l ++ drop n room
  -- 12, exactly where such a list exists and none fits the room
  pub no_room : Within → (given ≡ Answer.refused 12) ↔ ((l : List ℕ) × Reads l × ((m : List ℕ) → Reads m → length m ≤ length room → ⊥))
  -- another number, exactly where no list of any length reads as that
  pub no_list : Within → ((n : ℕ) × (given ≡ Answer.refused n) × (n ≡ 12 → ⊥)) ↔ ((l : List ℕ) → Reads l → ⊥)

not_accepted : {X : Type 0} (m n : ℕ) → Answer.refused m ≡ Answer.accepted n → X
not_accepted m n q = let z : ◌≡◌ {A = ℕ} 0 1 = cc in absurd (omega arith)

same_accepted : (m n : ℕ) → Answer.accepted m ≡ Answer.accepted n → m ≡ n
same_accepted m n q = cc

same_refused : (m n : ℕ) (a : Answer ℕ) → a ≡ Answer.refused m → a ≡ Answer.refused n → m ≡ n
same_refused m n a q r = cc

-- what becomes of it, room being how much is lent: a list that fits, one that does not, or none
pub data Outcome (Reads : List ℕ → Type 0) (room : ℕ) (given : Answer ℕ) : Type 0 where
  fits : (l : List ℕ) → Reads l → length l ≤ room → given ≡ Answer.accepted (length l) → Outcome Reads room given
  over : (l : List ℕ) → Reads l → room < length l → given ≡ Answer.refused 12 → Outcome Reads room given
  none : (n : ℕ) → (n ≡ 12 → ⊥) → ((l : List ℕ) → Reads l → ⊥) → given ≡ Answer.refused n → Outcome Reads room given

module _ (Reads : List ℕ → Type 0) (room : ℕ) (given : Answer ℕ) (only : (l m : List ℕ) → Reads l → Reads m → l ≡ m) (outcome : Outcome Reads room given) where
  same_long : (l m : List ℕ) → Reads l → Reads m → length l ≡ length m
  same_long l m r s = ap length (only l m r s)

  -- it accepts, with the length n, exactly when a list of length n that fits the room reads as that
  pub number_ok : (n : ℕ) → (given ≡ Answer.accepted n) ↔ ((l : List ℕ) × Reads l × (length l ≡ n) × (n ≤ room))
  number_ok n = (go outcome, λ x. back outcome x.0 x.1 x.2 x.3)
    where
      go : Outcome Reads room given → given ≡ Answer.accepted n → (l : List ℕ) × Reads l × (length l ≡ n) × (n ≤ room)
      go (fits l r k e) q = let s = same_accepted (length l) n (sym e ∙ q) in (l, r, s, omega arith)
      go (over l r k e) q = not_accepted 12 n (sym e ∙ q)
      go (none m o f e) q = not_accepted m n (sym e ∙ q)

      back : Outcome Reads room given → (l : List ℕ) → Reads l → length l ≡ n → n ≤ room → given ≡ Answer.accepted n
      back (fits m s k e) l r q h = e ∙ ap Answer.accepted (same_long m l s r ∙ q)
      back (over m s k e) l r q h = absurd (omega (arith, same_long m l s r))
      back (none m o f e) l r q h = absurd (f l r)

  -- it reports no room exactly when a list that reads as that exists and none fits the lent room
  pub number_room : (given ≡ Answer.refused 12) ↔ ((l : List ℕ) × Reads l × ((m : List ℕ) → Reads m → length m ≤ room → ⊥))
  number_room = (go outcome, λ x. back outcome x.0 x.1 x.2)
    where
      go : Outcome Reads room given → given ≡ Answer.refused 12 → (l : List ℕ) × Reads l × ((m : List ℕ) → Reads m → length m ≤ room → ⊥)
      go (fits l r k e) q = not_accepted 12 (length l) (sym q ∙ e)
      go (over l r k e) q = (l, r, λ m s j. omega (arith, same_long l m r s))
      go (none n o f e) q = absurd (o (same_refused n 12 given e q))

      back : Outcome Reads room given → (l : List ℕ) → Reads l → ((m : List ℕ) → Reads m → length m ≤ room → ⊥) → given ≡ Answer.refused 12
      back (fits m s k e) l r f = absurd (f m s k)
      back (over m s k e) l r f = e
      back (none m o g e) l r f = absurd (g l r)

  -- apart from lack of room it refuses exactly when no list of any length reads as that
  pub number_none : ((n : ℕ) × (given ≡ Answer.refused n) × (n ≡ 12 → ⊥)) ↔ ((l : List ℕ) → Reads l → ⊥)
  number_none = (λ x l r. against outcome x.0 x.1 x.2 l r, go outcome)
    where
      against : Outcome Reads room given → (n : ℕ) → given ≡ Answer.refused n → (n ≡ 12 → ⊥) → (l : List ℕ) → Reads l → ⊥
      against (fits m s k e) n q o l r = not_accepted n (length m) (sym q ∙ e)
      against (over m s k e) n q o l r = o (same_refused n 12 given q e)
      against (none m p f e) n q o l r = f l r

      go : Outcome Reads room given → ((l : List ℕ) → Reads l → ⊥) → (n : ℕ) × (given ≡ Answer.refused n) × (n ≡ 12 → ⊥)
      go (fits l r k e) f = absurd (f l r)
      go (over l r k e) f = absurd (f l r)
      go (none n o g e) f = (n, e, o)

module _ {Within : Type 0} {Reads : List ℕ → Type 0} {room : List ℕ} {given : Answer ℕ} {room' : List ℕ} (only : Within → (l m : List ℕ) → Reads l → Reads m → l ≡ m)
    (outcome : Within → Outcome Reads (length room) given) (stands : (n : ℕ) → given ≡ Answer.accepted n → (l : List ℕ) → Reads l → room' ≡ l ++ drop n room) where
  pub exactly : Exactly Within Reads room given room'
  exactly =
      record {
        accepts = λ h. number_ok Reads (length room) given (only h) (outcome h);
        stands = stands;
        no_room = λ h. number_room Reads (length room) given (only h) (outcome h);
        no_list = λ h. number_none Reads (length room) given (only h) (outcome h);
      }
