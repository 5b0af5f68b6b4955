-- What adding to figures answers and leaves behind, for everything that it can be handed, figures that no list gives among it: there a sum stops
-- at the greatest number of its width.
use Rattle.std.specs.Prelude.{ℕ, zero, suc, ◌+◌, ◌-◌, ◌*◌, ◌^◌, min, max, List, [], ◌∷◌, Bool, ◌&&◌, cond, ltb, leb, eqb, get_or, set, ℤ, nat_abs}
use Rattle.counting.specs.Count.{nonzero, updated}
use Rattle.cabac.specs.Numbers.{◌or_else◌}
use Rattle.figures.specs.declared.add.Totals.{Totals}
use Rattle.figures.specs.declared.out.PlaceFigures.{PlaceFigures}
use Rattle.figures.specs.declared.out.TallyFigure.{TallyFigure}
use Rattle.figures.specs.Figures.{Event, block, refusal, Figures, area, level_at, sized, figures_of}

abbrev pub most32 : ℕ
most32 = 2 ^ 32 - 1

abbrev pub most64 : ℕ
most64 = 2 ^ 64 - 1

pub record After : Type 0 where
  pub answer : ℕ  -- 0, or the number of the refusal
  pub figures : Figures

unfoldable pub unless_refused : ℕ → Figures → Figures → After
unless_refused zero fs gs = record { answer = 0; figures = gs }
unless_refused (suc n) fs gs = record { answer = suc n; figures = fs }

-- ---- no events yet
unfoldable pub begun : ℕ → Figures
begun log2 = figures_of log2 []

-- 4: a size that is none
unfoldable pub begin_refusal : ℕ → ℕ
begin_refusal log2 = cond (leb 2 log2 && leb log2 5) 0 4

-- whatever stood there
unfoldable pub begin : Figures → ℕ → After
begin fs log2 = unless_refused (begin_refusal log2) fs (begun log2)

-- ---- an accepted block. 4: another size, or fewer than n·n places; 23: the 4,097th
unfoldable pub block_refusal : Totals → ℕ → List ℤ → ℕ
block_refusal t size levels = cond (sized t.log2 size levels) 0 4 or_else cond (ltb t.accepted 4096) 0 23

unfoldable pub with_block : Figures → List ℤ → ℕ → Figures
with_block fs levels past =
    let n = area fs.totals.log2 in
    record {
      totals = record { log2 = fs.totals.log2; accepted = fs.totals.accepted + 1; past = min most64 (fs.totals.past + past) };
      blocks = updated 0 n (λ place x. min most32 (x + nonzero (level_at levels place))) fs.blocks;
      sums = updated 0 n (λ place x. min most64 (x + nat_abs (level_at levels place))) fs.sums;
      greatests = updated 0 n (λ place x. max x (nat_abs (level_at levels place))) fs.greatests;
      tallies = fs.tallies;
    }

unfoldable pub add_block : Figures → ℕ → List ℤ → ℕ → After
add_block fs size levels past = unless_refused (block_refusal fs.totals size levels) fs (with_block fs levels past)

-- ---- the number of a refused block. 4: not 1 to 24
unfoldable pub number_refusal : ℕ → ℕ
number_refusal number = cond (leb 1 number && leb number 24) 0 4

unfoldable pub with_refusal : Figures → ℕ → Figures
with_refusal fs number =
    record {
      totals = fs.totals;
      blocks = fs.blocks;
      sums = fs.sums;
      greatests = fs.greatests;
      tallies = set fs.tallies (number - 1) (min 65535 (get_or fs.tallies (number - 1) 0 + 1));
    }

unfoldable pub add_refusal : Figures → ℕ → After
add_refusal fs number = unless_refused (number_refusal number) fs (with_refusal fs number)

-- ---- one event, and one after the other
unfoldable pub add : Figures → Event → After
add fs (block size levels past) = add_block fs size levels past
add fs (refusal number) = add_refusal fs number

unfoldable pub add_all : Figures → List Event → Figures
add_all fs [] = fs
add_all fs (e ∷ es) = add_all (add fs e).figures es

-- ---- two figures put together. 4: of other sizes, or of no size; 23: of more than 4,096 blocks
unfoldable pub merge_refusal : Totals → Totals → ℕ
merge_refusal t u =
    cond (eqb t.log2 u.log2 && (leb 2 t.log2 && leb t.log2 5)) 0 4 or_else cond (leb (t.accepted + u.accepted) 4096) 0 23

unfoldable pub joined : Figures → Figures → Figures
joined fs gs =
    let n = area fs.totals.log2 in
    record {
      totals =
          record {
            log2 = fs.totals.log2;
            accepted = fs.totals.accepted + gs.totals.accepted;
            past = min most64 (fs.totals.past + gs.totals.past);
          };
      blocks = updated 0 n (λ place x. min most32 (x + get_or gs.blocks place 0)) fs.blocks;
      sums = updated 0 n (λ place x. min most64 (x + get_or gs.sums place 0)) fs.sums;
      greatests = updated 0 n (λ place x. max x (get_or gs.greatests place 0)) fs.greatests;
      tallies = updated 0 24 (λ k x. min 65535 (x + get_or gs.tallies k 0)) fs.tallies;
    }

unfoldable pub merge : Figures → Figures → After
merge fs gs = unless_refused (merge_refusal fs.totals gs.totals) fs (joined fs gs)

-- ---- reading out: what stands at a place. 4: figures of no size, or a place outside the block
unfoldable pub place_refusal : Totals → ℕ → ℕ
place_refusal t place = cond (leb 2 t.log2 && (leb t.log2 5 && ltb place (area t.log2))) 0 4

unfoldable pub place_by : ℕ → Figures → ℕ → PlaceFigures
place_by zero fs place =
    record { number = 0; blocks = get_or fs.blocks place 0; sum = get_or fs.sums place 0; greatest = get_or fs.greatests place 0 }
place_by (suc n) fs place = record { number = suc n; blocks = 0; sum = 0; greatest = 0 }

unfoldable pub place_of : Figures → ℕ → PlaceFigures
place_of fs place = place_by (place_refusal fs.totals place) fs place

-- the tally of a number. 4: not 1 to 24
unfoldable pub tally_by : ℕ → Figures → ℕ → TallyFigure
tally_by zero fs number = record { number = 0; count = get_or fs.tallies (number - 1) 0 }
tally_by (suc n) fs number = record { number = suc n; count = 0 }

unfoldable pub tally_of : Figures → ℕ → TallyFigure
tally_of fs number = tally_by (number_refusal number) fs number
