-- What the code's answers mean.
use Rattle.std.specs.Prelude.{ℕ, ◌≡◌, List, [], ℤ, Result}
use Rattle.hevc_summary.specs.declared.kept.Form.{Form}
use Rattle.hevc_summary.specs.declared.kept.Whole.{Whole}
use Rattle.hevc_summary.specs.declared.kept.Changed.{Changed}
use Rattle.hevc_summary.specs.Summary.{Kept, True, Frame}
use Rattle.hevc_summary.specs.declared.reading.ReadInto.{ReadInto}
use Rattle.hevc_summary.specs.declared.reading.ListInto.{ListInto}
use Rattle.hevc_summary.specs.Entries.{After, set_level, KeptRead, KeptList}
use Rattle.cabac.specs.Numbers.{Answer}
use Rattle.hevc_residual.specs.Entries.{Found, FoundAt}
use Rattle.hevc_residual.specs.declared.answers.ReadBlock.{ReadBlock}
use Rattle.hevc_residual.specs.declared.answers.Found as code
use Rattle.hevc_residual.specs.Answers.{payload_read, bins_read}

-- a lent block with its records
abbrev pub kept_of : List ℤ → List ℕ → List ℕ → Whole → Kept
kept_of levels counts sums whole = record { levels = levels; counts = counts; sums = sums; whole = whole }

-- the answer, and what is left
abbrev pub after_of : Changed → List ℤ → List ℕ → List ℕ → After
after_of r levels counts sums = record { answer = r.number; kept = kept_of levels counts sums r.whole }

-- what setting a level promises: its equation; what was true stays true; and what it leaves alone
abbrev pub SetSays : Form → ℕ → ℤ → Kept → After → Type 0
SetSays f place v k x = (x ≡ set_level f place v k) × (True f.log2 k → True f.log2 x.kept) × Frame f.log2 place k x.kept

-- what the readers answer
abbrev pub read_says : Result ReadBlock ℕ → Answer FoundAt
read_says r = (payload_read r [] [] []).answer

abbrev pub list_says : Result code.Found ℕ → Answer Found
list_says r = (bins_read r [] []).answer

abbrev pub kept_read : ReadInto → List ℕ → List ℕ → List ℤ → List ℕ → List ℕ → KeptRead
kept_read r contexts stats levels counts sums =
    record { answer = read_says r.read; contexts = contexts; stats = stats; kept = kept_of levels counts sums r.whole }

abbrev pub kept_list : ListInto → List ℕ → List ℤ → List ℕ → List ℕ → KeptList
kept_list r stats levels counts sums = record { answer = list_says r.read; stats = stats; kept = kept_of levels counts sums r.whole }
