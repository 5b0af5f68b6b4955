-- What the code's answers say.
use Rattle.std.specs.Prelude.{ℕ, List, ℤ, Result, Err, Ok}
use Rattle.hevc_residual.specs.declared.answers.Found.{Found}
use Rattle.hevc_residual.specs.declared.answers.ReadBlock.{ReadBlock}
use Rattle.hevc_residual.specs.Answers.{found_seen}
use Rattle.hevc_tray.specs.Rows.{found_row}
use Rattle.hevc_tray.specs.Tray as definition
use Rattle.hevc_tray.specs.Tray.{TrayRead}
use Rattle.hevc_tray.specs.declared.entries.Tray.{Tray}

abbrev pub row_of : Found → List ℕ
row_of f = found_row (found_seen f)

abbrev pub read_no : Result ReadBlock ℕ → ℕ
read_no (Ok b) = 0
read_no (Err n) = n

abbrev pub tray_seen : Tray → List ℕ → List ℕ → List ℤ → List (List ℕ) → TrayRead
tray_seen r contexts stats levels found =
    record { done = r.done; number = r.number; engine = r.state; contexts = contexts; stats = stats; levels = levels; found = found }
