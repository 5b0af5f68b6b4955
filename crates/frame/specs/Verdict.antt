-- The verdict on a frame (document 02, (viii)): the greatest magnitude and the bits past the end, or the lower crate's number; and the levels of its block.
use Rattle.std.specs.Prelude.{ℕ, zero, suc, List, replicate, ℤ, pos, Ok, Err, Result}
use Rattle.bins.specs.declared.state.Engine.{Engine}
use Rattle.cabac.specs.Numbers.{Answer, accepted, refused, ◌or_else◌, payload_refusal}
use Rattle.cabac.specs.Entries.{start}
use Rattle.cabac.specs.Contexts.{initial_all}
use Rattle.hevc_residual.specs.Numbers.{parameter_refusal}
use Rattle.hevc_residual.specs.Entries.{FoundAt, PayloadRead, read_payload}
use Rattle.frame.specs.declared.judge.Judged.{Judged}
use Rattle.frame.specs.Frame.{values_of, payload_of, params_of, quantiser_of, flags_refusal}

abbrev pub Verdict : Type 0
Verdict = Result Judged ℕ

abbrev pub ok : ℕ → ℕ → Verdict
ok greatest past = Ok (record { greatest = greatest; past = past })

abbrev pub no_levels : List ℤ
no_levels = replicate 1024 (pos 0)

unfoldable pub read_verdict : Answer FoundAt → Verdict
read_verdict (accepted f) = ok f.found.greatest f.next.past
read_verdict (refused n) = Err n

-- the block from the state behind the start, with the frame's own contexts; statistics are 0
abbrev pub read_from : List ℕ → Engine → PayloadRead
read_from bytes e =
    read_payload (payload_of bytes) e (initial_all (quantiser_of bytes) (values_of bytes)) (replicate 4 0) (params_of bytes) no_levels

unfoldable pub started_verdict : List ℕ → Answer Engine → Verdict
unfolding read_verdict params_of
started_verdict bytes (accepted e) = read_verdict (read_from bytes e).answer
started_verdict bytes (refused n) = Err n

-- a refused block's are 0
unfoldable pub started_levels : List ℕ → Answer Engine → List ℤ
unfolding params_of
started_levels bytes (accepted e) = (read_from bytes e).block
started_levels bytes (refused n) = no_levels

-- 1, 4
unfoldable pub checks_of : List ℕ → ℕ
unfolding flags_refusal params_of
checks_of bytes = payload_refusal (payload_of bytes) or_else flags_refusal bytes or_else parameter_refusal (params_of bytes) no_levels

-- behind the checks, which gave the number n: 5, then the reader's own
unfoldable pub verdict_by : ℕ → List ℕ → Verdict
unfolding started_verdict
verdict_by zero bytes = started_verdict bytes (start (payload_of bytes))
verdict_by (suc n) bytes = Err (suc n)

unfoldable pub levels_by : ℕ → List ℕ → List ℤ
unfolding started_levels
levels_by zero bytes = started_levels bytes (start (payload_of bytes))
levels_by (suc n) bytes = no_levels

-- THE verdict
unfoldable pub verdict : List ℕ → Verdict
unfolding verdict_by checks_of
verdict bytes = verdict_by (checks_of bytes) bytes

-- and THE levels, 0 behind the block's places
unfoldable pub levels_of : List ℕ → List ℤ
unfolding levels_by checks_of
levels_of bytes = levels_by (checks_of bytes) bytes
