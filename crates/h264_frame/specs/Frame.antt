-- One block of H.264 as a frame, and what is shown of it: every list of bytes has an answer.
use Rattle.std.specs.Prelude.{ℕ, ◌+◌, ◌-◌, ◌*◌, Bool, true, false, cond, ◌&&◌, List, [], ◌∷◌, map, leb, ltb, eqb, length, take, drop, get_or, replicate, ℤ, pos, Option, Some, None, Err}
use Rattle.bins.specs.declared.state.Engine.{Engine}
use Rattle.cabac.specs.Numbers.{Answer, accepted, refused}
use Rattle.cabac.specs.Entries.{start}
use Rattle.trees.specs.Levels.{signed}
use Rattle.h264_block.specs.Contexts.{initial_all}
use Rattle.h264_block.specs.Entries.{FoundAt, PayloadRead, read_payload}
use Rattle.h264_reader.specs.EntriesAgree.{Read, found}

-- ---- a frame: QP, the payload's length in two bytes, 40 pairs m, n, the payload
abbrev pub front_bytes : ℕ
front_bytes = 83

abbrev pub byte_of : List ℕ → ℕ → ℕ
byte_of bytes i = get_or bytes i 0

-- whether these are the bytes of a frame: all before the payload, and the payload of the length that is said, high byte first
unfoldable pub formed : List ℕ → Bool
formed bytes = leb front_bytes (length bytes) && eqb (length bytes) (front_bytes + (256 * byte_of bytes 1 + byte_of bytes 2))

-- a byte as two's complement has it: −128 to 127
unfoldable pub byte_signed : ℕ → ℤ
byte_signed b = cond (ltb b 128) (signed false b) (signed true (256 - b))

unfoldable pub pairs_of : List ℕ → List ℤ
unfolding byte_signed
pairs_of bytes = map byte_signed (take 80 (drop 3 bytes))

abbrev pub payload_of : List ℕ → List ℕ
payload_of bytes = drop front_bytes bytes

-- ---- what is shown
abbrev pub no_levels : List ℤ
no_levels = replicate 16 (pos 0)

abbrev pub Shown : Type 0
Shown = Option Read

unfoldable pub read_of : Answer FoundAt → Read
read_of (accepted f) = found f.greatest f.next
read_of (refused n) = Err n

-- the block from the state behind the start, with the frame's own contexts
abbrev pub read_from : List ℕ → Engine → PayloadRead
read_from bytes e = read_payload (payload_of bytes) e (initial_all (byte_of bytes 0) (pairs_of bytes)) no_levels

unfoldable pub started_read : List ℕ → Answer Engine → Read
unfolding read_of pairs_of
started_read bytes (accepted e) = read_of (read_from bytes e).answer
started_read bytes (refused n) = Err n

-- a refused block's are 0
unfoldable pub started_levels : List ℕ → Answer Engine → List ℤ
unfolding pairs_of
started_levels bytes (accepted e) = (read_from bytes e).block
started_levels bytes (refused n) = no_levels

-- THE answer: 1 and 5 of the start, then the reader's own
unfoldable pub shown : List ℕ → Shown
unfolding formed started_read
shown bytes = cond (formed bytes) (Some (started_read bytes (start (payload_of bytes)))) None

-- and THE levels by list place
unfoldable pub levels_of : List ℕ → List ℤ
unfolding formed started_levels
levels_of bytes = cond (formed bytes) (started_levels bytes (start (payload_of bytes))) no_levels

-- ---- the list place of the level in each row and column, row by row: the zig-zag scan of frames (H.264 8.5.6)
abbrev pub zigzag : List ℕ
zigzag = 0 ∷ 1 ∷ 5 ∷ 6 ∷ 2 ∷ 4 ∷ 7 ∷ 12 ∷ 3 ∷ 8 ∷ 11 ∷ 13 ∷ 9 ∷ 10 ∷ 14 ∷ 15 ∷ []
