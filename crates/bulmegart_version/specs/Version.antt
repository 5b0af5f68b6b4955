-- The version, which include/bulmegart.h and bindings/rust/Cargo.toml have too.
use Rattle.std.specs.Prelude.{ℕ, ◌+◌, ◌*◌}

abbrev pub major : ℕ
major = 0

abbrev pub minor : ℕ
minor = 3

abbrev pub patch : ℕ
patch = 0

-- one number, two hexadecimal digits for each of the last two
abbrev pub version : ℕ
version = major * 65536 + minor * 256 + patch
