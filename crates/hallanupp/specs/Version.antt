-- The library's version as one number, which grows with every version: minor and patch stay below 1,000.
use Rattle.std.specs.Prelude.{ℕ, ◌+◌, ◌*◌}

abbrev pub version_number : ℕ → ℕ → ℕ → ℕ
version_number major minor patch = major * 1_000_000 + minor * 1_000 + patch

-- 1.0.0
abbrev pub version : ℕ
version = version_number 1 0 0
