-- The numbers that a line has room for. Assumes nothing.
use Rattle.std.specs.Prelude.{ℕ, ◌<◌}

-- a number of at most seven digits
abbrev pub Printable : ℕ → Type 0
Printable n = n < 10000000
