-- How many bytes of an input the program holds.
use Rattle.std.specs.Prelude.{ℕ}

abbrev pub max_bytes : ℕ
max_bytes = 65536
