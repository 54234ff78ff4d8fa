-- How many answers end a phase. The asking and the telling size are both q, under two names.
use Rattle.std.specs.Prelude.{ℕ, ◌+◌, ◌/◌}
use Rattle.parts.specs.declared.Setup.{Setup}

-- 'q, the majority, is n / 2 rounded down, plus 1'
unfoldable pub majority : ℕ → ℕ
majority n = n / 2 + 1

-- the count of answers at which asking ends
unfoldable pub ask_size : Setup → ℕ
ask_size σ = majority σ.n

-- the count of answers at which telling finishes
unfoldable pub tell_size : Setup → ℕ
tell_size σ = majority σ.n
