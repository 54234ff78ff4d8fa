-- The limits of document 01, 'The board'. The code has them as constants of the board's type.
use Rattle.std.specs.Prelude.{ℕ, ◌*◌}

-- 'n from 1 to 5'
abbrev pub max_nodes : ℕ
max_nodes = 5

-- 'm from 1 to 8'
abbrev pub max_consoles : ℕ
max_consoles = 8

-- 'A cell stands for each console and node pair'
abbrev pub max_cells : ℕ
max_cells = max_consoles * max_nodes

-- 'a timestamp ts (0 to 4,000,000,000)'
abbrev pub max_ts : ℕ
max_ts = 4000000000

-- 'a life number, 0 to 1,000' (document 02, Paper 7)
abbrev pub max_life : ℕ
max_life = 1000
