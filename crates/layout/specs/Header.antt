-- What bindings/c/board.h says of the words: where the parts begin, and each part as its fields. Numbers that changed
-- places both in reading and in writing would meet every claim; this list holds them to the header.
use Rattle.std.specs.Prelude.{ℕ, true, false, List, [], ◌∷◌}
use Rattle.parts.specs.declared.Release.TheVariants.{One, Two}
use Rattle.parts.specs.declared.Tag.{Tag}
use Rattle.parts.specs.declared.Frame.TheVariants.{Nothing, Ask, Reply, Put, Ack}
use Rattle.parts.specs.declared.Kind.TheVariants.{Read, Write}
use Rattle.parts.specs.declared.State.{State}
use Rattle.parts.specs.declared.State.TheVariants.{Idle, Asking, Telling, Down}
use Rattle.parts.specs.declared.Console.{Console}
use Rattle.parts.specs.Parts.{cell_of}
use Rattle.layout.specs.Layout.{node_offset, console_offset, cell_offset, board_words, setup_fields, node_fields, console_fields, cell_fields}

-- numbers that all differ
abbrev tag : Tag
tag = record { ts = 21; console = 6; life = 5 }

abbrev console_in : State → Console
console_in s = record { state = s; wanted = 31; answered = 9; best = tag; value = 42; alike = true; life = 8 }

-- what the definitions give
unfoldable pub as_written : List (List ℕ)
as_written =
    (node_offset 0 ∷ console_offset 0 ∷ cell_offset 0 ∷ board_words ∷ [])
    ∷ setup_fields (record { n = 3; m = 7; release = One })
    ∷ setup_fields (record { n = 3; m = 7; release = Two })
    ∷ node_fields (record { up = false; tag = tag; value = 42 })
    ∷ node_fields (record { up = true; tag = tag; value = 42 })
    ∷ console_fields (console_in Idle)
    ∷ console_fields (console_in (Asking Read))
    ∷ console_fields (console_in (Asking Write))
    ∷ console_fields (console_in (Telling Read))
    ∷ console_fields (console_in (Telling Write))
    ∷ console_fields (console_in Down)
    ∷ cell_fields (cell_of Nothing)
    ∷ cell_fields (cell_of Ask)
    ∷ cell_fields (cell_of (Reply tag 42))
    ∷ cell_fields (cell_of (Put tag 42))
    ∷ cell_fields (cell_of Ack)
    ∷ []

-- what the header says; 393221 is 6 × 65536 + 5, console and life in one word
unfoldable pub in_the_header : List (List ℕ)
in_the_header =
    (4 ∷ 24 ∷ 88 ∷ 248 ∷ [])
    ∷ (3 ∷ 7 ∷ 1 ∷ 2 ∷ [])
    ∷ (3 ∷ 7 ∷ 2 ∷ 2 ∷ [])
    ∷ (0 ∷ 21 ∷ 393221 ∷ 42 ∷ [])
    ∷ (1 ∷ 21 ∷ 393221 ∷ 42 ∷ [])
    ∷ (0 ∷ 31 ∷ 9 ∷ 21 ∷ 393221 ∷ 42 ∷ 1 ∷ 8 ∷ [])
    ∷ (1 ∷ 31 ∷ 9 ∷ 21 ∷ 393221 ∷ 42 ∷ 1 ∷ 8 ∷ [])
    ∷ (2 ∷ 31 ∷ 9 ∷ 21 ∷ 393221 ∷ 42 ∷ 1 ∷ 8 ∷ [])
    ∷ (3 ∷ 31 ∷ 9 ∷ 21 ∷ 393221 ∷ 42 ∷ 1 ∷ 8 ∷ [])
    ∷ (4 ∷ 31 ∷ 9 ∷ 21 ∷ 393221 ∷ 42 ∷ 1 ∷ 8 ∷ [])
    ∷ (5 ∷ 31 ∷ 9 ∷ 21 ∷ 393221 ∷ 42 ∷ 1 ∷ 8 ∷ [])
    ∷ (0 ∷ 0 ∷ 0 ∷ 0 ∷ [])
    ∷ (1 ∷ 0 ∷ 0 ∷ 0 ∷ [])
    ∷ (2 ∷ 21 ∷ 393221 ∷ 42 ∷ [])
    ∷ (3 ∷ 21 ∷ 393221 ∷ 42 ∷ [])
    ∷ (4 ∷ 0 ∷ 0 ∷ 0 ∷ [])
    ∷ []
