-- That each kind has as many fields as words, by computation. It is the law of
-- InWords, and stands with the definitions because an impl can cite no other files.
use Rattle.std.specs.Prelude.{◌≡◌, refl, length}
use Rattle.parts.specs.declared.Node.{Node}
use Rattle.parts.specs.declared.Console.{Console}
use Rattle.parts.specs.declared.Cell.{Cell}
use Rattle.layout.specs.Layout.{node_words, node_fields, console_words, console_fields, cell_words, cell_fields}

pub node_wide : (x : Node) → length (node_fields x) ≡ node_words
unfolding node_fields
node_wide x = refl

pub console_wide : (x : Console) → length (console_fields x) ≡ console_words
unfolding console_fields
console_wide x = refl

pub cell_wide : (x : Cell) → length (cell_fields x) ≡ cell_words
unfolding cell_fields
cell_wide x = refl
