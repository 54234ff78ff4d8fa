-- Each kind is read from its own words.
use Rattle.layout.specs.InWords.{all_from}
use Rattle.layout.specs.Layout.{board_in}
use Rattle.layout.proofs.reading.read_board.Goals as goal

pub returns : goal.returns
unfolding board_in all_from
returns c = rw (
  c.setup_from-board.ensures,
  c.read_parts.ensures,
  c.words_of_each.ensures,
  c.read_parts-2.ensures,
  c.words_of_each-2.ensures,
  c.read_parts-3.ensures,
  c.words_of_each-3.ensures,
)
