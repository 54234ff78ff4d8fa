-- The board is written kind by kind (RoundTrip).
use Rattle.std.proofs.Common.{arith}
use Rattle.layout.proofs.RoundTrip.{written}
use Rattle.layout.proofs.writing.put_board.Goals as goal

pub returns-clause-written : goal.returns-clause-written
returns-clause-written c =
    let setup = c.put_words.ensures.0 (omega (arith, c.told-w)) in
    let nodes = c.put_parts.ensures in
    let consoles = c.put_parts-2.ensures in
    let cells = c.put_parts-3.ensures in
    written c.args.w.now _ c.args.b c.told-w
    (record { nodes_long = nodes.long; consoles_long = consoles.long; cells_long = cells.long; nodes_fit = nodes.fit; consoles_fit = consoles.fit; cells_fit = cells.fit })
    (rw (cells.written, consoles.written, nodes.written, setup, c.setup_words.ensures))
