-- The closure's test is the definition's.
use Rattle.std.proofs.Common.{rules}
use Rattle.well_formed.specs.Clauses.{row_ok, cells_ok}
use Rattle.well_formed.proofs.cells.are_cells_ok.Goals as goal

pub returns : goal.returns
unfolding cells_ok
returns c = c.every.ensures (row_ok c.args.setup c.args.cells.now) (λ k yes h post. search rules)
