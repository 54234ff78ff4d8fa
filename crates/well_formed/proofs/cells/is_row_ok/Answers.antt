-- The closure's test is the definition's.
use Rattle.std.proofs.Common.{rules}
use Rattle.parts.specs.Parts.{frame_in}
use Rattle.well_formed.specs.Clauses.{cell_ok, row_ok}
use Rattle.well_formed.proofs.cells.is_row_ok.Goals as goal

pub returns : goal.returns
unfolding row_ok
returns c = c.every.ensures (λ k. cell_ok c.args.setup c.args.c.0 k (frame_in c.args.cells.now c.args.c.0 k)) (λ k yes h post. search rules)
