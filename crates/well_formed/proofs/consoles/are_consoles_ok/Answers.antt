-- The closure's test is the definition's.
use Rattle.std.proofs.Common.{rules}
use Rattle.parts.specs.Parts.{console_in}
use Rattle.well_formed.specs.Clauses.{console_ok, consoles_ok}
use Rattle.well_formed.proofs.consoles.are_consoles_ok.Goals as goal

pub returns : goal.returns
unfolding consoles_ok console_in
returns c = c.every.ensures (λ k. console_ok c.args.setup k (console_in c.args.consoles.now k)) (λ k yes h post. search rules)
