-- The refusal at its number in the list, and its number (RefusalsLaws).
use Rattle.std.proofs.Common.{ap, ◌∙◌}
use Rattle.decisions.specs.Refusals.{number_of}
use Rattle.decisions.proofs.RefusalsLaws.{number_back}
use Rattle.decisions.proofs.refusals.RefusalFromU32.from.Goals as goal

pub returns : goal.returns
returns c = (c.refusal_at.ensures, ap number_of c.refusal_at.ensures ∙ number_back c.args.number)
