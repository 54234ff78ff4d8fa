-- The count of ones is the size of the set, at every byte.
use Rattle.parts.proofs.AnsweredLaws.{ones_size}
use Rattle.parts.proofs.answered.set_size.Goals as goal

pub returns : goal.returns
returns c = ones_size c.args.s c.ranges.s.fits
