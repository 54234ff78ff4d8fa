-- 'or' with the bit is insertion, at every byte and bit.
use Rattle.parts.proofs.AnsweredLaws.{or_insert}
use Rattle.parts.proofs.answered.with_member.Goals as goal

pub returns : goal.returns
returns c = λ h. rw c.bit.ensures (or_insert c.args.s c.args.k.0 c.ranges.s.fits h)
