-- The shift and the remainder are the definition's quotient and remainder; a byte has no node from 8 on.
use Rattle.std.proofs.Common.{sym, rules}
use Rattle.parts.specs.AnsweredSet.{member}
use Rattle.parts.proofs.AnsweredLaws.{byte_no_member}
use Rattle.parts.proofs.answered.is_member.Goals as goal

pub returns-then-i-ge8 : goal.returns-then-i-ge8
returns-then-i-ge8 c = sym (byte_no_member c.args.k.0 c.args.s c.ranges.s.fits c.if-i-ge8.true)

pub returns : goal.returns
unfolding member
returns c = search rules
