-- A byte has no bit at 8 or above; below that the bit's number is the definition's power.
use Rattle.std.proofs.Common.{sym}
use borrow.Author.Tests.{lt-ltb}
use Rattle.parts.specs.AnsweredSet.{only_below}
use Rattle.parts.proofs.AnsweredLaws.{byte_below}
use Rattle.parts.proofs.answered.is_only_below.Goals as goal

pub returns-then-n-ge8 : goal.returns-then-n-ge8
unfolding only_below
returns-then-n-ge8 c = sym (lt-ltb _ _ (byte_below c.args.n c.args.s c.ranges.s.fits c.if-n-ge8.true))

pub returns : goal.returns
unfolding only_below
returns c = rw c.bit.ensures
