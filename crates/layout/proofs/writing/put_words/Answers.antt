-- One turn of the loop is one field more (sets_more).
use Rattle.std.proofs.Common.{rules}
use Rattle.layout.proofs.Rows.{sets_more}
use Rattle.layout.proofs.writing.put_words.Goals as goal

pub loop-i-preserved : goal.loop-i-preserved
loop-i-preserved c = (
  search rules,
  search rules,
  search rules,
  rw c.loop-i.invariant.3 (sets_more c.args.fields.now c.args.w.now c.args.p c.loop-i.i c.loop-i-test.true),
)
