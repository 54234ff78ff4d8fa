-- A turn writes one field more (wrote_field), which is short (field_short).
use Rattle.std.proofs.Common.{arith, get_or}
use Rattle.csv_lines.proofs.WritingLaws.{field_short, wrote_field}
use Rattle.csv_lines.proofs.writing.Pen.put_fields.Goals as goal

pub loop-n-preserved : goal.loop-n-preserved
loop-n-preserved c = record {
  wrote = wrote_field _ _ _ c.args.fields.now c.loop-n.n-index c.loop-n-test.true c.loop-n.invariant.wrote c.put_field.ensures;
  short = omega (arith, field_short (get_or c.args.fields.now c.loop-n.n-index 0) (c.type_inv.fields c.loop-n.n-index).fits);
}
