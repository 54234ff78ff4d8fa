-- The number, the fields and the LF make the line (wrote_line).
use Rattle.csv_lines.proofs.WritingLaws.{wrote_line}
use Rattle.csv_lines.proofs.writing.Pen.put_numbers.Goals as goal

pub returns-clause-wrote : goal.returns-clause-wrote
returns-clause-wrote c = wrote_line _ _ _ _ _ _ c.put_number.ensures c.put_fields.ensures.wrote c.put.ensures
