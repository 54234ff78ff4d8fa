-- Invariant: the pen wrote the fields so far.
use Rattle.std.proofs.Common.{◌+◌, ◌*◌, ◌≤◌, take}
use Rattle.csv_lines.specs.Pens.{Wrote}
use Rattle.csv_lines.specs.Writing.{fields_text, field_bytes}
use Rattle.csv_lines.proofs.writing.Pen.put_fields.Given as goal

abbrev pub invariant-loop-n : goal.invariant-loop-n
invariant-loop-n l =
    record {
      wrote : Wrote l.initial.self l.self (fields_text (take l.n-index l.fields));
      short : l.self.at ≤ l.initial.self.at + l.n-index * field_bytes;
    }
