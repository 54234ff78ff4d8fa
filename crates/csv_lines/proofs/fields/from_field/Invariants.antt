-- Invariant: field k of the line is what the turns that are left find from `start` on.
use Rattle.std.proofs.Common.{◌≡◌, ◌-◌, ◌≤◌, length, drop}
use Rattle.csv_lines.specs.Reading.{from_field}
use Rattle.csv_lines.proofs.fields.from_field.Given as goal

abbrev pub invariant-loop : goal.invariant-loop
invariant-loop l = (l.start ≤ length l.line) × (from_field l.line l.k ≡ from_field (drop l.start l.line) (l.k - l.counter))
