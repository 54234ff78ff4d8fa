-- What people are told beside the check's answer: which other record the one at fault is against. And records by their
-- numbers, as callers in C and lines have them.
use Rattle.std.specs.Prelude.{ℕ, Bool, cond, ◌&&◌, eqb, min, List, take, Option, Result, Ok, Err, slice_get, option_map, option_and_then, map, position}
use Rattle.parts.specs.declared.Kind.{Kind}
use Rattle.parts.specs.declared.Kind.TheVariants.{Read, Write}
use Rattle.parts.specs.Parts.{is_write}
use Rattle.decisions.specs.declared.refusals.Refusal.{Refusal}
use Rattle.shift.specs.declared.Record.{Record}
use Rattle.shift.specs.declared.Row.{Row}
use Rattle.shift.specs.declared.Rule.{Rule}
use Rattle.shift.specs.declared.Rule.TheVariants.{SharedTag, NoSuchWrite, TagTooLow}
use Rattle.shift.specs.declared.Fault.{Fault}
use Rattle.shift.specs.declared.Finding.{Finding}
use Rattle.shift.specs.Faults.{same_tag, share_tag, out_of_order, checked}

-- ---- the other record

-- a write of y's tag
unfoldable pub has_its_tag : Record → Record → Bool
has_its_tag x y = is_write x.kind && same_tag x.tag y.tag

-- of the record y in place i, at fault by this rule
unfoldable pub other_of : List Record → ℕ → Record → Rule → Option ℕ
other_of l i y SharedTag = position (λ x. share_tag x y) (take i l)
other_of l i y NoSuchWrite = position (λ x. has_its_tag x y) l
other_of l i y TagTooLow = position (λ x. out_of_order x y) (take i l)

unfoldable pub finding : List Record → Fault → Finding
finding l f = record { fault = f; other = option_and_then (λ y. other_of l f.place y f.rule) (slice_get l f.place) }

-- ---- rows

-- a number that 16 bits do not hold is no console or life of any board, nor is the greatest that they hold
abbrev pub in_16_bits : ℕ → ℕ
in_16_bits n = min n 65535

abbrev pub kind_of : ℕ → Kind
kind_of n = cond (eqb n 0) Read Write

unfoldable pub record_of : Row → Record
record_of r =
    record {
      console = record { 0 = r.console };
      kind = kind_of r.write;
      begin = r.begin;
      end = r.end;
      tag = record { ts = r.ts; console = in_16_bits r.tag_console; life = in_16_bits r.life };
      value = r.value;
    }

-- ---- both

-- what the check finds, with the other record
abbrev pub told : List Record → Result (Option Fault) Refusal → Result (Option Finding) Refusal
told l (Ok found) = Ok (option_map (finding l) found)
told l (Err refusal) = Err refusal

unfoldable pub found_in : List Row → Result (Option Finding) Refusal
found_in rows = told (map record_of rows) (checked (map record_of rows))
