-- The check of a shift's record (document 02, Paper 10) as callers in C get it: a struct of numbers.
use Rattle.std.specs.Prelude.{ℕ, Option, None, Some, Result, Ok, Err, unwrap_or}
use Rattle.decisions.specs.declared.refusals.Refusal.{Refusal}
use Rattle.decisions.specs.Refusals.{number_of}
use Rattle.shift.specs.declared.Finding.{Finding}
use Rattle.shift.specs.Faults.{rule_number}
use Rattle.hatukeno.specs.declared.Verdict.{Verdict}

-- the place of no record: the greatest number of 64 bits
abbrev pub no_record : ℕ
no_record = 18446744073709551615

abbrev pub verdict_of : Result (Option Finding) Refusal → Verdict
verdict_of (Err r) = record { refusal = number_of r; rule = 0; place = 0; other = no_record }
verdict_of (Ok None) = record { refusal = 0; rule = 0; place = 0; other = no_record }
verdict_of (Ok (Some f)) =
    record {
      refusal = 0;
      rule = rule_number f.fault.rule;
      place = f.fault.place;
      other = unwrap_or f.other no_record;
    }
