-- The runs of specs/CheckRuns.antt, by computation.
use mathlib.Core.List.{List, [], ◌∷◌, map}
use mathlib.Core.Path.{◌≡◌, refl}
use Rattle.std.specs.Prelude.{Option, Result}
use Rattle.decisions.specs.declared.refusals.Refusal.{Refusal}
use Rattle.parts.specs.Tags.{greater}
use Rattle.well_formed.specs.Clauses.{is_zero, tag_ok}
use Rattle.shift.specs.declared.Finding.{Finding}
use Rattle.shift.specs.declared.Row.{Row}
use Rattle.shift.specs.Faults.{share_tag, is_source, no_such_write, out_of_order, rule_of, rule_at, first_from, is_sound, checked}
use Rattle.shift.specs.Findings.{has_its_tag, other_of, finding, record_of, told, found_in}
use Rattle.shift.specs.CheckRuns.{CheckRun, finds, must_find, check_runs, rows_run, records_run, rules_run}

-- what the check finds, with every definition opened
opened : List CheckRun → List (Result (Option Finding) Refusal)
unfolding greater is_zero tag_ok share_tag is_source no_such_write out_of_order rule_of rule_at first_from is_sound checked has_its_tag other_of finding
opened rs = map finds rs

pub check_runs_hold : map finds check_runs ≡ map must_find check_runs
unfolding opened check_runs
check_runs_hold = refl

pub rows_hold : map record_of rows_run ≡ records_run
unfolding record_of rows_run records_run
rows_hold = refl

pub rule_numbers_hold : rules_run ≡ 1 ∷ 2 ∷ 3 ∷ []
unfolding rules_run
rule_numbers_hold = refl

-- the check of rows is that of their records
pub found_in_rows : (rows : List Row) → found_in rows ≡ told (map record_of rows) (checked (map record_of rows))
unfolding found_in
found_in_rows rows = refl
