-- What the check of a list that is not refused says of it, and the check of too many rows.
use Prim.Native.Nat.{◌<◌}
use mathlib.Core.Bool.{Bool, true, false, cond, not}
use mathlib.Core.List.{List}
use mathlib.Core.Path.{◌≡◌, refl}
use lib.Dec.{ltb}
use borrow.Author.Tests.{lt-ltb}
use Rattle.std.proofs.lemmas.List.{length-map}
use Rattle.std.specs.Prelude.{length, Option, Result, Ok, Err, All}
use Rattle.std.specs.List.{list_all}
use Rattle.decisions.specs.declared.refusals.Refusal.{Refusal}
use Rattle.decisions.specs.declared.refusals.Refusal.TheVariants.{TooManyRecords, UnsoundRecord}
use Rattle.shift.specs.declared.Record.{Record}
use Rattle.shift.specs.declared.Row.{Row}
use Rattle.shift.specs.declared.Fault.{Fault}
use Rattle.shift.specs.Faults.{Comparable, is_sound, max_records, first_fault, checked}
use Rattle.shift.specs.Findings.{record_of, found_in}
use Rattle.shift.proofs.SoundLaws.{sound_all}

-- a list that is not refused is sound
pub checked_sound : (l : List Record) (found : Option Fault) → checked l ≡ Ok found → list_all is_sound l ≡ true
unfolding checked
checked_sound l found h = go (ltb max_records (length l)) (list_all is_sound l) h
  where
    go : (x y : Bool) → ◌≡◌ {A = Result (Option Fault) Refusal} (cond x (Err TooManyRecords) (cond (not y) (Err UnsoundRecord) (Ok (first_fault l)))) (Ok found) → y ≡ true
    go true y e = absurd (cc e)
    go false false e = absurd (cc e)
    go false true e = refl

pub checked_comparable : (l : List Record) (found : Option Fault) → checked l ≡ Ok found → All Comparable l
checked_comparable l found h = sound_all l (checked_sound l found h)

pub many_rows : (rows : List Row) → max_records < length rows → found_in rows ≡ Err TooManyRecords
unfolding found_in checked
many_rows rows h = rw (length-map rows record_of, lt-ltb max_records (length rows) h)
