-- Which record of a shift is at fault, and what the check of a list answers (document 02, Paper 10). All of it is
-- computed.
use Rattle.std.specs.Prelude.{ℕ, zero, suc, ◌+◌, ◌<◌, Bool, cond, not, ◌&&◌, ◌||◌, eqb, ltb, List, length, take, Option, Some, None, Result, Ok, Err, slice_get, option_and_then}
use Rattle.std.specs.List.{list_any, list_all}
use Rattle.parts.specs.declared.Tag.{Tag}
use Rattle.parts.specs.Finite.{◌implies◌}
use Rattle.parts.specs.Limits.{max_consoles}
use Rattle.parts.specs.Parts.{is_write}
use Rattle.parts.specs.Tags.{greater}
use Rattle.well_formed.specs.Clauses.{is_zero, tag_ok}
use Rattle.decisions.specs.declared.refusals.Refusal.{Refusal}
use Rattle.decisions.specs.declared.refusals.Refusal.TheVariants.{TooManyRecords, UnsoundRecord}
use Rattle.shift.specs.declared.Record.{Record}
use Rattle.shift.specs.declared.Rule.{Rule}
use Rattle.shift.specs.declared.Rule.TheVariants.{SharedTag, NoSuchWrite, TagTooLow}
use Rattle.shift.specs.declared.Fault.{Fault}

-- ---- the rules, by tests

abbrev pub same_tag : Tag → Tag → Bool
same_tag a b = eqb a.ts b.ts && eqb a.console b.console && eqb a.life b.life

-- two writes share a tag
unfoldable pub share_tag : Record → Record → Bool
share_tag x y = is_write x.kind && is_write y.kind && same_tag x.tag y.tag

-- x is a write, and y's tag and value are its
unfoldable pub is_source : Record → Record → Bool
is_source x y = is_write x.kind && same_tag x.tag y.tag && eqb x.value y.value

-- 'it is a read, other than of tag zero with value 0, with no such write anywhere'
unfoldable pub no_such_write : List Record → Record → Bool
no_such_write l y = not (is_write y.kind) && not (is_zero y.tag y.value) && not (list_any (λ x. is_source x y) l)

-- x's end comes before y's begin
abbrev pub ends_before : Record → Record → Bool
ends_before x y = ltb 0 x.end && ltb x.end y.begin

-- y has a lower tag than x, or it wrote and has none that is higher
abbrev pub is_too_low : Record → Record → Bool
is_too_low x y = greater x.tag y.tag || is_write y.kind && not (greater y.tag x.tag)

-- whichever of the two is the later has too low a tag
unfoldable pub out_of_order : Record → Record → Bool
out_of_order x y = ends_before x y && is_too_low x y || ends_before y x && is_too_low y x

-- ---- the earliest record at fault

-- 'the first rule, in the order just given, that puts it at fault': a pair rule, the first or the third, looks at the
-- records before it in the list, the second at all of them
unfoldable pub rule_of : List Record → List Record → Record → Option Rule
rule_of l before y =
    cond (list_any (λ x. share_tag x y) before) (Some SharedTag)
    (cond (no_such_write l y) (Some NoSuchWrite)
    (cond (list_any (λ x. out_of_order x y) before) (Some TagTooLow)
    None))

-- of the record in this place
unfoldable pub rule_at : List Record → ℕ → Option Rule
rule_at l i = option_and_then (rule_of l (take i l)) (slice_get l i)

-- the record in place i if a rule puts it at fault, else what is found after it
abbrev pub fault_or : ℕ → Option Rule → Option Fault → Option Fault
fault_or i None after = after
fault_or i (Some r) after = Some (record { place = i; rule = r })

-- of so many records from place i on, the earliest at fault
unfoldable pub first_from : List Record → ℕ → ℕ → Option Fault
first_from l i zero = None
first_from l i (suc n) = fault_or i (rule_at l i) (first_from l (i + 1) n)

-- 'the earliest record at fault, counted from 0, and the first rule .. that puts it at fault'
abbrev pub first_fault : List Record → Option Fault
first_fault l = first_from l 0 (length l)

-- the rules by their numbers, 'in the order just given'
abbrev pub rule_number : Rule → ℕ
rule_number SharedTag = 1
rule_number NoSuchWrite = 2
rule_number TagTooLow = 3

-- ---- the check

abbrev pub max_records : ℕ
max_records = 256

unfoldable pub is_sound : Record → Bool
is_sound x =
    -- not one 'whose end is not 0 and not after its begin'
    (eqb x.end 0 || ltb x.begin x.end)
    -- 'or whose tag, value aside, is not well formed for 8 consoles'
    && tag_ok max_consoles x.tag 0
    -- 'or a write with ts 0'
    && (is_write x.kind implies ltb 0 x.tag.ts)

-- 'It refuses more than 256 records with 17, then' a record that is not sound 'with 18'
unfoldable pub checked : List Record → Result (Option Fault) Refusal
checked l =
    cond (ltb max_records (length l)) (Err TooManyRecords)
    (cond (not (list_all is_sound l)) (Err UnsoundRecord)
    (Ok (first_fault l)))

-- ---- what the code asks of records whose tags it compares

-- 'Tags are compared only where both console numbers are below 8' (document 01)
abbrev pub Comparable : Record → Type 0
Comparable x = x.tag.console < max_consoles
