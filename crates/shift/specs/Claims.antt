-- What is shown of the check's definition (specs/Faults.antt), in the words of specs/InOrder.antt, which knows nothing of
-- it: it finds no fault exactly in the lists that are in order, and what it finds is the earliest record at fault, with
-- its first rule.
use Rattle.std.specs.Prelude.{ℕ, ◌≡◌, ◌≤◌, ◌<◌, ◌↔◌, true, List, length, Some, None, Ok}
use Rattle.std.specs.List.{list_all}
use Rattle.shift.specs.declared.Record.{Record}
use Rattle.shift.specs.declared.Rule.{Rule}
use Rattle.shift.specs.declared.Fault.{Fault}
use Rattle.shift.specs.InOrder.{InOrder, AtFault}
use Rattle.shift.specs.Faults.{rule_number, first_fault, max_records, is_sound, checked}

-- a list is in order exactly when no record is at fault
abbrev pub NoFaultInOrder : Type 0
NoFaultInOrder = (l : List Record) → (first_fault l ≡ None) ↔ InOrder l

-- 'the earliest record at fault, .. and the first rule, in the order just given, that puts it at fault'
pub record IsFirst (l : List Record) (f : Fault) : Type 0 where
  pub at_fault : AtFault l f.place f.rule
  pub by_no_rule_before : (r : Rule) → rule_number r < rule_number f.rule → AtFault l f.place r → ⊥
  pub none_before : (i : ℕ) (r : Rule) → i < f.place → AtFault l i r → ⊥

abbrev pub FaultIsFirst : Type 0
FaultIsFirst = (l : List Record) (f : Fault) → first_fault l ≡ Some f → IsFirst l f

-- the whole check passes a list exactly when it refuses nothing and the list is in order
abbrev pub CheckPasses : Type 0
CheckPasses = (l : List Record) → (checked l ≡ Ok None) ↔ ((length l ≤ max_records) × (list_all is_sound l ≡ true) × InOrder l)
