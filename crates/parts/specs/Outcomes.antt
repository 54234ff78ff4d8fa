-- Whether a step with this outcome is accepted, and what an outcome says in document 01's numbers: its number, its tag and its value. And the
-- number of a comparison.
use Rattle.std.specs.Prelude.{ℕ, Bool, true, false, Option, None, Some}
use Rattle.parts.specs.declared.Tag.{Tag}
use Rattle.parts.specs.declared.Outcome.{Outcome}
use Rattle.parts.specs.declared.Outcome.TheVariants.{Refused, Done, Handed, Heard, Turned, Finished, Discarded}
use Rattle.std.specs.declared.cmp.Ordering.{Ordering}
use Rattle.std.specs.declared.cmp.Ordering.TheVariants.{Less, Equal, Greater}
use Rattle.parts.specs.Tags.{zero_tag}

-- 'A step is accepted if it is not refused': by this go the log of a run, schedules, calls and lists
abbrev pub accepted : Outcome → Bool
accepted Refused = false
accepted Done = true
accepted Handed = true
accepted Heard = true
accepted Turned = true
accepted (Finished t v) = true
accepted Discarded = true

-- 'Outcomes are written 0 refused, 1 done, 2 handed, 3 heard, 4 turned, 5 finished, 6 discarded'
abbrev pub outcome_number : Outcome → ℕ
outcome_number Refused = 0
outcome_number Done = 1
outcome_number Handed = 2
outcome_number Heard = 3
outcome_number Turned = 4
outcome_number (Finished t v) = 5
outcome_number Discarded = 6

-- 'finished, with the best tag and value it had .. Every other outcome carries tag (0, 0), value 0'
abbrev pub outcome_tag : Outcome → Tag
outcome_tag Refused = zero_tag
outcome_tag Done = zero_tag
outcome_tag Handed = zero_tag
outcome_tag Heard = zero_tag
outcome_tag Turned = zero_tag
outcome_tag (Finished t v) = t
outcome_tag Discarded = zero_tag

abbrev pub outcome_value : Outcome → ℕ
outcome_value Refused = 0
outcome_value Done = 0
outcome_value Handed = 0
outcome_value Heard = 0
outcome_value Turned = 0
outcome_value (Finished t v) = v
outcome_value Discarded = 0

-- a comparison as a number, in the order of the paper's words: none, and 'lower, same or higher'
abbrev pub compared_number : Option Ordering → ℕ
compared_number None = 0
compared_number (Some Less) = 1
compared_number (Some Equal) = 2
compared_number (Some Greater) = 3
