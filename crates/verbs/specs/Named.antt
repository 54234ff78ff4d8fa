-- What a verb's refusal is, where only its number is written: the papers' one of that number.
use Rattle.std.specs.Prelude.{Option, ◌≡◌}
use Rattle.std.specs.Option.{IfSome}
use Rattle.decisions.specs.Refusals.{number_of, refusal_of}
use Rattle.decisions.specs.declared.refusals.Refusal.{Refusal}

-- no refusal, or the one of its number: no number of the papers' is said by `Other`. proofs/VerbsLaws.antt has it of every
-- verb, schedule's proofs/LinesLaws.antt of every line
abbrev pub Named : Option Refusal → Type 0
Named r = IfSome r (λ why. refusal_of (number_of why) ≡ why)
