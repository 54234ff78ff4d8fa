-- The numbers of the refusals (document 01, 'Questions put before each step'; document 02): this is their table.
use Rattle.std.specs.Prelude.{ℕ, List, [], ◌∷◌, Option, None, Some, get_or}
use Rattle.decisions.specs.declared.refusals.Refusal.{Refusal}
use Rattle.decisions.specs.declared.refusals.Refusal.TheVariants.{NotWellFormed, BadNodeCount, BadConsoleCount, NoSuchConsole, NoSuchNode, ConsoleIsDown, ConsoleBusy, NoFrame, NodeIsDown, TsUsedUp, NotThreeFields, NoSuchVerb, LineTooLong, NodeIsUp, ConsoleIsUp, LivesUsedUp, TooManyRecords, UnsoundRecord, Other}

abbrev pub number_of : Refusal → ℕ
number_of NotWellFormed = 1
number_of BadNodeCount = 2
number_of BadConsoleCount = 3
number_of NoSuchConsole = 4
number_of NoSuchNode = 5
number_of ConsoleIsDown = 6
number_of ConsoleBusy = 7
number_of NoFrame = 8
number_of NodeIsDown = 9
number_of TsUsedUp = 10
number_of NotThreeFields = 11
number_of NoSuchVerb = 12
number_of LineTooLong = 13
number_of NodeIsUp = 14
number_of ConsoleIsUp = 15
number_of LivesUsedUp = 16
number_of TooManyRecords = 17
number_of UnsoundRecord = 18
number_of (Other n) = n

-- the refusals in the order of their numbers, from 0 on, which is none of the papers'
abbrev pub numbered : List Refusal
numbered = Other 0 ∷ NotWellFormed ∷ BadNodeCount ∷ BadConsoleCount ∷ NoSuchConsole ∷ NoSuchNode ∷ ConsoleIsDown ∷ ConsoleBusy ∷ NoFrame ∷ NodeIsDown ∷ TsUsedUp ∷ NotThreeFields ∷ NoSuchVerb ∷ LineTooLong ∷ NodeIsUp ∷ ConsoleIsUp ∷ LivesUsedUp ∷ TooManyRecords ∷ UnsoundRecord ∷ []

-- the refusal with this number
abbrev pub refusal_of : ℕ → Refusal
refusal_of n = get_or numbered n (Other n)

-- 'refusal or 0'
abbrev pub refusal_number : Option Refusal → ℕ
refusal_number None = 0
refusal_number (Some r) = number_of r
