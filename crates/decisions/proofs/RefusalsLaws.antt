-- A number read as a refusal has that number, and a refusal that has a name is read back from its number.
use mathlib.Core.Logic.{inl, inr, ◌⊎◌}
use native.Mathlib.Omega.{arith}
use Rattle.std.specs.Prelude.{ℕ, zero, suc, ◌+◌, Bool, true, ◌&&◌, eqb, List, [], ◌∷◌, ◌≡◌, refl, get_or}
use borrow.Author.Tests.{eqb-true}
use Rattle.parts.proofs.FiniteLaws.{and_left, and_right}
use Rattle.decisions.specs.declared.refusals.Refusal.{Refusal}
use Rattle.decisions.specs.declared.refusals.Refusal.TheVariants.{NotWellFormed, BadNodeCount, BadConsoleCount, NoSuchConsole, NoSuchNode, ConsoleIsDown, ConsoleBusy, NoFrame, NodeIsDown, TsUsedUp, NotThreeFields, NoSuchVerb, LineTooLong, NodeIsUp, ConsoleIsUp, LivesUsedUp, TooManyRecords, UnsoundRecord, Other}
use Rattle.decisions.specs.Refusals.{number_of, numbered, refusal_of}

-- whether each refusal of the list has the number of its place, counted from k
abbrev counted : ℕ → List Refusal → Bool
counted k [] = true
counted k (r ∷ rs) = eqb (number_of r) k && counted (suc k) rs

placed : (rs : List Refusal) (k n m : ℕ) → n + k ≡ m → counted k rs ≡ true → number_of (get_or rs n (Other m)) ≡ m
placed [] k n m e c = refl
placed (r ∷ rs) k zero m e c = omega (arith, e, eqb-true (number_of r) k (and_left (eqb (number_of r) k) (counted (suc k) rs) c))
placed (r ∷ rs) k (suc n) m e c =
    placed rs (suc k) n m (omega (arith, e)) (and_right (eqb (number_of r) k) (counted (suc k) rs) c)

pub number_back : (n : ℕ) → number_of (refusal_of n) ≡ n
number_back n = placed numbered 0 n n (omega arith) refl

pub case_back : (r : Refusal) → (refusal_of (number_of r) ≡ r) ⊎ (Other (number_of r) ≡ r)
case_back NotWellFormed = inl refl
case_back BadNodeCount = inl refl
case_back BadConsoleCount = inl refl
case_back NoSuchConsole = inl refl
case_back NoSuchNode = inl refl
case_back ConsoleIsDown = inl refl
case_back ConsoleBusy = inl refl
case_back NoFrame = inl refl
case_back NodeIsDown = inl refl
case_back TsUsedUp = inl refl
case_back NotThreeFields = inl refl
case_back NoSuchVerb = inl refl
case_back LineTooLong = inl refl
case_back NodeIsUp = inl refl
case_back ConsoleIsUp = inl refl
case_back LivesUsedUp = inl refl
case_back TooManyRecords = inl refl
case_back UnsoundRecord = inl refl
case_back (Other n) = inr refl
