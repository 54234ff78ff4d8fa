-- When a shift's record is in order (document 02, Paper 10): the paper's three rules, of every two places of the list.
-- specs/Faults.antt says by tests which record is at fault; specs/Claims.antt ties the two.
use Rattle.std.specs.Prelude.{ℕ, ◌≡◌, ◌≢◌, ◌<◌, ◌⊎◌, true, false, List, Some, slice_get}
use Rattle.std.specs.List.{Any}
use Rattle.parts.specs.declared.Kind.TheVariants.{Read, Write}
use Rattle.parts.specs.Tags.{zero_tag, greater}
use Rattle.shift.specs.declared.Record.{Record}
use Rattle.shift.specs.declared.Rule.{Rule}
use Rattle.shift.specs.declared.Rule.TheVariants.{SharedTag, NoSuchWrite, TagTooLow}

-- record x stands in this place of the list, from 0
abbrev pub At : List Record → ℕ → Record → Type 0
At l i x = slice_get l i ≡ Some x

-- two writes that 'share a tag'
abbrev pub ShareTag : Record → Record → Type 0
ShareTag x y = (x.kind ≡ Write) × (y.kind ≡ Write) × (x.tag ≡ y.tag)

-- y's 'tag and value are those of a listed write'
abbrev pub IsWritten : List Record → Record → Type 0
IsWritten l y = Any (λ x. (x.kind ≡ Write) × (x.tag ≡ y.tag) × (x.value ≡ y.value)) l

-- 'or tag zero with value 0'
abbrev pub IsInitial : Record → Type 0
IsInitial y = (y.tag ≡ zero_tag) × (y.value ≡ 0)

-- x's 'end comes before' y's 'begin'; an end of 0 is 'before nothing'
abbrev pub EndsBefore : Record → Record → Type 0
EndsBefore x y = (0 < x.end) × (x.end < y.begin)

-- y, 'the later', has 'no lower tag' than x, 'and a higher one if it wrote'
abbrev pub NoLower : Record → Record → Type 0
NoLower x y = (greater x.tag y.tag ≡ false) × (y.kind ≡ Write → greater y.tag x.tag ≡ true)

-- 'A list is in order exactly when:'
pub record InOrder (l : List Record) : Type 0 where
  -- 'no two writes share a tag;'
  pub one_write : (i j : ℕ) (x y : Record) → i ≢ j → At l i x → At l j y → ShareTag x y → ⊥
  -- 'each read's tag and value are those of a listed write, or tag zero with value 0;'
  pub written : (i : ℕ) (y : Record) → At l i y → y.kind ≡ Read → IsWritten l y ⊎ IsInitial y
  -- 'and whenever one operation's end comes before another's begin, the later has no lower tag, and a higher one if it
  -- wrote'
  pub in_time : (i j : ℕ) (x y : Record) → i ≢ j → At l i x → At l j y → EndsBefore x y → NoLower x y

-- ---- a record at fault, in the same words

-- some record 'before it in the list'
abbrev pub SomeBefore : List Record → ℕ → (Record → Type 0) → Type 0
SomeBefore l i P = (j : ℕ) × (x : Record) × (j < i) × At l j x × P x

-- x ended before y began, and y's tag is not as the third rule has it
abbrev pub OutOfTime : Record → Record → Type 0
OutOfTime x y = EndsBefore x y × (NoLower x y → ⊥)

-- a rule that y in place i breaks: 'it and some record before it in the list break a pair rule, or it is a read, other
-- than of tag zero with value 0, with no such write anywhere'
abbrev pub Breaks : List Record → ℕ → Record → Rule → Type 0
Breaks l i y SharedTag = SomeBefore l i (λ x. ShareTag x y)
Breaks l i y NoSuchWrite = (y.kind ≡ Read) × (IsWritten l y ⊎ IsInitial y → ⊥)
Breaks l i y TagTooLow = SomeBefore l i (λ x. OutOfTime x y ⊎ OutOfTime y x)

-- the record in place i is at fault by this rule
abbrev pub AtFault : List Record → ℕ → Rule → Type 0
AtFault l i r = (y : Record) × At l i y × Breaks l i y r
