-- A part that stands in so many words: it is read from its own words, they say whether they stand for a part, and it has
-- its fields as words. Parts of one kind stand one after the other.
use Rattle.std.specs.Prelude.{ℕ, Bool, List, map}
use Rattle.std.specs.List.{list_all}
use Rattle.std.specs.Simd.{first_chunks}

-- the first k parts in the words, of s words each
unfoldable pub all_from : {A : Type 0} → (List ℕ → A) → ℕ → ℕ → List ℕ → List A
all_from from s k w = map from (first_chunks s k w)

-- whether the words of each of them stand for a part
unfoldable pub all_stand : (List ℕ → Bool) → ℕ → ℕ → List ℕ → Bool
all_stand stands s k w = list_all stands (first_chunks s k w)
