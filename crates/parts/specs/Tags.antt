-- Tags and their order (document 01, 'The board': tag; source document 000, definition 1; the life: document 02, Paper
-- 7), the number that stands for a tag (Paper 5), and how a reply's tag compares (Paper 3).
use Rattle.std.specs.Prelude.{ℕ, ◌+◌, ◌*◌, Bool, true, false, cond, Option, None, Some, ◌&&◌, ◌||◌, ltb, eqb}
use Rattle.parts.specs.declared.Tag.{Tag}
use Rattle.std.specs.declared.cmp.Ordering.{Ordering}
use Rattle.std.specs.declared.cmp.Ordering.TheVariants.{Less, Equal, Greater}

-- tag (0, 0); 'A tag with ts 0 has life 0'
abbrev pub zero_tag : Tag
zero_tag = record { ts = 0; console = 0; life = 0 }

-- 'Tag a is greater than tag b if its ts is greater, or the ts are equal and its console number is greater'; the life
-- is 'compared after ts and console'
unfoldable pub greater : Tag → Tag → Bool
greater a b =
    ltb b.ts a.ts
    || eqb a.ts b.ts && ltb b.console a.console
    || eqb a.ts b.ts && eqb a.console b.console && ltb b.life a.life

-- how many lives a tag's type has room for: 16 bits
abbrev pub life_room : ℕ
life_room = 65536

-- 'one number for each tag, ts × 8 + console number' (document 02, Paper 5), and after it room for the life
abbrev pub key : Tag → ℕ
key t = (t.ts * 8 + t.console) * life_room + t.life

-- 'lower, same or higher (its tag against the old best)'
unfoldable pub compared : Tag → Tag → Ordering
compared t best = cond (greater t best) Greater (cond (greater best t) Less Equal)

-- a comparison, or none of a step that takes no reply in
abbrev pub is_higher : Option Ordering → Bool
is_higher None = false
is_higher (Some Less) = false
is_higher (Some Equal) = false
is_higher (Some Greater) = true

abbrev pub is_same : Option Ordering → Bool
is_same None = false
is_same (Some Less) = false
is_same (Some Equal) = true
is_same (Some Greater) = false
