-- Laws of fields, numbers and lines.
-- A function that goes along a text cites a law for one step more (from_turn, read_more) and one for the end.
use mathlib.Core.Path.{◌≡◌, refl, ap, ◌∙◌}
use mathlib.Core.Bool.{true, false, cond, ◌&&◌, and-false}
use mathlib.Core.List.{List, [], ◌∷◌}
use Prim.Native.Nat.{ℕ, zero, suc, ◌+◌, ◌-◌, ◌*◌, ◌^◌, ◌≤◌, ◌<◌}
use native.Mathlib.Numerals.{add-one, one-add}
use native.Mathlib.Omega.{arith}
use lib.Dec.{ltb, eqb}
use lib.ListN.{length, get_or, take, drop, drop_of_length-le, length-drop}
use lib.Seq.{drop-cons, take_all, drop-drop}
use borrow.Author.Tests.{ne_eqb, le-leb, lt-leb, lt-ltb, le-ltb}
use Rattle.std.specs.Prelude.{Option, Some, None, Err}
use Rattle.std.specs.List.{position_or_len, position, count_by}
use Rattle.std.proofs.lemmas.Grind.{common_steps}
use Rattle.std.proofs.lemmas.List.{take_rest}
use Rattle.std.proofs.lemmas.List.Recursion.{is_position_or_len, is_sum_by}
use Rattle.std.proofs.lemmas.List.Sums.{prefix_len-le-length}
use Rattle.csv_lines.specs.declared.BadLine.TheVariants.{TooLong, NotThree}
use Rattle.csv_lines.specs.Reading.{comma_byte, quote_byte, zero_byte, max_line, index_of, count_of, after_comma, from_field, quoted, unquoted, quote_bytes, field_of, is_digit, all_digits, value_from, num_of, three_of, line_of}

-- ---- the first of a byte, as std's `position` finds it

index_is : (b : ℕ) (s : List ℕ) → index_of b s ≡ position_or_len (λ x. eqb x b) s
unfolding index_of
index_is b s = is_position_or_len (index_of b) (λ x. eqb x b) refl (λ _ t. rw (one-add (index_of b t))) s

index_some : (b : ℕ) (s : List ℕ) (i : ℕ) → Some i ≡ position (λ x. eqb x b) s → (i ≡ index_of b s) × (i < length s)
index_some b s i e = grind (arith, common_steps, index_is)

index_none : (b : ℕ) (s : List ℕ) → None ≡ position (λ x. eqb x b) s → index_of b s ≡ length s
index_none b s e = grind (arith, common_steps, index_is, prefix_len-le-length)

-- ---- what stands from a field on

pub from_all : (s : List ℕ) (k : ℕ) → k ≡ 0 → from_field s k ≡ s
unfolding from_field
from_all s k e = rw e

from_step : (s : List ℕ) (k : ℕ) → from_field s (k + 1) ≡ from_field (after_comma s) k
unfolding from_field
from_step s k = rw add-one

-- from the line's end on there is nothing, whichever field is asked for
from_nothing : (k : ℕ) → from_field [] k ≡ []
unfolding from_field index_of
from_nothing zero = refl
from_nothing (suc k) = from_nothing k

-- a comma is found at place i from a on
module _ (s : List ℕ) (a i : ℕ) (e : Some i ≡ position (λ x. eqb x comma_byte) (take (length s - a) (drop a s))) where
  found : (i ≡ index_of comma_byte (drop a s)) × (i < length (drop a s))
  found = index_some comma_byte (drop a s) i (rw take_rest at e)

  pub turn_room : a + (i + 1) ≤ length s
  turn_room = omega (arith, found.1, length-drop a s)

  pub from_turn : (k j : ℕ) → k ≡ j + 1 → from_field (drop a s) k ≡ from_field (drop (a + (i + 1)) s) j
  from_turn k j n =
      let next : a + suc (index_of comma_byte (drop a s)) ≡ a + (i + 1) = omega (arith, found.0) in
      rw n (from_step (drop a s) j ∙ ap (λ (t : List ℕ). from_field t j) (drop-drop (suc (index_of comma_byte (drop a s))) a s ∙ ap (λ (m : ℕ). drop m s) next))

-- and none is
pub from_last : (s : List ℕ) (a k : ℕ) → None ≡ position (λ x. eqb x comma_byte) (take (length s - a) (drop a s)) → 0 < k → from_field (drop a s) k ≡ []
from_last s a k e some =
    let last = index_none comma_byte (drop a s) (rw take_rest at e) in
    let over : length (drop a s) ≤ suc (index_of comma_byte (drop a s)) = omega (arith, last) in
    let n : k ≡ k - 1 + 1 = omega arith in
    ap (from_field (drop a s)) n ∙ from_step (drop a s) (k - 1) ∙ ap (λ (t : List ℕ). from_field t (k - 1)) (drop_of_length-le (drop a s) over) ∙ from_nothing (k - 1)

-- ---- what stands before the first comma

pub before_some : (s : List ℕ) (i : ℕ) → Some i ≡ position (λ x. eqb x comma_byte) s → take i s ≡ take (index_of comma_byte s) s
before_some s i e = ap (λ (n : ℕ). take n s) (index_some comma_byte s i e).0

pub before_none : (s : List ℕ) → None ≡ position (λ x. eqb x comma_byte) s → take (index_of comma_byte s) s ≡ s
before_none s e = take_all (index_of comma_byte s) s (omega (arith, index_none comma_byte s e))

-- ---- quotes

module _ (s : List ℕ) where
  pub quoted_short : length s < 2 → quoted s ≡ false
  unfolding quoted
  quoted_short h = rw (lt-leb 2 (length s) h)

  pub quoted_open : (get_or s 0 0 ≡ quote_byte → ⊥) → quoted s ≡ false
  unfolding quoted
  quoted_open h = rw (ne_eqb (get_or s 0 0) quote_byte h, and-false)

  pub quoted_close : (get_or s (length s - 1) 0 ≡ quote_byte → ⊥) → quoted s ≡ false
  unfolding quoted
  quoted_close h = rw (ne_eqb (get_or s (length s - 1) 0) quote_byte h, and-false)

  pub quoted_both : 2 ≤ length s → get_or s 0 0 ≡ quote_byte → get_or s (length s - 1) 0 ≡ quote_byte → quoted s ≡ true
  unfolding quoted
  quoted_both h e f = rw (le-leb 2 (length s) h, e, f)

  pub unquoted_yes : quoted s ≡ true → (unquoted s ≡ take (length s - 1 - 1) (drop 1 s)) × (quote_bytes s ≡ 1)
  unfolding unquoted
  unquoted_yes e =
      let two : length s - 1 - 1 ≡ length s - 2 = omega arith in
      rw (e, two) (refl, refl)

  pub unquoted_no : quoted s ≡ false → (unquoted s ≡ s) × (quote_bytes s ≡ 0)
  unfolding unquoted
  unquoted_no e = rw e (refl, refl)

-- ---- how many commas, as std's `count_by` counts them

pub count_is : (b : ℕ) (s : List ℕ) → count_of b s ≡ count_by (λ x. eqb x b) s
unfolding count_of
count_is b s = is_sum_by (count_of b) (λ x. cond (eqb x b) 1 0) refl (λ _ _. refl) s

-- ---- numbers

-- the number that s makes after digits that made a; num_of, once there is a digit
abbrev pub read_from : ℕ → List ℕ → Option ℕ
read_from a s = cond (all_digits s && ltb (value_from a s) (2 ^ 32)) (Some (value_from a s)) None

pub num_none : (s : List ℕ) → length s ≡ 0 → num_of s ≡ None
unfolding num_of
num_none s h = rw h

pub num_some : (s : List ℕ) → (length s ≡ 0 → ⊥) → num_of s ≡ read_from 0 s
unfolding num_of
num_some s h = rw (lt-ltb 0 (length s) (omega arith))

value_grows : (a : ℕ) (s : List ℕ) → a ≤ value_from a s
unfolding value_from
value_grows a [] = omega arith
value_grows a (x ∷ s) = omega (arith, value_grows (a * 10 + (x - zero_byte)) s)

read_big : (a : ℕ) (s : List ℕ) → 2 ^ 32 ≤ a → read_from a s ≡ None
read_big a s h =
    let g : 2 ^ 32 ≤ value_from a s = omega (arith, value_grows a s) in
    rw (le-ltb (value_from a s) (2 ^ 32) g, and-false)

pub read_end : (s : List ℕ) (i a : ℕ) → length s ≤ i → a < 2 ^ 32 → read_from a (drop i s) ≡ Some a
unfolding all_digits value_from
read_end s i a h g = rw (drop_of_length-le s h, lt-ltb a (2 ^ 32) g)

module _ (s : List ℕ) (i a : ℕ) (h : i < length s) where
  pub read_other : is_digit (get_or s i 0) ≡ false → read_from a (drop i s) ≡ None
  unfolding all_digits value_from
  read_other e = rw (drop-cons s i 0 h, e)

  pub read_more : is_digit (get_or s i 0) ≡ true → (d : ℕ) → d ≡ get_or s i 0 - zero_byte → read_from a (drop i s) ≡ read_from (a * 10 + d) (drop (i + 1) s)
  unfolding all_digits value_from
  read_more e d f = rw (add-one, drop-cons s i 0 h, e, f)

  -- a digit that makes a number beyond 32 bits
  pub read_over : is_digit (get_or s i 0) ≡ true → 2 ^ 32 ≤ a * 10 + (get_or s i 0 - zero_byte) → read_from a (drop i s) ≡ None
  read_over e o = read_more e (get_or s i 0 - zero_byte) refl ∙ read_big (a * 10 + (get_or s i 0 - zero_byte)) (drop (i + 1) s) o

-- ---- lines

module _ (s : List ℕ) where
  pub line_long : max_line < length s → line_of s ≡ Err TooLong
  unfolding line_of
  line_long h = rw (lt-ltb max_line (length s) h)

  pub line_few : length s ≤ max_line → (count_of comma_byte s ≡ 2 → ⊥) → line_of s ≡ Err NotThree
  unfolding line_of
  line_few h g = rw (le-ltb max_line (length s) h, ne_eqb (count_of comma_byte s) 2 g)

  pub line_three : length s ≤ max_line → count_of comma_byte s ≡ 2 → line_of s ≡ three_of (num_of (field_of s 0)) (num_of (field_of s 1)) (num_of (field_of s 2))
  unfolding line_of
  line_three h g = rw (le-ltb max_line (length s) h, g)

-- ---- what each function goes by

pub ruleset from_field_laws = (take_rest, turn_room, from_all, from_turn, from_last)

pub ruleset before_comma_laws = (before_some, before_none)

-- each test of the pattern is one of the definition's
pub ruleset unquoted_laws = (quoted_short, quoted_open, quoted_close, quoted_both, unquoted_yes, unquoted_no)

-- a sum beyond 32 bits never comes back (read_over)
pub ruleset number_laws = (num_none, num_some, read_other, read_more, read_over, read_end)

-- each way out is one case of the definition: too long (line_long), not two commas (line_few), three fields
-- (line_three)
pub ruleset read_line_laws = (line_long, line_few, line_three)
