-- A field's bytes and its place agree, as they are defined: from that place on, the line holds those bytes
-- (field_part).
use mathlib.Core.Path.{◌≡◌, refl, sym, ap, ◌∙◌}
use mathlib.Core.Bool.{Bool, true, false}
use mathlib.Core.List.{List, [], ◌∷◌}
use Prim.Native.Nat.{ℕ, zero, suc, ◌+◌, ◌-◌, ◌≤◌}
use native.Mathlib.Omega.{arith}
use lib.ListN.{length, take, drop, length-take}
use lib.Seq.{take-nil, take-take, drop-drop}
use Rattle.std.proofs.lemmas.List.{take_min}
use Rattle.csv_lines.specs.Reading.{comma_byte, index_of, after_comma, from_field, raw_field, quoted, field_of, field_start}
use Rattle.csv_lines.proofs.ReadingLaws.{unquoted_yes, unquoted_no}

-- ---- what stands from a field on is a tail of the line

abbrev Tail : List ℕ → List ℕ → Type 0
Tail s t = (length t ≤ length s) × (drop (length s - length t) s ≡ t)

tail_all : (s : List ℕ) → Tail s s
tail_all s =
    let e : length s - length s ≡ 0 = omega arith in
    (omega arith, rw e)

tail_drop : (m : ℕ) (s : List ℕ) → Tail s (drop m s)
tail_drop zero s = tail_all s
tail_drop (suc m) [] = tail_all []
tail_drop (suc m) (x ∷ s) =
    let p = tail_drop m s in
    let e : suc (length s) - length (drop m s) ≡ suc (length s - length (drop m s)) = omega (arith, p.0) in
    (omega (arith, p.0), rw e p.1)

tail_trans : (s t u : List ℕ) → Tail s t → Tail t u → Tail s u
tail_trans s t u p q =
    let e : length s - length u ≡ length s - length t + (length t - length u) = omega (arith, p.0, q.0) in
    (omega (arith, p.0, q.0), ap (λ (i : ℕ). drop i s) e ∙ sym (drop-drop (length t - length u) (length s - length t) s) ∙ ap (drop (length t - length u)) p.1 ∙ q.1)

from_tail : (s : List ℕ) (k : ℕ) → Tail s (from_field s k)
unfolding from_field
from_tail s zero = tail_all s
from_tail s (suc k) = tail_trans s (after_comma s) (from_field (after_comma s) k) (tail_drop (suc (index_of comma_byte s)) s) (from_tail (after_comma s) k)

-- ---- the field in that tail

take_again : (m : ℕ) (l : List ℕ) → take (length (take m l)) l ≡ take m l
take_again m l = ap (λ (k : ℕ). take k l) (length-take m l) ∙ take_min m l

drop_take : (n : ℕ) (l : List ℕ) → drop 1 (take n l) ≡ take (n - 1) (drop 1 l)
drop_take zero l = refl
drop_take (suc n) [] = sym (take-nil (suc n - 1))
drop_take (suc n) (x ∷ l) =
    let e : suc n - 1 ≡ n = omega arith in
    rw e

-- a text that is some first bytes of the line from i on
part_at : (s f : List ℕ) (i j m : ℕ) → i ≡ j → f ≡ take m (drop i s) → take (length f) (drop j s) ≡ f
part_at s f i j m e g = rw (← e, g) (take_again m (drop i s))

-- field k, in quotes or bare, whose text begins at a and has n bytes
module _ (s : List ℕ) (k a n : ℕ) (b : a ≡ length s - length (from_field s k)) (m : n ≡ index_of comma_byte (from_field s k)) where
  from_a : drop a s ≡ from_field s k
  from_a = ap (λ (i : ℕ). drop i s) b ∙ (from_tail s k).1

  text_is : raw_field s k ≡ take n (drop a s)
  text_is = rw (m, from_a)

  part_cases : (t : Bool) → quoted (raw_field s k) ≡ t → take (length (field_of s k)) (drop (field_start s k) s) ≡ field_of s k
  unfolding field_of field_start
  part_cases true q =
      let text : List ℕ = raw_field s k in
      let p = unquoted_yes text q in
      let few : length text ≤ n = omega (arith, ap length text_is, length-take n (drop a s)) in
      let inner = ap (drop 1) text_is ∙ drop_take n (drop a s) ∙ ap (take (n - 1)) (drop-drop 1 a s) in
      part_at s (field_of s k) (a + 1) (field_start s k) (length text - 1 - 1) (omega (arith, b, p.1))
      (p.0 ∙ ap (take (length text - 1 - 1)) inner ∙ take-take (length text - 1 - 1) (n - 1) (drop (a + 1) s) (omega (arith, few)))
  part_cases false q =
      let p = unquoted_no (raw_field s k) q in
      part_at s (field_of s k) a (field_start s k) n (omega (arith, b, p.1)) (p.0 ∙ text_is)

pub field_part : (s : List ℕ) (k : ℕ) → take (length (field_of s k)) (drop (field_start s k) s) ≡ field_of s k
field_part s k = part_cases s k _ _ refl refl (quoted (raw_field s k)) refl
