-- Laws of the lines of an input that is there as a whole: its first line, by the place of the first LF.
use Prim.Native.Nat.{ℕ, zero, suc, ◌+◌, ◌-◌, ◌<◌}
use mathlib.Core.Bool.{Bool, true, false}
use mathlib.Core.List.{List, [], ◌∷◌, ◌++◌, append_assoc}
use mathlib.Core.Path.{◌≡◌, refl, sym, ap, ◌∙◌}
use native.Mathlib.Omega.{arith}
use lib.Dec.{eqb}
use lib.ListN.{length, take, drop, get_or}
use Rattle.std.specs.Prelude.{Some, None}
use Rattle.std.specs.List.{position, position_from}
use Rattle.std.proofs.lemmas.List.{append-nil, take_rest}
use Rattle.std.proofs.lemmas.List.Quantifiers.{position-Some}
use Rattle.std.proofs.lemmas.Iterator.Adapters.{position_from-zero}
use Rattle.csv_lines.specs.Reading.{lf_byte}
use Rattle.csv_lines.specs.Splitting.{chop, last_line, lines_after, lines_of}

abbrev is_lf : ℕ → Bool
is_lf x = eqb x lf_byte

lines_at : (cur s : List ℕ) (i : ℕ) → i < length s → is_lf (get_or s i 0) ≡ true → ((k : ℕ) → k < i → is_lf (get_or s k 0) ≡ false)
    → lines_after cur s ≡ chop (cur ++ take i s) ∷ lines_after [] (drop (suc i) s)
unfolding lines_after
lines_at cur [] i l h g = absurd (omega arith)
lines_at cur (x ∷ s) zero l h g = rw (h, append-nil cur) refl
lines_at cur (x ∷ s) (suc i) l h g =
    rw (g 0 (omega arith))
    (lines_at (cur ++ x ∷ []) s i (omega arith) h (λ k m. g (suc k) (omega arith))
    ∙ ap (λ (c : List ℕ). chop c ∷ lines_after [] (drop (suc i) s)) (append_assoc cur (x ∷ []) (take i s)))

lines_none : (cur s : List ℕ) (k : ℕ) → position_from is_lf k s ≡ None → lines_after cur s ≡ last_line (cur ++ s)
unfolding lines_after
lines_none cur [] k h = ap last_line (sym (append-nil cur))
lines_none cur (x ∷ s) k h = go (is_lf x) refl (lines_none (cur ++ x ∷ []) s (k + 1))
  where
    go : (b : Bool) → is_lf x ≡ b → (position_from is_lf (k + 1) s ≡ None → lines_after (cur ++ x ∷ []) s ≡ last_line ((cur ++ x ∷ []) ++ s)) → lines_after cur (x ∷ s) ≡ last_line (cur ++ x ∷ s)
    go true e rest = absurd (cc (rw e at h))
    go false e rest = rw e (rest (rw e at h) ∙ ap last_line (append_assoc cur (x ∷ []) s))

last_is : (s : List ℕ) → (length s ≡ 0 → ⊥) → last_line s ≡ s ∷ []
last_is [] h = absurd (h refl)
last_is (x ∷ s) h = refl

-- ---- what first_line goes by

pub lines_of_none : (s : List ℕ) → length s ≡ 0 → s ≡ []
lines_of_none [] h = refl
lines_of_none (x ∷ s) h = absurd (omega arith)

-- the line is the part of n bytes, and what stands after it the part from i + 1 on
pub lines_first : (s : List ℕ) (i n : ℕ) → position is_lf s ≡ Some i → take n s ≡ chop (take i s)
    → lines_of s ≡ take n s ∷ lines_of (take (length s - (i + 1)) (drop (i + 1) s))
lines_first s i n e c =
    let p = position-Some is_lf s i 0 e in
    let next : suc i ≡ i + 1 = omega arith in
    lines_at [] s i p.0 p.1 p.2
    ∙ ap (λ (k : ℕ). chop (take i s) ∷ lines_of (drop k s)) next
    ∙ ap (λ (r : List ℕ). chop (take i s) ∷ lines_of r) (sym (take_rest s (i + 1)))
    ∙ ap (λ (t : List ℕ). t ∷ lines_of (take (length s - (i + 1)) (drop (i + 1) s))) (sym c)

pub lines_last : (s : List ℕ) → (length s ≡ 0 → ⊥) → position is_lf s ≡ None → lines_of s ≡ s ∷ lines_of []
unfolding lines_after
lines_last s h e = lines_none [] s 0 (sym (position_from-zero is_lf s) ∙ e) ∙ last_is s h

pub ruleset first_line_laws = (lines_of_none, lines_first, lines_last)
