-- Laws of the lines of an input.
use Prim.Native.Nat.{ℕ, suc, ◌+◌, ◌-◌, ◌≤◌, ◌<◌, min}
use mathlib.Core.List.{List, [], ◌∷◌, ◌++◌}
use mathlib.Core.Path.{◌≡◌, refl, sym, ap, ◌∙◌}
use native.Mathlib.Omega.{arith}
use borrow.Author.Tests.{ne_eqb}
use lib.ListN.{length, take, get_or}
use lib.Seq.{take-suc, take-append-add, length-take-le}
use Rattle.std.proofs.lemmas.List.{get_or-take, take_min}
use Rattle.csv_lines.specs.Reading.{cr_byte}
use Rattle.csv_lines.specs.Splitting.{chop}

-- ---- no more than there are

pub take_least : (l : List ℕ) (n k : ℕ) → k ≡ min n (length l) → take k l ≡ take n l
take_least l n k e = ap (λ (i : ℕ). take i l) e ∙ take_min n l

-- ---- the CR of a CR LF

chop_cr : (s : List ℕ) → chop (s ++ (cr_byte ∷ [])) ≡ s
unfolding chop
chop_cr [] = refl
chop_cr (y ∷ []) = refl
chop_cr (y ∷ z ∷ s) = ap (λ (t : List ℕ). y ∷ t) (chop_cr (z ∷ s))

chop_other : (s : List ℕ) (x : ℕ) → (x ≡ cr_byte → ⊥) → chop (s ++ (x ∷ [])) ≡ s ++ (x ∷ [])
unfolding chop
chop_other [] x h = rw (ne_eqb x cr_byte h)
chop_other (y ∷ []) x h = rw (ne_eqb x cr_byte h)
chop_other (y ∷ z ∷ s) x h = ap (λ (t : List ℕ). y ∷ t) (chop_other (z ∷ s) x h)

-- the first n bytes of l, of which there are k, and their last
module _ (l : List ℕ) (n k : ℕ) (e : k ≡ min n (length l)) where
  module _ (some : 1 ≤ length (take k l)) where
    held_length : length (take k l) ≡ k
    held_length = length-take-le k l (omega (arith, e))

    last_held : take k l ≡ take (k - 1) l ++ (get_or (take k l) (length (take k l) - 1) 0 ∷ [])
    last_held =
        let one : suc (k - 1) ≡ k = omega (arith, held_length) in
        let i : length (take k l) - 1 ≡ k - 1 = omega (arith, held_length) in
        ap (λ (m : ℕ). take m l) (sym one)
        ∙ take-suc l (k - 1) 0 (omega (arith, held_length, e))
        ∙ ap (λ (x : ℕ). take (k - 1) l ++ (x ∷ [])) (sym (get_or-take k l (k - 1) 0 (omega (arith, held_length))) ∙ ap (λ (m : ℕ). get_or (take k l) m 0) (sym i))

    pub chop_held : get_or (take k l) (length (take k l) - 1) 0 ≡ cr_byte → take (k - 1) l ≡ chop (take n l)
    chop_held f = sym (ap chop (sym (take_least l n k e) ∙ last_held ∙ rw f) ∙ chop_cr (take (k - 1) l))

    pub chop_kept : (get_or (take k l) (length (take k l) - 1) 0 ≡ cr_byte → ⊥) → take k l ≡ chop (take n l)
    chop_kept f = last_held ∙ sym (ap chop (sym (take_least l n k e) ∙ last_held) ∙ chop_other (take (k - 1) l) _ f)

  pub chop_none : length (take k l) < 1 → take k l ≡ chop (take n l)
  unfolding chop
  chop_none h =
      let nothing : take k l ≡ [] = grind (arith) in
      nothing ∙ sym (ap chop (sym (take_least l n k e) ∙ nothing))

-- ---- what is held

-- the first h bytes of l and then as many of s as there is room for
pub held_is : (l s : List ℕ) (h n : ℕ) → h ≤ length l → n ≡ min (length l - h) (length s) → take h l ++ take n s ≡ take (length l) (take h l ++ s)
held_is l s h n le e =
    let full : length l ≡ length (take h l) + (length l - h) = omega (arith, length-take-le h l le) in
    ap (λ (t : List ℕ). take h l ++ t) (take_least s (length l - h) n e)
    ∙ sym (ap (λ (k : ℕ). take k (take h l ++ s)) full ∙ take-append-add (take h l) s (length l - h))

-- ---- what chopped goes by: the last byte that is held

pub ruleset chopped_laws = (chop_held, chop_kept, chop_none)
