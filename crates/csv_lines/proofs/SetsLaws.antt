-- Laws of writes: `sets l at u` is the list l with u stored from the place `at` on. Writes one after the other are one
-- write.
use mathlib.Core.Path.{◌≡◌, sym, ap, ◌∙◌}
use mathlib.Core.List.{List, [], ◌∷◌, ◌++◌, append_assoc}
use Prim.Native.Nat.{ℕ, suc, ◌+◌, ◌≤◌}
use native.Mathlib.Nat.{add-zero}
use native.Mathlib.Omega.{arith}
use lib.ListN.{length, take, set}
use lib.Seq.{sets, sets-eq, drop-drop}
use borrow.Rule.Slice.PartMut.{put_mid}

sets_append : (l : List ℕ) (i : ℕ) (u v : List ℕ) → sets l i (u ++ v) ≡ sets (sets l i u) (i + length u) v
sets_append l i [] v = rw (add-zero i)
sets_append l i (x ∷ u) v =
    let e : suc i + length u ≡ i + suc (length u) = omega arith in
    rw (← e) (sets_append (set l i x) (suc i) u v)

-- two writes, the second at the place after the first
pub sets_sets : (l : List ℕ) (i j : ℕ) (u v : List ℕ) → j ≡ i + length u → sets (sets l i u) j v ≡ sets l i (u ++ v)
sets_sets l i j u v e = rw e (sym (sets_append l i u v))

-- a part of k bytes that is written over is one write
pub sets_part : (l : List ℕ) (i k : ℕ) (u : List ℕ) → k ≡ length u → i + length u ≤ length l → put_mid i k l u ≡ sets l i u
sets_part l i k u e h = rw e (ap (λ (r : List ℕ). take i l ++ (u ++ r)) (drop-drop (length u) i l) ∙ sym (sets-eq u l i h ∙ append_assoc (take i l) u _))
