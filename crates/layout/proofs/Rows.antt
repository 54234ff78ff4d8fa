-- Parts of one kind that stand one after the other, in any words: the argument that nodes, consoles and cells share.
use Rattle.std.proofs.Common.{ℕ, zero, suc, ◌+◌, ◌-◌, ◌*◌, ◌≤◌, ◌<◌, Bool, true, List, [], ◌∷◌, ◌++◌, map, length, take, drop, set, get_or, ◌≡◌, refl, sym, ap, ◌∙◌, arith}
use Rattle.std.proofs.Math.Seq.{take-add}
use Rattle.std.proofs.lemmas.List.{append_assoc, length-append, take-take, take_at, drop_at, drop-take, length-drop, length-take-le, flat_map_more, take_more}
use Rattle.std.proofs.lemmas.List.Edits.{sets}
use Rattle.std.proofs.lemmas.List.Elements.{All-head, All-tail}
use Rattle.std.specs.List.{All, flat_map, list_all}
use Rattle.std.specs.Simd.{first_chunks}
use Rattle.parts.proofs.FiniteLaws.{and_left, and_right}
use Rattle.layout.specs.InWords.{all_from, all_stand}

-- ---- the words of k parts, of s words each

pub fewer_chunks : {X : Type 0} (s k n : ℕ) (w : List X) → k ≤ n → take k (first_chunks s n w) ≡ first_chunks s k w
fewer_chunks s zero n w l = refl
fewer_chunks s (suc k) zero w l = absurd (omega arith)
fewer_chunks s (suc k) (suc n) w l = ap (λ xs. take s w ∷ xs) (fewer_chunks s k n (drop s w) (omega arith))

-- they lie in the first k * s words
pub chunks_within : {X : Type 0} (s k m : ℕ) (w : List X) → k * s ≤ m → first_chunks s k (take m w) ≡ first_chunks s k w
chunks_within s zero m w l = refl
chunks_within s (suc k) m w l =
    let rest : m ≡ s + (m - s) = omega arith in
    let dropped : drop s (take m w) ≡ take (m - s) (drop s w) = ap (λ n. drop s (take n w)) rest ∙ drop-take s (m - s) w in
    rw (take-take s m w (omega arith), dropped, chunks_within s k (m - s) (drop s w) (omega arith))

-- of m words so many are left from p on
pub rest_long : {X : Type 0} (p m : ℕ) (w : List X) → length w ≡ m → length (take (m - p) (drop p w)) ≡ m - p
rest_long p m w h = length-take-le (m - p) (drop p w) (omega (arith, h, length-drop p w))

-- k parts from p on that lie in the first m words are read from these, and stand in them, as in all the words
module _ (s k p m : ℕ) (w : List ℕ) (l : p + k * s ≤ m) where
  chunks_first : first_chunks s k (drop p (take m w)) ≡ first_chunks s k (drop p w)
  chunks_first =
      let rest : m ≡ p + (m - p) = omega arith in
      let dropped : drop p (take m w) ≡ take (m - p) (drop p w) = ap (λ n. drop p (take n w)) rest ∙ drop-take p (m - p) w in
      rw dropped (chunks_within s k (m - p) (drop p w) (omega arith))

  pub from_first : {A : Type 0} (from : List ℕ → A) → all_from from s k (drop p (take m w)) ≡ all_from from s k (drop p w)
  unfolding all_from
  from_first from = ap (map from) chunks_first

  pub stand_first : (stands : List ℕ → Bool) → all_stand stands s k (drop p (take m w)) ≡ all_stand stands s k (drop p w)
  unfolding all_stand
  stand_first stands = ap (list_all stands) chunks_first

-- ---- a list stored from p on, and another after it, and one number more

pub sets_append : (u v w : List ℕ) (p : ℕ) → sets (sets w p u) (p + length u) v ≡ sets w p (u ++ v)
sets_append [] v w p = let e : p + 0 ≡ p = omega arith in rw e
sets_append (x ∷ u) v w p =
    let e : p + suc (length u) ≡ suc p + length u = omega arith in
    rw e (sets_append u v (set w p x) (suc p))

pub sets_more : (u w : List ℕ) (p i : ℕ) → i < length u → set (sets w p (take i u)) (p + i) (get_or u i 0) ≡ sets w p (take (i + 1) u)
sets_more u w p i l =
    let long : i ≡ length (take i u) = sym (length-take-le i u (omega arith)) in
    ap (λ n. set (sets w p (take i u)) (p + n) (get_or u i 0)) long ∙ sets_append (take i u) (get_or u i 0 ∷ []) w p ∙ ap (sets w p) (sym (take_more u i 0 l))

-- ---- parts of so many fields

module _ {A : Type 0} {s : ℕ} (fields : A → List ℕ) (wide : (x : A) → length (fields x) ≡ s) where
  pub fields_long : (xs : List A) → length (flat_map fields xs) ≡ length xs * s
  fields_long [] = omega arith
  fields_long (x ∷ xs) = length-append (fields x) (flat_map fields xs) ∙ omega (arith, wide x, fields_long xs)

  -- one part more is written
  pub one_more : (xs : List A) (i : ℕ) (d : A) (w : List ℕ) (p : ℕ) → i < length xs
      → sets (sets w p (flat_map fields (take i xs))) (p + i * s) (fields (get_or xs i d)) ≡ sets w p (flat_map fields (take (i + 1) xs))
  one_more xs i d w p l =
      let before = flat_map fields (take i xs) in
      let x = get_or xs i d in
      let long : i * s ≡ length before = sym (ap (λ n. n * s) (length-take-le i xs (omega arith))) ∙ sym (fields_long (take i xs)) in
      let after : flat_map fields (take (i + 1) xs) ≡ before ++ fields x = ap (flat_map fields) (take_more xs i d l) ∙ sym (flat_map_more fields [] (take i xs) x) in
      rw (long, after) (sets_append before (fields x) w p)

  -- the words of a part, and what comes after them
  first_words : (x : A) (xs : List A) (r : List ℕ) → take s (flat_map fields (x ∷ xs) ++ r) ≡ fields x
  first_words x xs r = ap (take s) (append_assoc (fields x) (flat_map fields xs) r) ∙ take_at (fields x) (flat_map fields xs ++ r) s (wide x)

  other_words : (x : A) (xs : List A) (r : List ℕ) → drop s (flat_map fields (x ∷ xs) ++ r) ≡ flat_map fields xs ++ r
  other_words x xs r = ap (drop s) (append_assoc (fields x) (flat_map fields xs) r) ∙ drop_at (fields x) (flat_map fields xs ++ r) s (wide x)

-- ---- parts with their laws

-- what reading back rests on, of a part of s words: what was written is read again and stands for a part, and what
-- stands for a part is what that part is written as. Of a part is known what its type says (Fits)
pub record PartLaws {A : Type 0} (s : ℕ) (Fits : A → Type 0) (from : List ℕ → A) (stands : List ℕ → Bool) (fields : A → List ℕ) : Type 0 where
  pub wide : (x : A) → length (fields x) ≡ s
  pub back : (x : A) → Fits x → from (fields x) ≡ x
  pub standing : (x : A) → Fits x → stands (fields x) ≡ true
  pub again : (u : List ℕ) → length u ≡ s → stands u ≡ true → fields (from u) ≡ u

module _ {A : Type 0} {s : ℕ} {Fits : A → Type 0} {from : List ℕ → A} {stands : List ℕ → Bool} {fields : A → List ℕ} (laws : PartLaws s Fits from stands fields) where
  -- parts that were written are read again
  pub all_back : (xs : List A) (r : List ℕ) → All Fits xs → all_from from s (length xs) (flat_map fields xs ++ r) ≡ xs
  unfolding all_from
  all_back [] r h = refl
  all_back (x ∷ xs) r h = rw (first_words fields laws.wide x xs r, other_words fields laws.wide x xs r, laws.back x (All-head Fits x xs h), all_back xs r (All-tail Fits x xs h))

  -- and stand
  pub all_standing : (xs : List A) (r : List ℕ) → All Fits xs → all_stand stands s (length xs) (flat_map fields xs ++ r) ≡ true
  unfolding all_stand
  all_standing [] r h = refl
  all_standing (x ∷ xs) r h = rw (first_words fields laws.wide x xs r, other_words fields laws.wide x xs r, laws.standing x (All-head Fits x xs h)) (all_standing xs r (All-tail Fits x xs h))

  -- and those that stand were written
  pub all_again : (k : ℕ) (w : List ℕ) → k * s ≤ length w → all_stand stands s k w ≡ true → flat_map fields (all_from from s k w) ≡ take (k * s) w
  unfolding all_stand all_from
  all_again zero w l h =
      let none : 0 * s ≡ 0 = omega arith in
      rw none
  all_again (suc k) w l h =
      let first = laws.again (take s w) (length-take-le s w (omega arith)) (and_left (stands (take s w)) (all_stand stands s k (drop s w)) h) in
      let rest = all_again k (drop s w) (omega (arith, length-drop s w)) (and_right (stands (take s w)) (all_stand stands s k (drop s w)) h) in
      let more : suc k * s ≡ s + k * s = omega arith in
      rw (first, rest, more) (sym (take-add s (k * s) w))
