-- What is written chunk by chunk is the output for the whole input (whole).
use Prim.Native.Nat.{ℕ, zero, suc, ◌≤◌}
use mathlib.Core.Bool.{Bool, true, false}
use mathlib.Core.List.{List, [], ◌∷◌, ◌++◌, append_assoc, append-nil}
use mathlib.Core.Path.{◌≡◌, refl, sym, ap, ◌∙◌}
use native.Mathlib.Omega.{arith}
use borrow.Author.Tests.{leb-true, leb-false}
use lib.Dec.{eqb, leb}
use lib.ListN.{length, take}
use lib.Seq.{take_all, length-take-le}
use Rattle.board.specs.declared.Board.{Board}
use Rattle.csv_lines.specs.Reading.{lf_byte, line_of}
use Rattle.csv_lines.proofs.ReadingLaws.{line_long}
use Rattle.csv_lines.specs.Splitting.{chop, lines_after, held_bytes}
use Rattle.schedule.specs.Schedule.{Effect, effect_of, next_number, output_of, schedule_text}
use Rattle.schedule.specs.Chunks.{Session, at_start, with_byte, line_effect, after_line, after_byte, text_at, after_bytes, text_of, text_at_end, last_text, printed, input_of, started, session_of}

-- ---- a line of which only the first held_bytes are held is refused as the whole line is

chop_length : (s : List ℕ) → length s ≤ suc (length (chop s))
unfolding chop
chop_length [] = omega arith
chop_length (x ∷ []) = omega arith
chop_length (x ∷ y ∷ s) = omega (arith, chop_length (y ∷ s))

module _ (f : List ℕ → List ℕ) (f-length : (s : List ℕ) → length s ≤ suc (length (f s))) where
  held_cases : (cur : List ℕ) (t : Bool) → leb (length cur) held_bytes ≡ t → line_of (f (take held_bytes cur)) ≡ line_of (f cur)
  held_cases cur true e = ap (λ (s : List ℕ). line_of (f s)) (take_all held_bytes cur (leb-true _ _ e))
  held_cases cur false e =
      line_long (f (take held_bytes cur)) (omega (arith, f-length (take held_bytes cur), length-take-le held_bytes cur (omega (arith, leb-false (length cur) held_bytes e))))
      ∙ sym (line_long (f cur) (omega (arith, f-length cur, leb-false (length cur) held_bytes e)))

  -- the line that f makes of the bytes that are held is read as that of all bytes
  held_line : (cur : List ℕ) → line_of (f (take held_bytes cur)) ≡ line_of (f cur)
  held_line cur = held_cases cur (leb (length cur) held_bytes) refl

module _ (b : Board) (n : ℕ) where
  same_effect : (l l' : List ℕ) → line_of l ≡ line_of l' → effect_of b n l ≡ effect_of b n l'
  unfolding effect_of
  same_effect l l' e = rw e

  chop_effect : (cur : List ℕ) → effect_of b n (chop (take held_bytes cur)) ≡ effect_of b n (chop cur)
  chop_effect cur = same_effect (chop (take held_bytes cur)) (chop cur) (held_line chop chop_length cur)

  last_effect : (cur : List ℕ) → effect_of b n (take held_bytes cur) ≡ effect_of b n cur
  last_effect cur = same_effect (take held_bytes cur) cur (held_line (λ (s : List ℕ). s) (λ (s : List ℕ). omega arith) cur)

  last_line : (cur : List ℕ) → text_at_end (take held_bytes cur) b n ≡ output_of b n (lines_after cur [])
  unfolding text_at_end output_of lines_after
  last_line [] = refl
  last_line (x ∷ cur) = ap (λ (e : Effect). e.text) (last_effect (x ∷ cur)) ∙ sym (append-nil (effect_of b n (x ∷ cur)).text)

pub take_again : (n : ℕ) (s t : List ℕ) → take n (take n s ++ t) ≡ take n (s ++ t)
take_again zero s t = refl
take_again (suc n) [] t = refl
take_again (suc n) (x ∷ s) t = ap (λ (r : List ℕ). x ∷ r) (take_again n s t)

-- ---- an input in one chunk: what is written at its bytes and at the end is the output for its lines

abbrev holding : List ℕ → Board → ℕ → Session
holding cur b n = record { held = take held_bytes cur; board = b; number = n }

-- whatever stands before them in their first line, what is written at these bytes and at the end is the output for their lines
abbrev Good : List ℕ → Type 0
Good input = (cur : List ℕ) (b : Board) (n : ℕ) → text_of (holding cur b n) input ++ last_text (after_bytes (holding cur b n) input) ≡ output_of b n (lines_after cur input)

-- a byte that ends no line
module _ (s : Session) (x : ℕ) (e : eqb x lf_byte ≡ false) where
  pub byte_after : after_byte s x ≡ with_byte s x
  unfolding after_byte
  byte_after = rw e

  pub byte_text : text_at s x ≡ []
  unfolding text_at
  byte_text = rw e

-- an LF
module _ (s : Session) (x : ℕ) (e : eqb x lf_byte ≡ true) where
  pub lf_after : after_byte s x ≡ after_line s
  unfolding after_byte
  lf_after = rw e

  pub lf_text : text_at s x ≡ (line_effect s).text
  unfolding text_at
  lf_text = rw e

module _ (x : ℕ) (input : List ℕ) (ih : Good input) (cur : List ℕ) (b : Board) (n : ℕ) where
  -- what is to be shown of one byte more, once it is known what is written at it and where the run stands after it
  abbrev Next : List ℕ → Session → Type 0
  Next t z = (t ++ text_of z input) ++ last_text (after_bytes z input) ≡ output_of b n (lines_after cur (x ∷ input))

  byte_held : eqb x lf_byte ≡ false → Next [] (holding (cur ++ (x ∷ [])) b n)
  unfolding lines_after
  byte_held e = rw e (ih (cur ++ (x ∷ [])) b n)

  line_ended : eqb x lf_byte ≡ true → Next (effect_of b n (chop cur)).text (holding [] (effect_of b n (chop cur)).board (next_number n))
  unfolding lines_after output_of
  line_ended e =
      let z : Session = holding [] (effect_of b n (chop cur)).board (next_number n) in
      let text : List ℕ = (effect_of b n (chop cur)).text in
      rw e (append_assoc text (text_of z input) (last_text (after_bytes z input)) ∙ ap (λ (t : List ℕ). text ++ t) (ih [] (effect_of b n (chop cur)).board (next_number n)))

  next : (t u : List ℕ) (z y : Session) → t ≡ u → z ≡ y → Next u y → Next t z
  next t u z y e f g = rw (e, f) g

  byte_cases : (t : Bool) → eqb x lf_byte ≡ t → Next (text_at (holding cur b n) x) (after_byte (holding cur b n) x)
  byte_cases true e =
      next _ _ _ _
      (lf_text (holding cur b n) x e ∙ ap (λ (z : Effect). z.text) (chop_effect b n cur))
      (lf_after (holding cur b n) x e ∙ ap (λ (z : Effect). holding [] z.board (next_number n)) (chop_effect b n cur))
      (line_ended e)
  byte_cases false e =
      next _ _ _ _
      (byte_text (holding cur b n) x e)
      (byte_after (holding cur b n) x e ∙ ap (λ (l : List ℕ). record { held = l; board = b; number = n }) (take_again held_bytes cur (x ∷ [])))
      (byte_held e)

good : (input : List ℕ) → Good input
unfolding text_of after_bytes
good [] cur b n = last_line b n cur
good (x ∷ input) cur b n = byte_cases x input (good input) cur b n (eqb x lf_byte) refl

-- ---- chunks in turn

pub after_append : (s : Session) (c d : List ℕ) → after_bytes s (c ++ d) ≡ after_bytes (after_bytes s c) d
unfolding after_bytes
after_append s [] d = refl
after_append s (x ∷ c) d = after_append (after_byte s x) c d

pub text_append : (s : Session) (c d : List ℕ) → text_of s (c ++ d) ≡ text_of s c ++ text_of (after_bytes s c) d
unfolding text_of after_bytes
text_append s [] d = refl
text_append s (x ∷ c) d =
    ap (λ (t : List ℕ). text_at s x ++ t) (text_append (after_byte s x) c d)
    ∙ sym (append_assoc (text_at s x) (text_of (after_byte s x) c) (text_of (after_bytes (after_byte s x) c) d))

in_turn : (s : Session) (cs : List (List ℕ)) → printed s cs ≡ text_of s (input_of cs) ++ last_text (after_bytes s (input_of cs))
unfolding printed input_of text_of after_bytes
in_turn s [] = refl
in_turn s (c ∷ cs) =
    ap (λ (t : List ℕ). text_of s c ++ t) (in_turn (after_bytes s c) cs)
    ∙ sym (append_assoc (text_of s c) (text_of (after_bytes s c) (input_of cs)) (last_text (after_bytes (after_bytes s c) (input_of cs))))
    ∙ ap (λ (t : List ℕ). t ++ last_text (after_bytes (after_bytes s c) (input_of cs))) (sym (text_append s c (input_of cs)))
    ∙ ap (λ (z : Session). text_of s (c ++ input_of cs) ++ last_text z) (sym (after_append s c (input_of cs)))

-- The theorem: wherever the chunks of an input end, what is written is the output for the whole input.
pub whole : (cs : List (List ℕ)) → printed at_start cs ≡ schedule_text (input_of cs)
unfolding schedule_text
whole cs = in_turn at_start cs ∙ good (input_of cs) [] at_start.board at_start.number

-- The code's first position is at the start, whatever the lent line holds.
pub starts : (line : List ℕ) → session_of started line ≡ at_start
unfolding started
starts line = refl
