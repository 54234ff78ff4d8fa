-- Laws of the bytes of a chunk: those that end no line, an LF, and some after others; and of the input's end.
use Prim.Native.Nat.{ℕ, suc, ◌≤◌, ◌<◌}
use mathlib.Core.Bool.{false}
use mathlib.Core.List.{List, [], ◌∷◌, ◌++◌, append_assoc, append-nil}
use mathlib.Core.Path.{◌≡◌, refl, sym, ap, ◌∙◌}
use native.Mathlib.Omega.{arith}
use borrow.Author.Tests.{eqb-true}
use lib.Dec.{eqb}
use lib.ListN.{length, take, drop, length-take, length-append}
use lib.Seq.{take_all, drop-cons, sets}
use Rattle.std.specs.Prelude.{Some, None}
use Rattle.std.proofs.lemmas.Bool.{false_from_ne_true}
use Rattle.std.proofs.lemmas.Grind.{get_or_default_zero}
use Rattle.std.proofs.lemmas.List.{get_or-take, take-append-drop}
use Rattle.memchr.specs.Find.{IsFirstByte, is_byte}
use Rattle.board.specs.declared.Board.{Board}
use Rattle.csv_lines.specs.Reading.{lf_byte}
use Rattle.csv_lines.specs.Splitting.{chop, held_bytes}
use Rattle.csv_lines.proofs.SetsLaws.{sets_sets}
use Rattle.schedule.specs.declared.running.Run.{Run}
use Rattle.schedule.specs.Schedule.{effect_of}
use Rattle.schedule.specs.Chunks.{Session, with_byte, after_byte, text_at, after_bytes, text_of, text_at_end}
use Rattle.schedule.specs.Running.{Answered, NoLf, session_in, Took}
use Rattle.schedule.proofs.Whole.{take_again, byte_after, byte_text, lf_after, lf_text, after_append, text_append}

-- ---- bytes of which none is an LF are held, as far as there is room, and nothing is written

abbrev with_held : Session → List ℕ → Session
with_held s l = record { held = l; board = s.board; number = s.number }

pub quiet : (t : List ℕ) → NoLf t → (s : Session) → length s.held ≤ held_bytes → (after_bytes s t ≡ with_held s (take held_bytes (s.held ++ t))) × (text_of s t ≡ [])
unfolding after_bytes text_of
quiet [] none s h = (ap (with_held s) (sym (take_all held_bytes s.held h) ∙ ap (take held_bytes) (sym (append-nil s.held))), refl)
quiet (x ∷ t) none s h =
    let e : eqb x lf_byte ≡ false = none 0 0 (omega arith) in
    let few : length (with_byte s x).held ≤ held_bytes = omega (arith, length-take held_bytes (s.held ++ (x ∷ []))) in
    let more = quiet t (λ k d l. none (suc k) d (omega (arith, l))) (with_byte s x) few in (
      ap (λ (z : Session). after_bytes z t) (byte_after s x e)
          ∙ more.0
          ∙ ap (with_held s) (take_again held_bytes (s.held ++ (x ∷ [])) t ∙ ap (take held_bytes) (append_assoc s.held (x ∷ []) t)),
      ap (λ (u : List ℕ). u ++ text_of (after_byte s x) t) (byte_text s x e) ∙ ap (λ (z : Session). text_of z t) (byte_after s x e) ∙ more.1,
    )

-- ---- the first LF, as memchr finds it: what stands before it and from it on; and where there is none

module _ (l before from : List ℕ) (i : ℕ) (e : IsFirstByte (is_byte lf_byte) l (Some i)) (f : before ≡ take i l) (g : from ≡ drop i l) where
  pub before_lf : NoLf before
  before_lf k d h =
      let inside : k < i = omega (arith, h, ap length f, length-take i l) in
      rw (f, get_or-take i l k d inside, get_or_default_zero l k d (omega (arith, e.0.high))) (false_from_ne_true _ (e.0.before k (omega arith) inside))

  pub around_lf : l ≡ (before ++ lf_byte ∷ []) ++ drop 1 from
  around_lf =
      let at : drop i l ≡ lf_byte ∷ drop (suc i) l = drop-cons l i 0 e.0.high ∙ rw (eqb-true _ _ e.1) refl in
      rw (f, g, append_assoc, at) (sym (ap (λ (r : List ℕ). take i l ++ r) (sym at) ∙ take-append-drop i l))

pub no_lf : (l : List ℕ) → IsFirstByte (is_byte lf_byte) l None → NoLf l
no_lf l e k d h = rw (get_or_default_zero l k d h) (false_from_ne_true _ (e k (omega arith) h))

-- ---- what a run has taken

-- an LF: what is held was answered as a line
pub took_lf : (p q : Run) → Answered p q (chop (take p.held p.line.now)) → Took p q (lf_byte ∷ [])
unfolding after_bytes text_of
took_lf p q e =
    let text : text_of (session_in p) (lf_byte ∷ []) ≡ (effect_of p.checked.board p.number (chop (take p.held p.line.now))).text =
    append-nil (text_at (session_in p) lf_byte) ∙ lf_text (session_in p) lf_byte refl in
    record {
      same_line = e.same_line;
      same_out = e.same_out;
      len = e.len;
      held = rw e.held refl;
      session = simp (e.held, e.board, e.number) (sym (lf_after (session_in p) lf_byte refl));
      wrote = omega (arith, e.wrote, ap length text);
      out = e.out ∙ ap (sets p.out.now p.wrote) (sym text);
      short = omega (arith, e.short);
    }

-- some bytes, and then others
pub took_more : (p q r : Run) (c d l : List ℕ) → Took p q c → Took q r d → l ≡ c ++ d → Took p r l
took_more p q r c d l t u e =
    let first : List ℕ = text_of (session_in p) c in
    let then : List ℕ = text_of (session_in q) d in
    let text : text_of (session_in p) l ≡ first ++ then =
    ap (text_of (session_in p)) e ∙ text_append (session_in p) c d ∙ ap (λ (z : Session). first ++ text_of z d) (sym t.session) in
    record {
      same_line = u.same_line ∙ t.same_line;
      same_out = u.same_out ∙ t.same_out;
      len = u.len ∙ t.len;
      held = u.held;
      session = u.session ∙ ap (λ (z : Session). after_bytes z d) t.session ∙ sym (ap (after_bytes (session_in p)) e ∙ after_append (session_in p) c d);
      wrote = omega (arith, t.wrote, u.wrote, ap length text, length-append first then);
      out = u.out ∙ ap (λ (o : List ℕ). sets o q.wrote then) t.out ∙ sets_sets p.out.now p.wrote q.wrote first then t.wrote ∙ ap (sets p.out.now p.wrote) (sym text);
      short = omega (arith, t.short, u.short, ap length e, length-append c d);
    }

-- ---- the end of the input

pub no_last : (l : List ℕ) (b : Board) (n : ℕ) → length l ≡ 0 → text_at_end l b n ≡ []
unfolding text_at_end
no_last [] b n h = refl
no_last (x ∷ l) b n h = absurd (omega (arith, h))

pub a_last : (l : List ℕ) (b : Board) (n : ℕ) → (length l ≡ 0 → ⊥) → text_at_end l b n ≡ (effect_of b n l).text
unfolding text_at_end
a_last [] b n h = absurd (h refl)
a_last (x ∷ l) b n h = refl

-- what the end of the input goes by
pub ruleset end_laws = (no_last, a_last)
