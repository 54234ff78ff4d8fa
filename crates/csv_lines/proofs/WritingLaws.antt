-- Laws of numbers in decimal, of fields and of lines.
use mathlib.Core.Path.{◌≡◌, refl, sym, ap, ◌∙◌}
use mathlib.Core.List.{List, [], ◌∷◌, ◌++◌, append_assoc, append-nil}
use Prim.Native.Nat.{ℕ, ◌+◌, ◌%◌, ◌^◌, ◌≤◌, ◌<◌}
use native.Mathlib.Omega.{arith}
use lib.ListN.{length, get_or, take, length-append}
use lib.Seq.{sets}
use borrow.Author.Tests.{lt-ltb, le-ltb}
use Rattle.std.specs.Fmt as std
use Rattle.std.proofs.lemmas.List.{take_more}
use Rattle.std.proofs.lemmas.Fmt.{AppendsLastDigit, decimal_from_appends, length-decimal-le}
use Rattle.csv_lines.specs.declared.writing.Pen.{Pen}
use Rattle.csv_lines.specs.Pens.{Wrote}
use Rattle.csv_lines.specs.Reading.{comma_byte, lf_byte}
use Rattle.csv_lines.proofs.SetsLaws.{sets_sets}
use Rattle.csv_lines.specs.Writing.{number_bytes, field_bytes, digits, decimal, joined, field_text, fields_text, ended}

-- ---- the digits of a number of 64 bits, as std writes them

digits_append : AppendsLastDigit digits
unfolding digits
digits_append = record {
  one =
      λ k n h.
      let last : n % 10 ≡ n = omega arith in
      rw (lt-ltb n 10 h, last);
  more = λ k n h. rw (le-ltb n 10 h);
}

pub decimal_is : (n : ℕ) → n < 2 ^ 64 → decimal n ≡ std.decimal n
unfolding decimal
decimal_is n h = decimal_from_appends digits digits_append number_bytes n h (length-decimal-le number_bytes n (omega arith) (omega arith) h)

pub number_short : (n : ℕ) → n < 2 ^ 64 → length (decimal n) ≤ number_bytes
number_short n h = omega (arith, ap length (decimal_is n h), length-decimal-le number_bytes n (omega arith) (omega arith) h)

pub field_short : (n : ℕ) → n < 2 ^ 32 → length (field_text n) ≤ field_bytes
field_short n h =
    let g : n < 2 ^ 64 = omega arith in
    omega (arith, ap length (decimal_is n g), length-decimal-le 10 n (omega arith) (omega arith) g)

-- ---- what a pen wrote

pub wrote_none : (p : Pen) → Wrote p p []
wrote_none p = record { same = refl; len = refl; at = omega arith; out = refl }

pub wrote_more : (p q r : Pen) (u v : List ℕ) → Wrote p q u → Wrote q r v → Wrote p r (u ++ v)
wrote_more p q r u v e f =
    record {
      same = f.same ∙ e.same;
      len = f.len ∙ e.len;
      at = omega (arith, e.at, f.at, length-append u v);
      out = f.out ∙ ap (λ (l : List ℕ). sets l q.at v) e.out ∙ sets_sets p.out.now p.at q.at u v e.at;
    }

-- ---- fields, one after the other

fields_append : (ns ms : List ℕ) → fields_text (ns ++ ms) ≡ fields_text ns ++ fields_text ms
unfolding fields_text
fields_append [] ms = refl
fields_append (n ∷ ns) ms = ap (λ (l : List ℕ). field_text n ++ l) (fields_append ns ms) ∙ sym (append_assoc (field_text n) (fields_text ns) (fields_text ms))

pub fields_none : fields_text [] ≡ []
unfolding fields_text
fields_none = refl

fields_more : (ns : List ℕ) (i : ℕ) → i < length ns → fields_text (take (i + 1) ns) ≡ fields_text (take i ns) ++ field_text (get_or ns i 0)
unfolding fields_text
fields_more ns i h = ap fields_text (take_more ns i 0 h) ∙ fields_append (take i ns) (get_or ns i 0 ∷ []) ∙ ap (λ (l : List ℕ). fields_text (take i ns) ++ l) (append-nil (field_text (get_or ns i 0)))

pub wrote_field : (p q r : Pen) (ns : List ℕ) (i : ℕ) → i < length ns → Wrote p q (fields_text (take i ns)) → Wrote q r (field_text (get_or ns i 0)) → Wrote p r (fields_text (take (i + 1) ns))
wrote_field p q r ns i h e f = rw (fields_more ns i h) (wrote_more p q r (fields_text (take i ns)) (field_text (get_or ns i 0)) e f)

-- ---- a line

joined_fields : (n : ℕ) (ns : List ℕ) → joined (n ∷ ns) ≡ decimal n ++ fields_text ns
unfolding joined fields_text
joined_fields n [] = sym (append-nil (decimal n))
joined_fields n (m ∷ ns) = ap (λ (l : List ℕ). decimal n ++ comma_byte ∷ l) (joined_fields m ns)

module _ (n : ℕ) (ns : List ℕ) where
  line_parts : ended (n ∷ ns) ≡ decimal n ++ (fields_text ns ++ lf_byte ∷ [])
  line_parts = ap (λ (l : List ℕ). l ++ lf_byte ∷ []) (joined_fields n ns) ∙ append_assoc (decimal n) (fields_text ns) (lf_byte ∷ [])

pub wrote_line : (p q r s : Pen) (n : ℕ) (ns : List ℕ) → Wrote p q (decimal n) → Wrote q r (fields_text ns) → Wrote r s (lf_byte ∷ []) → Wrote p s (ended (n ∷ ns))
wrote_line p q r s n ns e f g = rw (line_parts n ns) (wrote_more p q s (decimal n) (fields_text ns ++ lf_byte ∷ []) e (wrote_more q r s (fields_text ns) (lf_byte ∷ []) f g))

-- ---- what each function goes by

pub ruleset put_field_laws = (field_short, wrote_more)

pub ruleset put_fields_laws = (fields_none, wrote_none)
