-- The first i fields are written.
use Rattle.std.proofs.Common.{◌≡◌, ◌+◌, ◌≤◌, length, take}
use Rattle.std.proofs.lemmas.List.Edits.{sets}
use Rattle.layout.proofs.writing.put_words.Given as goal

abbrev pub invariant-loop-i : goal.invariant-loop-i
invariant-loop-i l = (l.i ≤ length l.fields) × (l.p + length l.fields ≤ length l.initial.w) × (length l.w ≡ length l.initial.w)
    × (l.w ≡ sets l.initial.w l.p (take l.i l.fields))
