-- The bytes stand behind what was held (take-put_mid), as far as there is room (held_is); what was held is the same up to
-- the line's length (take_least).
use Rattle.std.proofs.Common.{List, ℕ, ◌++◌, ◌≡◌, ◌≤◌, ◌+◌, length, take, ap, ◌∙◌, arith, rules}
use Rattle.std.proofs.lemmas.Slice.{take-put_mid}
use Rattle.csv_lines.proofs.SplittingLaws.{held_is, take_least}
use Rattle.csv_lines.proofs.splitting.hold.Goals as goal

pub returns : goal.returns
returns c =
    let line : List ℕ = c.args.line.now in
    let bytes : List ℕ = c.args.bytes.now in
    let held : ℕ = c.min-held.result in
    let n : ℕ = c.min-n.result in
    let inside : held ≤ length line = omega arith in
    let put : c.copy_from_slice.new.self ≡ take n bytes = grind arith in (
      search rules,
      take-put_mid _ _ line _ (held + n) (omega arith) inside
          ∙ ap (λ (t : List ℕ). take held line ++ t) put
          ∙ held_is line bytes held n inside c.min-n.ensures
          ∙ ap (λ (l : List ℕ). take (length line) (l ++ bytes)) (take_least line c.args.held held c.min-held.ensures),
    )
