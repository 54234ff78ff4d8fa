-- One turn of the loop over a row is one cell more (row_more).
use Rattle.std.proofs.Common.{◌≡◌, ℕ, ap, ◌∙◌, arith, rules}
use Rattle.parts.proofs.PartsLaws.{row_more}
use Rattle.parts.specs.Parts.{set_row}
use Rattle.board.specs.Boards.{with_frame, with_row}
use Rattle.board.proofs.Board.store_row.Invariants.{row_to}
use Rattle.board.proofs.Board.store_row.Goals as goal

pub loop-k-init : goal.loop-k-init
unfolding set_row
loop-k-init c = search rules

pub loop-k-preserved : goal.loop-k-preserved
unfolding with_frame
loop-k-preserved c =
    c.store.ensures ∙ rw (c.loop-k.invariant, row_more c.args.self.now.cells c.args.c.0 c.loop-k.k c.args.frame)

pub returns : goal.returns
unfolding with_row
returns c =
    let e : c.loop-k.k ≡ c.args.self.now.setup.n = omega arith in
    c.loop-k.invariant ∙ ap (λ (k : ℕ). row_to c.args.self.now c.args.c.0 k c.args.frame) e
