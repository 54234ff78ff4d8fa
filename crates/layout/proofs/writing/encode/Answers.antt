-- The board is written into the first words, and the others are left (RoundTrip).
use Rattle.std.proofs.Common.{arith}
use Rattle.layout.proofs.RoundTrip.{in_front}
use Rattle.layout.proofs.writing.encode.Goals as goal

pub returns-in-Some : goal.returns-in-Some
returns-in-Some c =
    let enough = c.in-Some.ensures.cases.enough in
    (λ _. in_front c.args.w.now c.put_board.new.w c.args.b enough c.put_board.ensures.typed c.put_board.ensures.written, λ few. absurd (omega (arith, enough, few)))
