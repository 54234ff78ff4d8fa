-- The bytes are held (hold), and an LF ends the line (took_lf).
use Rattle.std.proofs.Common.{refl}
use Rattle.schedule.proofs.ChunksLaws.{took_lf, took_more}
use Rattle.schedule.proofs.running.Run.end_line.Goals as goal

pub returns : goal.returns
returns c = took_more _ _ _ _ _ _ c.hold.ensures (took_lf _ _ (rw c.chopped-n.ensures.1 at c.answer.ensures)) refl
