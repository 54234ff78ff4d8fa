-- The bytes are held, as far as there is room (quiet).
use Rattle.std.proofs.Common.{◌≡◌, ◌≤◌, ◌++◌, List, ℕ, length, take, sym, refl, ap, ◌∙◌, arith, length-take}
use lib.Seq.{sets}
use Rattle.csv_lines.specs.Splitting.{held_bytes}
use Rattle.schedule.specs.Chunks.{Session}
use Rattle.schedule.specs.Running.{session_in}
use Rattle.schedule.proofs.ChunksLaws.{quiet}
use Rattle.schedule.proofs.running.Run.hold.Goals as goal

pub returns : goal.returns
returns c =
    let run = c.args.self.now in
    let s : Session = session_in run in
    let room : length run.line.now ≡ held_bytes = omega arith in
    let few : length s.held ≤ held_bytes = omega (arith, length-take run.held run.line.now) in
    let held = c.hold-self.ensures in
    let took = quiet c.args.bytes.now c.requires s few in
    record {
      same_line = refl;
      same_out = refl;
      len = refl;
      held = omega (arith, held.0, length-take {A = ℕ});
      session = ap (λ (l : List ℕ). record { held = l; board = s.board; number = s.number }) (held.1 ∙ ap (λ (n : ℕ). take n (s.held ++ c.args.bytes.now)) room) ∙ sym took.0;
      wrote = omega (arith, ap length took.1);
      out = sym (ap (sets run.out.now run.wrote) took.1);
      short = omega arith;
    }
