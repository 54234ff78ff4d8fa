use Rattle.std.proofs.Common.{rules}
use mathlib.Core.Path.{sym, ap, ◌∙◌, ◌≡◌}
use native.Mathlib.Omega.{arith}
use lib.ListN.{take}
use Rattle.std.specs.Prelude.{Ok}
use Rattle.rows.proofs.RowsLaws.{rows_done, rows_more}
use Rattle.rows.proofs.auditing.read_rows.Goals as goal

-- src/auditing.rt:19:5
pub loop-count-preserved : goal.loop-count-preserved
loop-count-preserved c = (
  search rules,
  c.loop-count.invariant.1
      ∙ rows_more c.loop-count.rows c.loop-count.count c.loop-count.rest.now c.in-Some.line.now c.in-Some.after.now
      (search rules) (search rules) c.in-Ok.row c.loop-count.invariant.0 (search rules),
)

-- src/auditing.rt:13:1
pub returns-in-None-clause-rows : goal.returns-in-None-clause-rows
returns-in-None-clause-rows c =
    let all : c.loop-count.count ≡ 256 = omega (arith) in
    sym (c.loop-count.invariant.1 ∙ rows_done c.loop-count.rows c.loop-count.count c.loop-count.rest.now (search rules)
    ∙ ap (λ (n : _). Ok (take n c.loop-count.rows)) all)
