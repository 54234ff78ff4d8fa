-- A number of which the test does not hold, or the end, decides.
use Rattle.std.proofs.Common.{sym}
use Rattle.parts.proofs.FiniteLaws.{every_none, every_more, every_fails}
use Rattle.well_formed.proofs.every.every.Goals as goal

pub loop-k-init : goal.loop-k-init
loop-k-init g c = λ p h. every_none p

pub loop-k-preserved : goal.loop-k-preserved
loop-k-preserved g c = λ p h. every_more p _ (c.loop-k.invariant p h) (sym (h _ _ c.loop-k-test.true (c.if-not-test.ensures {u = tt})))

pub returns-then-not-test : goal.returns-then-not-test
returns-then-not-test g c = λ p h. sym (every_fails p _ _ c.loop-k-test.true (sym (h _ _ c.loop-k-test.true (c.if-not-test.ensures {u = tt}))))
