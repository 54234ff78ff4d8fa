-- The verbs (document 02, Papers 1, 2 and 7): 'a choice over small numbers: 0 fresh, 1 read, 2 write, 3 deliver, 4 node
-- down, 5 console down', node up 'is verb 6', and 'Restart is verb 7'.
use Rattle.std.specs.Prelude.{ℕ, zero, suc}
use Rattle.parts.specs.declared.Release.TheVariants.{One}
use Rattle.decisions.specs.declared.refusals.Refusal.TheVariants.{NoSuchVerb}
use Rattle.board.specs.declared.Answer.{Answer}
use Rattle.board.specs.declared.Board.{Board}
use Rattle.board.specs.Answers.{refuse}
use Rattle.board.specs.Steps.{setup_of, fresh, begin_read, begin_write, node_down, console_down, node_up, restart}
use Rattle.board.specs.Deliver.{deliver}

-- a verb with its two numbers x and y, 'in the order in which the step names them'; 'a field that a step has no use for
-- is .. ignored'. From 8 on there is none: 'an unknown verb' is refused 'with 12'. Verb 0 'makes release 1' (Paper 4),
-- on any board
unfoldable pub step_of : ℕ → ℕ → ℕ → Board → Answer
step_of zero x y b = fresh (setup_of x y One)
step_of (suc zero) x y b = begin_read b x
step_of (suc (suc zero)) x y b = begin_write b x y
step_of (suc (suc (suc zero))) x y b = deliver b x y
step_of (suc (suc (suc (suc zero)))) x y b = node_down b x
step_of (suc (suc (suc (suc (suc zero))))) x y b = console_down b x
step_of (suc (suc (suc (suc (suc (suc zero)))))) x y b = node_up b x
step_of (suc (suc (suc (suc (suc (suc (suc zero))))))) x y b = restart b x
step_of (suc (suc (suc (suc (suc (suc (suc (suc z)))))))) x y b = refuse b NoSuchVerb
