-- Runs that reach the limits of the claim, or go through what the P runs leave out, and what their logs must be.
-- proofs/ReachedHold.antt computes them.
use Rattle.std.specs.Prelude.{ℕ, true, false, List, [], ◌∷◌, ◌++◌}
use Rattle.parts.specs.declared.Frame.{Frame}
use Rattle.parts.specs.declared.Frame.TheVariants.{Put}
use Rattle.parts.specs.declared.Tag.{Tag}
use Rattle.parts.specs.Tags.{zero_tag}
use Rattle.board.specs.Runs.{Step, BeginRead, BeginWrite, Deliver, NodeDown, ConsoleDown, NodeUp, Restart}
use Rattle.guarantee.specs.Log.{Op, Open, Complete, Lost}

abbrev one_one : Tag
one_one = record { ts = 1; console = 1; life = 0 }

-- P4, on three nodes and two consoles: 3 + 2 + 3 + 2 deliveries, which is 2 (n + q)
unfoldable pub p4_steps : List Step
p4_steps =
    BeginWrite 1 7
    ∷ Deliver 1 0
    ∷ Deliver 1 1
    ∷ Deliver 1 2
    ∷ Deliver 1 0
    ∷ Deliver 1 2
    ∷ Deliver 1 0
    ∷ Deliver 1 1
    ∷ Deliver 1 2
    ∷ Deliver 1 0
    ∷ Deliver 1 2
    ∷ []

unfoldable pub p4_log : List Op
p4_log = record { console = 1; wrote = true; began = 1; took = 10; turned = true; status = Complete; ended = 11; tag = one_one; value = 7 } ∷ []

-- the first extra, on three nodes and two consoles: after P2 a delivery on (1, 1) is handed, and the next one discarded; the
-- operation is closed by then
unfoldable pub late_steps : List Step
late_steps =
    BeginWrite 1 7
    ∷ Deliver 1 0
    ∷ Deliver 1 0
    ∷ Deliver 1 2
    ∷ Deliver 1 2
    ∷ Deliver 1 0
    ∷ Deliver 1 0
    ∷ Deliver 1 2
    ∷ Deliver 1 2
    ∷ Deliver 1 1
    ∷ Deliver 1 1
    ∷ []

unfoldable pub late_log : List Op
late_log = record { console = 1; wrote = true; began = 1; took = 8; turned = true; status = Complete; ended = 9; tag = one_one; value = 7 } ∷ []

-- the second extra, on three nodes and one console: nodes 0 and 1 are down, and the console waits after node 2's answer
unfoldable pub stuck_steps : List Step
stuck_steps = NodeDown 0 ∷ NodeDown 1 ∷ BeginRead 0 ∷ Deliver 0 2 ∷ Deliver 0 2 ∷ []

unfoldable pub stuck_log : List Op
stuck_log = record { console = 0; wrote = false; began = 3; took = 2; turned = false; status = Open; ended = 0; tag = zero_tag; value = 0 } ∷ []

-- what delivering to each of its nodes as the next step would be refused with
unfoldable pub stuck_refusals : List ℕ
stuck_refusals = 9 ∷ 9 ∷ 8 ∷ []

-- and on from there: of the majority that went down node 1 comes back, and just q are up
unfoldable pub back_steps : List Step
unfolding stuck_steps
back_steps = stuck_steps ++ (NodeUp 1 ∷ [])

-- its ask can be delivered
unfoldable pub back_refusals : List ℕ
back_refusals = 9 ∷ 0 ∷ 8 ∷ []

-- then node 0 comes back too
unfoldable pub all_back_steps : List Step
unfolding back_steps
all_back_steps = back_steps ++ (NodeUp 0 ∷ [])

unfoldable pub all_back_refusals : List ℕ
all_back_refusals = 0 ∷ 0 ∷ 8 ∷ []

-- on one node and two consoles: refused begins and deliveries, two operations of one console, a console down without an
-- operation and one that ends an operation
unfoldable pub mixed_steps : List Step
mixed_steps =
    BeginWrite 0 5
    ∷ BeginWrite 0 6
    ∷ Deliver 0 0
    ∷ Deliver 0 0
    ∷ Deliver 0 0
    ∷ Deliver 0 0
    ∷ Deliver 0 0
    ∷ BeginRead 0
    ∷ Deliver 0 0
    ∷ Deliver 0 0
    ∷ Deliver 0 0
    ∷ Deliver 0 0
    ∷ ConsoleDown 1
    ∷ BeginRead 1
    ∷ BeginWrite 0 9
    ∷ Deliver 0 0
    ∷ ConsoleDown 0
    ∷ Deliver 0 0
    ∷ []

abbrev one_zero : Tag
one_zero = record { ts = 1; console = 0; life = 0 }

unfoldable pub mixed_log : List Op
mixed_log =
    record { console = 0; wrote = true; began = 15; took = 1; turned = false; status = Lost; ended = 0; tag = zero_tag; value = 0 }
    ∷ record { console = 0; wrote = false; began = 8; took = 4; turned = true; status = Complete; ended = 12; tag = one_zero; value = 5 }
    ∷ record { console = 0; wrote = true; began = 1; took = 4; turned = true; status = Complete; ended = 6; tag = one_zero; value = 5 }
    ∷ []

-- on three nodes and two consoles, under release 2: P2's write, then a read whose two replies agree, with all its asks delivered
-- before: 3 + 2 deliveries, n + q. The reply that is left counts no more
unfoldable pub quiet_steps : List Step
quiet_steps =
    BeginWrite 1 7
    ∷ Deliver 1 0
    ∷ Deliver 1 0
    ∷ Deliver 1 2
    ∷ Deliver 1 2
    ∷ Deliver 1 0
    ∷ Deliver 1 0
    ∷ Deliver 1 2
    ∷ Deliver 1 2
    ∷ BeginRead 0
    ∷ Deliver 0 0
    ∷ Deliver 0 1
    ∷ Deliver 0 2
    ∷ Deliver 0 0
    ∷ Deliver 0 2
    ∷ Deliver 0 1
    ∷ []

unfoldable pub quiet_log : List Op
quiet_log =
    record { console = 0; wrote = false; began = 10; took = 5; turned = false; status = Complete; ended = 15; tag = one_one; value = 7 }
    ∷ record { console = 1; wrote = true; began = 1; took = 8; turned = true; status = Complete; ended = 9; tag = one_one; value = 7 }
    ∷ []

-- under release 1 the same steps leave the read open: it has turned, and the last delivery hands a put to node 1
unfoldable pub quiet_log_under_1 : List Op
quiet_log_under_1 =
    record { console = 0; wrote = false; began = 10; took = 6; turned = true; status = Open; ended = 0; tag = zero_tag; value = 0 }
    ∷ record { console = 1; wrote = true; began = 1; took = 8; turned = true; status = Complete; ended = 9; tag = one_one; value = 7 }
    ∷ []

-- on three nodes and one console: a write that has turned, and whose put has landed at node 0
unfoldable pub landed_steps : List Step
landed_steps =
    BeginWrite 0 5
    ∷ Deliver 0 0
    ∷ Deliver 0 0
    ∷ Deliver 0 1
    ∷ Deliver 0 1
    ∷ Deliver 0 0
    ∷ []

-- and on from there: it is lost with its console, and a begin is refused while that is down. Once restarted the console
-- refuses to restart again, and writes by nodes 1 and 2, under the same timestamp and in its next life
unfoldable pub restarted_steps : List Step
unfolding landed_steps
restarted_steps =
    landed_steps
    ++ (ConsoleDown 0
    ∷ BeginWrite 0 6
    ∷ Restart 0
    ∷ Restart 0
    ∷ BeginWrite 0 6
    ∷ Deliver 0 1
    ∷ Deliver 0 1
    ∷ Deliver 0 2
    ∷ Deliver 0 2
    ∷ Deliver 0 1
    ∷ Deliver 0 1
    ∷ Deliver 0 2
    ∷ Deliver 0 2
    ∷ [])

-- tag (1, 0) in its console's next life
abbrev one_zero_one : Tag
one_zero_one = record { ts = 1; console = 0; life = 1 }

unfoldable pub restarted_log : List Op
restarted_log =
    record { console = 0; wrote = true; began = 11; took = 8; turned = true; status = Complete; ended = 19; tag = one_zero_one; value = 6 }
    ∷ record { console = 0; wrote = true; began = 1; took = 5; turned = true; status = Lost; ended = 0; tag = zero_tag; value = 0 }
    ∷ []

-- the puts of its two writes. Their tags differ in the life alone: without it one tag would have two values
unfoldable pub restarted_puts : List Frame
restarted_puts = Put one_zero 5 ∷ Put one_zero_one 6 ∷ []

-- and on from there: the console reads by node 0, which holds the lost write's value, and by node 1
unfoldable pub reread_steps : List Step
unfolding restarted_steps
reread_steps =
    restarted_steps
    ++ (BeginRead 0
    ∷ Deliver 0 0
    ∷ Deliver 0 0
    ∷ Deliver 0 1
    ∷ Deliver 0 1
    ∷ Deliver 0 0
    ∷ Deliver 0 0
    ∷ Deliver 0 1
    ∷ Deliver 0 1
    ∷ [])

-- the read gives the value of the write that finished. Of two values under one tag it would give the lost write's, the
-- first that it heard: 'on equal tags best keeps its value'
unfoldable pub reread_log : List Op
unfolding restarted_log
reread_log =
    record { console = 0; wrote = false; began = 20; took = 8; turned = true; status = Complete; ended = 28; tag = one_zero_one; value = 6 }
    ∷ restarted_log
