-- The closure's test is the definition's.
use Rattle.std.proofs.Common.{◌≡◌, ◌∙◌, ap, false, get_or, arith, rules}
use Rattle.std.proofs.lemmas.List.{get_or_default}
use Rattle.parts.specs.declared.Node.{Node}
use Rattle.parts.specs.Tags.{zero_tag}
use Rattle.parts.specs.Parts.{fresh_node, node_in}
use Rattle.well_formed.specs.Clauses.{node_ok, nodes_ok}
use Rattle.well_formed.proofs.nodes.are_nodes_ok.Goals as goal

-- the code reads a node of zeros beyond the list; within it that makes no difference
zero_node : Node
zero_node = record { up = false; tag = zero_tag; value = 0 }

pub returns : goal.returns
unfolding nodes_ok node_in zero_node
returns c =
    c.every.ensures
    (λ k. node_ok c.args.setup k (node_in c.args.nodes.now k))
    (λ k yes h post.
    let said : yes ≡ node_ok c.args.setup k (get_or c.args.nodes.now k zero_node) = search rules in
    said ∙ ap (node_ok _ _) (get_or_default c.args.nodes.now k zero_node fresh_node (omega arith)))
