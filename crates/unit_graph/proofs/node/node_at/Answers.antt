use Rattle.unit_graph.proofs.Noting.{IfOk-node}
use Rattle.unit_graph.proofs.node.node_at.Goals as goal

pub returns : goal.returns
returns c =
    IfOk-node c.args.rows.now c.args.returning.now.keys c.args.address c.in-Some.row.now c.in-Unit.unit c.node_of.result
    c.in-Some.ensures.listed c.in-Some.ensures.same c.in-Unit.is c.node_of.ensures
