use Rattle.unit_graph.proofs.Gaining.{Gains-one}
use Rattle.unit_graph.proofs.search.add.Goals as goal

pub returns : goal.returns
returns c =
    let e = c.in_ok-insert.ensures in
    Gains-one c.args.set.now c.insert.new.self c.args.address e.updates e.ordered
