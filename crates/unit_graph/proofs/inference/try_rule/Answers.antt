use Rattle.std.proofs.Common.{rules}
use Rattle.unit_graph.proofs.Growing.{IsTried-met}
use Rattle.unit_graph.proofs.inference.try_rule.Goals as goal

pub returns : goal.returns
returns c =
    IsTried-met c.args.rule c.args.returning.now.keys c.args.waiting.now.items c.see.new.seen.keys c.see.new.waiting.items
    (search rules) c.in_ok-see.ensures
