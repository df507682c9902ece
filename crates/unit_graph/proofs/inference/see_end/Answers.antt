use Rattle.std.proofs.Common.{rules}
use Rattle.unit_graph.proofs.Ends.{ends_one}
use Rattle.unit_graph.proofs.inference.see_end.Goals as goal

pub returns : goal.returns
returns c =
    ends_one c.args.row.now c.args.returning.now.keys c.args.waiting.now.items c.see.new.seen.keys c.see.new.waiting.items
    (search rules) c.in_ok-see.ensures
