use Rattle.std.proofs.Common.{subst, rules, arith}
use Rattle.unit_graph.specs.Flow.{SomeReturns}
use Rattle.unit_graph.proofs.Behind.{behind_added, some_called}
use Rattle.unit_graph.proofs.flow.add_behind.Goals as goal

pub overflow_add-row : goal.overflow_add-row
overflow_add-row c =
    let low = c.requires (some_called c.args.returning.now.keys c.args.row.now.calls
    (subst (SomeReturns c.args.returning.now.keys) c.as_slice.ensures (search rules))) in
    omega (arith, low)

pub returns : goal.returns
returns c =
    behind_added c.args.returning.now.keys c.args.row.now c.args.found.now.keys c.add.new.set.keys
    (subst (SomeReturns c.args.returning.now.keys) c.as_slice.ensures (search rules))
    c.in_ok-add.ensures
