use Rattle.std.proofs.Common.{ℕ, List, subst}
use Rattle.std.specs.Prelude.{Contains}
use Rattle.unit_graph.specs.Flow.{ComesBack}
use Rattle.unit_graph.specs.Search.{Gains}
use Rattle.unit_graph.proofs.Gaining.{Gains-then}
use Rattle.unit_graph.proofs.flow.add_onward.Goals as goal

pub returns : goal.returns
returns c =
    Gains-then (Contains c.args.row.now.onward) (ComesBack c.args.returning.now.keys c.args.row.now)
    c.args.found.now.keys c.add_all.new.set.keys c.add_behind.new.found.keys
    (subst (λ (xs : List ℕ). Gains (Contains xs) c.args.found.now.keys c.add_all.new.set.keys)
    c.as_slice.ensures c.in_ok-add_all.ensures)
    c.in_ok-add_behind.ensures
