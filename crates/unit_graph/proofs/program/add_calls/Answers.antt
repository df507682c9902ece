use Rattle.std.proofs.Common.{ℕ, List, subst}
use Rattle.std.specs.Prelude.{Contains}
use Rattle.unit_graph.specs.Search.{Gains}
use Rattle.unit_graph.proofs.Calling.{calls_nowhere, calls_row}
use Rattle.unit_graph.proofs.program.add_calls.Goals as goal

pub returns-in_default : goal.returns-in_default
returns-in_default c = calls_nowhere c.args.rows.now c.args.address c.args.calls.now.keys c.in_default.ensures.none

pub returns : goal.returns
returns c =
    calls_row c.args.rows.now c.args.address c.in-Some.row.now c.args.calls.now.keys c.add_all.new.set.keys
    c.requires c.in-Some.ensures.listed c.in-Some.ensures.same
    (subst (λ (xs : List ℕ). Gains (Contains xs) c.args.calls.now.keys c.add_all.new.set.keys)
    c.as_slice.ensures c.in_ok-add_all.ensures)
