use Rattle.std.proofs.Common.{ℕ, List, subst}
use Rattle.std.specs.Prelude.{Contains}
use Rattle.unit_graph.specs.Flow.{ComesBack}
use Rattle.unit_graph.specs.Search.{Sees}
use Rattle.unit_graph.proofs.Seen.{Sees-then}
use Rattle.unit_graph.proofs.flow.see_onward.Goals as goal

pub returns : goal.returns
returns c =
    Sees-then (Contains c.args.row.now.onward) (ComesBack c.args.returning.now.keys c.args.row.now)
    c.args.seen.now.keys c.args.waiting.now.items c.see_all.new.seen.keys c.see_all.new.waiting.items
    c.see_behind.new.seen.keys c.see_behind.new.waiting.items
    (subst (λ (xs : List ℕ). Sees (Contains xs) c.args.seen.now.keys c.args.waiting.now.items c.see_all.new.seen.keys c.see_all.new.waiting.items)
    c.as_slice.ensures c.in_ok-see_all.ensures)
    c.in_ok-see_behind.ensures
