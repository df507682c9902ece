use Rattle.std.proofs.Common.{ℕ, List, ◌<◌, length, subst}
use Rattle.unit_graph.specs.Inference.{Adds, IsCallRule, IsOnwardRule}
use Rattle.unit_graph.proofs.RuleLists.{Adds-then}
use Rattle.unit_graph.proofs.inference.add_rules.Goals as goal

pub add_calls-requires : goal.add_calls-requires
add_calls-requires c = λ some. c.requires (subst (λ (xs : List ℕ). 0 < length xs) c.as_slice-2.ensures some)

pub returns : goal.returns
returns c =
    let row = c.args.row.now in
    Adds-then (IsOnwardRule row.address row.onward) (IsCallRule row.address row.calls)
    c.args.rules.now.items c.add_onward.new.rules.items c.add_calls.new.rules.items
    (subst (λ (xs : List ℕ). Adds (IsOnwardRule row.address xs) c.args.rules.now.items c.add_onward.new.rules.items)
    c.as_slice.ensures c.in_ok-add_onward.ensures)
    (subst (λ (xs : List ℕ). Adds (IsCallRule row.address xs) c.add_onward.new.rules.items c.add_calls.new.rules.items)
    c.as_slice-2.ensures c.in_ok-add_calls.ensures)
