use Rattle.std.proofs.Common.{[], List, subst, sym, take, arith, rules}
use Rattle.std.proofs.lemmas.List.{take_all}
use Rattle.std.proofs.lemmas.List.Sorted.{IsNonDecreasingBy-from_sort_by_key}
use Rattle.unit_graph.specs.Inference.{Adds, IsAnyRule}
use Rattle.unit_graph.specs.Rows.{IsRow}
use Rattle.unit_graph.specs.declared.inference.Rule.{Rule}
use Rattle.unit_graph.specs.declared.rows.Row.{Row}
use Rattle.unit_graph.proofs.FarSight.{low_some}
use Rattle.step_table.proofs.Seen.{one_more}
use Rattle.unit_graph.proofs.Inferring.{AreRules-sorted}
use Rattle.unit_graph.proofs.RuleLists.{Adds-none, no_rows, rows_more}
use Rattle.unit_graph.proofs.inference.rules_of.Goals as goal

pub loop-row-init : goal.loop-row-init
loop-row-init c = subst (Adds (IsAnyRule []) []) (sym c.new-rules.ensures.items) (Adds-none (IsAnyRule []) [] no_rows)

pub add_rules-requires : goal.add_rules-requires
add_rules-requires c =
    low_some c.requires.0 c.row-item.result
    (subst (IsRow c.requires.0) (sym c.row-item.is) (c.requires.1 c.loop-row.row-index c.row-item.result c.loop-row-test.true))

pub loop-row-preserved : goal.loop-row-preserved
loop-row-preserved c =
    let at = c.loop-row.row-index in
    let one = c.row-item.result in
    subst (λ (some : List Row). Adds (IsAnyRule some) [] c.add_rules.new.rules.items)
    (sym (one_more c.args.rows.now at one c.loop-row-test.true c.row-item.is))
    (rows_more (take at c.args.rows.now) one [] c.loop-row.rules.items c.add_rules.new.rules.items
    c.loop-row.invariant c.in_ok-add_rules.ensures)

pub returns : goal.returns
returns c =
    AreRules-sorted c.args.rows.now c.loop-row.rules.items c.sort_by_key.new.self.items
    (subst (λ (some : List Row). Adds (IsAnyRule some) [] c.loop-row.rules.items)
    (take_all c.loop-row.row-index c.args.rows.now (omega (arith, c.loop-row-test.false)))
    c.loop-row.invariant)
    c.sort_by_key.ensures.permutation
    (IsNonDecreasingBy-from_sort_by_key (λ (rule : Rule). rule.given)
    c.sort_by_key.new.self.items c.in_ok-sort_by_key.ensures.sorted (λ a r q k. search rules))
