-- The cut among the graphs behind the first is the place of the function's graph.
use Rattle.std.proofs.Common.{◌≡◌, true, false, List, drop, nat_lt, rules, subst, sym, ap, ◌∙◌}
use Rattle.std.specs.List.Sorted.{IsNonDecreasingBy, IsPartitionPoint}
use Rattle.std.proofs.lemmas.List.Sorted.{IsPartitionPoint-from_clause, IsPartitionedBy-ltb}
use Rattle.unit_graph.specs.declared.graph.Graph.{Graph}
use Rattle.call_contexts.proofs.Bisection.{keys_ordered}
use Rattle.call_contexts.proofs.GraphPlaces.{behind_rising, entry_of, found_behind}
use Rattle.call_contexts.proofs.index.graph_at.Goals as goal

pub returns : goal.returns
returns c =
    let cut = IsPartitionPoint-from_clause (λ (graph : Graph). nat_lt graph.entry c.args.function) c.split_at.result.1.now
    c.partition_point.result c.partition_point.ensures.partitioned
    (IsPartitionedBy-ltb entry_of c.split_at.result.1.now c.args.function
    (subst (λ (gs : List Graph). IsNonDecreasingBy entry_of gs) (sym c.split_at.ensures.back)
    (keys_ordered entry_of (drop 1 c.args.graphs.now) (behind_rising c.args.graphs.now c.requires.listed))))
    (λ a r q k. search rules) in
    found_behind c.args.graphs.now c.args.function c.requires.listed c.requires.known c.index-graphs-0.result
    (search rules) (λ e. c.if-graphs-function.false (ap entry_of (sym c.index-graphs-0.is) ∙ e)) c.partition_point.result
    (subst (λ (gs : List Graph). IsPartitionPoint (λ (graph : Graph). nat_lt graph.entry c.args.function ≡ true)
    (λ (graph : Graph). nat_lt graph.entry c.args.function ≡ false) gs c.partition_point.result) c.split_at.ensures.back cut)
