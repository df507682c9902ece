use Rattle.std.proofs.Common.{◌∙◌, ◌++◌, ◌∷◌, [], ℕ, List, All, ap, subst, sym}
use Rattle.std.proofs.lemmas.List.Elements.{All-contains}
use Rattle.net_model.specs.Functions.{main}
use Rattle.unit_graph.specs.Inference.{AreReturning}
use Rattle.unit_graph.specs.Program.{AreGraphsOf, AreUnits}
use Rattle.unit_graph.specs.Rows.{AreRows}
use Rattle.unit_graph.specs.declared.graph.Graph.{Graph}
use Rattle.unit_graph.specs.declared.rows.Row.{Row}
use Rattle.unit_graph.proofs.Others.{AreGraphs-listed}
use Rattle.unit_graph.proofs.graph.graphs_of.Goals as goal

pub graph_of-requires-clause-rows : goal.graph_of-requires-clause-rows
graph_of-requires-clause-rows c = (
  c.requires.program.0,
  c.args.entry,
  subst (AreRows c.requires.program.0 c.args.entry) (sym c.deref.ensures.value) c.requires.program.1.rows,
)

pub graph_of-requires-clause-units : goal.graph_of-requires-clause-units
graph_of-requires-clause-units c =
    subst (λ (rows : List Row). AreUnits rows c.args.program.now.returning.keys c.args.entry) (sym c.deref.ensures.value)
    (All-contains (AreUnits c.args.program.now.rows.items c.args.program.now.returning.keys) c.args.program.now.functions.items c.args.entry
    c.requires.units (c.requires.program.1.functions.whole c.args.entry main))

pub other_graphs-requires-clause-rows : goal.other_graphs-requires-clause-rows
other_graphs-requires-clause-rows c = (
  c.requires.program.0,
  c.args.entry,
  subst (AreRows c.requires.program.0 c.args.entry) (sym c.deref-2.ensures.value) c.requires.program.1.rows,
)

pub other_graphs-requires-clause-units : goal.other_graphs-requires-clause-units
other_graphs-requires-clause-units c =
    subst (λ (rows : List Row). All (AreUnits rows c.args.program.now.returning.keys) c.deref-3.result.now) (sym c.deref-2.ensures.value)
    (subst (All (AreUnits c.args.program.now.rows.items c.args.program.now.returning.keys)) (sym c.deref-3.ensures.value) c.requires.units)

pub returns : goal.returns
returns c = λ image is.
    let returning = c.args.program.now.returning.keys in
    AreGraphs-listed image c.args.entry c.args.program.now.functions.items c.in_ok-graph_of.field-0 c.push.new.self c.other_graphs.new.graphs
    is.functions
    (c.in_ok-graph_of.ensures image c.args.entry
    (subst (AreRows image c.args.entry) (sym c.deref.ensures.value) is.rows)
    (subst (λ (rows : List Row). AreReturning image rows returning) (sym c.deref.ensures.value) is.returning))
    (c.in_ok-push.ensures.ok ∙ ap (λ (gs : List Graph). gs ++ c.in_ok-graph_of.field-0 ∷ []) c.new-graphs.ensures)
    (subst (λ (functions : List ℕ). AreGraphsOf image c.args.entry functions c.push.new.self c.other_graphs.new.graphs) c.deref-3.ensures.value
    (c.in_ok-other_graphs.ensures image c.args.entry
    (subst (AreRows image c.args.entry) (sym c.deref-2.ensures.value) is.rows)
    (subst (λ (rows : List Row). AreReturning image rows returning) (sym c.deref-2.ensures.value) is.returning)))
