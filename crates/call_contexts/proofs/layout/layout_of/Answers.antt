-- What was counted of the graphs is what the program has.
use Rattle.std.proofs.Common.{ℕ, List, subst, sym, ap, ◌∙◌}
use Rattle.unit_graph.specs.declared.graph.Graph.{Graph}
use Rattle.call_contexts.specs.Counted.{IsCounted, IsFit}
use Rattle.call_contexts.specs.Layout.{HasGraphs}
use Rattle.call_contexts.proofs.GraphFunctions.{first_graph, first_read}
use Rattle.call_contexts.proofs.LaidOut.{fit_is, layout_is, plan_is, sizes_is, too_many}
use Rattle.call_contexts.proofs.Returns.{never_by, returns_by}
use Rattle.call_contexts.proofs.layout.layout_of.Goals as goal

pub returns-then-not-functions-clause-bad : goal.returns-then-not-functions-clause-bad
returns-then-not-functions-clause-bad c = λ image entry has.
    let first = first_read image entry c.args.graphs.now has.graphs_are c.as_slice-functions.result.now c.index-functions-0.result c.as_slice-functions.ensures in
    never_by image entry c.args.graphs.now has.graphs_are has.graphs_are.first (first_graph image entry c.args.graphs.now has.graphs_are)
    (ap (λ (g : Graph). g.can_return) (sym first) ∙ c.if-not-functions.true)

pub count_all-requires : goal.count_all-requires
count_all-requires c =
    let (image, entry, has) = c.requires in
    (image, entry, subst (λ (graphs : List Graph). HasGraphs image entry (record { graphs = graphs })) (sym c.as_slice-functions.ensures) has)

pub returns-then-is_too_many-clause-bad : goal.returns-then-is_too_many-clause-bad
returns-then-is_too_many-clause-bad c = λ image entry has.
    let first = first_read image entry c.args.graphs.now has.graphs_are c.as_slice-functions.result.now c.index-functions-0.result c.as_slice-functions.ensures in
    let counted = subst (λ (graphs : List Graph). IsCounted graphs c.in_ok-counted.counted) c.as_slice-functions.ensures c.in_ok-counted.ensures in (
      returns_by image entry c.args.graphs.now has.graphs_are has.graphs_are.first (first_graph image entry c.args.graphs.now has.graphs_are)
          (ap (λ (g : Graph). g.can_return) (sym first) ∙ c.if-not-functions.false),
      too_many image entry c.args.graphs.now has c.in_ok-counted.counted counted c.if-is_too_many.ensures.many,
    )

pub lay_out-requires : goal.lay_out-requires
lay_out-requires c =
    let (image, entry, has) = c.requires in
    let first = first_read image entry c.args.graphs.now has.graphs_are c.as_slice-functions.result.now c.index-functions-0-2.result c.as_slice-functions.ensures in
    let counted = subst (λ (graphs : List Graph). IsCounted graphs c.in_ok-counted.counted) c.as_slice-functions.ensures c.in_ok-counted.ensures in
    subst (λ (e : ℕ). IsFit e c.in_ok-counted.counted) (sym (ap (λ (g : Graph). g.entry) first ∙ has.graphs_are.begins))
    (fit_is image entry c.args.graphs.now has c.in_ok-counted.counted counted c.if-is_too_many.ensures.contexts c.if-is_too_many.ensures.places)

pub returns-clause-layout : goal.returns-clause-layout
returns-clause-layout c = λ image entry has.
    layout_is image entry c.args.graphs.now c.in_ok-counted.counted c.in_ok-layout.layout
    (plan_is image entry c.args.graphs.now has c.as_slice-functions.result.now c.index-functions-0-2.result c.in_ok-counted.counted c.in_ok-layout.layout
    c.as_slice-functions.ensures c.in_ok-counted.ensures c.if-is_too_many.ensures.contexts c.if-is_too_many.ensures.places c.in_ok-layout.ensures)

pub returns-clause-sizes : goal.returns-clause-sizes
returns-clause-sizes c = λ image entry has.
    sizes_is image entry c.args.graphs.now c.in_ok-counted.counted c.in_ok-layout.layout
    (plan_is image entry c.args.graphs.now has c.as_slice-functions.result.now c.index-functions-0-2.result c.in_ok-counted.counted c.in_ok-layout.layout
    c.as_slice-functions.ensures c.in_ok-counted.ensures c.if-is_too_many.ensures.contexts c.if-is_too_many.ensures.places c.in_ok-layout.ensures)

pub returns-clause-returns : goal.returns-clause-returns
returns-clause-returns c = λ image entry has.
    let first = first_read image entry c.args.graphs.now has.graphs_are c.as_slice-functions.result.now c.index-functions-0.result c.as_slice-functions.ensures in
    returns_by image entry c.args.graphs.now has.graphs_are has.graphs_are.first (first_graph image entry c.args.graphs.now has.graphs_are)
    (ap (λ (g : Graph). g.can_return) (sym first) ∙ c.if-not-functions.false)
