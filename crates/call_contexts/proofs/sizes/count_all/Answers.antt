-- The lists and units are those of a program's graphs.
use Rattle.std.proofs.Common.{ℕ, List, length, subst, sym, ap, ◌∙◌}
use Rattle.std.proofs.lemmas.List.{length-map}
use Rattle.step_table.specs.Table.{IsWithin}
use Rattle.unit_graph.specs.declared.graph.Graph.{Graph}
use Rattle.call_contexts.specs.Counting.{AreCalled, IsAcyclic, calls_in, steps_of}
use Rattle.call_contexts.specs.declared.calls.Called.{Called}
use Rattle.std.proofs.lemmas.Slice.Zip.{AllZip-long}
use Rattle.call_contexts.proofs.CallGraph.{calls_known, lists_within, steps_acyclic}
use Rattle.call_contexts.proofs.sizes.count_all.Goals as goal

pub call_lists-requires-clause-known : goal.call_lists-requires-clause-known
call_lists-requires-clause-known c =
    let (image, entry, has) = c.requires in
    calls_known image entry (record { graphs = c.args.graphs.now }) has.graphs_are

pub sizes_told-requires-clause-count : goal.sizes_told-requires-clause-count
sizes_told-requires-clause-count c =
    ap (λ (units : List ℕ). length units) (c.deref.ensures.value ∙ c.in_ok-units.ensures)
    ∙ length-map c.args.graphs.now (λ (graph : Graph). length graph.units)
    ∙ sym (AllZip-long (λ (graph : Graph). AreCalled c.args.graphs.now (calls_in graph)) c.args.graphs.now c.in_ok-lists.lists.items c.in_ok-lists.ensures)
    ∙ sym (ap (λ (lists : List (List Called)). length lists) c.deref-2.ensures.value)

pub sizes_told-requires-clause-within : goal.sizes_told-requires-clause-within
sizes_told-requires-clause-within c =
    let zip = c.in_ok-lists.ensures in
    subst (λ (lists : List (List Called)). IsWithin (steps_of lists)) (sym c.deref-2.ensures.value)
    (lists_within c.args.graphs.now c.in_ok-lists.lists.items zip
    (AllZip-long (λ (graph : Graph). AreCalled c.args.graphs.now (calls_in graph)) c.args.graphs.now c.in_ok-lists.lists.items zip))

pub sizes_told-requires-clause-acyclic : goal.sizes_told-requires-clause-acyclic
sizes_told-requires-clause-acyclic c =
    let (image, entry, has) = c.requires in
    subst (λ (lists : List (List Called)). IsAcyclic (steps_of lists)) (sym c.deref-2.ensures.value)
    (steps_acyclic image entry (record { graphs = c.args.graphs.now }) has c.in_ok-lists.lists.items c.in_ok-lists.ensures)
