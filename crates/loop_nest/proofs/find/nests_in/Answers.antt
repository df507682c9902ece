use Rattle.std.proofs.Common.{List, Some, take, subst, sym}
use Rattle.std.proofs.lemmas.List.{take_all}
use Rattle.unit_graph.specs.Graphs.{IsGraph}
use Rattle.unit_graph.specs.declared.graph.Graph.{Graph}
use Rattle.step_table.proofs.Seen.{one_more}
use Rattle.loop_nest.specs.Plans.{IsAnswer}
use Rattle.loop_nest.specs.Programs.{IsFoundIn}
use Rattle.loop_nest.proofs.Finding.{found_fault, found_loops, found_nothing}
use Rattle.loop_nest.proofs.find.nests_in.Goals as goal

pub answer_of-requires : goal.answer_of-requires
answer_of-requires c =
    let graph = c.graph-item.result in (
      c.requires.graphs.0,
      graph.entry,
      subst (λ (g : Graph). IsGraph c.requires.graphs.0 g.entry g) (sym c.graph-item.is)
          (c.requires.graphs.1 c.loop-graph.graph-index graph c.loop-graph-test.true),
    )

pub loop-graph-init : goal.loop-graph-init
loop-graph-init c image graphed records = found_nothing image c.args.nests.now c.requires.empty

pub loop-graph-preserved-in-Loops : goal.loop-graph-preserved-in-Loops
loop-graph-preserved-in-Loops c image graphed records =
    let graphs = c.args.graphs.now in
    let at = c.loop-graph.graph-index in
    let graph = c.graph-item.result in
    let one : IsGraph image graph.entry graph =
    subst (λ (g : Graph). IsGraph image g.entry g) (sym c.graph-item.is) (graphed at graph c.loop-graph-test.true) in
    subst (λ (some : List Graph). IsFoundIn image some c.push.new.self c.loop-graph.first)
    (sym (one_more graphs at graph c.loop-graph-test.true c.graph-item.is))
    (found_loops image (take at graphs) graph c.loop-graph.nests c.push.new.self c.loop-graph.first c.in-Loops.loops
    (c.loop-graph.invariant image graphed records)
    (subst (IsAnswer image graph.entry) c.in-Loops.is (c.in_ok-loops.ensures image graph.entry one records))
    c.in_ok-push-in-Loops.ensures.ok)

pub loop-graph-preserved : goal.loop-graph-preserved
loop-graph-preserved c image graphed records =
    let graphs = c.args.graphs.now in
    let at = c.loop-graph.graph-index in
    let graph = c.graph-item.result in
    let one : IsGraph image graph.entry graph =
    subst (λ (g : Graph). IsGraph image g.entry g) (sym c.graph-item.is) (graphed at graph c.loop-graph-test.true) in
    subst (λ (some : List Graph). IsFoundIn image some c.loop-graph.nests (Some c.first_of.result))
    (sym (one_more graphs at graph c.loop-graph-test.true c.graph-item.is))
    (found_fault image (take at graphs) graph c.loop-graph.nests c.loop-graph.first c.first_of.result c.in-Fault.kind c.in-Fault.place
    (c.loop-graph.invariant image graphed records)
    (subst (IsAnswer image graph.entry) c.in-Fault.is (c.in_ok-loops.ensures image graph.entry one records))
    c.first_of.ensures.either c.first_of.ensures.new c.first_of.ensures.old)

pub returns : goal.returns
returns c image graphed records =
    subst (λ (graphs : List Graph). IsFoundIn image graphs c.loop-graph.nests c.loop-graph.first)
    (take_all c.loop-graph.graph-index c.args.graphs.now c.loop-graph-test.false)
    (c.loop-graph.invariant image graphed records)
