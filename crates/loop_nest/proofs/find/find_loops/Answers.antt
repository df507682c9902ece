use Rattle.std.proofs.Common.{List, subst}
use Rattle.std.specs.BTreeMap.{get}
use Rattle.std.specs.Ordering.{nat_cmp}
use Rattle.elf_mips.specs.declared.mark.Mark.{Mark}
use Rattle.unit_graph.specs.declared.graph.Graph.{Graph}
use Rattle.loop_nest.specs.Bounds.{AreRecorded}
use Rattle.loop_nest.specs.Programs.{IsFoundIn}
use Rattle.loop_nest.proofs.Finding.{each_graph, found_tells}
use Rattle.loop_nest.proofs.find.find_loops.Goals as goal

pub nests_in-requires-clause-graphs : goal.nests_in-requires-clause-graphs
nests_in-requires-clause-graphs c = (
  c.args.image.now,
  each_graph c.args.image.now c.requires.graphs.0 c.args.graphs.now c.as_slice-2.result.now c.requires.graphs.1 c.as_slice-2.ensures,
)

pub returns-in-Some-clause-bad : goal.returns-in-Some-clause-bad
returns-in-Some-clause-bad c = λ entry are.
    let image = c.args.image.now in
    found_tells image entry c.args.graphs.now c.nests_in.new.nests c.in-Some.first are
    (subst (IsFoundIn image c.args.graphs.now.graphs c.nests_in.new.nests) c.in-Some.is
    (subst (λ (graphs : List Graph). IsFoundIn image graphs c.nests_in.new.nests c.in_ok-first.field-0) c.as_slice-2.ensures
    (c.in_ok-first.ensures image
    (each_graph image entry c.args.graphs.now c.as_slice-2.result.now are c.as_slice-2.ensures)
    (subst (λ (marks : List Mark). AreRecorded marks (get nat_cmp c.in_ok-recorded.recorded)) c.as_slice.ensures c.in_ok-recorded.ensures))))

pub returns-clause-nests : goal.returns-clause-nests
returns-clause-nests c =
    let image = c.args.image.now in
    (subst (λ (graphs : List Graph). IsFoundIn image graphs c.nests_in.new.nests c.in_ok-first.field-0) c.as_slice-2.ensures
    (c.in_ok-first.ensures image
    (each_graph image c.requires.graphs.0 c.args.graphs.now c.as_slice-2.result.now c.requires.graphs.1 c.as_slice-2.ensures)
    (subst (λ (marks : List Mark). AreRecorded marks (get nat_cmp c.in_ok-recorded.recorded)) c.as_slice.ensures c.in_ok-recorded.ensures))).nests_are
    c.in_default.is
