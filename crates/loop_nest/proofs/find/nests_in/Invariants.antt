use Rattle.std.proofs.Common.{take}
use Rattle.std.specs.BTreeMap.{get}
use Rattle.std.specs.Ordering.{nat_cmp}
use Rattle.unit_graph.specs.Graphs.{OfTheirImage}
use Rattle.loop_nest.specs.Bounds.{AreRecorded}
use Rattle.loop_nest.specs.Programs.{IsFoundIn}
use Rattle.loop_nest.proofs.find.nests_in.Given as goal

abbrev pub invariant-loop-graph : goal.invariant-loop-graph
invariant-loop-graph l = OfTheirImage l.graphs (λ image.
    AreRecorded image.marks (get nat_cmp l.recorded) → IsFoundIn image (take l.graph-index l.graphs) l.nests l.first)
