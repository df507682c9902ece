use Rattle.std.proofs.Common.{take}
use Rattle.unit_graph.specs.Inference.{AreReturning}
use Rattle.unit_graph.specs.Program.{AreGraphsOf}
use Rattle.unit_graph.specs.Rows.{OfTheirImage}
use Rattle.unit_graph.proofs.graph.other_graphs.Given as goal

abbrev pub invariant-loop-function : goal.invariant-loop-function
invariant-loop-function l = OfTheirImage l.rows (λ image main. AreReturning image l.rows l.returning.keys →
    AreGraphsOf image l.entry (take l.function-index l.functions) l.initial.graphs l.graphs)
