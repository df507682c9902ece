use Rattle.std.proofs.Common.{[], take}
use Rattle.unit_graph.specs.Inference.{Adds, IsAnyRule}
use Rattle.unit_graph.proofs.inference.rules_of.Given as goal

abbrev pub invariant-loop-row : goal.invariant-loop-row
invariant-loop-row l = Adds (IsAnyRule (take l.row-index l.rows)) [] l.rules.items
