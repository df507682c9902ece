use Rattle.std.proofs.Common.{take}
use Rattle.unit_graph.specs.Inference.{IsEnd}
use Rattle.unit_graph.specs.Search.{Sees}
use Rattle.unit_graph.proofs.inference.see_ends.Given as goal

abbrev pub invariant-loop-row : goal.invariant-loop-row
invariant-loop-row l =
    Sees (IsEnd (take l.row-index l.rows)) l.initial.returning.keys l.initial.waiting.items l.returning.keys l.waiting.items
