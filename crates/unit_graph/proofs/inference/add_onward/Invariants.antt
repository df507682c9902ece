use Rattle.std.proofs.Common.{take}
use Rattle.unit_graph.specs.Inference.{Adds, IsOnwardRule}
use Rattle.unit_graph.proofs.inference.add_onward.Given as goal

abbrev pub invariant-loop-later : goal.invariant-loop-later
invariant-loop-later l = Adds (IsOnwardRule l.address (take l.later-index l.onward)) l.initial.rules.items l.rules.items
