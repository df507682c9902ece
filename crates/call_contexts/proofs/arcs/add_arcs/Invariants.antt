-- The arcs to the targets so far are added.
use Rattle.std.proofs.Common.{◌≡◌, ◌++◌, take}
use Rattle.call_contexts.specs.Arcs.{arcs_from}
use Rattle.call_contexts.proofs.arcs.add_arcs.Given as goal

abbrev pub invariant-loop-to : goal.invariant-loop-to
invariant-loop-to l = l.arcs.items ≡ l.initial.arcs.items ++ arcs_from l.from (take l.to-index l.targets)
