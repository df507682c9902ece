-- The places of the ways so far are added.
use Rattle.std.proofs.Common.{take}
use Rattle.call_contexts.specs.Spots.{IsNumberAt}
use Rattle.call_contexts.proofs.Appending.{AreAdded}
use Rattle.call_contexts.proofs.arcs.add_ways.Given as goal

abbrev pub invariant-loop-address : goal.invariant-loop-address
invariant-loop-address l =
    AreAdded (IsNumberAt l.graphs.graphs l.layout l.context) (take l.address-index l.unit.onward) l.initial.targets.items l.targets.items
