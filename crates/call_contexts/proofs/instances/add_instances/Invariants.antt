-- The instances of the loops so far are added.
use Rattle.call_contexts.specs.Instances.{AddsInstances}
use Rattle.call_contexts.proofs.instances.add_instances.Given as goal

abbrev pub invariant-loop-one : goal.invariant-loop-one
invariant-loop-one l =
    AddsInstances l.units l.loops l.frame.base l.frame.first l.frame.outer l.one-index l.initial.instances l.instances
