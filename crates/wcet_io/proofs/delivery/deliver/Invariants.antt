-- A front of the bytes was taken, and each turn takes more.
use Rattle.std.proofs.Common.{◌≤◌, length}
use Rattle.wcet_io.proofs.Delivered.{Delivered}
use Rattle.wcet_io.proofs.delivery.deliver.Given as goal

abbrev pub invariant-loop-rest : goal.invariant-loop-rest
invariant-loop-rest g l =
    Delivered l.bytes l.rest (g.O.Sink.held l.initial.sink) (g.O.Sink.held l.sink)
    × (g.O.Sink.faults l.initial.sink ≤ g.O.Sink.faults l.sink)

abbrev pub decreases-loop-rest : goal.decreases-loop-rest
decreases-loop-rest g l = length l.rest
