-- So many units were done as were begun.
use Rattle.std.proofs.Common.{◌≡◌}
use Rattle.machine_bench.specs.Units.{after}
use Rattle.machine_bench.proofs.run.Given as goal

abbrev pub invariant-loop-unit : goal.invariant-loop-unit
invariant-loop-unit l = l.machine ≡ after l.unit l.initial.machine
