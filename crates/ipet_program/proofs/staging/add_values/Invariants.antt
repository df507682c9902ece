-- The values so far, and those of the stages that are left.
use Rattle.std.proofs.Common.{◌≡◌, ◌++◌, drop, map, pos}
use Rattle.ipet_program.specs.declared.program.Stage.{Stage}
use Rattle.ipet_program.proofs.staging.add_values.Given as goal

abbrev pub invariant-loop-stage : goal.invariant-loop-stage
invariant-loop-stage l =
    l.values ++ map (λ (stage : Stage). pos stage.latency) (drop l.stage-index l.stages)
    ≡ l.initial.values ++ map (λ (stage : Stage). pos stage.latency) l.stages
