-- The caps so far, and those of the stages that are left.
use Rattle.std.proofs.Common.{◌≡◌, ◌++◌, drop, map}
use Rattle.ipet_program.specs.Scopes.{turns_at}
use Rattle.ipet_program.specs.declared.program.Stage.{Stage}
use Rattle.ipet_program.proofs.staging.add_caps.Given as goal

abbrev pub invariant-loop-stage : goal.invariant-loop-stage
invariant-loop-stage l =
    l.caps ++ map (λ (stage : Stage). turns_at l.net stage.place) (drop l.stage-index l.stages)
    ≡ l.initial.caps ++ map (λ (stage : Stage). turns_at l.net stage.place) l.stages
