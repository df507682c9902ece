-- The stages so far, and those of the accesses that are left.
use Rattle.std.proofs.Common.{◌≡◌, ◌≤◌, ◌+◌, ◌*◌, ◌++◌, suc, All, drop, length}
use Rattle.cache_config.specs.Instructions.{costs_of}
use Rattle.ipet_program.specs.StageTables.{IsStageOf}
use Rattle.ipet_program.specs.Stages.{further_stages, stages_by}
use Rattle.ipet_program.proofs.stages.further_stages.Given as goal

abbrev pub invariant-loop-index : goal.invariant-loop-index
invariant-loop-index l = record {
  made : l.stages.items ++ stages_by l.net (costs_of l.profile) (suc l.index)
      (suc (length l.net.arcs + length l.stages.items)) (drop l.index l.accesses) (drop l.index l.rows)
      ≡ further_stages l.net (costs_of l.profile) l.classes;
  known : All (IsStageOf l.net) l.stages.items;
  count : length l.stages.items ≤ 3 * l.index;
}
