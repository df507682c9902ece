-- The stages so far, and those of the entries that are left.
use Rattle.std.proofs.Common.{◌≡◌, ◌+◌, ◌++◌, suc, All, drop, length}
use Rattle.cache_config.specs.Instructions.{costs_of}
use Rattle.ipet_program.specs.StageTables.{IsStageOf}
use Rattle.ipet_program.specs.Stages.{stages_from}
use Rattle.ipet_program.proofs.stages.add_stages.Given as goal

abbrev pub invariant-loop-entry : goal.invariant-loop-entry
invariant-loop-entry l = record {
  made : l.stages.items ++ stages_from l.net (costs_of l.profile) l.number l.access l.before l.level
      (suc (length l.net.arcs + length l.stages.items)) (drop l.entry-index l.row)
      ≡ l.initial.stages.items ++ stages_from l.net (costs_of l.profile) l.number l.access 0 1
      (suc (length l.net.arcs + length l.initial.stages.items)) l.row;
  known : All (IsStageOf l.net) l.stages.items;
  count : length l.stages.items ≡ length l.initial.stages.items + l.entry-index;
  level : l.level ≡ l.entry-index + 1;
}
