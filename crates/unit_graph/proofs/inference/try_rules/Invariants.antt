use Rattle.std.proofs.Common.{take}
use Rattle.unit_graph.specs.Inference.{Infers}
use Rattle.unit_graph.proofs.inference.try_rules.Given as goal

abbrev pub invariant-loop-rule : goal.invariant-loop-rule
invariant-loop-rule l =
    Infers (take l.rule-index l.rules) l.initial.returning.keys l.initial.waiting.items l.returning.keys l.waiting.items
