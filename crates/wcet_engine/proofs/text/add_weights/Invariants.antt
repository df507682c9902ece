-- The multipliers so far.
use Rattle.std.proofs.Common.{◌≡◌, ◌++◌, flat_map, take}
use Rattle.std.specs.String.{string_bytes}
use Rattle.wcet_engine.specs.Texts.{weight_text}
use Rattle.wcet_engine.proofs.text.add_weights.Given as goal

abbrev pub invariant-loop-weight : goal.invariant-loop-weight
invariant-loop-weight l = string_bytes l.text ≡ string_bytes l.initial.text ++ flat_map weight_text (take l.weight-index l.weights)
