-- The lines so far.
use Rattle.std.proofs.Common.{◌≡◌, ◌++◌, flat_map, take}
use Rattle.std.specs.List.{AllByRecursion}
use Rattle.std.specs.String.{string_bytes}
use Rattle.cert_check.specs.Lines.{FitsWeight}
use Rattle.cert_check.specs.Texts.{weight_text}
use Rattle.cert_check.proofs.writing.add_weights.Given as goal

abbrev pub invariant-loop-weight : goal.invariant-loop-weight
invariant-loop-weight l = record {
  text : string_bytes l.text ≡ string_bytes l.initial.text ++ flat_map weight_text (take l.weight-index l.weights);
  fit : AllByRecursion FitsWeight (take l.weight-index l.weights);
}
