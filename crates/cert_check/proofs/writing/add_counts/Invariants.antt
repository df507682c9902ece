-- The lines so far.
use Rattle.std.proofs.Common.{◌≡◌, ◌++◌, flat_map, take}
use Rattle.std.specs.List.{AllByRecursion}
use Rattle.std.specs.String.{string_bytes}
use Rattle.cert_check.specs.Lines.{FitsCount}
use Rattle.cert_check.specs.Texts.{count_text}
use Rattle.cert_check.proofs.writing.add_counts.Given as goal

abbrev pub invariant-loop-count : goal.invariant-loop-count
invariant-loop-count l = record {
  text : string_bytes l.text ≡ string_bytes l.initial.text ++ flat_map count_text (take l.count-index l.counts);
  fit : AllByRecursion FitsCount (take l.count-index l.counts);
}
