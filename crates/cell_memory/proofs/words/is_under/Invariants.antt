-- What is left of the second list is under what is left of the first one exactly where the whole is.
use Rattle.std.proofs.Common.{◌≡◌, ℕ, drop}
use Rattle.domain_laws.specs.Maps.{Rises, map_leq}
use Rattle.value_domain.specs.Order.{leq}
use Rattle.cell_memory.proofs.words.is_under.Given as goal

abbrev pub invariant-loop-word : goal.invariant-loop-word
invariant-loop-word l = record {
  rises : (low : ℕ) × Rises low l.rest;
  same : map_leq leq l.rest (drop l.word-index l.above) ≡ map_leq leq l.below l.above;
}
