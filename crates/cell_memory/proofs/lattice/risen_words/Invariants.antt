-- The words so far, and what the others rise to by those from there on.
use Rattle.std.proofs.Common.{◌≡◌, ℕ, ◌++◌, drop}
use Rattle.domain_laws.specs.Maps.{Rises, map_joined}
use Rattle.cell_memory.specs.Rises.{risen}
use Rattle.cell_memory.proofs.lattice.risen_words.Given as goal

abbrev pub invariant-loop-word : goal.invariant-loop-word
invariant-loop-word l = record {
  rises : (low : ℕ) × Rises low l.rest;
  same : l.both.items ++ map_joined (risen l.by) (drop l.word-index l.words) l.rest ≡ map_joined (risen l.by) l.words l.newer;
}
