-- The words that were passed stand before the address.
use Rattle.std.proofs.Common.{◌≡◌, ℕ, ◌≤◌, drop}
use Rattle.domain_laws.specs.Maps.{value_at}
use Rattle.cell_memory.proofs.words.words_from.Given as goal

abbrev pub invariant-loop-place : goal.invariant-loop-place
invariant-loop-place l = (other : ℕ) → l.address ≤ other → value_at other (drop l.place l.words) ≡ value_at other l.words
