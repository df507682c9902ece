-- The places of the contexts so far have their scopes.
use Rattle.std.proofs.Common.{ℕ}
use Rattle.elf_mips.specs.declared.image.Image.{Image}
use Rattle.loop_nest.specs.declared.nest.Nests.{Nests}
use Rattle.call_contexts.specs.Instances.{AreScopes, HasRounds}
use Rattle.call_contexts.proofs.scopes.scopes_of.Given as goal

abbrev pub invariant-loop-number : goal.invariant-loop-number
invariant-loop-number l =
    (image : Image) (entry : ℕ) (nests : Nests) → HasRounds image entry l.graphs nests l.layout l.rounds l.firsts →
    AreScopes l.graphs.graphs nests.nests l.layout l.firsts l.number l.outers.items l.scopes.items
