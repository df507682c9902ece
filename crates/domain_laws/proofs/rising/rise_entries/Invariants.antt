-- The pass has come to a place.
use Rattle.domain_laws.specs.Maps.{always}
use Rattle.domain_laws.proofs.Passes.{IsPass}
use Rattle.domain_laws.proofs.rising.rise_entries.Given as goal

abbrev pub invariant-loop-place : goal.invariant-loop-place
invariant-loop-place g l =
    IsPass g.D.Lattice.leq (always g.R.Rise.risen) l.fn.entries l.newer l.entries l.place l.kept l.grew
