-- The places so far have their scopes.
use Rattle.std.proofs.Common.{◌≤◌, All, take}
use Rattle.flow_net.specs.declared.net.Place.{Place}
use Rattle.fixpoint.proofs.upward.have_scopes.Given as goal

abbrev pub invariant-loop-place : goal.invariant-loop-place
invariant-loop-place l = All (λ (place : Place). place.scope ≤ l.count) (take l.place-index l.places)
