-- The accesses so far are made at places.
use Rattle.std.proofs.Common.{All, take}
use Rattle.flow_net.specs.Numbers.{IsNumberOf}
use Rattle.flow_net.specs.declared.net.Access.{Access}
use Rattle.ipet_program.proofs.forward.have_places.Given as goal

abbrev pub invariant-loop-access : goal.invariant-loop-access
invariant-loop-access l = All (λ (access : Access). IsNumberOf l.net.places access.place) (take l.access-index l.access-items)
