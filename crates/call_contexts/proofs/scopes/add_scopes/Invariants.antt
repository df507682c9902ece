-- The scopes of the units so far are added.
use Rattle.std.proofs.Common.{◌≡◌, ◌++◌, map, take}
use Rattle.call_contexts.specs.Instances.{scope_by}
use Rattle.call_contexts.proofs.scopes.add_scopes.Given as goal

abbrev pub invariant-loop-found : goal.invariant-loop-found
invariant-loop-found l =
    l.scopes.items ≡ l.initial.scopes.items ++ map (λ found. scope_by l.first l.outer found) (take l.found-index l.own)
