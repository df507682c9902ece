-- The items so far are in the other set.
use Rattle.std.proofs.Common.{◌≡◌, drop}
use Rattle.domain_laws.specs.Sets.{within}
use Rattle.domain_laws.proofs.capped.is_within.Given as goal

abbrev pub invariant-loop-item : goal.invariant-loop-item
invariant-loop-item l = within (drop l.item-index l.items) l.others ≡ within l.items l.others
