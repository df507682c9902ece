use Rattle.std.proofs.Common.{take}
use Rattle.loop_nest.specs.Listing.{IsListing}
use Rattle.loop_nest.proofs.listing.addresses_at.Given as goal

abbrev pub invariant-loop-position : goal.invariant-loop-position
invariant-loop-position l = IsListing l.addresses (take l.position-index l.positions) l.list
