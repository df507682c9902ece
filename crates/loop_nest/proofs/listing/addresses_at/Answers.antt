use Rattle.std.proofs.Common.{◌+◌, arith, subst, sym, take}
use Rattle.loop_nest.specs.Listing.{IsListing}
use Rattle.loop_nest.proofs.Collecting.{listing_end, listing_more, listing_start}
use Rattle.loop_nest.proofs.listing.addresses_at.Goals as goal

pub loop-position-init : goal.loop-position-init
loop-position-init c = listing_start c.args.addresses.now c.new-list.result c.new-list.ensures

pub loop-position-preserved : goal.loop-position-preserved
loop-position-preserved c =
    subst (IsListing c.args.addresses.now (take (c.loop-position.position-index + 1) c.args.positions.now))
    (sym c.in_ok-push.ensures.ok)
    (listing_more c.args.addresses.now c.args.positions.now c.loop-position.position-index c.loop-position.list _
    c.requires.rising c.requires.positions c.loop-position-test.true
    (c.requires.within c.loop-position.position-index 0 c.loop-position-test.true) c.loop-position.invariant)

pub returns : goal.returns
returns c =
    listing_end c.args.addresses.now c.args.positions.now c.loop-position.position-index c.loop-position.list
    (omega (arith, c.loop-position-test.false)) c.loop-position.invariant
