-- The spot of one place more.
use Rattle.std.proofs.Common.{take, ◌+◌, sym, subst}
use Rattle.image_run.specs.Road.{AreSpots}
use Rattle.image_run.proofs.Spotting.{spots-next}
use Rattle.image_run.proofs.spots.spots_of.Goals as goal

pub loop-place-preserved : goal.loop-place-preserved
loop-place-preserved c =
    subst (AreSpots c.args.image.now (take (c.loop-place.place-index + 1) c.args.net.now.places)) (sym c.in_ok-push.ensures.items)
    (spots-next c.args.image.now c.args.net.now.places c.as_slice-place-items.result.now c.loop-place.place-index c.loop-place.spots.items
    (record { context = 0; address = 0; scope = 0 }) c.spot_at.result c.as_slice-place-items.ensures c.loop-place-test.true c.loop-place.invariant c.spot_at.ensures)
