-- The spots so far are those of the places so far.
use Rattle.std.proofs.Common.{take}
use Rattle.image_run.specs.Road.{AreSpots}
use Rattle.image_run.proofs.spots.spots_of.Given as goal

abbrev pub invariant-loop-place : goal.invariant-loop-place
invariant-loop-place l = AreSpots l.image (take l.place-index l.net.places) l.spots.items
