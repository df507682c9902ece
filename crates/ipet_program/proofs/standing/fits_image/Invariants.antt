-- Units stand at the places so far.
use Rattle.std.proofs.Common.{All, take}
use Rattle.flow_net.specs.declared.net.Place.{Place}
use Rattle.ipet_program.specs.Programs.{IsUnitAt}
use Rattle.ipet_program.proofs.standing.fits_image.Given as goal

abbrev pub invariant-loop-place : goal.invariant-loop-place
invariant-loop-place l = All (λ (place : Place). IsUnitAt l.image place.address) (take l.place-index l.place-items)
