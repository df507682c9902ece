-- There is a spot for each place.
use Rattle.std.proofs.Common.{arith}
use Rattle.image_run.proofs.Spotting.{spot-read, spots-length}
use Rattle.image_run.proofs.road.Road.spot.Goals as goal

pub index-requires : goal.index-requires
index-requires c =
    let same = spots-length c.args.image.now c.args.net.now.places c.args.self.now.spots.items c.requires.road.spots in
    let positive = c.requires.place.from_one in
    let within = c.requires.place.within in
    omega (arith, same, positive, within)

pub returns : goal.returns
returns c = λ at there.
    spot-read c.args.image.now c.args.net.now.places c.args.self.now.spots.items c.requires.road.spots c.args.place at c.index.result.now there
    c.index.ensures
