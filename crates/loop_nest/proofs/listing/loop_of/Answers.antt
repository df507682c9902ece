use Rattle.std.proofs.Common.{get_or, arith}
use Rattle.loop_nest.proofs.Collecting.{loop_by, same_number}
use Rattle.loop_nest.proofs.listing.loop_of.Goals as goal

pub returns-clause-is : goal.returns-clause-is
returns-clause-is c sources bounds there bounded =
    loop_by c.args.addresses.now c.args.reverse.now sources bounds c.args.header c.args.from.now
    c.in_ok-positions.positions.items
    (record { header = get_or c.args.addresses.now c.args.header 0; body = c.in_ok-body.body; bound = c.args.bound })
    c.requires.count (omega (arith, c.requires.count, c.requires.header))
    (same_number c.args.addresses.now c.args.header (omega (arith, c.requires.count, c.requires.header)))
    c.requires.some c.in_ok-positions.ensures.body c.in_ok-body.ensures there bounded
