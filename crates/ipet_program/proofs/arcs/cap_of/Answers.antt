-- The turns of a place fit 64 bits, as they are low.
use Rattle.std.proofs.Common.{arith}
use Rattle.flow_net.specs.Numbers.{IsNumberOf}
use Rattle.ipet_program.proofs.arcs.cap_of.Goals as goal

pub overflow_cast-result : goal.overflow_cast-result
overflow_cast-result c =
    let place : IsNumberOf c.args.net.now.places c.args.from =
    record { from_one = grind arith; within = c.requires.from } in
    omega (arith, c.requires.low c.args.from place, c.place_turns.ensures.turns)
