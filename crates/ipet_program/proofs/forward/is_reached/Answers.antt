-- The arc that was found comes from a lesser place.
use Rattle.std.proofs.Common.{◌+◌, get_or, refl}
use Rattle.flow_net.specs.declared.net.NetArc.{NetArc}
use Rattle.ipet_program.proofs.Numbered.{item-read}
use Rattle.ipet_program.proofs.forward.is_reached.Goals as goal

pub returns-then-arc-place-2 : goal.returns-then-arc-place-2
returns-then-arc-place-2 c =
    let none : NetArc = record { from = 0; to = 0 } in
    record {
      reached = record {
        number = c.loop-arc.arc-index + 1;
        arc = get_or c.args.arcs.now c.loop-arc.arc-index none;
        there = item-read c.args.arcs.now c.args.arcs.now c.loop-arc.arc-index none refl c.loop-arc-test.true;
        to = c.if-arc-place.true;
        rises = c.if-arc-place-2.true;
      };
    }
