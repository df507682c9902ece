-- Each turn comes to the next scope outward.
use Rattle.std.specs.Prelude.{◌-◌, ◌≤◌}
use Rattle.std.proofs.Common.{arith}
use Rattle.std.proofs.lemmas.Bool.Decides.{nat_tests}
use Rattle.flow_net.proofs.Chains.{around-outward}
use Rattle.flow_net.proofs.Numbers.{item_at-there}
use Rattle.net_tables.proofs.Counting.{counting_begins, counting_ends, counting_goes}
use Rattle.net_tables.proofs.depths.depth_of.Goals as goal

pub loop-around-init : goal.loop-around-init
loop-around-init c = counting_begins c.args.loops.now c.args.scope c.requires.scope

pub bounds-loops-around : goal.bounds-loops-around
bounds-loops-around c =
    let low : 1 ≤ c.loop-around.around = grind (arith, nat_tests) in
    omega (arith, c.loop-around.invariant.number)

pub loop-around-smaller : goal.loop-around-smaller
loop-around-smaller c =
    around-outward c.args.loops.now c.requires.loops c.requires.chains c.loop-around.around _
    (item_at-there c.args.loops.now c.loop-around.around _
    (record {
      from_one = grind (arith, nat_tests);
      within = c.loop-around.invariant.number;
    }))

pub loop-around-preserved : goal.loop-around-preserved
loop-around-preserved c =
    let low : 1 ≤ c.loop-around.around = grind (arith, nat_tests) in
    counting_goes c.args.loops.now c.args.scope c.loop-around.around c.loop-around.depth c.saturating_add-depth.result _
    c.loop-around.invariant
    (item_at-there c.args.loops.now c.loop-around.around _
    (record {
      from_one = grind (arith, nat_tests);
      within = c.loop-around.invariant.number;
    }))
    (c.requires.loops (c.loop-around.around - 1) _ (omega (arith, c.loop-around.invariant.number)))
    (omega (arith, c.saturating_add-depth.ensures))

pub returns : goal.returns
returns c =
    counting_ends c.args.loops.now c.args.scope c.loop-around.around c.loop-around.depth (grind (arith, nat_tests))
    c.loop-around.invariant
