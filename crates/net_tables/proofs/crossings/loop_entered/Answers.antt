-- The innermost scope of the arc's end is entered, unless it holds the arc's start.
use Rattle.std.proofs.Common.{arith}
use Rattle.std.proofs.lemmas.Bool.Decides.{nat_tests}
use Rattle.net_tables.proofs.Entered.{end-number, entered-held, entered-scope, item_at-listed}
use Rattle.net_tables.proofs.crossings.loop_entered.Goals as goal

pub returns-then-holds-clause-entered : goal.returns-then-holds-clause-entered
returns-then-holds-clause-entered c =
    let there = item_at-listed c.args.net.now.arcs c.as_slice.result.now c.args.number _ c.as_slice.ensures c.requires.number in
    entered-held c.args.net.now c.requires.net c.args.number _ _ there
    (item_at-listed c.args.net.now.places c.as_slice-2.result.now _ _ c.as_slice-2.ensures
    (end-number c.args.net.now c.requires.net c.args.number _ there (grind (arith, nat_tests))))
    c.if-holds.ensures.held

pub returns-clause-entered : goal.returns-clause-entered
returns-clause-entered c =
    let there = item_at-listed c.args.net.now.arcs c.as_slice.result.now c.args.number _ c.as_slice.ensures c.requires.number in
    entered-scope c.args.net.now c.requires.net c.args.number _ _ there
    (item_at-listed c.args.net.now.places c.as_slice-2.result.now _ _ c.as_slice-2.ensures
    (end-number c.args.net.now c.requires.net c.args.number _ there (grind (arith, nat_tests))))
    c.if-holds.ensures.free
