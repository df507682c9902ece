use Rattle.std.proofs.Common.{length, arith, ap, ◌∙◌}
use Rattle.nest_solver.specs.Nets.{entry, round_by}
use Rattle.nest_solver.specs.Plain.{plain}
use Rattle.nest_solver.proofs.NetShape.{round-up}
use Rattle.nest_solver.proofs.Plains.{tables-nest}
use Rattle.nest_solver.proofs.Puts.{puts-set}
use Rattle.nest_solver.proofs.Raising.{raised-all, raised-more, raised-next, raised-small}
use Rattle.nest_solver.proofs.raise.raise.Goals as goal

pub raised-requires-clause-small : goal.raised-requires-clause-small
raised-requires-clause-small c p =
    raised-small (plain c.args.net.now c.args.tables.now) (round_by c.args.net.now (entry c.args.up.now)) (entry c.args.best.now)
    (entry c.args.turns.now) (entry c.args.worths.now) (entry c.loop-place.worths) c.loop-place.place p
    c.loop-place.invariant c.requires.short c.requires.small

pub loop-place-preserved : goal.loop-place-preserved
loop-place-preserved c =
    let net = c.args.net.now in
    let tables = c.args.tables.now in
    let s = plain net tables in
    let round = round_by net (entry c.args.up.now) in
    let best = entry c.args.best.now in
    let turns = entry c.args.turns.now in
    let place = c.loop-place.place in
    raised-more s round best turns (entry c.args.worths.now) (entry c.loop-place.worths) _ place c.raised.result
    c.loop-place.invariant
    (c.raised.ensures.raised
    ∙ raised-next s c.requires.level.depth round best turns (entry c.args.worths.now) (entry c.loop-place.worths) place
    (tables-nest net tables c.requires.nested c.requires.tables)
    (round-up net (entry tables.scopes.depths.items) (entry tables.headed.items) c.requires.level.depth
    (entry c.args.up.now) c.requires.nested c.requires.tables.scopes.depths c.requires.level.are)
    c.requires.level.turned c.loop-place.invariant)
    (puts-set c.loop-place.worths place c.raised.result
    (omega (
      arith,
      c.loop-place-test.true,
      ap length c.as_slice.ensures,
      c.requires.worths,
      c.loop-place.auto.worths,
    )))

pub returns : goal.returns
returns c = record {
  raised = λ p. raised-all c.args.net.now c.args.tables.now c.requires.level.depth (entry c.args.up.now) (entry c.args.best.now)
      (entry c.args.turns.now) (entry c.args.worths.now) c.loop-place.worths c.loop-place.place c.requires.level.are
      (omega (arith, c.requires.worths, c.loop-place.auto.worths))
      (omega (arith, c.loop-place-test.false, ap length c.as_slice.ensures))
      (omega (arith, c.loop-place.auto.place-end, ap length c.as_slice.ensures)) c.loop-place.invariant p;
}
