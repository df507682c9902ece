-- One more row is met.
use Rattle.std.proofs.Common.{subst, sym, take, arith}
use Rattle.std.proofs.lemmas.List.{take_all}
use Rattle.std.proofs.lemmas.List.Elements.{All-more, All-same}
use Rattle.ipet_program.specs.Counts.{IsMet, listed}
use Rattle.ipet_program.specs.declared.program.Row.{Row}
use Rattle.ipet_program.proofs.counts.meet_all.Goals as goal

pub loop-row-preserved : goal.loop-row-preserved
loop-row-preserved c =
    let row : Row = c.row-item.result in
    All-more (IsMet (listed c.args.counts.now)) c.args.rows.now c.loop-row.row-index row (omega arith)
    c.loop-row.invariant (subst (IsMet (listed c.args.counts.now)) c.row-item.is c.if-not-is_met.ensures.met)

pub returns-clause-met : goal.returns-clause-met
returns-clause-met c =
    All-same (IsMet (listed c.args.counts.now)) c.args.rows.now (take c.loop-row.row-index c.args.rows.now)
    (sym (take_all c.loop-row.row-index c.args.rows.now (omega arith))) c.loop-row.invariant
