-- One more count is of a column.
use Rattle.std.proofs.Common.{◌≤◌, take, sym, arith}
use Rattle.std.proofs.lemmas.List.{take_all}
use Rattle.std.proofs.lemmas.List.Elements.{All-more, All-same}
use Rattle.ipet_program.specs.declared.certificate.Count.{Count}
use Rattle.ipet_program.proofs.counts.are_named.Goals as goal

pub loop-count-preserved : goal.loop-count-preserved
loop-count-preserved c =
    All-more (λ (count : Count). (1 ≤ count.column) × (count.column ≤ c.args.columns)) c.args.counts.now
    c.loop-count.count-index (record { column = 0; number = 0 }) (omega arith) c.loop-count.invariant
    (omega arith, omega arith)

pub returns-clause-named : goal.returns-clause-named
returns-clause-named c =
    All-same (λ (count : Count). (1 ≤ count.column) × (count.column ≤ c.args.columns)) c.args.counts.now
    (take c.loop-count.count-index c.args.counts.now)
    (sym (take_all c.loop-count.count-index c.args.counts.now (omega arith))) c.loop-count.invariant
