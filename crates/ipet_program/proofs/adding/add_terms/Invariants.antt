-- The terms before this one have been added.
use Rattle.std.proofs.Common.{take}
use Rattle.ipet_program.specs.Adding.{HaveRoom, terms_parts}
use Rattle.ipet_program.proofs.adding.add_terms.Given as goal

abbrev pub invariant-loop-term : goal.invariant-loop-term
invariant-loop-term l =
    HaveRoom l.columns l.initial.sums l.sums (λ column. terms_parts column l.times (take l.term-index l.terms))
