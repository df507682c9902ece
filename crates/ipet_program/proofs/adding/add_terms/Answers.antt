-- One more term has been added, or doesn't fit.
use Rattle.std.proofs.Common.{ℕ, List, pos, arith}
use Rattle.std.proofs.lemmas.Int.{to_z-of_z}
use Rattle.ipet_program.specs.Adding.{terms_parts}
use Rattle.ipet_program.specs.declared.program.Term.{Term}
use Rattle.ipet_program.proofs.SumLemmas.{fit-fails, room-more, terms-append}
use Rattle.ipet_program.proofs.adding.add_terms.Goals as goal

pub returns-then-not-add_term-clause-wide : goal.returns-then-not-add_term-clause-wide
returns-then-not-add_term-clause-wide c =
    let f = c.ranges.times in
    let h = simp to_z-of_z at c.if-not-add_term.ensures.wide in
    let inv = simp to_z-of_z at c.loop-term.invariant in
    fit-fails (λ (terms : List Term) (column : ℕ). terms_parts column c.args.times terms) (terms-append c.args.times) c.args.columns c.args.sums.now c.loop-term.sums c.args.terms.now c.loop-term.term-index (record { column = 0; factor = pos 0 }) (omega arith) inv h

pub loop-term-preserved : goal.loop-term-preserved
loop-term-preserved c =
    let f = c.ranges.times in
    let h = simp to_z-of_z at c.if-not-add_term.ensures.added in
    let inv = simp to_z-of_z at c.loop-term.invariant in
    simp to_z-of_z (room-more (λ (terms : List Term) (column : ℕ). terms_parts column c.args.times terms) (terms-append c.args.times) c.args.columns c.args.sums.now c.loop-term.sums c.add_term.new.sums c.args.terms.now c.loop-term.term-index (record { column = 0; factor = pos 0 }) (omega arith) inv h)
