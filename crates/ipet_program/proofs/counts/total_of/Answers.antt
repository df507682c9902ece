-- One more term.
use Rattle.std.proofs.Common.{◌≡◌, ◌+◌, ◌+ℤ◌, ◌*ℤ◌, ℕ, ℤ, pos, get_or, FitsSigned, ap, arith, rules}
use Rattle.std.specs.Int.{w64, w128}
use Rattle.std.proofs.lemmas.Int.{ints, to_z-of_z}
use Rattle.ipet_program.specs.Counts.{listed}
use Rattle.ipet_program.specs.declared.program.Term.{Term}
use Rattle.ipet_program.proofs.ListedLemmas.{sum-fits, sum-small, total-more}
use Rattle.ipet_program.proofs.counts.total_of.Goals as goal
use mir.Val.{to_z}

abbrev no_term : Term
no_term = record { column = 0; factor = pos 0 }

pub loop-term-preserved : goal.loop-term-preserved
loop-term-preserved c =
    let one : FitsSigned w128 c.part-sum.result = search rules in
    let sum : ℤ = to_z w128 c.loop-term.sum-bits in
    let small = sum-small sum c.part-sum.result c.loop-term.term-index c.loop-term.invariant.small
    c.part-sum.ensures.small in
    let both : FitsSigned w128 (sum +ℤ c.part-sum.result) = sum-fits (sum +ℤ c.part-sum.result)
    (c.loop-term.term-index + 1) (omega (arith, c.requires.short)) small in
    let more = total-more (listed c.args.counts.now) c.args.terms.now c.loop-term.term-index no_term (omega arith) in
    let term = get_or c.args.terms.now c.loop-term.term-index no_term in
    let factor : FitsSigned w64 term.factor = search rules in
    let value = simp to_z-of_z at c.part-sum.ensures.value in
    let product : term.factor *ℤ pos c.count_at.result ≡ term.factor *ℤ pos (listed c.args.counts.now term.column) =
    ap (λ (n : ℕ). term.factor *ℤ pos n) c.count_at.ensures in
    let before = c.loop-term.invariant.is in
    simp to_z-of_z (record { is = omega (arith, ints); small = small })
