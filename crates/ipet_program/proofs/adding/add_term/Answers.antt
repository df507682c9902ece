-- The term's column has the new sum, and no other column has another one.
use Rattle.std.proofs.Common.{◌≡◌, ◌-◌, ◌+ℤ◌, ◌*ℤ◌, ℤ, pos, get_or, [], ◌∷◌, FitsSigned, ap, subst, ◌∙◌, arith, rules}
use Rattle.std.specs.Int.{w128}
use Rattle.std.proofs.lemmas.Int.{ints, to_z-of_z}
use Rattle.ipet_program.specs.Adding.{sum_in}
use Rattle.ipet_program.specs.Leaves.{FitFrom}
use Rattle.ipet_program.proofs.SumLemmas.{term-added}
use Rattle.ipet_program.proofs.adding.add_term.Goals as goal

pub returns-clause-added : goal.returns-clause-added
returns-clause-added c =
    let times : FitsSigned w128 c.args.times = search rules in
    let factor : FitsSigned w128 c.from.result = search rules in
    let same : c.from.result ≡ c.args.term.factor = search (arith, ints, to_z-of_z) in
    let sum : FitsSigned w128 (get_or c.args.sums.now (c.args.term.column - 1) (pos 0)) = search rules in
    let h = simp to_z-of_z at c.in-Some.ensures.some in
    let new : FitsSigned w128 c.in-Some.sum = search rules in
    let before = sum_in c.args.sums.now c.args.term.column in
    simp to_z-of_z (term-added c.args.columns c.args.sums.now c.args.times c.args.term c.in-Some.sum
    (omega arith) (omega arith) (omega arith)
    (subst (λ (z : ℤ). FitFrom before ((c.args.times *ℤ z) ∷ [])) same h.0)
    (h.1 ∙ ap (λ (z : ℤ). before +ℤ c.args.times *ℤ z) same))
