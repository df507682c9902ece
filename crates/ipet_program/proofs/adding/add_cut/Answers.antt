-- The cut's row has been taken where its right side's product fits as well.
use Rattle.std.proofs.Common.{List, [], ◌∷◌, FitsSigned, subst, rules}
use Rattle.std.specs.Int.{w64, w128}
use Rattle.std.proofs.lemmas.Int.{to_z-of_z}
use Rattle.std.proofs.lemmas.Option.{IfSome_then}
use Rattle.ipet_program.specs.Adding.{Fit, terms_parts}
use Rattle.ipet_program.specs.declared.program.Term.{Term}
use Rattle.ipet_program.proofs.SumLemmas.{cut-taken}
use Rattle.ipet_program.proofs.adding.add_cut.Goals as goal

pub returns-then-not-add_term-clause-none : goal.returns-then-not-add_term-clause-none
returns-then-not-add_term-clause-none c =
    let f = c.ranges.times in
    let factor : FitsSigned w64 c.cut_factor.result = search rules in
    let wide = simp to_z-of_z at c.if-not-add_term.ensures.wide in
    λ may. wide (subst (λ (terms : List Term). Fit c.args.columns c.args.sums.now (λ column. terms_parts column c.args.times terms))
    c.cut_factor.ensures may.left)

pub returns-clause-some : goal.returns-clause-some
returns-clause-some c =
    let f = c.ranges.times in
    let g = c.ranges.right in
    let side : FitsSigned w128 c.cut_right.result = search rules in
    let factor : FitsSigned w64 c.cut_factor.result = search rules in
    let room = simp to_z-of_z at c.if-not-add_term.ensures.added in
    let h = simp to_z-of_z at c.with_product.ensures.some in
    let term : Term = record { column = c.args.cut.column; factor = c.cut_factor.result } in
    IfSome_then c.with_product.result h
    (λ sum k. cut-taken c.args.columns c.args.sums.now c.add_term.new.sums c.args.right c.args.times sum c.args.cut
    (term ∷ []) c.cut_right.result c.cut_factor.ensures c.cut_right.ensures room k.0 k.1)
