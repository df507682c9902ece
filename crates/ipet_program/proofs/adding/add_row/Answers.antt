-- The row has been taken where its right side's product fits as well.
use Rattle.std.proofs.Common.{◌≡◌, ◌+ℤ◌, ◌*ℤ◌, ℤ, List, [], ◌∷◌, FitsSigned, ap, subst, ◌∙◌, arith, rules}
use Rattle.std.specs.Int.{w128}
use Rattle.std.proofs.lemmas.Int.{ints, to_z-of_z}
use Rattle.std.proofs.lemmas.Option.{IfSome_then}
use Rattle.ipet_program.specs.Adding.{HaveRoom, terms_parts}
use Rattle.ipet_program.specs.Leaves.{FitFrom}
use Rattle.ipet_program.specs.declared.program.Term.{Term}
use Rattle.ipet_program.proofs.SumLemmas.{row-taken}
use Rattle.ipet_program.proofs.adding.add_row.Goals as goal

pub returns-clause-some : goal.returns-clause-some
returns-clause-some c =
    let f = c.ranges.times in
    let g = c.ranges.right in
    let side : FitsSigned w128 c.from.result = search rules in
    let same : c.from.result ≡ c.args.row.now.right = search (arith, ints, to_z-of_z) in
    let row = c.args.row.now in
    let times = c.args.times in
    let old = c.args.sums.now in
    let new = c.add_terms.new.sums in
    let room = simp to_z-of_z at c.if-not-add_terms.ensures.added in
    let h = simp to_z-of_z at c.with_product.ensures.some in
    IfSome_then c.with_product.result h
    (λ sum k. row-taken c.args.columns old new c.args.right times sum row
    (subst (λ (terms : List Term). HaveRoom c.args.columns old new (λ column. terms_parts column times terms))
    c.as_slice.ensures room)
    (subst (λ (z : ℤ). FitFrom c.args.right ((times *ℤ z) ∷ [])) same k.0)
    (k.1 ∙ ap (λ (z : ℤ). c.args.right +ℤ times *ℤ z) same))
