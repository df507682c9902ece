-- The row of the weight's number is one of the program's, or a cut's.
use Rattle.std.proofs.Common.{◌-◌, ◌<◌, false, get_or, length, FitsSigned, Option, subst, sym, arith, rules}
use Rattle.std.specs.Int.{w128}
use Rattle.std.proofs.lemmas.Int.{to_z-of_z}
use Rattle.std.proofs.lemmas.Option.{IfSome_then}
use Rattle.ipet_program.specs.Adding.{IsTaken, MayTake}
use Rattle.ipet_program.specs.declared.leaf.Side2.{Side2}
use Rattle.ipet_program.specs.declared.program.Row.{Row}
use Rattle.ipet_program.proofs.WeightLemmas.{cut-row-in, none-then, number-behind, program-row-in}
use Rattle.ipet_program.proofs.adding.add_weight.Goals as goal

abbrev no_cut : Side2
no_cut = record { column = 0; at = 0; upper = false }

pub bounds-cuts-behind : goal.bounds-cuts-behind
bounds-cuts-behind c =
    let inside = number-behind c.args.program.now c.args.cuts.now c.as_slice-rows.result.now c.args.weight.row
    c.as_slice-rows.ensures c.requires.there (omega arith) in
    omega arith

pub returns-then-position-rows-clause-some : goal.returns-then-position-rows-clause-some
returns-then-position-rows-clause-some c =
    let f = c.ranges.right in
    let times : FitsSigned w128 c.args.weight.times = search rules in
    let h = simp to_z-of_z at c.add_row.ensures.some in
    let there = program-row-in c.args.program.now c.args.cuts.now c.as_slice-rows.result.now c.args.weight.row
    c.index-rows-position.result c.as_slice-rows.ensures (omega (arith, c.requires.there.from_one)) (omega arith)
    c.index-rows-position.is in
    IfSome_then c.add_row.result h
    (λ sum k. subst (λ (row : Option Row). IsTaken c.args.program.now.columns c.args.sums.now c.add_row.new.sums c.args.right
    c.args.weight.times row sum) (sym there) k)

pub returns-then-position-rows-clause-none : goal.returns-then-position-rows-clause-none
returns-then-position-rows-clause-none c =
    let f = c.ranges.right in
    let times : FitsSigned w128 c.args.weight.times = search rules in
    let h = simp to_z-of_z at c.add_row.ensures.none in
    let there = program-row-in c.args.program.now c.args.cuts.now c.as_slice-rows.result.now c.args.weight.row
    c.index-rows-position.result c.as_slice-rows.ensures (omega (arith, c.requires.there.from_one)) (omega arith)
    c.index-rows-position.is in
    none-then c.add_row.result h
    (λ refused may. refused (subst (λ (row : Option Row). MayTake c.args.program.now.columns c.args.sums.now c.args.right
    c.args.weight.times row) there may))

pub returns-clause-some : goal.returns-clause-some
returns-clause-some c =
    let f = c.ranges.right in
    let times : FitsSigned w128 c.args.weight.times = search rules in
    let h = simp to_z-of_z at c.add_cut.ensures.some in
    let there = cut-row-in c.args.program.now c.args.cuts.now c.as_slice-rows.result.now c.args.weight.row no_cut
    c.as_slice-rows.ensures (omega (arith, c.requires.there.from_one)) (omega arith)
    (number-behind c.args.program.now c.args.cuts.now c.as_slice-rows.result.now c.args.weight.row
    c.as_slice-rows.ensures c.requires.there (omega arith)) in
    IfSome_then c.add_cut.result h
    (λ sum k. subst (λ (row : Option Row). IsTaken c.args.program.now.columns c.args.sums.now c.add_cut.new.sums c.args.right
    c.args.weight.times row sum) (sym there) k)

pub returns-clause-none : goal.returns-clause-none
returns-clause-none c =
    let f = c.ranges.right in
    let times : FitsSigned w128 c.args.weight.times = search rules in
    let h = simp to_z-of_z at c.add_cut.ensures.none in
    let there = cut-row-in c.args.program.now c.args.cuts.now c.as_slice-rows.result.now c.args.weight.row no_cut
    c.as_slice-rows.ensures (omega (arith, c.requires.there.from_one)) (omega arith)
    (number-behind c.args.program.now c.args.cuts.now c.as_slice-rows.result.now c.args.weight.row
    c.as_slice-rows.ensures c.requires.there (omega arith)) in
    none-then c.add_cut.result h
    (λ refused may. refused (subst (λ (row : Option Row). MayTake c.args.program.now.columns c.args.sums.now c.args.right
    c.args.weight.times row) there may))
