-- The first bound is the least one, or there is none.
use Rattle.std.proofs.Common.{List, pos, FitsSigned, subst, arith, rules}
use Rattle.std.specs.Prelude.{◌^◌}
use Rattle.std.specs.Int.{w128}
use Rattle.std.proofs.lemmas.Int.{to_z-of_z}
use Rattle.ipet_program.specs.Adding.{AreTaken}
use Rattle.ipet_program.specs.declared.leaf.Weight.{Weight}
use Rattle.ipet_program.proofs.LeastLemmas.{least-first, none-allowed, none-first}
use Rattle.ipet_program.proofs.leaves.least_bound.Goals as goal

pub returns-in_default-first_bound-clause-none : goal.returns-in_default-first_bound-clause-none
returns-in_default-first_bound-clause-none c =
    let side : FitsSigned w128 c.in-Some.right = search rules in
    let old = c.clear.new.sums in
    let new = c.add_weights.new.sums in
    let taken = subst
    (λ (weights : List Weight). AreTaken c.args.program.now c.args.cuts.now old new (pos 0) weights c.in-Some.right)
    c.as_slice.ensures c.in-Some.ensures.some in
    let h = simp to_z-of_z at c.in_default-first_bound.ensures.none in
    none-allowed c.args.program.now c.args.cuts.now c.args.leaf.now old c.clear.ensures (omega arith)
    c.requires.checkable new c.in-Some.right taken (2 ^ 64) h

pub returns-in-None-clause-least : goal.returns-in-None-clause-least
returns-in-None-clause-least c =
    let side : FitsSigned w128 c.in-Some.right = search rules in
    let old = c.clear.new.sums in
    let new = c.add_weights.new.sums in
    let taken = subst
    (λ (weights : List Weight). AreTaken c.args.program.now c.args.cuts.now old new (pos 0) weights c.in-Some.right)
    c.as_slice.ensures c.in-Some.ensures.some in
    let h = simp to_z-of_z at c.in-Some-first_bound.ensures.first in
    let k = simp to_z-of_z at c.in-None.ensures.shown in
    least-first c.args.program.now c.args.cuts.now c.args.leaf.now old c.clear.ensures (omega arith)
    c.requires.checkable new c.in-Some.right taken c.if-not-keeps_rules.ensures.kept c.in-Some-first_bound.bound h k

pub returns-in-Some-said_fault-clause-none : goal.returns-in-Some-said_fault-clause-none
returns-in-Some-said_fault-clause-none c =
    let side : FitsSigned w128 c.in-Some.right = search rules in
    let old = c.clear.new.sums in
    let new = c.add_weights.new.sums in
    let taken = subst
    (λ (weights : List Weight). AreTaken c.args.program.now c.args.cuts.now old new (pos 0) weights c.in-Some.right)
    c.as_slice.ensures c.in-Some.ensures.some in
    let h = simp to_z-of_z at c.in-Some-first_bound.ensures.first in
    let k = simp to_z-of_z at c.in-Some-said_fault.ensures.fault in
    λ bound less valid. none-first c.args.program.now c.args.cuts.now c.args.leaf.now old c.clear.ensures (omega arith)
    c.requires.checkable new c.in-Some.right taken c.in-Some-first_bound.bound h c.in-Some-said_fault.field-0 k bound valid
