-- What the sums say of the leaf is so.
use Rattle.std.proofs.Common.{List, pos, FitsSigned, subst, arith, rules}
use Rattle.std.specs.Int.{w128}
use Rattle.std.proofs.lemmas.Int.{to_z-of_z}
use Rattle.std.proofs.lemmas.Option.{IfSome_then}
use Rattle.ipet_program.specs.Adding.{AreTaken}
use Rattle.ipet_program.specs.declared.leaf.Weight.{Weight}
use Rattle.ipet_program.proofs.ShowLemmas.{breaks-said, valid-said}
use Rattle.ipet_program.proofs.WeightLemmas.{none-then}
use Rattle.ipet_program.proofs.leaves.leaf_fault.Goals as goal

pub returns-clause-valid : goal.returns-clause-valid
returns-clause-valid c =
    let side : FitsSigned w128 c.in-Some.right = search rules in
    let old = c.clear.new.sums in
    let new = c.add_weights.new.sums in
    let taken = subst
    (λ (weights : List Weight). AreTaken c.args.program.now c.args.cuts.now old new (pos 0) weights c.in-Some.right)
    c.as_slice.ensures c.in-Some.ensures.some in
    let h = simp to_z-of_z at c.said_fault.ensures.shown in
    none-then c.said_fault.result h
    (λ right. valid-said c.args.program.now c.args.cuts.now c.args.leaf.now old c.clear.ensures (omega arith)
    c.requires.checkable new c.in-Some.right taken c.args.bound c.if-not-keeps_rules.ensures.kept right)

pub returns-clause-fault : goal.returns-clause-fault
returns-clause-fault c =
    let side : FitsSigned w128 c.in-Some.right = search rules in
    let old = c.clear.new.sums in
    let new = c.add_weights.new.sums in
    let taken = subst
    (λ (weights : List Weight). AreTaken c.args.program.now c.args.cuts.now old new (pos 0) weights c.in-Some.right)
    c.as_slice.ensures c.in-Some.ensures.some in
    let h = simp to_z-of_z at c.said_fault.ensures.fault in
    IfSome_then c.said_fault.result h
    (λ fault wrong. breaks-said c.args.program.now c.args.cuts.now c.args.leaf.now old c.clear.ensures (omega arith)
    c.requires.checkable new c.in-Some.right taken c.args.bound c.if-not-keeps_rules.ensures.kept fault wrong)
