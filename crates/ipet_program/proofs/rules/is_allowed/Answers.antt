-- The row of the multiplier's number is one of the program's, or a cut's.
use Rattle.std.proofs.Common.{◌≡◌, ◌≤ℤ◌, false, pos, refl, sym, subst, FitsSigned, arith, rules}
use Rattle.std.specs.Int.{w128}
use Rattle.std.proofs.lemmas.Int.{to_z-of_z}
use Rattle.ipet_program.specs.declared.leaf.Side2.{Side2}
use Rattle.ipet_program.specs.declared.program.Row.{Row}
use Rattle.ipet_program.proofs.RuleLemmas.{allowed-cut, allowed-row, signed-cut, signed-row}
use Rattle.ipet_program.proofs.ShowLemmas.{false-then, true-then}
use Rattle.ipet_program.proofs.rules.is_allowed.Goals as goal

abbrev no_cut : Side2
no_cut = record { column = 0; at = 0; upper = false }

pub returns-then-position-rows-clause-allowed : goal.returns-then-position-rows-clause-allowed
returns-then-position-rows-clause-allowed c =
    let times : FitsSigned w128 c.args.weight.times = search rules in
    let h = simp to_z-of_z at c.is_signed.ensures.signed in
    true-then c.is_signed.result h
    (λ signed. allowed-row c.args.program.now c.args.cuts.now c.as_slice-rows.result.now c.args.weight
    c.as_slice-rows.ensures (omega arith) c.index-rows-position.result (omega arith) c.index-rows-position.is
    (subst (λ (row : Row). row.equal ≡ false → pos 0 ≤ℤ c.args.weight.times) (sym c.index-rows-position.is) signed))

pub returns-then-position-rows-clause-wrong : goal.returns-then-position-rows-clause-wrong
returns-then-position-rows-clause-wrong c =
    let times : FitsSigned w128 c.args.weight.times = search rules in
    let h = simp to_z-of_z at c.is_signed.ensures.wrong in
    false-then c.is_signed.result h
    (λ wrong allowed. wrong (subst (λ (row : Row). row.equal ≡ false → pos 0 ≤ℤ c.args.weight.times) c.index-rows-position.is
    (signed-row c.args.program.now c.args.cuts.now c.as_slice-rows.result.now c.args.weight c.as_slice-rows.ensures
    (omega arith) c.index-rows-position.result (omega arith) c.index-rows-position.is allowed)))

pub returns-clause-allowed : goal.returns-clause-allowed
returns-clause-allowed c =
    let times : FitsSigned w128 c.args.weight.times = search rules in
    let h = simp to_z-of_z at c.is_signed-2.ensures.signed in
    true-then c.is_signed-2.result h
    (λ signed. allowed-cut c.args.program.now c.args.cuts.now c.as_slice-rows.result.now c.args.weight
    c.as_slice-rows.ensures (omega arith) no_cut (omega arith) (omega arith) (signed refl))

pub returns-clause-wrong : goal.returns-clause-wrong
returns-clause-wrong c =
    let times : FitsSigned w128 c.args.weight.times = search rules in
    let h = simp to_z-of_z at c.is_signed-2.ensures.wrong in
    false-then c.is_signed-2.result h
    (λ wrong allowed. wrong (λ _. signed-cut c.args.program.now c.args.cuts.now c.as_slice-rows.result.now c.args.weight
    c.as_slice-rows.ensures (omega arith) no_cut (omega arith) (omega arith) allowed))
