-- One more column.
use Rattle.std.proofs.Common.{◌≡◌, ◌+◌, ◌+ℤ◌, ◌*ℤ◌, ℕ, ℤ, pos, get_or, FitsSigned, ap, ◌∙◌, arith, rules}
use Rattle.std.specs.Int.{w64, w128}
use Rattle.std.proofs.lemmas.Int.{ints, to_z-of_z}
use Rattle.ipet_program.specs.Counts.{listed}
use Rattle.ipet_program.proofs.ListedLemmas.{sum-fits, sum-small, value-more}
use Rattle.ipet_program.proofs.counts.value_by.Goals as goal
use mir.Val.{to_z}

pub loop-value-preserved : goal.loop-value-preserved
loop-value-preserved c =
    let one : FitsSigned w128 c.part-sum.result = search rules in
    let sum : ℤ = to_z w128 c.loop-value.sum-bits in
    let small = sum-small sum c.part-sum.result c.loop-value.value-index c.loop-value.invariant.small
    c.part-sum.ensures.small in
    let both : FitsSigned w128 (sum +ℤ c.part-sum.result) = sum-fits (sum +ℤ c.part-sum.result)
    (c.loop-value.value-index + 1) (omega (arith, c.requires.short)) small in
    let more = value-more (listed c.args.counts.now) c.args.values.now c.loop-value.value-index (omega arith) in
    let value_at = get_or c.args.values.now c.loop-value.value-index (pos 0) in
    let factor : FitsSigned w64 value_at = search rules in
    let value = simp to_z-of_z at c.part-sum.ensures.value in
    let product : value_at *ℤ pos c.count_at.result
    ≡ value_at *ℤ pos (listed c.args.counts.now (c.loop-value.value-index + 1)) =
    ap (λ (n : ℕ). value_at *ℤ pos n) (c.count_at.ensures ∙ ap (listed c.args.counts.now) c.loop-value.invariant.at) in
    let before = c.loop-value.invariant.is in
    simp to_z-of_z (record { at = omega arith; is = omega (arith, ints); small = small })
